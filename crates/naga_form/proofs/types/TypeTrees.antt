-- The text of a spelling is its tree as printed, and the tree is a type of the grammar.
use Rattle.std.proofs.Common.{◌≡◌, ℕ, suc, Bool, true, false, not, ◌&&◌, List, [], ◌∷◌, ◌++◌, refl}
use Rattle.std.proofs.Common.{sym, ap, subst, ◌∙◌, append_assoc, zero, codes, Option, Some, None}
use Rattle.std.proofs.Common.{slice_get, if◌then◌else◌}
use Rattle.std.specs.Option.{option_map}
use Rattle.std.specs.Prelude.{decimal}
use Rattle.std.specs.Int.NonZero.{non_zero_u32_get}
use Rattle.std.proofs.lemmas.List.{append-nil}
use Rattle.wgsl_text.specs.Token.{Comma, GreaterThan, Piece, Blank, mark, word, plain}
use Rattle.wgsl_text.specs.Types.{TypeSpecifier, Named, has_gaps, type_pieces, plain_type_words}
use Rattle.wgsl_text.specs.Types.{is_type, TakesScalar, TakesSampled, TakesElements, TakesFormat}
use Rattle.wgsl_text.specs.Types.{TakesRole, rule_among, type_templates, IsType, of_one, of_two}
use Rattle.wgsl_text.specs.Types.{pointer_tree}
use Rattle.wgsl_text.specs.Text.{text}
use Rattle.wgsl_text.specs.Reading.{printed_type}
use Rattle.naga_ir.specs.declared.types.Type_.{Type_}
use Rattle.naga_ir.specs.declared.types.TypeInner.{TypeInner}
use Rattle.naga_ir.specs.declared.types.TypeInner.TheVariants as inner
use Rattle.naga_ir.specs.declared.types.ArraySize.{ArraySize}
use Rattle.naga_ir.specs.declared.types.ArraySize.TheVariants as size
use Rattle.naga_ir.specs.declared.types.CooperativeSize.{CooperativeSize}
use Rattle.naga_ir.specs.declared.types.CooperativeSize.TheVariants.{Eight, Sixteen}
use Rattle.naga_ir.specs.declared.types.CooperativeRole.{CooperativeRole}
use Rattle.naga_ir.specs.declared.types.CooperativeRole.TheVariants.{A, B, C}
use Rattle.naga_ir.specs.declared.types.VectorSize.{VectorSize}
use Rattle.naga_ir.specs.declared.types.Scalar.{Scalar}
use Rattle.naga_ir.specs.declared.types.ScalarKind.{ScalarKind}
use Rattle.naga_ir.specs.declared.image.ImageClass.{ImageClass}
use Rattle.naga_ir.specs.declared.image.ImageClass.TheVariants as class
use Rattle.naga_ir.specs.declared.image.ImageDimension.{ImageDimension}
use Rattle.naga_ir.specs.declared.image.ImageDimension.TheVariants.{D1, D2, D3, Cube}
use Rattle.wgsl_words.specs.Words.{scalar_word, space_word, space_access_word, image_access_word}
use Rattle.wgsl_words.specs.Words.{matrix_role_word, format_word, scalar_word_of, has, atomic_bit}
use Rattle.wgsl_words.specs.Words.{store_bit}
use Rattle.naga_spelling.specs.Segments.{Segment, Word, Shown, Missing, IsText, NoSegments, WordThen}
use Rattle.naga_spelling.specs.Segments.{lacks, known_text}
use Rattle.naga_spelling.specs.Words.{vector_word, matrix_word, cooperative_word, image_word}
use Rattle.naga_spelling.specs.Words.{matrix_role_tail, acceleration_structure_text, ray_query_text}
use Rattle.naga_spelling.specs.Words.{sampler_word}
use Rattle.naga_spelling.specs.Values.{scalar_segments_of, template_segments, value_segments}
use Rattle.naga_spelling.specs.Values.{pointer_in, value_pointer_segments, access_segments}
use Rattle.naga_spelling.specs.Values.{storage_image_segments, image_segments}
use Rattle.naga_spelling.specs.Spelling.{length_segments, inner_segments, pointer_segments}
use Rattle.naga_spelling.specs.Spelling.{array_segments, is_struct, inner_segments_by}
use Rattle.naga_spelling.specs.Spelling.{found_segments_by, segments_within, resolution_segments}
use Rattle.naga_spelling.specs.Spelling.{type_segments}
use Rattle.naga_form.specs.TypeTrees.{type_tree, value_tree, pointer_tree_in, value_pointer_tree_in}
use Rattle.naga_form.specs.TypeTrees.{array_tree, image_tree, ray_tree, inner_tree, inner_tree_by}
use Rattle.naga_form.specs.TypeTrees.{found_tree_by, tree_within, scalar_tree, resolution_tree}
use Rattle.naga_spelling.specs.Contexts.{Names, writer_context}
use Rattle.std.specs.Str.{bytes_eq}
use Rattle.std.proofs.lemmas.Slice.Eq.{bytes_eq-Decides}
use Rattle.std.proofs.lemmas.Bool.{and_from}
use Rattle.naga_ir.specs.declared.types.AddressSpace.{AddressSpace}
use Rattle.naga_ir.specs.declared.types.AddressSpace.TheVariants as space
use Rattle.naga_ir.specs.declared.types.VectorSize.TheVariants.{Bi, Tri, Quad}
use Rattle.std.proofs.lemmas.Option.{same_Some}
use Rattle.naga_info.proofs.Options.{map_some}
use Rattle.naga_info.specs.declared.info.TypeResolution.{TypeResolution}
use Rattle.naga_info.specs.declared.info.TypeResolution.TheVariants as resolution
use Rattle.wgsl_text.specs.Tables.{scalar_words, address_space_words, access_words, format_words}
use Rattle.wgsl_text.specs.Tables.{matrix_role_words}
use Rattle.wgsl_text.specs.Words.{stands_in, is_builtin, IsWord, is_reserved}
use Rattle.wgsl_text.proofs.ValueWords.{value_words}
use Rattle.wgsl_text.proofs.Building.{scalars_free, formats_free, plain_is, scalar_word_is, name_is}
use Rattle.wgsl_text.proofs.Building.{of_scalar_word_is, dynamic_is, sized_is, pointer_to_is}
use Rattle.wgsl_text.proofs.Words.{table_word, address_spaces_free, accesses_free}
use Rattle.naga_form.specs.Readable.{LengthIsWithin, InnerIsWithin, ResolutionIsWithin, AreNamed}

-- the only text of parts that are words alone
only_word : (w : List ℕ) (ps : List Segment) (b t : List ℕ) (o : Option (List ℕ)) →
    known_text ps ≡ o → ((u : List ℕ) → known_text ps ≡ Some u → b ≡ u) →
    option_map (λ r. w ++ r) o ≡ Some t → w ++ b ≡ t
only_word w ps b t None k same e = cc
only_word w ps b t (Some u) k same e = let h : b ≡ u = same u k in cc

pub only_text : (ps : List Segment) (s t : List ℕ) → IsText ps s → known_text ps ≡ Some t → s ≡ t
only_text [] s t NoSegments e = cc
only_text (Word w ∷ ps) s t (WordThen _ {bytes = b} p) e =
    only_word w ps b t (known_text ps) refl (λ u h. only_text ps b u p h) e
only_text (Shown ∷ ps) s t p e = cc
only_text (Missing ∷ ps) s t p e = cc

-- what lacks a part has no text of words alone
lacks_word : (w : List ℕ) (o : Option (List ℕ)) → o ≡ None → option_map (λ r. w ++ r) o ≡ None
lacks_word w o e = rw e refl

pub lacks_unknown : (ps : List Segment) → lacks ps ≡ true → known_text ps ≡ None
lacks_unknown [] h = cc
lacks_unknown (Word w ∷ ps) h = lacks_word w (known_text ps) (lacks_unknown ps h)
lacks_unknown (Shown ∷ ps) h = refl
lacks_unknown (Missing ∷ ps) h = refl

none_following : (w : List ℕ) (ps qs : List Segment) (o : Option (List ℕ)) → known_text ps ≡ o →
    (known_text ps ≡ None → known_text (ps ++ qs) ≡ None) → option_map (λ r. w ++ r) o ≡ None →
    option_map (λ r. w ++ r) (known_text (ps ++ qs)) ≡ None
none_following w ps qs None k same e = rw (same k) refl
none_following w ps qs (Some u) k same e = cc

known_none : (ps qs : List Segment) → known_text ps ≡ None → known_text (ps ++ qs) ≡ None
known_none [] qs e = cc
known_none (Word w ∷ ps) qs e = none_following w ps qs (known_text ps) refl (known_none ps qs) e
known_none (Shown ∷ ps) qs e = refl
known_none (Missing ∷ ps) qs e = refl

some_after : (w : List ℕ) (ps qs : List Segment) (s t : List ℕ) (o : Option (List ℕ)) →
    known_text ps ≡ o →
    ((u : List ℕ) → known_text ps ≡ Some u → known_text (ps ++ qs) ≡ Some (u ++ t)) →
    option_map (λ r. w ++ r) o ≡ Some s → option_map (λ r. w ++ r) (known_text (ps ++ qs)) ≡
    Some (s ++ t)
some_after w ps qs s t None k same e = cc
some_after w ps qs s t (Some u) k same e = let l : w ++ u ≡ s = cc in
    rw (same u k) (ap Some (sym (append_assoc w u t) ∙ ap (λ v. v ++ t) l))

known_append : (ps qs : List Segment) (s t : List ℕ) → known_text ps ≡ Some s → known_text qs ≡ Some t →
    known_text (ps ++ qs) ≡ Some (s ++ t)
known_append [] qs s t e h = let k : [] ≡ s = cc in rw (← k) h
known_append (Word w ∷ ps) qs s t e h = some_after w ps qs s t (known_text ps) refl
    (λ u k. known_append ps qs u t k h) e
known_append (Shown ∷ ps) qs s t e h = cc
known_append (Missing ∷ ps) qs s t e h = cc

-- each row

scalar_row : (o : Option (List ℕ)) (kind : ScalarKind) → known_text (scalar_segments_of true o kind)
    ≡ option_map printed_type (option_map Named o)
scalar_row None kind = refl
scalar_row (Some s) kind = refl

template_row : (w : List ℕ) (o : Option (List ℕ)) (kind : ScalarKind) →
    known_text (template_segments w (scalar_segments_of true o kind) (codes ">")) ≡
    option_map printed_type (option_map (of_one w) (option_map Named o))
template_row w None kind = refl
template_row w (Some s) kind = refl

cooperative_row : (columns rows : CooperativeSize) (role : CooperativeRole) (o : Option (List ℕ)) (kind : ScalarKind) →
    known_text (template_segments (cooperative_word columns rows) (scalar_segments_of true o kind)
    (matrix_role_tail role)) ≡ option_map printed_type
    (option_map (λ s. of_two (cooperative_word columns rows) s (Named (matrix_role_word role)))
    (option_map Named o))
cooperative_row columns rows role None kind = refl
cooperative_row Eight Eight A (Some s) kind = refl
cooperative_row Eight Eight B (Some s) kind = refl
cooperative_row Eight Eight C (Some s) kind = refl
cooperative_row Eight Sixteen A (Some s) kind = refl
cooperative_row Eight Sixteen B (Some s) kind = refl
cooperative_row Eight Sixteen C (Some s) kind = refl
cooperative_row Sixteen Eight A (Some s) kind = refl
cooperative_row Sixteen Eight B (Some s) kind = refl
cooperative_row Sixteen Eight C (Some s) kind = refl
cooperative_row Sixteen Sixteen A (Some s) kind = refl
cooperative_row Sixteen Sixteen B (Some s) kind = refl
cooperative_row Sixteen Sixteen C (Some s) kind = refl

storage_row : (dim : ImageDimension) (arrayed : Bool) (format access : List ℕ) →
    known_text (storage_image_segments (image_word (codes "texture_storage_") false dim arrayed)
    format access) ≡
    Some (printed_type (of_two (image_word (codes "texture_storage_") false dim arrayed)
    (Named format) (Named access)))
storage_row D1 true format access = refl
storage_row D1 false format access = refl
storage_row D2 true format access = refl
storage_row D2 false format access = refl
storage_row D3 true format access = refl
storage_row D3 false format access = refl
storage_row Cube true format access = refl
storage_row Cube false format access = refl

image_row : (dim : ImageDimension) (arrayed : Bool) (it : ImageClass) →
    known_text (image_segments true dim arrayed it) ≡ option_map printed_type (image_tree dim arrayed it)
image_row dim arrayed (class.Sampled kind multi) =
    template_row (image_word (codes "texture_") multi dim arrayed)
    (scalar_word (record { kind = kind; width = 4 })) kind
image_row dim arrayed (class.Depth multi) = refl
image_row dim arrayed class.External = refl
image_row dim arrayed (class.Storage format access) = storage_row dim arrayed (format_word format)
    (image_access_word access)

ray_row : (b : Bool) → known_text (Word (acceleration_structure_text b) ∷ [])
    ≡ Some (printed_type (ray_tree (codes "acceleration_structure") b))
ray_row true = refl
ray_row false = refl

query_row : (b : Bool) →
    known_text (Word (ray_query_text b) ∷ []) ≡ Some (printed_type (ray_tree (codes "ray_query") b))
query_row true = refl
query_row false = refl

value_row : (size : Option VectorSize) (scalar : Scalar) → known_text (value_segments true size scalar)
    ≡ option_map printed_type (value_tree size scalar)
value_row None scalar = scalar_row (scalar_word scalar) scalar.kind
value_row (Some size) scalar = template_row (vector_word size) (scalar_word scalar) scalar.kind

three_words : (a b c : List ℕ) (o : Option (List ℕ)) → o ≡ None →
    option_map (λ r. a ++ r) (option_map (λ r. b ++ r) (option_map (λ r. c ++ r) o)) ≡ None
three_words a b c o e = rw e refl

two_words : (a b : List ℕ) (o : Option (List ℕ)) → o ≡ None →
    option_map (λ r. a ++ r) (option_map (λ r. b ++ r) o) ≡ None
two_words a b o e = rw e refl

module _ (text_of_joined : (first second : List Piece) → text (first ++ second) ≡ text first ++ text second) where
  pointer_row : (space : List ℕ) (access : Option (List ℕ)) (ps : List Segment)
      (o : Option TypeSpecifier) → known_text ps ≡ option_map printed_type o →
      known_text (pointer_in space access ps) ≡ option_map printed_type
      (option_map (pointer_tree space access) o)
  pointer_row space access ps None e = three_words (codes "ptr<") space (codes ", ") _
      (known_none ps (access_segments access) e)
  pointer_row space None ps (Some t) e =
      rw (known_append ps (access_segments None) (printed_type t) _ e refl)
      (rw (text_of_joined (type_pieces t) (mark GreaterThan ∷ [])) refl)
  pointer_row space (Some a) ps (Some t) e =
      rw (known_append ps (access_segments (Some a)) (printed_type t) _ e refl)
      (rw (text_of_joined (type_pieces t) (mark Comma ∷ Blank ∷ word a ∷ mark GreaterThan ∷ [])) refl)

  pointer_in_row : (space access : Option (List ℕ)) (ps : List Segment) (o : Option TypeSpecifier) →
      known_text ps ≡ option_map printed_type o → known_text (pointer_segments space access ps) ≡
      option_map printed_type (pointer_tree_in space access o)
  pointer_in_row None access ps o e = e
  pointer_in_row (Some space) access ps o e = pointer_row space access ps o e

  value_pointer_row : (space access : Option (List ℕ)) (ps : List Segment)
      (o : Option TypeSpecifier) → known_text ps ≡ option_map printed_type o →
      known_text (value_pointer_segments true space access ps) ≡ option_map printed_type
      (value_pointer_tree_in space access o)
  value_pointer_row None access ps o e = refl
  value_pointer_row (Some space) access ps o e = pointer_row space access ps o e

  array_row : (n : Names) (knows : ℕ → Bool) (w : List ℕ) → has_gaps w ≡ true →
      (it : ArraySize) (ps : List Segment) (o : Option TypeSpecifier) →
      known_text ps ≡ option_map printed_type o →
      known_text (array_segments (writer_context n knows) w ps it) ≡ option_map printed_type
      (option_map (array_tree n w it) o)
  array_row n knows w gaps it ps None e =
      two_words w (codes "<") _ (known_none ps (length_segments (writer_context n knows) it) e)
  array_row n knows w gaps (size.Constant number) ps (Some t) e =
      rw (known_append ps (length_segments (writer_context n knows) (size.Constant number)) (printed_type t) _ e refl)
      (rw gaps (rw (text_of_joined (type_pieces t)
      (mark Comma ∷ Blank ∷ plain (non_zero_u32_get number) ∷ mark GreaterThan ∷ []))
      (ap (λ v. Some (w ++ (codes "<" ++ (printed_type t ++ (codes ", " ++ (v ++ (codes ">" ++ [])))))))
      (sym (append-nil (decimal (non_zero_u32_get number)))))))
  array_row n knows w gaps (size.Pending handle) ps (Some t) e =
      rw (known_append ps (length_segments (writer_context n knows) (size.Pending handle)) (printed_type t) _ e refl)
      (rw gaps (rw (text_of_joined (type_pieces t)
      (mark Comma ∷ Blank ∷ word (n.override_name handle) ∷ mark GreaterThan ∷ [])) refl))
  array_row n knows w gaps size.Dynamic ps (Some t) e =
      rw (known_append ps (length_segments (writer_context n knows) size.Dynamic) (printed_type t) _ e refl)
      (rw (text_of_joined (type_pieces t) (mark GreaterThan ∷ [])) refl)

  -- a type, from the types that it names
  inner_row : (n : Names) (knows : ℕ → Bool) (f : ℕ → List Segment) (g : ℕ → Option TypeSpecifier) →
      ((k : ℕ) → known_text (f k) ≡ option_map printed_type (g k)) →
      (it : TypeInner) → known_text (inner_segments_by (writer_context n knows) f it) ≡
      option_map printed_type (inner_tree_by n g it)
  inner_row n knows f g same (inner.Scalar scalar) = scalar_row (scalar_word scalar) scalar.kind
  inner_row n knows f g same (inner.Vector size scalar) =
      template_row (vector_word size) (scalar_word scalar) scalar.kind
  inner_row n knows f g same (inner.Matrix columns rows scalar) =
      template_row (matrix_word columns rows) (scalar_word scalar) scalar.kind
  inner_row n knows f g same (inner.CooperativeMatrix columns rows scalar role) =
      cooperative_row columns rows role (scalar_word scalar) scalar.kind
  inner_row n knows f g same (inner.Atomic scalar) = template_row (codes "atomic") (scalar_word scalar) scalar.kind
  inner_row n knows f g same (inner.Pointer base space) =
      pointer_in_row (space_word space) (space_access_word space) (f base) (g base) (same base)
  inner_row n knows f g same (inner.ValuePointer size scalar space) =
      value_pointer_row (space_word space) (space_access_word space) (value_segments true size scalar)
      (value_tree size scalar) (value_row size scalar)
  inner_row n knows f g same (inner.Array base size stride) = array_row n knows (codes "array") refl size
      (f base) (g base) (same base)
  inner_row n knows f g same (inner.Struct members span) = refl
  inner_row n knows f g same (inner.Image dim arrayed class) = image_row dim arrayed class
  inner_row n knows f g same (inner.Sampler comparison) = refl
  inner_row n knows f g same (inner.AccelerationStructure vertex_return) = ray_row vertex_return
  inner_row n knows f g same (inner.RayQuery vertex_return) = query_row vertex_return
  inner_row n knows f g same (inner.BindingArray base size) =
      array_row n knows (codes "binding_array") refl size (f base) (g base) (same base)

  choice_row : (b : Bool) (name : List ℕ) (ps : List Segment) (o : Option TypeSpecifier) →
      known_text ps ≡ option_map printed_type o → known_text (if b then Word name ∷ [] else ps) ≡
      option_map printed_type (if b then Some (Named name) else o)
  choice_row true name ps o e = refl
  choice_row false name ps o e = e

  found_row : (n : Names) (knows : ℕ → Bool) (f : ℕ → List Segment) (g : ℕ → Option TypeSpecifier) →
      ((k : ℕ) → known_text (f k) ≡ option_map printed_type (g k)) →
      (handle : ℕ) (t : Option Type_) →
      known_text (found_segments_by (writer_context n knows) f handle t) ≡ option_map printed_type
      (found_tree_by n g handle t)
  found_row n knows f g same handle None = refl
  found_row n knows f g same handle (Some t) = choice_row (is_struct t.inner) (n.struct_name handle) _ _
      (inner_row n knows f g same t.inner)

  within_row : (n : Names) (knows : ℕ → Bool) (levels handle : ℕ) →
      known_text (segments_within levels (writer_context n knows) handle)
      ≡ option_map printed_type (tree_within levels n handle)
  within_row n knows zero handle = refl
  within_row n knows (suc levels) handle = found_row n knows (segments_within levels (writer_context n knows))
      (tree_within levels n) (within_row n knows levels) handle (slice_get n.types handle)

  pub type_row : (n : Names) (knows : ℕ → Bool) (handle : ℕ) →
      known_text (type_segments (writer_context n knows) handle) ≡ option_map printed_type (type_tree n handle)
  unfolding type_segments type_tree
  type_row n knows handle = within_row n knows (suc handle) handle

  pub inner_tree_row : (n : Names) (knows : ℕ → Bool) (it : TypeInner) →
      known_text (inner_segments (writer_context n knows) it) ≡ option_map printed_type (inner_tree n it)
  inner_tree_row n knows it = inner_row n knows (type_segments (writer_context n knows)) (type_tree n)
      (type_row n knows) it

  pub resolution_row : (n : Names) (knows : ℕ → Bool) (r : TypeResolution) →
      known_text (resolution_segments (writer_context n knows) r) ≡ option_map printed_type (resolution_tree n r)
  resolution_row n knows (resolution.Handle ty) = type_row n knows ty
  resolution_row n knows (resolution.Value it) = inner_tree_row n knows it

-- What is spelled is a type of the grammar.

-- ---- words

role_is : (r : CooperativeRole) → IsWord (matrix_role_word r)
unfolding is_reserved
role_is A = record { text = refl; free = refl }
role_is _ = record { text = refl; free = refl }

vertex_return_is : IsWord (codes "vertex_return")
unfolding is_reserved
vertex_return_is = record { text = refl; free = refl }

-- ---- templates
pub vector_rule : (v : VectorSize) → rule_among type_templates (vector_word v) ≡ TakesScalar
vector_rule Bi = refl
vector_rule _ = refl

pub matrix_rule : (c r : VectorSize) → rule_among type_templates (matrix_word c r) ≡ TakesScalar
matrix_rule Bi Bi = refl
matrix_rule Bi Tri = refl
matrix_rule Bi Quad = refl
matrix_rule Tri Bi = refl
matrix_rule Tri Tri = refl
matrix_rule Tri Quad = refl
matrix_rule Quad Bi = refl
matrix_rule Quad Tri = refl
matrix_rule Quad Quad = refl

pub cooperative_rule : (c r : CooperativeSize) → rule_among type_templates (cooperative_word c r) ≡ TakesRole
cooperative_rule Eight Eight = refl
cooperative_rule Eight Sixteen = refl
cooperative_rule Sixteen Eight = refl
cooperative_rule Sixteen Sixteen = refl

-- ---- types that name no others
scalar_tree_is : (s : Scalar) (t : TypeSpecifier) → scalar_tree s ≡ Some t → IsType t
scalar_tree_is s t e =
    let w = map_some Named (scalar_word s) t e in
    subst IsType w.2 (scalar_word_is w.0 (value_words.scalars.each s w.0 w.1))

-- a word with a scalar
pub of_scalar_is : (word : List ℕ) → rule_among type_templates word ≡ TakesScalar →
    (s : Scalar) (t : TypeSpecifier) → option_map (of_one word) (scalar_tree s) ≡ Some t → IsType t
of_scalar_is word rule s t e =
    let x = map_some (of_one word) (scalar_tree s) t e in
    let w = map_some Named (scalar_word s) x.0 x.1 in
    subst IsType (ap (of_one word) w.2 ∙ x.2) (of_scalar_word_is word w.0 rule (value_words.scalars.each s w.0 w.1))

value_tree_is : (v : Option VectorSize) (s : Scalar) (t : TypeSpecifier) → value_tree v s ≡ Some t → IsType t
value_tree_is None s t e = scalar_tree_is s t e
value_tree_is (Some v) s t e = of_scalar_is (vector_word v) (vector_rule v) s t e

cooperative_is : (c r : CooperativeSize) (l : CooperativeRole) (s : Scalar) (t : TypeSpecifier) →
    option_map (λ x. of_two (cooperative_word c r) x (Named (matrix_role_word l))) (scalar_tree s) ≡
    Some t → IsType t
cooperative_is c r l s t e =
    let x = map_some (λ x. of_two (cooperative_word c r) x (Named (matrix_role_word l))) (scalar_tree s) t e in
    let w = map_some Named (scalar_word s) x.0 x.1 in
    let scalar = value_words.scalars.each s w.0 w.1 in
    subst IsType (ap (λ x. of_two (cooperative_word c r) x (Named (matrix_role_word l))) w.2 ∙ x.2)
    (record {
      part = (
        rw (cooperative_rule c r)
            (and_from (stands_in scalar_words w.0) (stands_in matrix_role_words (matrix_role_word l)) scalar
            (value_words.roles.each l (matrix_role_word l) refl)),
        (table_word scalar_words w.0 scalars_free scalar, (role_is l, tt)),
      );
      whole = refl;
    })

access_is : (x y : Bool) (m : List ℕ) →
    (if x then Some (codes "atomic") else (if y then Some (codes "read_write") else None)) ≡ Some m →
    stands_in access_words m ≡ true
access_is true y m e = let same : codes "atomic" ≡ m = cc in rw (← same) refl
access_is false true m e = let same : codes "read_write" ≡ m = cc in rw (← same) refl
access_is false false m e = absurd (cc)

-- what may be done has a word in storage alone
pub storage_is : (a : AddressSpace) (w m : List ℕ) → space_word a ≡ Some w → space_access_word a ≡ Some m →
    (codes "storage" ≡ w) × (stands_in access_words m ≡ true)
storage_is (space.Storage access) w m e f =
    (let same : codes "storage" ≡ w = cc in same, access_is (has atomic_bit access) (has store_bit access) m f)
storage_is _ w m e f = absurd (cc)

pointer_is : (a : AddressSpace) (w : List ℕ) → space_word a ≡ Some w → (o : Option (List ℕ)) →
    space_access_word a ≡ o → (x : TypeSpecifier) → IsType x → IsType (pointer_tree w o x)
pointer_is a w at None access x is = pointer_to_is w x (value_words.spaces.each a w at) is
pointer_is a w at (Some m) access x is =
    let known = storage_is a w m at access in
    record {
      part = (
        and_from (bytes_eq (codes "storage") w) (is_type x && stands_in access_words m)
            ((bytes_eq-Decides (codes "storage") w).1 known.0)
            (and_from (is_type x) (stands_in access_words m) is.whole known.1),
        (
          table_word address_space_words w address_spaces_free (value_words.spaces.each a w at),
          (is.part, (table_word access_words m accesses_free known.1, tt)),
        ),
      );
      whole = refl;
    }

pointer_tree_is : (a : AddressSpace) (s : Option (List ℕ)) → space_word a ≡ s →
    (o : Option TypeSpecifier) → ((x : TypeSpecifier) → o ≡ Some x → IsType x) →
    (t : TypeSpecifier) → pointer_tree_in s (space_access_word a) o ≡ Some t → IsType t
pointer_tree_is a None at o all t e = all t e
pointer_tree_is a (Some w) at o all t e =
    let x = map_some (pointer_tree w (space_access_word a)) o t e in
    subst IsType x.2 (pointer_is a w at (space_access_word a) refl x.0 (all x.0 x.1))

value_pointer_is : (a : AddressSpace) (s : Option (List ℕ)) → space_word a ≡ s →
    (o : Option TypeSpecifier) → ((x : TypeSpecifier) → o ≡ Some x → IsType x) →
    (t : TypeSpecifier) → value_pointer_tree_in s (space_access_word a) o ≡ Some t → IsType t
value_pointer_is a None at o all t e = absurd (cc)
value_pointer_is a (Some w) at o all t e =
    let x = map_some (pointer_tree w (space_access_word a)) o t e in
    subst IsType x.2 (pointer_is a w at (space_access_word a) refl x.0 (all x.0 x.1))

-- images
sampled_rule : (multi : Bool) (dim : ImageDimension) (arrayed : Bool) →
    rule_among type_templates (image_word (codes "texture_") multi dim arrayed) ≡ TakesSampled
sampled_rule false D1 false = refl
sampled_rule false D1 true = refl
sampled_rule false D2 false = refl
sampled_rule false D2 true = refl
sampled_rule false D3 false = refl
sampled_rule false D3 true = refl
sampled_rule false Cube false = refl
sampled_rule false Cube true = refl
sampled_rule true D1 false = refl
sampled_rule true D1 true = refl
sampled_rule true D2 false = refl
sampled_rule true D2 true = refl
sampled_rule true D3 false = refl
sampled_rule true D3 true = refl
sampled_rule true Cube false = refl
sampled_rule true Cube true = refl

pub depth_is_plain : (multi : Bool) (dim : ImageDimension) (arrayed : Bool) →
    stands_in plain_type_words (image_word (codes "texture_depth_") multi dim arrayed) ≡ true
depth_is_plain false D1 false = refl
depth_is_plain false D1 true = refl
depth_is_plain false D2 false = refl
depth_is_plain false D2 true = refl
depth_is_plain false D3 false = refl
depth_is_plain false D3 true = refl
depth_is_plain false Cube false = refl
depth_is_plain false Cube true = refl
depth_is_plain true D1 false = refl
depth_is_plain true D1 true = refl
depth_is_plain true D2 false = refl
depth_is_plain true D2 true = refl
depth_is_plain true D3 false = refl
depth_is_plain true D3 true = refl
depth_is_plain true Cube false = refl
depth_is_plain true Cube true = refl

pub storage_rule : (dim : ImageDimension) (arrayed : Bool) →
    rule_among type_templates (image_word (codes "texture_storage_") false dim arrayed) ≡ TakesFormat
storage_rule D1 false = refl
storage_rule D1 true = refl
storage_rule D2 false = refl
storage_rule D2 true = refl
storage_rule D3 false = refl
storage_rule D3 true = refl
storage_rule Cube false = refl
storage_rule Cube true = refl

image_tree_is : (dim : ImageDimension) (arrayed : Bool) (c : ImageClass) (t : TypeSpecifier) →
    image_tree dim arrayed c ≡ Some t → IsType t
image_tree_is dim arrayed (class.Sampled k multi) t e =
    let word = image_word (codes "texture_") multi dim arrayed in
    let x = map_some (of_one word) (option_map Named (scalar_word_of k 4)) t e in
    let w = map_some Named (scalar_word_of k 4) x.0 x.1 in
    subst IsType (ap (of_one word) w.2 ∙ x.2)
    (record {
      part = (
        rw (sampled_rule multi dim arrayed) (value_words.sampled.each k w.0 w.1),
        (
          table_word scalar_words w.0 scalars_free
              (value_words.scalars.each (record { kind = k; width = 4 }) w.0 w.1),
          tt,
        ),
      );
      whole = refl;
    })
image_tree_is dim arrayed (class.Depth multi) t e =
    subst IsType (same_Some (Named (image_word (codes "texture_depth_") multi dim arrayed)) t e)
    (plain_is (image_word (codes "texture_depth_") multi dim arrayed) (depth_is_plain multi dim arrayed))
image_tree_is dim arrayed class.External t e = subst IsType (same_Some (Named (codes "texture_external")) t e)
    (plain_is (codes "texture_external") refl)
image_tree_is dim arrayed (class.Storage f a) t e =
    let format = value_words.formats.each f (format_word f) refl in
    let access = value_words.accesses.each a (image_access_word a) refl in
    subst IsType (same_Some (of_two (image_word (codes "texture_storage_") false dim arrayed)
    (Named (format_word f)) (Named (image_access_word a))) t e)
    (record {
      part = (
        rw (storage_rule dim arrayed) (and_from (stands_in format_words (format_word f))
            (stands_in access_words (image_access_word a)) format access),
        (
          table_word format_words (format_word f) formats_free format,
          (table_word access_words (image_access_word a) accesses_free access, tt),
        ),
      );
      whole = refl;
    })

sampler_is : (comparison : Bool) → IsType (Named (sampler_word comparison))
sampler_is true = plain_is (codes "sampler_comparison") refl
sampler_is false = plain_is (codes "sampler") refl

structure_is : (b : Bool) → IsType (ray_tree (codes "acceleration_structure") b)
structure_is true = record { part = (refl, (vertex_return_is, tt)); whole = refl }
structure_is false = plain_is (codes "acceleration_structure") refl

query_is : (b : Bool) → IsType (ray_tree (codes "ray_query") b)
query_is true = record { part = (refl, (vertex_return_is, tt)); whole = refl }
query_is false = plain_is (codes "ray_query") refl

-- ---- types that name others
module _ (n : Names) (count : ℕ) (named : AreNamed n count) where
  array_is : (word : List ℕ) → rule_among type_templates word ≡ TakesElements → (l : ArraySize) →
      LengthIsWithin count l → (x : TypeSpecifier) → IsType x → IsType (array_tree n word l x)
  array_is word rule (size.Constant number) within x is = sized_is word x (non_zero_u32_get number) rule is within
  array_is word rule (size.Pending o) within x is =
      let name = named.overrides o within in
      record {
        part = (
          rw rule (and_from (is_type x) (not (is_builtin (n.override_name o))) is.whole
              (ap not name.own)),
          (is.part, (name.word, tt)),
        );
        whole = refl;
      }
  array_is word rule size.Dynamic within x is = dynamic_is word x rule is

  array_tree_is : (word : List ℕ) → rule_among type_templates word ≡ TakesElements →
      (l : ArraySize) → LengthIsWithin count l → (o : Option TypeSpecifier) →
      ((x : TypeSpecifier) → o ≡ Some x → IsType x) → (t : TypeSpecifier) →
      option_map (array_tree n word l) o ≡ Some t → IsType t
  array_tree_is word rule l within o all t e =
      let x = map_some (array_tree n word l) o t e in
      subst IsType x.2 (array_is word rule l within x.0 (all x.0 x.1))

  inner_is : (f : ℕ → Option TypeSpecifier) →
      ((b : ℕ) (x : TypeSpecifier) → f b ≡ Some x → IsType x) →
      (it : TypeInner) → InnerIsWithin count it → (t : TypeSpecifier) →
      inner_tree_by n f it ≡ Some t → IsType t
  inner_is f all (inner.Scalar s) within t e = scalar_tree_is s t e
  inner_is f all (inner.Vector v s) within t e = of_scalar_is (vector_word v) (vector_rule v) s t e
  inner_is f all (inner.Matrix c r s) within t e = of_scalar_is (matrix_word c r) (matrix_rule c r) s t e
  inner_is f all (inner.CooperativeMatrix c r s l) within t e = cooperative_is c r l s t e
  inner_is f all (inner.Atomic s) within t e = of_scalar_is (codes "atomic") refl s t e
  inner_is f all (inner.Pointer base a) within t e = pointer_tree_is a (space_word a) refl (f base) (all base) t e
  inner_is f all (inner.ValuePointer v s a) within t e = value_pointer_is a (space_word a) refl (value_tree v s)
      (value_tree_is v s) t e
  inner_is f all (inner.Array base l stride) within t e = array_tree_is (codes "array") refl l within (f base)
      (all base) t e
  inner_is f all (inner.Struct members span) within t e = absurd (cc)
  inner_is f all (inner.Image dim arrayed c) within t e = image_tree_is dim arrayed c t e
  inner_is f all (inner.Sampler comparison) within t e =
      subst IsType (same_Some (Named (sampler_word comparison)) t e) (sampler_is comparison)
  inner_is f all (inner.AccelerationStructure b) within t e =
      subst IsType (same_Some (ray_tree (codes "acceleration_structure") b) t e) (structure_is b)
  inner_is f all (inner.RayQuery b) within t e = subst IsType (same_Some (ray_tree (codes "ray_query") b) t e)
      (query_is b)
  inner_is f all (inner.BindingArray base l) within t e = array_tree_is (codes "binding_array") refl l within
      (f base) (all base) t e

  named_is : (f : ℕ → Option TypeSpecifier) →
      ((b : ℕ) (x : TypeSpecifier) → f b ≡ Some x → IsType x) → (h : ℕ) (y : Type_) →
      slice_get n.types h ≡ Some y → (b : Bool) → is_struct y.inner ≡ b → (t : TypeSpecifier) →
      (if b then Some (Named (n.struct_name h)) else inner_tree_by n f y.inner) ≡ Some t → IsType t
  named_is f all h y at true struct t e = subst IsType (same_Some (Named (n.struct_name h)) t e)
      (name_is (n.struct_name h) (named.structs h y at struct))
  named_is f all h y at false struct t e = inner_is f all y.inner (named.lengths h y at) t e

  found_is : (k h : ℕ) → ((b : ℕ) (x : TypeSpecifier) → tree_within k n b ≡ Some x → IsType x) →
      (o : Option Type_) → slice_get n.types h ≡ o → (t : TypeSpecifier) →
      found_tree_by n (tree_within k n) h o ≡ Some t → IsType t
  found_is k h all None at t e = absurd (cc)
  found_is k h all (Some y) at t e = named_is (tree_within k n) all h y at (is_struct y.inner) refl t e

  within_is : (k h : ℕ) (t : TypeSpecifier) → tree_within k n h ≡ Some t → IsType t
  within_is zero h t e = absurd (cc)
  within_is (suc k) h t e = found_is k h (within_is k) (slice_get n.types h) refl t e

  pub type_is : (h : ℕ) (t : TypeSpecifier) → type_tree n h ≡ Some t → IsType t
  unfolding type_tree
  type_is h t e = within_is (suc h) h t e

  -- the type of an expression, where it has a form
  pub resolution_is : (r : TypeResolution) → ResolutionIsWithin count r → (t : TypeSpecifier) →
      resolution_tree n r ≡ Some t → IsType t
  resolution_is (resolution.Handle h) within t e = type_is h t e
  resolution_is (resolution.Value it) within t e = inner_is (type_tree n) type_is it within t e
