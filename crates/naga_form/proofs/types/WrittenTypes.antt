-- The types that have a form: their trees, which are types of the grammar and are spelled as no name
-- is.
use Rattle.std.proofs.Common.{[], ◌≡◌, ℕ, zero, suc, ◌<◌, Bool, true, false, List, ◌∷◌, ◌++◌}
use Rattle.std.proofs.Common.{Option, Some, None, refl, sym, ap, subst, slice_get, codes}
use Rattle.std.proofs.Common.{true≢false}
use Rattle.std.specs.Prelude.{if◌then◌else◌, unwrap_or, ◌⊎◌, not}
use mathlib.Core.Logic.{inl, inr}
use Rattle.std.specs.List.{AllByRecursion}
use Rattle.std.specs.Option.{is_some, option_map}
use Rattle.std.proofs.lemmas.Bool.{and_parts, ltb-true, not-true}
use Rattle.std.proofs.lemmas.Option.{same_Some}
use Rattle.naga_info.proofs.Options.{map_some, then_some}
use Rattle.naga_info.specs.declared.info.ExpressionInfo.{ExpressionInfo}
use Rattle.naga_info.specs.declared.info.TypeResolution.{TypeResolution}
use Rattle.naga_info.specs.declared.info.TypeResolution.TheVariants.{Handle, Value}
use Rattle.naga_ir.specs.declared.image.ImageClass.{ImageClass}
use Rattle.naga_ir.specs.declared.image.ImageClass.TheVariants as class
use Rattle.naga_ir.specs.declared.image.ImageDimension.{ImageDimension}
use Rattle.naga_ir.specs.declared.module.Module.{Module}
use Rattle.naga_ir.specs.declared.types.AddressSpace.{AddressSpace}
use Rattle.naga_ir.specs.declared.types.AddressSpace.TheVariants as space
use Rattle.naga_ir.specs.declared.types.ArraySize.{ArraySize}
use Rattle.naga_ir.specs.declared.types.ArraySize.TheVariants as size
use Rattle.naga_ir.specs.declared.types.Scalar.{Scalar}
use Rattle.naga_ir.specs.declared.types.Type_.{Type_}
use Rattle.naga_ir.specs.declared.types.TypeInner.{TypeInner}
use Rattle.naga_ir.specs.declared.types.TypeInner.TheVariants as inner
use Rattle.naga_naming.specs.Keys.{NameMap}
use Rattle.naga_spelling.specs.Contexts.{Names, names_of}
use Rattle.naga_spelling.specs.Spelling.{is_struct, length_within, size_within}
use Rattle.naga_spelling.specs.Words.{sampler_word}
use Rattle.module_semantics.specs.AlikeTypes.{has_type_form, type_key as form_numbers}
use Rattle.module_semantics.specs.acceptance.InfoSizes.{is_handle_pointer, is_handle_space}
use Rattle.module_semantics.specs.acceptance.InfoSizes.{resolution_is_fit}
use Rattle.module_semantics.specs.Undeclared.{names_undeclared}
use Rattle.module_semantics.specs.Types.{type_names}
use Rattle.wgsl_text.proofs.Building.{in_front}
use Rattle.wgsl_text.proofs.ValueWords.{value_words}
use Rattle.wgsl_text.proofs.Words.{all_words, passes}
use Rattle.wgsl_text.specs.Reading.{printed_type}
use Rattle.wgsl_text.specs.Tables.{depth_image_words, ray_words, sampler_words, scalar_words}
use Rattle.wgsl_text.specs.Types.{IsType, Named, TemplateRule, Template, TemplateArguments}
use Rattle.wgsl_text.specs.Types.{TypeSpecifier, fits, has_gaps, of_one, of_two, template_pieces}
use Rattle.wgsl_text.specs.Types.{plain_type_words, pointer_tree, rule_among, type_templates}
use Rattle.wgsl_text.specs.Text.{text}
use Rattle.wgsl_text.specs.Words.{stands_in}
use Rattle.wgsl_words.specs.Words.{scalar_word, scalar_word_of, space_word, space_access_word}
use Rattle.naga_form.proofs.types.AlikeTypes.{key_is_read, key_read}
use Rattle.naga_form.proofs.operators.OperatingWords.{operates_freely, plain_types_free}
use Rattle.naga_form.proofs.operators.OperatingWords.{templates_free}
use Rattle.naga_form.proofs.types.AlikeLaw.{each_named}
use Rattle.naga_form.proofs.types.SameValues.{IsFit, TypesAreFit, tree_is}
use Rattle.naga_form.proofs.types.TypeTrees.{depth_is_plain}
use Rattle.naga_form.specs.TypeTrees.{array_tree, found_tree_by, image_tree, inner_tree_by}
use Rattle.naga_form.specs.TypeTrees.{pointer_tree_in, ray_tree, resolution_tree, scalar_tree}
use Rattle.naga_form.specs.TypeTrees.{tree_within, type_tree, value_pointer_tree_in, value_tree}
use Rattle.naga_form.specs.Types.{annotated_type, type_form}

-- ---- trees
-- a type that has a form has a tree, under any names
pub tree_there : (n : Names) (r : TypeResolution) → has_type_form n.types r ≡ true →
    (t : TypeSpecifier) × (resolution_tree n r ≡ Some t)
tree_there n r is = by (form_numbers n.types r) is (key_is_read n r)
  where
    by : (o : Option (List ℕ)) → is_some o ≡ true →
        resolution_tree n r ≡ option_map (key_read n) o →
        (t : TypeSpecifier) × (resolution_tree n r ≡ Some t)
    by (Some numbers) is read = (key_read n numbers, read)
    by None is read = absurd cc

-- ---- names that are the same
-- an array whose length is told by an override of one name
array_same : (n k : Names) (overrides : ℕ) →
    ((o : ℕ) → o < overrides → n.override_name o ≡ k.override_name o) → (word : List ℕ)
    (l : ArraySize) → size_within overrides l ≡ true →
    (o p : Option TypeSpecifier) → o ≡ p →
    option_map (array_tree n word l) o ≡ option_map (array_tree k word l) p
array_same n k overrides named word (size.Constant number) within o p e =
    ap (option_map (array_tree n word (size.Constant number))) e
array_same n k overrides named word (size.Pending override_handle) within o p e =
    let name = named override_handle (ltb-true override_handle overrides within) in
    λ i. option_map (λ element. of_two word element (Named (name i))) (e i)
array_same n k overrides named word size.Dynamic within o p e =
    ap (option_map (array_tree n word size.Dynamic)) e

inner_same : (n k : Names) (overrides : ℕ) →
    ((o : ℕ) → o < overrides → n.override_name o ≡ k.override_name o) →
    (f g : ℕ → Option TypeSpecifier) → ((b : ℕ) → f b ≡ g b) →
    (it : TypeInner) → length_within overrides it ≡ true → inner_tree_by n f it ≡ inner_tree_by k g it
inner_same n k overrides named f g same (inner.Pointer base space) within =
    ap (pointer_tree_in (space_word space) (space_access_word space)) (same base)
inner_same n k overrides named f g same (inner.Array base l stride) within =
    array_same n k overrides named _ l within (f base) (g base) (same base)
inner_same n k overrides named f g same (inner.BindingArray base l) within =
    array_same n k overrides named _ l within (f base) (g base) (same base)
inner_same n k overrides named f g same _ within = refl

-- types whose names are the same under both maps, and so are those of the first so many overrides, of
-- which one tells a length
pub record AreNamedAlike (types : List Type_) (overrides : ℕ) (a b : NameMap) : Type 0 where
  pub names : (h : ℕ) (t : Type_) → slice_get types h ≡ Some t →
      (names_of types a).struct_name h ≡ (names_of types b).struct_name h
  pub told : (o : ℕ) → o < overrides →
      (names_of types a).override_name o ≡ (names_of types b).override_name o
  pub lengths : (h : ℕ) (t : Type_) → slice_get types h ≡ Some t →
      length_within overrides t.inner ≡ true

-- have one tree each
module _ (types : List Type_) (overrides : ℕ) (a b : NameMap) (are : AreNamedAlike types overrides a b) where
  abbrev n : Names
  n = names_of types a

  abbrev k : Names
  k = names_of types b

  either_same : (struct : Bool) (x y : List ℕ) → x ≡ y → (o p : Option TypeSpecifier) → o ≡ p →
      (if struct then Some (Named x) else o) ≡ (if struct then Some (Named y) else p)
  either_same true x y same o p e = ap (λ w. Some (Named w)) same
  either_same false x y same o p e = e

  found_same : (f g : ℕ → Option TypeSpecifier) → ((b : ℕ) → f b ≡ g b) → (h : ℕ) →
      (o : Option Type_) → slice_get types h ≡ o → found_tree_by n f h o ≡ found_tree_by k g h o
  found_same f g same h None at = refl
  found_same f g same h (Some t) at =
      either_same (is_struct t.inner) _ _ (are.names h t at) _ _
      (inner_same n k overrides are.told f g same t.inner (are.lengths h t at))

  within_same : (levels h : ℕ) → tree_within levels n h ≡ tree_within levels k h
  within_same zero h = refl
  within_same (suc levels) h =
      found_same (tree_within levels n) (tree_within levels k) (within_same levels) h
      (slice_get types h) refl

  pub type_same : (h : ℕ) → type_tree n h ≡ type_tree k h
  unfolding type_tree
  type_same h = within_same (suc h) h

  -- a type by itself whose length is told by one of these overrides, if by one
  pub resolution_same : (r : TypeResolution) →
      ((it : TypeInner) → r ≡ Value it → length_within overrides it ≡ true) →
      resolution_tree n r ≡ resolution_tree k r
  resolution_same (Handle h) within = type_same h
  resolution_same (Value it) within =
      inner_same n k overrides are.told (type_tree n) (type_tree k) type_same it (within it refl)

-- ---- trees that are spelled as no name is
-- a word of the table of types, or a word with parts
abbrev is_plain : TypeSpecifier → Bool
is_plain (Named w) = stands_in plain_type_words w
is_plain (Template w parts) = true

mapped_plain : {X : Type 0} (f : X → TypeSpecifier) → ((x : X) → is_plain (f x) ≡ true) →
    (o : Option X) (t : TypeSpecifier) → option_map f o ≡ Some t → is_plain t ≡ true
mapped_plain f all o t e =
    let x = map_some f o t e in subst (λ t. is_plain t ≡ true) x.2 (all x.0)

same_plain : (s t : TypeSpecifier) → is_plain s ≡ true → Some s ≡ Some t → is_plain t ≡ true
same_plain s t is e = subst (λ t. is_plain t ≡ true) (same_Some s t e) is

scalar_plain : (s : Scalar) (t : TypeSpecifier) → scalar_tree s ≡ Some t → is_plain t ≡ true
scalar_plain s t e =
    let w = map_some Named (scalar_word s) t e in
    subst (λ t. is_plain t ≡ true) w.2
    (in_front scalar_words (sampler_words ++ (ray_words ++ depth_image_words)) w.0
    (value_words.scalars.each s w.0 w.1))

pointer_plain : (space : List ℕ) (access : Option (List ℕ)) (x : TypeSpecifier) →
    is_plain (pointer_tree space access x) ≡ true
pointer_plain space None x = refl
pointer_plain space (Some access) x = refl

array_plain : (n : Names) (word : List ℕ) (l : ArraySize) (x : TypeSpecifier) →
    is_plain (array_tree n word l x) ≡ true
array_plain n word (size.Constant number) x = refl
array_plain n word _ x = refl

image_plain : (dim : ImageDimension) (arrayed : Bool) (c : ImageClass) (t : TypeSpecifier) →
    image_tree dim arrayed c ≡ Some t → is_plain t ≡ true
image_plain dim arrayed (class.Sampled kind multi) t e =
    mapped_plain (of_one _) (λ x. refl) (option_map Named (scalar_word_of kind 4)) t e
image_plain dim arrayed (class.Depth multi) t e =
    same_plain _ t (depth_is_plain multi dim arrayed) e
image_plain dim arrayed class.External t e = same_plain _ t refl e
image_plain dim arrayed (class.Storage format access) t e = same_plain _ t refl e

sampler_plain : (comparison : Bool) → is_plain (Named (sampler_word comparison)) ≡ true
sampler_plain true = refl
sampler_plain false = refl

structure_plain : (b : Bool) → is_plain (ray_tree (codes "acceleration_structure") b) ≡ true
structure_plain true = refl
structure_plain false = refl

query_plain : (b : Bool) → is_plain (ray_tree (codes "ray_query") b) ≡ true
query_plain true = refl
query_plain false = refl

-- the type at a handle, a struct, by its name
pub record IsStructNamed (n : Names) (r : TypeResolution) (t : TypeSpecifier) : Type 0 where
  pub handle : ℕ
  pub at : r ≡ Handle handle
  pub type : Type_
  pub there : slice_get n.types handle ≡ Some type
  pub is : is_struct type.inner ≡ true
  pub named : t ≡ Named (n.struct_name handle)

-- a pointer outside the space of handles
space_has_word : (a : AddressSpace) → is_handle_space a ≡ false → is_some (space_word a) ≡ true
space_has_word space.Handle not_so = absurd (true≢false not_so)
space_has_word a not_so = refl

space_plain : (a : AddressSpace) → is_handle_space a ≡ false → (o : Option TypeSpecifier)
    (t : TypeSpecifier) → pointer_tree_in (space_word a) (space_access_word a) o ≡ Some t →
    is_plain t ≡ true
space_plain a not_so o t e = by (space_word a) (space_has_word a not_so) e
  where
    by : (s : Option (List ℕ)) → is_some s ≡ true →
        pointer_tree_in s (space_access_word a) o ≡ Some t → is_plain t ≡ true
    by None has e = absurd cc
    by (Some space) has e = mapped_plain _ (pointer_plain space (space_access_word a)) o t e

-- each tree is spelled as no name is, or it is the name of a struct
module _ (n : Names) where
  inner_plain : (f : ℕ → Option TypeSpecifier) → (it : TypeInner) →
      is_handle_pointer it ≡ false → (t : TypeSpecifier) → inner_tree_by n f it ≡ Some t →
      is_plain t ≡ true
  inner_plain f (inner.Scalar s) fit t e = scalar_plain s t e
  inner_plain f (inner.Vector v s) fit t e =
      mapped_plain (of_one _) (λ x. refl) (scalar_tree s) t e
  inner_plain f (inner.Matrix c r s) fit t e =
      mapped_plain (of_one _) (λ x. refl) (scalar_tree s) t e
  inner_plain f (inner.CooperativeMatrix c r s l) fit t e =
      mapped_plain _ (λ x. refl) (scalar_tree s) t e
  inner_plain f (inner.Atomic s) fit t e =
      mapped_plain (of_one _) (λ x. refl) (scalar_tree s) t e
  inner_plain f (inner.Pointer base a) fit t e = space_plain a fit (f base) t e
  inner_plain f (inner.ValuePointer v s a) fit t e = by (space_word a) e
    where
      by : (o : Option (List ℕ)) →
          value_pointer_tree_in o (space_access_word a) (value_tree v s) ≡ Some t →
          is_plain t ≡ true
      by None e = absurd cc
      by (Some space) e =
          mapped_plain _ (pointer_plain space (space_access_word a)) (value_tree v s) t e
  inner_plain f (inner.Array base l stride) fit t e =
      mapped_plain _ (array_plain n _ l) (f base) t e
  inner_plain f (inner.BindingArray base l) fit t e =
      mapped_plain _ (array_plain n _ l) (f base) t e
  inner_plain f (inner.Struct members span) fit t e = absurd cc
  inner_plain f (inner.Image dim arrayed c) fit t e = image_plain dim arrayed c t e
  inner_plain f (inner.Sampler comparison) fit t e =
      same_plain _ t (sampler_plain comparison) e
  inner_plain f (inner.AccelerationStructure b) fit t e =
      same_plain _ t (structure_plain b) e
  inner_plain f (inner.RayQuery b) fit t e = same_plain _ t (query_plain b) e

  module _ (fit : (h : ℕ) (t : Type_) → slice_get n.types h ≡ Some t →
      is_handle_pointer t.inner ≡ false) where
    found_plain : (f : ℕ → Option TypeSpecifier) → (h : ℕ) → (o : Option Type_) →
        slice_get n.types h ≡ o → (t : TypeSpecifier) → found_tree_by n f h o ≡ Some t →
        (is_plain t ≡ true) ⊎ IsStructNamed n (Handle h) t
    found_plain f h None at t e = absurd cc
    found_plain f h (Some y) at t e = by (is_struct y.inner) refl e
      where
        by : (struct : Bool) → is_struct y.inner ≡ struct →
            (if struct then Some (Named (n.struct_name h)) else inner_tree_by n f y.inner) ≡ Some t →
            (is_plain t ≡ true) ⊎ IsStructNamed n (Handle h) t
        by true is e =
            inr
            (record {
              handle = h;
              at = refl;
              type = y;
              there = at;
              is = is;
              named = sym (same_Some _ t e);
            })
        by false is e = inl (inner_plain f y.inner (fit h y at) t e)

    resolution_plain : (r : TypeResolution) → resolution_is_fit r ≡ true → (t : TypeSpecifier) →
        resolution_tree n r ≡ Some t → (is_plain t ≡ true) ⊎ IsStructNamed n r t
    unfolding type_tree
    resolution_plain (Handle h) is t e = found_plain (tree_within h n) h (slice_get n.types h) refl t e
    resolution_plain (Value it) is t e =
        inl
        (inner_plain (type_tree n) it
        (not-true (is_handle_pointer it)
        (and_parts (not (is_struct it)) (not (is_handle_pointer it)) is).1)
        t e)

-- a word with the parts that its rule wants
of_rows_free : (rest : List ℕ) (rows : List (List (List ℕ) × TemplateRule)) →
    AllByRecursion (λ row. all_words (λ v. operates_freely (v ++ 60 ∷ rest)) row.0 ≡ true) rows →
    (w : List ℕ) (parts : TemplateArguments) → fits (rule_among rows w) parts ≡ true →
    operates_freely (w ++ 60 ∷ rest) ≡ true
of_rows_free rest [] all w parts is = absurd cc
of_rows_free rest (row ∷ rows) all w parts is =
    by (stands_in row.0 w) refl is (of_rows_free rest rows all.1 w parts)
  where
    by : (b : Bool) → stands_in row.0 w ≡ b →
        fits (if b then row.1 else rule_among rows w) parts ≡ true →
        (fits (rule_among rows w) parts ≡ true → operates_freely (w ++ 60 ∷ rest) ≡ true) →
        operates_freely (w ++ 60 ∷ rest) ≡ true
    by true at is more = passes (λ v. operates_freely (v ++ 60 ∷ rest)) row.0 w all.0 at
    by false at is more = more is

template_free : (w : List ℕ) (parts : TemplateArguments) →
    fits (rule_among type_templates w) parts ≡ true →
    operates_freely (printed_type (Template w parts)) ≡ true
template_free w parts is =
    let rest = text (template_pieces parts (has_gaps w)) in
    of_rows_free rest type_templates (templates_free rest) w parts is

free_tree : (t : TypeSpecifier) → IsType t → is_plain t ≡ true →
    operates_freely (printed_type t) ≡ true
free_tree (Named w) is plain =
    passes (λ v. operates_freely (printed_type (Named v))) plain_type_words w plain_types_free plain
free_tree (Template w parts) is plain = template_free w parts is.part.0

-- ---- types of a module
is_fit : (m : Module) (r : TypeResolution) → IsFit m r → resolution_is_fit r ≡ true
is_fit m (Handle h) fit = refl
is_fit m (Value it) fit = fit.0

module _ (m : Module) (types : TypesAreFit m) where
  -- a type of the module that has a form is one of the grammar
  pub is_type_at : (ty : ℕ) → has_type_form m.types (Handle ty) ≡ true →
      IsType (type_form (type_names m) ty)
  is_type_at ty is =
      let t = tree_there (type_names m) (Handle ty) is in
      subst (λ o. IsType (unwrap_or o (Named []))) (sym t.1) (tree_is m types (Handle ty) tt t.0 t.1)

  -- what a `let` tells is a type of the grammar
  pub annotated_is : (explicit : Bool) (es : List ExpressionInfo) →
      ((h : ℕ) (k : ExpressionInfo) → slice_get es h ≡ Some k → IsFit m k.ty) →
      (h : ℕ) (tree : TypeSpecifier) →
      annotated_type explicit m (type_names m) es h ≡ Some tree → IsType tree
  annotated_is true es fits h tree is =
      let k =
      then_some
      (λ k. if names_undeclared m k.ty then None else resolution_tree (type_names m) k.ty)
      (slice_get es h) tree is in
      by (names_undeclared m k.0.ty) k.0 (fits h k.0 k.1) k.2
    where
      by : (undeclared : Bool) (k : ExpressionInfo) → IsFit m k.ty →
          (if undeclared then None else resolution_tree (type_names m) k.ty) ≡ Some tree →
          IsType tree
      by true k fit e = absurd cc
      by false k fit e = tree_is m types k.ty fit tree e
  annotated_is false es fits h tree is = absurd cc

  -- the tree of a type is spelled as no name is, or it names a struct
  pub free_form : (r : TypeResolution) → IsFit m r →
      (t : TypeSpecifier) → resolution_tree (type_names m) r ≡ Some t →
      (operates_freely (printed_type t) ≡ true) ⊎ IsStructNamed (type_names m) r t
  free_form r fit t is =
      by (resolution_plain (type_names m) (each_named m.types types.fits) r (is_fit m r fit) t is)
    where
      by : (is_plain t ≡ true) ⊎ IsStructNamed (type_names m) r t →
          (operates_freely (printed_type t) ≡ true) ⊎ IsStructNamed (type_names m) r t
      by (inl plain) = inl (free_tree t (tree_is m types r fit t is) plain)
      by (inr named) = inr named
