-- What it tells of a type that its text was written where what has no form is refused.
-- Serves `answers_tell_of_items`, `answers_tell_of_those_before`, `write_by_plan` and
-- `write_function`.
--
-- Throughout, ps are the parts of a spelling (qs are others), n are the names of structs and
-- overrides, knows says which overrides are known, f gives the parts of the type at a handle, h is
-- the handle of a type, it one by itself, and levels is how deep types may name one another.
use Rattle.std.proofs.Common.{◌≡◌, ℕ, zero, suc, Bool, true, false, List, [], ◌∷◌, ◌++◌, Option}
use Rattle.std.proofs.Common.{Some, None, refl, sym, ap, ◌∙◌, codes, slice_get, not}
use Rattle.std.specs.Prelude.{if◌then◌else◌, IsTrue}
use Rattle.std.specs.Option.{is_some, option_map}
use Rattle.std.proofs.lemmas.Bool.{and_from}
use Rattle.naga_info.specs.declared.info.TypeResolution.TheVariants.{Handle}
use Rattle.naga_ir.specs.declared.image.ImageClass.{ImageClass}
use Rattle.naga_ir.specs.declared.image.ImageClass.TheVariants as class
use Rattle.naga_ir.specs.declared.image.ImageDimension.{ImageDimension}
use Rattle.naga_ir.specs.declared.module.Module.{Module}
use Rattle.naga_ir.specs.declared.types.ArraySize.{ArraySize}
use Rattle.naga_ir.specs.declared.types.ArraySize.TheVariants as size
use Rattle.naga_ir.specs.declared.types.Scalar.{Scalar}
use Rattle.naga_ir.specs.declared.types.ScalarKind.{ScalarKind}
use Rattle.naga_ir.specs.declared.types.TypeInner.{TypeInner}
use Rattle.naga_ir.specs.declared.types.TypeInner.TheVariants as inner
use Rattle.naga_ir.specs.declared.types.Type_.{Type_}
use Rattle.naga_ir.specs.declared.types.VectorSize.{VectorSize}
use Rattle.naga_naming.specs.Keys.{NameMap}
use Rattle.naga_spelling.specs.Contexts.{Names, names_context, names_of, writer_context}
use Rattle.naga_spelling.specs.Segments.{HasWritten, IsText, NoSegments, WordThen, ShownThen}
use Rattle.naga_spelling.specs.Segments.{known_text, Segment, Word, Shown, Missing}
use Rattle.naga_spelling.specs.Spelling.{found_segments_by, inner_segments_by, is_struct}
use Rattle.naga_spelling.specs.Spelling.{length_segments, pointer_segments, segments_within}
use Rattle.naga_spelling.specs.Spelling.{type_segments}
use Rattle.naga_spelling.specs.Values.{access_segments, image_segments, pointer_in, scalar_segments_of}
use Rattle.naga_spelling.specs.Values.{template_segments, value_pointer_segments, value_segments}
use Rattle.naga_spelling.specs.Words.{cooperative_word, image_word, matrix_word, matrix_role_tail}
use Rattle.naga_spelling.specs.Words.{vector_word}
use Rattle.wgsl_text.proofs.Text.{text-append}
use Rattle.wgsl_text.specs.Reading.{printed_type}
use Rattle.wgsl_words.specs.Words.{scalar_word, space_access_word, space_word}
use Rattle.module_semantics.specs.AlikeTypes.{has_type_form, type_key}
use Rattle.module_semantics.specs.Undeclared.{is_spellable, names_undeclared}
use Rattle.naga_form.proofs.types.AlikeTypes.{key_is_read, key_read}
use Rattle.naga_form.proofs.types.TypeTrees.{type_row}

-- ---- debug texts
-- one is among the parts
abbrev shows : List Segment → Bool
shows [] = false
shows (Shown ∷ ps) = true
shows (_ ∷ ps) = shows ps

-- parts without one that have a text have this alone
text_known : {ps : List Segment} {t : List ℕ} → IsText ps t → shows ps ≡ false →
    known_text ps ≡ Some t
text_known NoSegments none = refl
text_known (WordThen w p) none = ap (option_map (λ r. w ++ r)) (text_known p none)
text_known (ShownThen d p) none = absurd cc

shows_both : (ps qs : List Segment) → shows ps ≡ false → shows qs ≡ false → shows (ps ++ qs) ≡ false
shows_both [] qs first second = second
shows_both (Word w ∷ ps) qs first second = shows_both ps qs first second
shows_both (Shown ∷ ps) qs first second = absurd cc
shows_both (Missing ∷ ps) qs first second = shows_both ps qs first second

-- ---- where what has no form is refused there is none
scalar_shows : (o : Option (List ℕ)) (kind : ScalarKind) → shows (scalar_segments_of true o kind) ≡ false
scalar_shows None kind = refl
scalar_shows (Some w) kind = refl

template_shows : (w : List ℕ) (ps : List Segment) (tail : List ℕ) → shows ps ≡ false →
    shows (template_segments w ps tail) ≡ false
template_shows w ps tail none = shows_both ps (Word tail ∷ []) none refl

of_scalar : (w : List ℕ) (s : Scalar) (tail : List ℕ) →
    shows (template_segments w (scalar_segments_of true (scalar_word s) s.kind) tail) ≡ false
of_scalar w s tail =
    template_shows w (scalar_segments_of true (scalar_word s) s.kind) tail
    (scalar_shows (scalar_word s) s.kind)

value_shows : (v : Option VectorSize) (s : Scalar) → shows (value_segments true v s) ≡ false
value_shows None s = scalar_shows (scalar_word s) s.kind
value_shows (Some v) s = of_scalar (vector_word v) s (codes ">")

access_shows : (access : Option (List ℕ)) → shows (access_segments access) ≡ false
access_shows None = refl
access_shows (Some w) = refl

pointer_shows : (space : List ℕ) (access : Option (List ℕ)) (ps : List Segment) → shows ps ≡ false →
    shows (pointer_in space access ps) ≡ false
pointer_shows space access ps none = shows_both ps (access_segments access) none (access_shows access)

held_pointer_shows : (space access : Option (List ℕ)) (ps : List Segment) → shows ps ≡ false →
    shows (pointer_segments space access ps) ≡ false
held_pointer_shows None access ps none = none
held_pointer_shows (Some space) access ps none = pointer_shows space access ps none

valued_shows : (space access : Option (List ℕ)) (ps : List Segment) → shows ps ≡ false →
    shows (value_pointer_segments true space access ps) ≡ false
valued_shows None access ps none = refl
valued_shows (Some space) access ps none = pointer_shows space access ps none

image_shows : (dim : ImageDimension) (arrayed : Bool) (it : ImageClass) →
    shows (image_segments true dim arrayed it) ≡ false
image_shows dim arrayed (class.Sampled kind multi) =
    of_scalar (image_word (codes "texture_") multi dim arrayed)
    (record { kind = kind; width = 4 }) (codes ">")
image_shows dim arrayed (class.Depth multi) = refl
image_shows dim arrayed class.External = refl
image_shows dim arrayed (class.Storage format access) = refl

module _ (n : Names) (knows : ℕ → Bool) where
  length_shows : (it : ArraySize) → shows (length_segments (writer_context n knows) it) ≡ false
  length_shows (size.Constant number) = refl
  length_shows (size.Pending override_handle) = refl
  length_shows size.Dynamic = refl

  -- of a type, over those that it names
  inner_shows : (f : ℕ → List Segment) → ((h : ℕ) → shows (f h) ≡ false) → (it : TypeInner) →
      shows (inner_segments_by (writer_context n knows) f it) ≡ false
  inner_shows f none (inner.Scalar s) = scalar_shows (scalar_word s) s.kind
  inner_shows f none (inner.Vector v s) = of_scalar (vector_word v) s (codes ">")
  inner_shows f none (inner.Matrix columns rows s) =
      of_scalar (matrix_word columns rows) s (codes ">")
  inner_shows f none (inner.CooperativeMatrix columns rows s role) =
      of_scalar (cooperative_word columns rows) s (matrix_role_tail role)
  inner_shows f none (inner.Atomic s) = of_scalar (codes "atomic") s (codes ">")
  inner_shows f none (inner.Pointer base space) =
      held_pointer_shows (space_word space) (space_access_word space) (f base) (none base)
  inner_shows f none (inner.ValuePointer v s space) =
      valued_shows (space_word space) (space_access_word space) (value_segments true v s)
      (value_shows v s)
  inner_shows f none (inner.Array base length stride) =
      shows_both (f base) (length_segments (writer_context n knows) length) (none base)
      (length_shows length)
  inner_shows f none (inner.Struct members span) = refl
  inner_shows f none (inner.Image dim arrayed it) = image_shows dim arrayed it
  inner_shows f none (inner.Sampler comparison) = refl
  inner_shows f none (inner.AccelerationStructure vertex_return) = refl
  inner_shows f none (inner.RayQuery vertex_return) = refl
  inner_shows f none (inner.BindingArray base length) =
      shows_both (f base) (length_segments (writer_context n knows) length) (none base)
      (length_shows length)

  found_shows : (f : ℕ → List Segment) → ((h : ℕ) → shows (f h) ≡ false) → (h : ℕ)
      (o : Option Type_) → shows (found_segments_by (writer_context n knows) f h o) ≡ false
  found_shows f none h None = refl
  found_shows f none h (Some t) = by (is_struct t.inner)
    where
      by : (b : Bool) →
          shows (if b then Word (n.struct_name h) ∷ []
          else inner_segments_by (writer_context n knows) f t.inner)
          ≡ false
      by true = refl
      by false = inner_shows f none t.inner

  within_shows : (levels h : ℕ) → shows (segments_within levels (writer_context n knows) h) ≡ false
  within_shows zero h = refl
  within_shows (suc levels) h =
      found_shows (segments_within levels (writer_context n knows)) (within_shows levels) h
      (slice_get n.types h)

  type_shows : (h : ℕ) → shows (type_segments (writer_context n knows) h) ≡ false
  unfolding type_segments
  type_shows h = within_shows (suc h) h

-- ---- a type whose text was written
-- WGSL spells it
written_has_type_form : (m : Module) (names : NameMap) (h : ℕ) (content now : List ℕ) →
    HasWritten (type_segments (names_context m.types names) h) content now →
    has_type_form m.types (Handle h) ≡ true
written_has_type_form m names h content now written =
    by (type_key m.types (Handle h))
    (sym (text_known written.is_text (type_shows (names_of m.types names) (λ o. true) h))
    ∙ (type_row text-append (names_of m.types names) (λ o. true) h
    ∙ ap (option_map printed_type) (key_is_read (names_of m.types names) (Handle h))))
  where
    by : (o : Option (List ℕ)) →
        Some written.text ≡ option_map printed_type (option_map (key_read (names_of m.types names)) o) →
        is_some o ≡ true
    by None e = absurd cc
    by (Some key) e = refl

-- so a text can spell it, if it names no struct that no text declares
pub written_is_spellable : (m : Module) (names : NameMap) (h : ℕ) (content now : List ℕ) →
    HasWritten (type_segments (names_context m.types names) h) content now →
    names_undeclared m (Handle h) ≡ false → IsTrue (is_spellable m (Handle h))
written_is_spellable m names h content now written names_none =
    and_from (has_type_form m.types (Handle h)) (not (names_undeclared m (Handle h)))
    (written_has_type_form m names h content now written) (ap not names_none)
