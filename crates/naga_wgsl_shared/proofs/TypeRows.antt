-- What is said of a type's spelling, for types that have a form.
-- Serves `write_type`.
use Rattle.std.proofs.Common.{◌≡◌, ℕ, ◌<◌, true, List, [], ◌∷◌, ◌++◌, Option, Some, None}
use Rattle.std.proofs.Common.{refl, sym, ap, subst, ◌∙◌, slice_get, length}
use Rattle.std.specs.Prelude.{Bool, IsTrue, unwrap_or}
use Rattle.std.specs.Option.{is_some, option_map}
use Rattle.std.proofs.lemmas.Option.{slice_get_within}
use Rattle.naga_ir.specs.declared.types.Type_.{Type_}
use Rattle.naga_ir.specs.declared.types.TypeInner.{TypeInner}
use Rattle.naga_ir.specs.declared.types.TypeInner.TheVariants as inner
use Rattle.wgsl_text.specs.Types.{Named}
use Rattle.wgsl_text.proofs.Text.{text-append}
use Rattle.naga_form.proofs.types.TypeTrees.{only_text, lacks_unknown, type_row, inner_tree_row}
use Rattle.naga_naming.specs.Keys.{NameMap}
use Rattle.naga_info.specs.declared.info.TypeResolution.{TypeResolution}
use Rattle.naga_info.specs.declared.info.TypeResolution.TheVariants as resolution
use Rattle.naga_spelling.specs.Segments.{Segment, Word, Shown, Missing, IsText, before_missing}
use Rattle.naga_spelling.specs.Segments.{known_text, lacks}
use Rattle.naga_words.proofs.SegmentWriting.{reason_as}
use Rattle.naga_spelling.specs.Contexts.{names_of, names_context}
use Rattle.naga_spelling.specs.Spelling.{FitsResolution, IsInOrder, knows_override, type_segments}
use Rattle.naga_spelling.specs.Spelling.{resolution_segments, knows_size, length_within}
use Rattle.naga_spelling.specs.Sink.{IsAfter}
use Rattle.naga_form.specs.TypeTrees.{resolution_tree}
use Rattle.naga_words.specs.declared.error.TypeTextError.{TypeTextError}
use Rattle.wgsl_text.specs.Reading.{printed_type}
use Rattle.module_semantics.specs.Names.{HasNamesOf, module_names}
use Rattle.naga_words.specs.Output.{AppendsUnlessWanting, AppendsText, HasAppended}
use Rattle.naga_words.specs.Output.{AppendsSegmentsUnlessWanting, AppendsSegments}
use Rattle.naga_words.specs.Output.{HasAppendedSegments, OutputView, SpelledSegments, Wrote}
use Rattle.naga_wgsl_shared.specs.ModuleText.{CanWriteOf}
use Rattle.module_semantics.specs.AlikeTypes.{key_within, found_key_by, handle_key, has_type_form}
use Rattle.module_semantics.specs.acceptance.Ranges.{resolution_fits}
use Rattle.module_semantics.specs.Types.{type_names}
use Rattle.naga_form.proofs.types.PartTypes.{known_before, known_within, named_alike, type_before}
use Rattle.naga_form.proofs.types.WrittenTypes.{resolution_same, tree_there}
use Rattle.naga_ir.specs.declared.module.Module.{Module}
use Rattle.naga_ir.specs.declared.types.ArraySize.{ArraySize}
use Rattle.naga_ir.specs.declared.types.ArraySize.TheVariants as size
use Rattle.std.proofs.lemmas.Bool.{ltb-true}
use Rattle.naga_wgsl_shared.specs.Types.{spelled_text}

-- where each part is known, none is refused
whole_word : (w : List ℕ) (ps : List Segment) (t : List ℕ) (o : Option (List ℕ)) →
    known_text ps ≡ o → ((u : List ℕ) → known_text ps ≡ Some u → before_missing ps ≡ ps) →
    option_map (λ r. w ++ r) o ≡ Some t → before_missing (Word w ∷ ps) ≡ Word w ∷ ps
whole_word w ps t None k same e = absurd (cc)
whole_word w ps t (Some u) k same e = ap (λ qs. Word w ∷ qs) (same u k)

known_whole : (ps : List Segment) (t : List ℕ) → known_text ps ≡ Some t → before_missing ps ≡ ps
known_whole [] t e = refl
known_whole (Word w ∷ ps) t e = whole_word w ps t (known_text ps) refl (λ u k. known_whole ps u k) e
known_whole (Shown ∷ ps) t e = absurd (cc)
known_whole (Missing ∷ ps) t e = absurd (cc)

-- parts of known text, written to an output
module _ (ps : List Segment) (t : List ℕ) (known : known_text ps ≡ Some t) where
  lacks_nothing : lacks ps ≡ true → ⊥
  lacks_nothing lack = let none : Some t ≡ None = sym known ∙ lacks_unknown ps lack in cc

  module _ (refuses : Bool) (before after : OutputView) where
    known_lies : (want : Option TypeTextError) → HasAppendedSegments refuses ps before after want
        → HasAppended before.content before.failures t after.content after.failures want
    known_lies None lies =
        let only = only_text ps lies.0.text t lies.0.is_text known in
        (lies.0.following ∙ ap (λ u. before.content ++ u) only, lies.1)
    known_lies (Some want) lies =
        let whole = subst (λ qs. IsText qs lies.0.whole) (known_whole ps t known) lies.0.is_text in
        let only = only_text ps lies.0.whole t whole known in (
          subst (λ u. IsAfter before.content u after.content) only lies.0.following,
          reason_as (λ refused. lacks_nothing refused.1) before.failures after.failures want lies.1,
        )

    known_follows : (want : Option TypeTextError) → AppendsSegmentsUnlessWanting want refuses ps before after
        → AppendsUnlessWanting want before t after
    known_follows None follow = known_lies after.want follow
    known_follows (Some want) follow = follow

  pub known_wrote : {refuses : Bool} {before after : OutputView} → SpelledSegments refuses before after ps
      → Wrote before after t
  unfolding AppendsSegments AppendsText
  known_wrote {refuses} {before} {after} w =
      record { appends = (known_follows refuses before after before.want w.appends.0, w.appends.1) }

row_of : (types : List Type_) (names : NameMap) (r : TypeResolution) →
    known_text (resolution_segments (names_context types names) r) ≡ option_map printed_type
    (resolution_tree (names_of types names) r)
row_of types names (resolution.Handle h) = type_row text-append (names_of types names) (λ handle. true) h
row_of types names (resolution.Value i) = inner_tree_row text-append (names_of types names) (λ handle. true) i

-- a type of the module that has a form is there
pub formed_within : (types : List Type_) (ty : ℕ) → IsTrue (has_type_form types (resolution.Handle ty))
    → ty < length types
unfolding handle_key
formed_within types ty is = by (slice_get types ty) refl is
  where
    by : (o : Option Type_) → slice_get types ty ≡ o → is_some (found_key_by (key_within ty types) ty o)
        ≡ true → ty < length types
    by None at is = absurd (cc)
    by (Some t) at is = slice_get_within types ty t at

-- the writer's context knows all overrides
all_sizes : (types : List Type_) (names : NameMap) (l : ArraySize) → IsTrue (knows_size (names_context types names) l)
all_sizes types names (size.Constant number) = refl
all_sizes types names (size.Pending o) = refl
all_sizes types names size.Dynamic = refl

all_known : (types : List Type_) (names : NameMap) (it : TypeInner) →
    IsTrue (knows_override (names_context types names) it)
all_known types names (inner.Array base l stride) = all_sizes types names l
all_known types names (inner.BindingArray base l) = all_sizes types names l
all_known types names _ = refl

-- ---- under the names of a module
module _ (m : Module) (can : CanWriteOf m) (names : NameMap) where
  -- what a context asks for
  pub in_order : IsInOrder (names_context m.types names)
  in_order = record {
    before = λ h t at. type_before m can.info can.accepted h t at;
    known = λ h t at. all_known m.types names t.inner;
  }

  pub resolution_within : (r : TypeResolution) →
      IsTrue (resolution_fits (length m.overrides) (length m.types) r) → FitsResolution (names_context m.types names) r
  resolution_within (resolution.Handle h) fits = ltb-true h (length m.types) fits
  resolution_within (resolution.Value it) fits = record {
    in_range = known_before m can.info can.accepted (resolution.Value it) fits it refl;
    knows = all_known m.types names it;
  }

  module _ (named : HasNamesOf m names) where
    -- the spelling of a type that has a form, under the map's names, which are the module's
    formed_known : (r : TypeResolution) → IsTrue (has_type_form m.types r) →
        ((it : TypeInner) → r ≡ resolution.Value it → length_within (length m.overrides) it ≡ true) →
        known_text (resolution_segments (names_context m.types names) r) ≡
        Some (printed_type (unwrap_or (resolution_tree (type_names m) r) (Named [])))
    formed_known r formed within =
        let t = tree_there (type_names m) r formed in
        let same = resolution_same m.types (length m.overrides) names (module_names m)
        (named_alike m can.info can.accepted names named) r within in
        row_of m.types names r ∙ ap (option_map printed_type) (same ∙ t.1)
        ∙ ap (λ o. Some (printed_type (unwrap_or o (Named [])))) (sym t.1)

    pub type_known : (ty : ℕ) → IsTrue (has_type_form m.types (resolution.Handle ty)) →
        known_text (type_segments (names_context m.types names) ty) ≡ Some (spelled_text m ty)
    unfolding spelled_text
    type_known ty formed = formed_known (resolution.Handle ty) formed (λ it is. absurd (cc))

    pub resolution_spelled : (r : TypeResolution) → IsTrue (has_type_form m.types r) →
        IsTrue (resolution_fits (length m.overrides) (length m.types) r) →
        known_text (resolution_segments (names_context m.types names) r) ≡
        Some (printed_type (unwrap_or (resolution_tree (type_names m) r) (Named [])))
    resolution_spelled r formed fits =
        formed_known r formed (λ it is. known_within m can.info can.accepted r fits it is)
