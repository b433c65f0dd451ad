-- What is said of a type's spelling in a function, for types that have a form.
-- Serves `write_annotation`, `write_type` and `write_type_of`.
use Rattle.std.proofs.Common.{◌≡◌, ℕ, codes, Some}
use Rattle.std.proofs.Common.{refl, length}
use Rattle.std.specs.Prelude.{IsTrue}
use Rattle.naga_naming.specs.Keys.{names_in}
use Rattle.naga_info.specs.declared.info.TypeResolution.{TypeResolution}
use Rattle.naga_spelling.specs.Segments.{known_text}
use Rattle.naga_spelling.specs.Contexts.{names_context}
use Rattle.naga_spelling.specs.Spelling.{resolution_segments}
use Rattle.naga_words.specs.Output.{joined_texts}
use Rattle.naga_wgsl_fns.specs.declared.functions.FunctionText.{FunctionText}
use Rattle.naga_wgsl_fns.specs.FunctionText.{CanWrite}
use Rattle.naga_wgsl_fns.proofs.ModuleTexts.{can_of}
use Rattle.module_semantics.specs.AlikeTypes.{has_type_form}
use Rattle.module_semantics.specs.acceptance.Ranges.{resolution_fits}
use Rattle.naga_wgsl_shared.proofs.TypeRows.{resolution_spelled}
use Rattle.naga_wgsl_fns.specs.Types.{annotation_text, resolution_text, type_text}
use Rattle.naga_wgsl_shared.specs.Types.{spelled_text}

-- a type that is told
pub annotation_row : (f : FunctionText) (ty : TypeResolution) → annotation_text f ty
    ≡ joined_texts (codes ": ") (resolution_text f ty)
unfolding annotation_text joined_texts
annotation_row f ty = refl

pub type_same : (f : FunctionText) (ty : ℕ) → spelled_text f.known.shader.now ty ≡ type_text f ty
unfolding spelled_text type_text
type_same f ty = refl

pub resolution_known : (f : FunctionText) (can : CanWrite f) (r : TypeResolution) →
    IsTrue (has_type_form f.known.shader.now.types r) →
    IsTrue (resolution_fits (length f.known.shader.now.overrides) (length f.known.shader.now.types) r) →
    known_text (resolution_segments (names_context f.known.shader.now.types (names_in f.known.names.now)) r) ≡
    Some (resolution_text f r)
unfolding resolution_text
resolution_known f can =
    resolution_spelled f.known.shader.now (can_of f can) (names_in f.known.names.now) can.known.named
