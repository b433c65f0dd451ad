-- What is displayed of an error, as `function 3, expression 41: it has no type`.
use Rattle.std.specs.Prelude.{ℕ, List, ◌++◌, codes}
use Rattle.naga_acceptance.specs.FaultTexts.{item_text, unaccepted_text}
use Rattle.naga_inference.specs.declared.errors.InferenceError.{InferenceError}
use Rattle.naga_inference.specs.declared.errors.InferenceError.TheVariants as error
use Rattle.naga_inference.specs.declared.errors.Untyped.{Untyped}
use Rattle.naga_inference.specs.declared.rules.Missing.{Missing}
use Rattle.naga_inference.specs.declared.rules.Missing.TheVariants as missing

abbrev pub missing_text : Missing → List ℕ
missing_text missing.Rule = codes "it has no type"
missing_text missing.SpecialType = codes "the module has no special type for it"

abbrev pub untyped_text : Untyped → List ℕ
untyped_text u = item_text u.position ++ (codes ": " ++ missing_text u.missing)

abbrev pub error_text : InferenceError → List ℕ
error_text (error.Untyped position) =
    item_text position ++ (codes ": " ++ missing_text missing.Rule)
error_text (error.Undeclared position) =
    item_text position ++ (codes ": " ++ missing_text missing.SpecialType)
error_text (error.Unaccepted unaccepted) = unaccepted_text unaccepted
