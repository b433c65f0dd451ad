-- How an image is sampled: a word that is called with the operands, after them level zero where it
-- is written, as a whole number or not, and last an offset.
--
-- Throughout, op is an operator, and es are the forms of operands.
use Rattle.std.specs.Prelude.{ℕ, Bool, true, false, List, [], ◌∷◌, ◌++◌, codes, Option, Some, None}
use Rattle.module_semantics.specs.OperatorTable.{Operator, Gather, if_word, run_word}
use Rattle.naga_ir.specs.declared.expression.SwizzleComponent.{SwizzleComponent}
use Rattle.naga_ir.specs.declared.expression.SwizzleComponent.TheVariants as component
use Rattle.wgsl_text.specs.Expressions.{Expression, Arguments, Argument, NumberArgument}
use Rattle.wgsl_text.specs.Expressions.{ZeroArgument, Call, operands}
use Rattle.wgsl_text.specs.Types.{Named}

-- the number of a component
abbrev pub component_number : SwizzleComponent → ℕ
component_number component.X = 0
component_number component.Y = 1
component_number component.Z = 2
component_number component.W = 3

-- A gather's component is written before its operands, and not in the word that is called; to the
-- runs it belongs to the operator's word.
abbrev pub gathered_component : Operator → Option ℕ
gathered_component (Gather (Some component) level compares clamped arrayed offset) =
    Some (component_number component)
gathered_component op = None

abbrev pub sampling_word : Operator → List ℕ
sampling_word (Gather component level compares clamped arrayed offset) =
    codes "textureGather" ++ if_word compares (codes "Compare")
sampling_word op = run_word op

-- ---- arguments
abbrev pub component_then : Option ℕ → Arguments → Arguments
component_then (Some number) more = NumberArgument number more
component_then None more = more

abbrev pub operands_then : List Expression → Arguments → Arguments
operands_then [] more = more
operands_then (e ∷ es) more = Argument e (operands_then es more)

abbrev pub zero_then : Bool → (whole : Bool) → Arguments → Arguments
zero_then true whole more = ZeroArgument whole more
zero_then false whole more = more

-- the tree of an operator that samples, over operands and, as a constant, an offset if there is one
abbrev pub sampling_form : Operator → (at_zero whole : Bool) → List Expression →
    (offset : List Expression) → Expression
sampling_form op at_zero whole es offset =
    Call (Named (sampling_word op))
    (component_then (gathered_component op)
    (operands_then es (zero_then at_zero whole (operands offset))))
