use Rattle.std.proofs.Common.{◌≡◌}
use Rattle.std.specs.List.{flat_map}
use Rattle.naga_ir.specs.Operands.{expression_operands}
use Rattle.naga_acceptance.specs.Counts.{with_uses}
use Rattle.naga_acceptance.proofs.counts.add_function_uses.Given as goal

abbrev pub invariant-loop-expression : goal.invariant-loop-expression
invariant-loop-expression l = with_uses l.infos (flat_map (λ p. expression_operands p.1) l.expression-iterator)
    ≡ with_uses l.initial.infos (flat_map expression_operands l.expressions)
