use Rattle.std.proofs.Common.{ap, ◌∙◌, sym}
use Rattle.std.specs.List.{flat_map}
use Rattle.naga_ir.specs.Operands.{expression_operands}
use Rattle.naga_acceptance.specs.Counts.{with_uses}
use Rattle.naga_acceptance.proofs.Counting.{operands_of_pairs, with_uses_append}
use Rattle.naga_acceptance.proofs.counts.add_function_uses.Goals as goal

pub loop-expression-init : goal.loop-expression-init
loop-expression-init c =
    ap (λ ps. with_uses c.args.infos.now (flat_map (λ p. expression_operands p.1) ps))
    (c.into_iter-expression-iterator.ensures.into_iter_gives ∙ c.iter-expression-items.ensures)
    ∙ ap (λ positions. with_uses c.args.infos.now positions) (operands_of_pairs 0 c.args.expressions.now)

pub loop-expression-preserved : goal.loop-expression-preserved
loop-expression-preserved c =
    ap (λ es. with_uses es (flat_map (λ p. expression_operands p.1) c.next.new.self)) c.add_expression_uses.ensures
    ∙ sym (with_uses_append c.loop-expression.infos (expression_operands c.in-Some.expression.now)
    (flat_map (λ p. expression_operands p.1) c.next.new.self))
    ∙ ap (λ ps. with_uses c.loop-expression.infos (flat_map (λ p. expression_operands p.1) ps))
    (sym c.in-Some.ensures.steps)
    ∙ c.loop-expression.invariant
