use Rattle.std.proofs.Common.{ap, sym, ◌∙◌}
use Rattle.naga_scope.proofs.Lowest.{lower_more, lower_none}
use Rattle.naga_scope.specs.FirstLack.{lowest_in}
use Rattle.naga_scope.specs.Lacks.{lower, lowest_of}
use Rattle.naga_scope.specs.Walked.{walked}
use Rattle.naga_scope.proofs.walk.Walk.lack_of_operands.Goals as goal

pub loop-operand-init : goal.loop-operand-init
loop-operand-init c =
    ap (lowest_of (lowest_in (walked c.args.self.now)))
    (c.into_iter-operand-iterator.ensures.into_iter_gives ∙ c.operands-operand-items.ensures)

pub loop-operand-preserved : goal.loop-operand-preserved
loop-operand-preserved c =
    let lack = lowest_in (walked c.args.self.now) in
    ap (λ o. lower o (lowest_of lack c.next.new.self))
    (c.lower-found.ensures ∙ ap (lower c.loop-operand.found) c.lack_of.ensures)
    ∙ lower_more lack c.loop-operand.found c.in-Some.operand _ c.next.new.self _ c.in-Some.ensures.steps
    c.loop-operand.invariant

pub returns : goal.returns
returns c =
    let lack = lowest_in (walked c.args.self.now) in
    sym (lower_none c.loop-operand.found)
    ∙ (ap (λ hs. lower c.loop-operand.found (lowest_of lack hs)) (sym c.in-None.ensures.steps.0)
    ∙ c.loop-operand.invariant)
