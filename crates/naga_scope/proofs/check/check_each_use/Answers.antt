use Rattle.std.proofs.Common.{ap, sym, ◌∙◌}
use Rattle.std.specs.Result.{result_and}
use Rattle.naga_scope.specs.KnownFunctions.{handles_at, shape_of}
use Rattle.naga_scope.specs.ScopeChecks.{check_uses}
use Rattle.naga_scope.proofs.ScopeChecks.{given_back}
use Rattle.naga_scope.proofs.check.check_each_use.Goals as goal

pub returns-in_err-check_use : goal.returns-in_err-check_use
returns-in_err-check_use c =
    let s = handles_at c.args.scope.now in
    let f = shape_of c.args.known.now in
    let n = c.args.number in
    given_back c.from_residual.result c.in_err-check_use.field-0.0 c.from_residual.ensures.1
    ∙ sym (ap (check_uses f s n) c.in-Some.ensures.steps
    ∙ ap (λ r. result_and r (check_uses f s n c.next.new.self)) (sym c.in_err-check_use.ensures))
    ∙ c.loop-operand.invariant

pub loop-operand-preserved : goal.loop-operand-preserved
loop-operand-preserved c =
    let s = handles_at c.args.scope.now in
    let f = shape_of c.args.known.now in
    let n = c.args.number in
    sym (ap (check_uses f s n) c.in-Some.ensures.steps
    ∙ ap (λ r. result_and r (check_uses f s n c.next.new.self)) (sym c.in_ok-check_use.ensures))
    ∙ c.loop-operand.invariant
