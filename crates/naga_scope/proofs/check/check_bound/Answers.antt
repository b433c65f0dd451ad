use Rattle.std.proofs.Common.{[], ap, sym, ◌∙◌}
use Rattle.std.specs.Option.{option_map, option_map_or}
use Rattle.naga_ir.specs.Operands.{expression_operands}
use Rattle.naga_scope.specs.KnownFunctions.{handles_at, shape_of}
use Rattle.naga_scope.specs.ScopeChecks.{check_operands}
use Rattle.naga_scope.proofs.check.check_bound.Goals as goal

pub returns-in-Some : goal.returns-in-Some
returns-in-Some c =
    let s = handles_at c.args.scope.now in
    let at = sym c.expression_at.ensures ∙ ap (option_map (λ e. e.now)) c.in-Some.is in
    c.check_operands.ensures
    ∙ sym (ap (λ o. check_operands (shape_of c.args.known.now) s c.args.number c.args.handle
    (option_map_or expression_operands o [])) at)

pub returns-in-None : goal.returns-in-None
returns-in-None c =
    let s = handles_at c.args.scope.now in
    let at = sym c.expression_at.ensures ∙ ap (option_map (λ e. e.now)) c.in-None.is in
    sym (ap (λ o. check_operands (shape_of c.args.known.now) s c.args.number c.args.handle
    (option_map_or expression_operands o [])) at)
