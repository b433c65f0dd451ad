use Rattle.std.proofs.Common.{[], None, sym, ◌∙◌}
use Rattle.naga_form.proofs.Fits.{named_one}
use Rattle.naga_scope.proofs.Logs.{extends_refl}
use Rattle.naga_scope.proofs.ScopeChecks.{given_back, not_ok}
use Rattle.naga_scope.proofs.check.check_one.Goals as goal

pub returns-in_err-check_emitted-clause-check : goal.returns-in_err-check_emitted-clause-check
returns-in_err-check_emitted-clause-check c =
    given_back c.from_residual.result c.in_err-check_emitted.field-0.0 c.from_residual.ensures.1
    ∙ c.in_err-check_emitted.ensures

pub returns-in_err-check_emitted-clause-after : goal.returns-in_err-check_emitted-clause-after
returns-in_err-check_emitted-clause-after c holds =
    not_ok c.from_residual.result c.in_err-check_emitted.field-0.0 c.from_residual.ensures.1 holds

pub returns-in_err-check_emitted-clause-named : goal.returns-in_err-check_emitted-clause-named
returns-in_err-check_emitted-clause-named c holds =
    not_ok c.from_residual.result c.in_err-check_emitted.field-0.0 c.from_residual.ensures.1 holds

pub returns-in_err-check_emitted-clause-kept : goal.returns-in_err-check_emitted-clause-kept
returns-in_err-check_emitted-clause-kept c = extends_refl _

pub returns-clause-after : goal.returns-clause-after
returns-clause-after c holds =
    let k = c.args.known.now in
    c.emit.ensures.handles (λ key. None) k.whole.shader.now k.whole.info.now k.info.now (λ number. []) 0
    c.binds-is_bound.ensures

pub returns-clause-named : goal.returns-clause-named
returns-clause-named c holds =
    let k = c.args.known.now in
    c.emit.ensures.named ∙ sym (named_one k.whole.shader.now k.whole.info.now k.function.now k.info.now c.args.handle
    c.args.scope.now.named)
