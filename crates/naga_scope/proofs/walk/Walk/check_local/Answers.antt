use Rattle.std.proofs.Common.{[], Option, ap, ap₂, ◌∙◌, ℕ}
use Rattle.std.specs.Option.{option_map, option_or, option_to_list}
use Rattle.std.specs.Prelude.{None, Some, if◌then◌else◌}
use Rattle.naga_scope.proofs.ScopeChecks.{given_back}
use Rattle.naga_scope.specs.FirstLack.{expression_lack, scope_lack, unless_lack}
use Rattle.naga_scope.specs.SpelledTypes.{is_unspellable}
use Rattle.naga_scope.specs.Walked.{walked}
use Rattle.naga_scope.specs.declared.lines.Declared.TheVariants as declared_by
use Rattle.naga_scope.specs.declared.lines.Line.TheVariants.{Local}
use Rattle.naga_scope.specs.declared.plan.PlanError.TheVariants.{OutOfScope, TypeWithoutForm, WithoutForm}
use Rattle.naga_scope.proofs.walk.Walk.check_local.Goals as goal

pub returns-in_err-check_first_value : goal.returns-in_err-check_first_value
returns-in_err-check_first_value c =
    let k = c.args.self.now.known in
    let fault = c.in_err-check_first_value.field-0.0 in
    let l = c.args.local.now in
    let written = expression_lack (walked c.args.self.now) (Local c.args.handle) (option_to_list l.init) in
    let type = if is_unspellable k.whole.shader.now l.ty
    then Some (TypeWithoutForm (declared_by.Local c.args.handle) l.ty) else None in
    given_back c.from_residual.result (OutOfScope fault) c.from_residual.ensures.1
    ∙ ap (λ r. unless_lack tt (option_or (scope_lack r) (option_or written type)))
    (c.in_err-check_first_value.ensures (λ number. []) k.whole.shader.now k.whole.info.now k.info.now c.requires.start)

pub returns-in-Some : goal.returns-in-Some
returns-in-Some c =
    let k = c.args.self.now.known in
    let l = c.args.local.now in
    let type = if is_unspellable k.whole.shader.now l.ty
    then Some (TypeWithoutForm (declared_by.Local c.args.handle) l.ty) else None in
    ap₂ (λ r (o : Option ℕ). unless_lack tt (option_or (scope_lack r)
    (option_or (option_map (λ h. WithoutForm (Local c.args.handle) h) o) type)))
    (c.in_ok-check_first_value.ensures (λ number. []) k.whole.shader.now k.whole.info.now k.info.now c.requires.start)
    c.in-Some.ensures

pub returns : goal.returns
returns c =
    let k = c.args.self.now.known in
    let l = c.args.local.now in
    let type = if is_unspellable k.whole.shader.now l.ty
    then Some (TypeWithoutForm (declared_by.Local c.args.handle) l.ty) else None in
    c.check_local_type.ensures
    ∙ ap₂ (λ r (o : Option ℕ). unless_lack tt (option_or (scope_lack r)
    (option_or (option_map (λ h. WithoutForm (Local c.args.handle) h) o) type)))
    (c.in_ok-check_first_value.ensures (λ number. []) k.whole.shader.now k.whole.info.now k.info.now c.requires.start)
    c.in_default.ensures
