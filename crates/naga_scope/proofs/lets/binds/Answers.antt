use Rattle.std.proofs.Common.{ap, sym, ◌∙◌}
use Rattle.std.specs.Option.{option_map, option_map_or}
use Rattle.naga_ir.specs.Kinds.{kind_of}
use Rattle.naga_ir.specs.declared.kind.ExpressionKind.TheVariants.{Result}
use Rattle.naga_scope.specs.Availabilities.{is_emittable_kind}
use Rattle.naga_scope.proofs.ShapeKinds.{emitted_binds, others_bind}
use Rattle.naga_scope.proofs.lets.binds.Goals as goal

pub returns-then-is_emittable : goal.returns-then-is_emittable
returns-then-is_emittable c m known same =
    let at = sym c.expression_at.ensures ∙ ap (option_map (λ e. e.now)) c.in-Some.is in
    c.is_asked_for.ensures
    ∙ emitted_binds m known c.args.function.now c.args.info.now c.args.handle
    c.in-Some.expression.now at
    (ap (λ o. is_emittable_kind (option_map_or kind_of o Result)) at
    ∙ (sym (c.is_emittable.ensures ∙ ap is_emittable_kind c.kind.ensures) ∙ c.if-is_emittable.true))

pub returns-else-is_emittable : goal.returns-else-is_emittable
returns-else-is_emittable c m known same =
    let at = sym c.expression_at.ensures ∙ ap (option_map (λ e. e.now)) c.in-Some.is in
    c.if-is_emittable.false
    ∙ others_bind m known c.args.function.now c.args.info.now c.args.handle
    (ap (λ o. is_emittable_kind (option_map_or kind_of o Result)) at
    ∙ (sym (c.is_emittable.ensures ∙ ap is_emittable_kind c.kind.ensures) ∙ c.if-is_emittable.false))

pub returns-in-None : goal.returns-in-None
returns-in-None c m known same =
    let at = sym c.expression_at.ensures ∙ ap (option_map (λ e. e.now)) c.in-None.is in
    others_bind m known c.args.function.now c.args.info.now c.args.handle
    (ap (λ o. is_emittable_kind (option_map_or kind_of o Result)) at)
