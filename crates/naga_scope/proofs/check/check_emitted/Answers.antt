use Rattle.std.proofs.Common.{[], ap, false, refl, sym, true, ◌∙◌}
use Rattle.shader_runs.specs.Scope.{is_new}
use Rattle.module_semantics.specs.Names.{numbered_name}
use Rattle.naga_scope.specs.Availabilities.{availability_of, is_emittable_kind, operands_at}
use Rattle.naga_scope.specs.KnownFunctions.{handles_at, shape_of}
use Rattle.naga_scope.specs.ScopeChecks.{check_operands}
use Rattle.naga_scope.proofs.Emitting.{checked_by, stopped_kind, stopped_old}
use Rattle.naga_scope.proofs.check.check_emitted.Goals as goal

pub returns-then-not-is_new : goal.returns-then-not-is_new
returns-then-not-is_new c =
    let k = c.args.known.now in
    let h = c.args.handle in
    let old = sym (c.is_new.ensures.named (λ number. []) (numbered_name h)
    ∙ ap (λ t. is_new (availability_of (λ number. []) (numbered_name h) t)) c.availability.ensures)
    ∙ c.if-not-is_new.true in
    stopped_old k.whole.shader.now k.whole.info.now k.function.now k.info.now c.args.number h
    (handles_at c.args.scope.now) old

pub returns-then-not-is_emittable : goal.returns-then-not-is_emittable
returns-then-not-is_emittable c =
    let k = c.args.known.now in
    let h = c.args.handle in
    let new = sym (c.is_new.ensures.named (λ number. []) (numbered_name h)
    ∙ ap (λ t. is_new (availability_of (λ number. []) (numbered_name h) t)) c.availability.ensures)
    ∙ c.if-not-is_new.false in
    let kind = sym (c.is_emittable.ensures ∙ ap is_emittable_kind c.kind_at.ensures) ∙ c.if-not-is_emittable.true in
    stopped_kind k.whole.shader.now k.whole.info.now k.function.now k.info.now c.args.number h
    (handles_at c.args.scope.now) new kind

pub returns-then-is_bound : goal.returns-then-is_bound
returns-then-is_bound c =
    let k = c.args.known.now in
    let h = c.args.handle in
    let new = sym (c.is_new.ensures.named (λ number. []) (numbered_name h)
    ∙ ap (λ t. is_new (availability_of (λ number. []) (numbered_name h) t)) c.availability.ensures)
    ∙ c.if-not-is_new.false in
    let kind = sym (c.is_emittable.ensures ∙ ap is_emittable_kind c.kind_at.ensures) ∙ c.if-not-is_emittable.false in
    checked_by k.whole.shader.now k.whole.info.now k.function.now k.info.now c.args.number h
    (handles_at c.args.scope.now)
    c.requires.at.ordered c.requires.at.held true c.check_bound.result new kind
    (sym c.if-is_bound.true ∙ c.requires.bound) c.check_bound.ensures

pub returns-else-is_bound : goal.returns-else-is_bound
returns-else-is_bound c =
    let k = c.args.known.now in
    let h = c.args.handle in
    let s = handles_at c.args.scope.now in
    let new = sym (c.is_new.ensures.named (λ number. []) (numbered_name h)
    ∙ ap (λ t. is_new (availability_of (λ number. []) (numbered_name h) t)) c.availability.ensures)
    ∙ c.if-not-is_new.false in
    let kind = sym (c.is_emittable.ensures ∙ ap is_emittable_kind c.kind_at.ensures) ∙ c.if-not-is_emittable.false in
    checked_by k.whole.shader.now k.whole.info.now k.function.now k.info.now c.args.number h s
    c.requires.at.ordered c.requires.at.held false
    (check_operands (shape_of k) s c.args.number h (operands_at k.function.now.expressions h))
    new kind (sym c.if-is_bound.false ∙ c.requires.bound) refl
