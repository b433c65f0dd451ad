use Rattle.std.proofs.Common.{[], ap, sym, ◌∙◌}
use Rattle.module_semantics.specs.Names.{numbered_name}
use Rattle.module_semantics.specs.Namings.{inner_names}
use Rattle.shader_runs.specs.Scope.{after_result, is_new}
use Rattle.naga_scope.specs.Availabilities.{availability_of}
use Rattle.naga_scope.specs.KnownFunctions.{handles_at}
use Rattle.naga_scope.specs.ScopeChecks.{check_result, unless}
use Rattle.naga_scope.specs.declared.scope_faults.ScopeFault.TheVariants.{IntroducedBefore}
use Rattle.naga_scope.proofs.Logs.{extends_refl}
use Rattle.naga_scope.proofs.check.check_result.Goals as goal

pub returns-then-is_new-clause-check : goal.returns-then-is_new-clause-check
returns-then-is_new-clause-check c =
    let h = c.in-Some.handle in
    let s = handles_at c.args.scope.now in
    let new = sym (c.is_new-is_new.ensures.named (λ number. []) (numbered_name h)
    ∙ ap (λ t. is_new (availability_of (λ number. []) (numbered_name h) t)) c.availability.ensures)
    ∙ c.if-is_new.true in
    sym (ap (λ o. check_result c.args.number o s) c.in-Some.is
    ∙ ap (λ b. unless b (IntroducedBefore c.args.number h)) new)

pub returns-else-is_new-clause-check : goal.returns-else-is_new-clause-check
returns-else-is_new-clause-check c =
    let h = c.in-Some.handle in
    let s = handles_at c.args.scope.now in
    let old = sym (c.is_new-is_new.ensures.named (λ number. []) (numbered_name h)
    ∙ ap (λ t. is_new (availability_of (λ number. []) (numbered_name h) t)) c.availability.ensures)
    ∙ c.if-is_new.false in
    sym (ap (λ o. check_result c.args.number o s) c.in-Some.is
    ∙ ap (λ b. unless b (IntroducedBefore c.args.number h)) old)

pub returns-then-is_new-clause-after : goal.returns-then-is_new-clause-after
returns-then-is_new-clause-after c names m g =
    c.introduce.ensures.handles names m (λ number. []) g
    ∙ ap (λ o. after_result (inner_names names m (λ number. []) g) o (handles_at c.args.scope.now)) (sym c.in-Some.is)

pub returns-else-is_new-clause-after : goal.returns-else-is_new-clause-after
returns-else-is_new-clause-after c names m g =
    c.introduce.ensures.handles names m (λ number. []) g
    ∙ ap (λ o. after_result (inner_names names m (λ number. []) g) o (handles_at c.args.scope.now)) (sym c.in-Some.is)

pub returns-in-None-clause-kept : goal.returns-in-None-clause-kept
returns-in-None-clause-kept c = extends_refl _
