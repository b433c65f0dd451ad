use Rattle.std.proofs.Common.{◌∙◌, ℕ}
use Rattle.naga_ir.specs.declared.module.GlobalVariable.{GlobalVariable}
use Rattle.module_semantics.specs.Enables.{Extension}
use Rattle.naga_wgsl_out.proofs.FoundEnables.{found_all, found_in_pairs, found_next}
use Rattle.naga_wgsl_out.proofs.enables.of_variables.Goals as goal

pub loop-variable-init : goal.loop-variable-init
loop-variable-init c =
    found_in_pairs (λ (x : Extension) (v : GlobalVariable). x.for_space v.space) _ _ c.args.variables.now
    c.none-found.ensures
    (c.into_iter-variable-iterator.ensures.into_iter_gives ∙ c.iter-variable-items.ensures)

pub loop-variable-preserved : goal.loop-variable-preserved
loop-variable-preserved c =
    found_next (λ (x : Extension) (v : GlobalVariable). x.for_space v.space) _ _ _ _ _ _ _
    c.or-found.ensures c.of_space.ensures c.in-Some.ensures.steps c.loop-variable.invariant

pub returns : goal.returns
returns c = found_all (λ (x : Extension) (p : ℕ × GlobalVariable). x.for_space p.1.space) _ _ _
    c.in-None.ensures.steps.0 c.loop-variable.invariant
