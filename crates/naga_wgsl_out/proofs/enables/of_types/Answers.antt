use Rattle.std.proofs.Common.{◌∙◌, ℕ}
use Rattle.naga_ir.specs.declared.types.Type_.{Type_}
use Rattle.module_semantics.specs.Enables.{Extension, type_needs}
use Rattle.naga_wgsl_out.proofs.FoundEnables.{found_all, found_in_pairs, found_next}
use Rattle.naga_wgsl_out.proofs.enables.of_types.Goals as goal

pub loop-ty-init : goal.loop-ty-init
loop-ty-init c =
    found_in_pairs (λ (x : Extension) (t : Type_). type_needs x t.inner) _ _ c.args.types.now c.none-found.ensures
    (c.into_iter-ty-iterator.ensures.into_iter_gives ∙ c.iter-ty-items.ensures)

pub loop-ty-preserved : goal.loop-ty-preserved
loop-ty-preserved c =
    found_next (λ (x : Extension) (t : Type_). type_needs x t.inner) _ _ _ _ _ _ _
    c.or-found.ensures c.of_type.ensures c.in-Some.ensures.steps c.loop-ty.invariant

pub returns : goal.returns
returns c = found_all (λ (x : Extension) (p : ℕ × Type_). type_needs x p.1.inner) _ _ _
    c.in-None.ensures.steps.0 c.loop-ty.invariant
