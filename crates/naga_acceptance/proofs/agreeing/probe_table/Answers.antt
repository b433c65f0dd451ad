use Rattle.std.proofs.Common.{◌≡◌, ◌+◌, ◌%◌, ap, sym, ◌∙◌, arith, Some, None, slice_index_or}
use Rattle.std.specs.Option.{is_some}
use Rattle.module_semantics.specs.acceptance.AgreeingOperators.{groups_of}
use Rattle.naga_acceptance.specs.Uses.{operation, site_after, site_answer, slot_after}
use Rattle.naga_acceptance.proofs.Remembering.{passed_further}
use Rattle.naga_acceptance.proofs.agreeing.probe_table.Goals as goal

pub loop-steps-preserved : goal.loop-steps-preserved
loop-steps-preserved c =
    let types = c.args.module.now.types
    in let gs = groups_of c.args.module.now c.args.info.now
    in let v = operation types c.args.used.now
    in let slots = c.args.slots
    in let steps = c.loop-steps.steps
    in let here : c.slot_following-slot.result ≡ slot_after slots v steps =
    c.slot_following-slot.ensures.slot ∙ ap (λ h. (h % slots + steps) % slots) c.requires.hash
    in let there : site_after slots c.args.table.now v steps ≡ Some c.in-Some.site =
    ap (λ k. slice_index_or c.args.table.now k None) (sym here) ∙ c.in-Some.is
    in passed_further types gs slots c.args.table.now v steps (steps + 1) (omega arith) c.loop-steps.invariant
    (ap is_some there)
    (ap (λ o. site_answer types gs o v) there ∙ sym c.in_default-site_answer.ensures)
