use Rattle.std.proofs.Common.{◌≡◌, ◌<◌, length, Some, ap, sym, ◌∙◌, arith, slice_get}
use Rattle.std.proofs.lemmas.Option.{slice_get_read}
use Rattle.naga_acceptance.proofs.Groups.{function_there, past_functions}
use Rattle.naga_acceptance.proofs.agreeing.group_at.Goals as goal

pub returns-then-number-functions-clause-group : goal.returns-then-number-functions-clause-group
returns-then-number-functions-clause-group c =
    let m = c.args.module.now
    in let info = c.args.info.now
    in let in_infos : c.args.number < length c.as_slice-infos.result.now = omega arith
    in let here : slice_get m.functions c.args.number ≡ Some c.index.result.now =
    ap (slice_get m.functions) (sym c.from_index.ensures) ∙ c.index.ensures
    in let there : slice_get info.functions.items c.args.number ≡ Some c.index-infos-index.result =
    ap (λ l. slice_get l c.args.number) (sym c.as_slice-infos.ensures.value)
    ∙ slice_get_read c.as_slice-infos.result.now (length c.as_slice-infos.result.now) c.args.number
    c.index-infos-index.result (omega arith) in_infos c.index-infos-index.is
    in ap Some c.function_group.ensures
    ∙ sym (function_there m info c.args.number c.index.result.now c.index-infos-index.result here there)

pub returns-else-number-functions-clause-group : goal.returns-else-number-functions-clause-group
returns-else-number-functions-clause-group c =
    c.further_group_at.ensures.group
    ∙ sym (past_functions c.args.module.now c.args.info.now c.args.number c.min-functions.result
    (omega (arith, ap length c.as_slice-infos.ensures.value)) (omega arith))
