use Rattle.std.proofs.Common.{◌≡◌, ◌<◌, length, min, Some, ap, sym, ◌∙◌, arith, slice_get}
use Rattle.std.proofs.lemmas.Option.{slice_get_read}
use Rattle.module_semantics.specs.acceptance.AgreeingOperators.{function_group}
use Rattle.naga_acceptance.proofs.Groups.{entry_point_there, own_there, none_there}
use Rattle.naga_acceptance.proofs.agreeing.further_group_at.Goals as goal

pub returns-then-number-count-clause-group : goal.returns-then-number-count-clause-group
returns-then-number-count-clause-group c =
    let m = c.args.module.now
    in let info = c.args.info.now
    in let points = c.as_slice-entry_points.ensures.value
    in let infos = c.as_slice-infos.ensures.value
    in let in_points : c.args.number < length c.as_slice-entry_points.result.now = omega arith
    in let in_infos : c.args.number < length c.as_slice-infos.result.now = omega arith
    in let here : slice_get m.entry_points.items c.args.number ≡ Some c.index-entry_points-index.result =
    ap (λ l. slice_get l c.args.number) (sym points)
    ∙ slice_get_read c.as_slice-entry_points.result.now (length c.as_slice-entry_points.result.now)
    c.args.number c.index-entry_points-index.result (omega arith) in_points
    c.index-entry_points-index.is
    in let there : slice_get info.entry_points.items c.args.number ≡ Some c.index-infos-index.result =
    ap (λ l. slice_get l c.args.number) (sym infos)
    ∙ slice_get_read c.as_slice-infos.result.now (length c.as_slice-infos.result.now) c.args.number
    c.index-infos-index.result (omega arith) in_infos c.index-infos-index.is
    in ap Some c.function_group.ensures
    ∙ ap (λ p. Some (function_group p.function c.index-infos-index.result)) (sym c.index-entry_points-index.is)
    ∙ sym (entry_point_there m info c.args.number c.index-entry_points-index.result c.index-infos-index.result
    here there)

pub returns-then-number-count-2-clause-group : goal.returns-then-number-count-2-clause-group
returns-then-number-count-2-clause-group c =
    let count : c.args.number ≡ min (length c.args.module.now.entry_points.items)
    (length c.args.info.now.entry_points.items) =
    omega (arith, ap length c.as_slice-entry_points.ensures.value, ap length c.as_slice-infos.ensures.value)
    in ◌∙◌ {b = Some record {
      expressions = c.args.module.now.global_expressions;
      known = c.args.info.now.const_expression_types.items;
    }}
    (ap (λ known. Some record {
      expressions = c.args.module.now.global_expressions;
      known = known;
    }) c.as_slice.ensures.value)
    (sym (own_there c.args.module.now c.args.info.now c.args.number count))

pub returns-else-number-count-2-clause-group : goal.returns-else-number-count-2-clause-group
returns-else-number-count-2-clause-group c =
    sym (none_there c.args.module.now c.args.info.now c.args.number
    (omega (arith, ap length c.as_slice-entry_points.ensures.value, ap length c.as_slice-infos.ensures.value)))
