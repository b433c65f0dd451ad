use Rattle.std.proofs.Common.{◌<◌, ◌∙◌, ap, length, arith, subst, sym}
use Rattle.std.proofs.lemmas.Option.{slice_get_within}
use Rattle.module_semantics.specs.acceptance.AgreeingOperators.{groups_of}
use Rattle.naga_acceptance.specs.Faults.{DisagreesAt, site_of}
use Rattle.naga_acceptance.proofs.Groups.{groups_within}
use Rattle.naga_acceptance.proofs.agreeing.operators_fault.Goals as goal

pub returns-clause-fault : goal.returns-clause-fault
returns-clause-fault c =
    let m = c.args.module.now
    in let info = c.args.info.now
    in let fails = c.in_ok-position.ensures.fault
    in let within : c.in_ok-position.position.group < length (groups_of m info) =
    slice_get_within (groups_of m info) c.in_ok-position.position.group fails.0 fails.1
    in let site = c.use_item.ensures.site (omega (arith, within, groups_within m info))
    in let told = c.at.ensures
    in (ap (λ u. u.fault) told, subst (DisagreesAt m info) (sym (ap (λ u. site_of m u.item) told ∙ site)) fails)
