use Rattle.std.proofs.Common.{ap, ◌∙◌}
use Rattle.std.specs.Option.{is_none}
use Rattle.naga_acceptance.proofs.Finding.{none_found}
use Rattle.naga_acceptance.proofs.FirstFaults.{ranges_found}
use Rattle.naga_acceptance.proofs.ranges.ranges_fit.Goals as goal

pub returns : goal.returns
returns c =
    let found = ranges_found c.args.module.now c.args.info.now
    in none_found c.ranges_fault.result c.is_none.result c.is_none.ensures
    ∙ (ap is_none c.ranges_fault.ensures ∙ found.fits)
