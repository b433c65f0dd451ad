use Rattle.std.proofs.Common.{ap, ◌∙◌}
use Rattle.std.specs.Option.{is_none}
use Rattle.naga_acceptance.proofs.Finding.{none_found}
use Rattle.naga_acceptance.proofs.FirstFaults.{sound_found}
use Rattle.naga_acceptance.proofs.soundness.module_is_sound.Goals as goal

pub returns : goal.returns
returns c =
    let found = sound_found c.args.module.now c.args.info.now
    in none_found c.sound_fault.result c.is_none.result c.is_none.ensures
    ∙ (ap is_none c.sound_fault.ensures ∙ found.fits)
