use Rattle.std.proofs.Common.{ap, ◌∙◌}
use Rattle.std.specs.Option.{is_none}
use Rattle.naga_acceptance.specs.KnownTypes.{known_types}
use Rattle.naga_acceptance.proofs.Finding.{none_found}
use Rattle.naga_acceptance.proofs.Walking.{sound_fits}
use Rattle.naga_acceptance.proofs.statements.body_is_sound.Goals as goal

pub returns : goal.returns
returns c =
    none_found c.first_unsound.result c.is_none.result c.is_none.ensures
    ∙ (ap is_none c.first_unsound.ensures ∙ sound_fits c.args.module.now c.args.function.now (known_types c.args.known))
