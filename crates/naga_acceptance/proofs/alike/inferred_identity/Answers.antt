use Rattle.std.proofs.Common.{◌∙◌}
use Rattle.naga_acceptance.specs.KnownTypes.{inferred}
use Rattle.naga_acceptance.proofs.Views.{formed_whole}
use Rattle.naga_acceptance.proofs.alike.inferred_identity.Goals as goal

pub returns-in-Some-clause-whole : goal.returns-in-Some-clause-whole
returns-in-Some-clause-whole c =
    formed_whole c.args.types.now (inferred c.args.ty.now) c.in-Some.top
    (c.in-Some.ensures.form ∙ c.inferred_top.ensures) c.in-Some.ensures.over
