use Rattle.std.proofs.Common.{◌∙◌}
use Rattle.naga_acceptance.proofs.Views.{formed_whole}
use Rattle.naga_acceptance.proofs.alike.identity_of.Goals as goal

pub returns-in-Some-clause-whole : goal.returns-in-Some-clause-whole
returns-in-Some-clause-whole c =
    formed_whole c.args.types.now c.args.ty.now c.in-Some.top
    (c.in-Some.ensures.form ∙ c.resolution_top.ensures) c.in-Some.ensures.over
