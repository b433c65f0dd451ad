use Rattle.naga_wgsl_out.proofs.Inferring.{answers_inferred_within}
use Rattle.naga_wgsl_out.proofs.inferred.write_typed_within.Goals as goal

pub returns : goal.returns
returns c =
    answers_inferred_within c.args.flags c.args.limits c.args.«module».now c.counted-info.result
    c.write_bounded.result c.requires.flat c.counted-info.ensures.inferred c.write_bounded.ensures
