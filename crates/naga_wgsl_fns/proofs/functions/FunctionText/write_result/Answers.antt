use Rattle.naga_wgsl_fns.proofs.Preconditions.{answer_is_formed, answer_passes}
use Rattle.naga_wgsl_fns.proofs.functions.FunctionText.write_result.Goals as goal

pub write_answer-requires-clause-passing : goal.write_answer-requires-clause-passing
write_answer-requires-clause-passing g c = answer_passes c.args.self.now c.requires c.in-Some.answer c.in-Some.is

pub write_answer-requires-clause-formed : goal.write_answer-requires-clause-formed
write_answer-requires-clause-formed g c = answer_is_formed c.args.self.now c.requires c.in-Some.answer c.in-Some.is
