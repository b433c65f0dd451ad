use Rattle.naga_wgsl_fns.proofs.Preconditions.{known_in_range}
use Rattle.naga_wgsl_fns.proofs.functions.FunctionText.struct_known.Goals as goal

pub whole_known-requires : goal.whole_known-requires
whole_known-requires c = record { known = known_in_range c.args.self.now c.requires.can }
