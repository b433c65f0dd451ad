use Rattle.std.proofs.Common.{◌∙◌}
use Rattle.naga_wgsl_fns.proofs.Preconditions.{known_in_range, type_known_is}
use Rattle.naga_wgsl_fns.proofs.functions.FunctionText.type_of.Goals as goal

pub inner_with-requires : goal.inner_with-requires
inner_with-requires c =
    known_in_range c.args.self.now c.requires.can c.args.handle c.index.result.now c.index.ensures

pub returns : goal.returns
returns c =
    type_known_is c.args.self.now c.requires.can c.args.handle c.index.result.now c.index.ensures
    ∙ c.inner_with.ensures
