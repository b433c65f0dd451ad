use Rattle.naga_wgsl_fns.proofs.Preconditions.{argument_is_formed, argument_passes}
use Rattle.naga_wgsl_fns.proofs.functions.FunctionText.write_argument.Goals as goal

pub write_optional_binding-requires : goal.write_optional_binding-requires
write_optional_binding-requires g c = argument_passes c.args.self.now c.requires.can c.args.number c.args.argument.now
    c.requires.argument

pub write_type-requires-clause-formed : goal.write_type-requires-clause-formed
write_type-requires-clause-formed g c =
    argument_is_formed c.args.self.now c.requires.can c.args.number c.args.argument.now c.requires.argument
