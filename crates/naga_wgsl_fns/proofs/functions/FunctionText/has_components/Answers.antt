use Rattle.naga_wgsl_fns.proofs.Preconditions.{pointee_within}
use Rattle.naga_wgsl_fns.proofs.functions.FunctionText.has_components.Goals as goal

pub is_vector-requires : goal.is_vector-requires
is_vector-requires c =
    pointee_within c.args.self.now c.requires.can c.args.handle c.type_of.result.now _ _
    c.requires.handle c.type_of.ensures c.in-Pointer.is
