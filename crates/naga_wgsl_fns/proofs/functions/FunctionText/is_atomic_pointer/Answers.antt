use Rattle.naga_wgsl_fns.proofs.Preconditions.{pointee_within}
use Rattle.naga_wgsl_fns.proofs.functions.FunctionText.is_atomic_pointer.Goals as goal

pub is_atomic-requires : goal.is_atomic-requires
is_atomic-requires c =
    pointee_within c.args.self.now c.requires.can c.args.handle c.type_of.result.now _ _
    c.requires.handle c.type_of.ensures c.in-Pointer.is
