-- What kind of type something is.
use Rattle.std.specs.Prelude.{Bool, true, false}
use Rattle.naga_ir.specs.declared.types.TypeInner.{TypeInner}
use Rattle.naga_ir.specs.declared.types.TypeInner.TheVariants.{Image, Sampler}
use Rattle.naga_ir.specs.declared.types.TypeInner.TheVariants.{AccelerationStructure}

-- images, samplers and acceleration structures, which have no memory of their own
abbrev pub is_resource : TypeInner → Bool
is_resource (Image dim arrayed class) = true
is_resource (Sampler comparison) = true
is_resource (AccelerationStructure vertex_return) = true
is_resource _ = false
