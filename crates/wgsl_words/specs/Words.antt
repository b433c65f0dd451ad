-- The words that WGSL has for values of the IR: one table for each kind of value. `None` stands
-- where WGSL has no word.
use Rattle.std.specs.Prelude.{ℕ, true, false, List, Option, Some, None, codes, if◌then◌else◌, ◌==◌}
use Rattle.std.specs.Prelude.{Bool}
use Rattle.naga_ir.specs.declared.binding.Interpolation.{Interpolation}
use Rattle.naga_ir.specs.declared.binding.Interpolation.TheVariants as interpolation
use Rattle.naga_ir.specs.declared.binding.Sampling.{Sampling}
use Rattle.naga_ir.specs.declared.binding.Sampling.TheVariants as sampling
use Rattle.naga_ir.specs.declared.types.CooperativeRole.{CooperativeRole}
use Rattle.naga_ir.specs.declared.types.CooperativeRole.TheVariants as role
use Rattle.naga_ir.specs.declared.image.ImageDimension.{ImageDimension}
use Rattle.naga_ir.specs.declared.image.ImageDimension.TheVariants as dimension
use Rattle.naga_ir.specs.declared.image.StorageFormat.{StorageFormat}
use Rattle.naga_ir.specs.declared.image.StorageFormat.TheVariants as format
use Rattle.naga_ir.specs.declared.operators.MathFunction.{MathFunction}
use Rattle.naga_ir.specs.declared.operators.MathFunction.TheVariants as math
use Rattle.naga_ir.specs.declared.binding.BuiltIn.{BuiltIn}
use Rattle.naga_ir.specs.declared.binding.BuiltIn.TheVariants as builtin
use Rattle.naga_ir.specs.declared.flags.StorageAccess.{StorageAccess}
use Rattle.naga_ir.specs.declared.types.AddressSpace.{AddressSpace}
use Rattle.naga_ir.specs.declared.types.AddressSpace.TheVariants as space
use Rattle.naga_ir.specs.declared.types.Scalar.{Scalar}
use Rattle.std.specs.Int.RustNames.{bit_and}
use Rattle.naga_ir.specs.declared.types.ScalarKind.{ScalarKind}
use Rattle.naga_ir.specs.declared.types.ScalarKind.TheVariants as kind
use Rattle.naga_ir.specs.declared.operators.BinaryOperator.{BinaryOperator}
use Rattle.naga_ir.specs.declared.operators.BinaryOperator.TheVariants as binary
use Rattle.naga_ir.specs.declared.operators.UnaryOperator.{UnaryOperator}
use Rattle.naga_ir.specs.declared.operators.UnaryOperator.TheVariants as unary

-- scalar types, by what the bits mean and the number of bytes
abbrev pub scalar_word_of : ScalarKind → ℕ → Option (List ℕ)
scalar_word_of kind.Bool width = if width == 1 then Some (codes "bool") else None
scalar_word_of kind.Sint width =
    if width == 2 then Some (codes "i16") else (
    if width == 4 then Some (codes "i32") else (
    if width == 8 then Some (codes "i64") else None))
scalar_word_of kind.Uint width =
    if width == 2 then Some (codes "u16") else (
    if width == 4 then Some (codes "u32") else (
    if width == 8 then Some (codes "u64") else None))
scalar_word_of kind.Float width =
    if width == 2 then Some (codes "f16") else (
    if width == 4 then Some (codes "f32") else (
    if width == 8 then Some (codes "f64") else None))
scalar_word_of kind.AbstractInt width = None
scalar_word_of kind.AbstractFloat width = None

abbrev pub scalar_word : Scalar → Option (List ℕ)
scalar_word scalar = scalar_word_of scalar.kind scalar.width

-- how a value is spread over a primitive
abbrev pub interpolation_word : Interpolation → List ℕ
interpolation_word interpolation.Perspective = codes "perspective"
interpolation_word interpolation.Linear = codes "linear"
interpolation_word interpolation.Flat = codes "flat"
interpolation_word interpolation.PerVertex = codes "per_vertex"

-- where in a fragment a value is interpolated
abbrev pub sampling_word : Sampling → List ℕ
sampling_word sampling.Center = codes "center"
sampling_word sampling.Centroid = codes "centroid"
sampling_word sampling.Sample = codes "sample"
sampling_word sampling.First = codes "first"
sampling_word sampling.Either = codes "either"

-- which operand of a multiplication a cooperative matrix can be
abbrev pub matrix_role_word : CooperativeRole → List ℕ
matrix_role_word role.A = codes "A"
matrix_role_word role.B = codes "B"
matrix_role_word role.C = codes "C"

-- the dimension in an image's name
abbrev pub dimension_word : ImageDimension → List ℕ
dimension_word dimension.D1 = codes "1d"
dimension_word dimension.D2 = codes "2d"
dimension_word dimension.D3 = codes "3d"
dimension_word dimension.Cube = codes "cube"

-- how a texel is stored: the name in small letters
abbrev pub format_word : StorageFormat → List ℕ
format_word format.R8Unorm = codes "r8unorm"
format_word format.R8Snorm = codes "r8snorm"
format_word format.R8Uint = codes "r8uint"
format_word format.R8Sint = codes "r8sint"
format_word format.Rg8Unorm = codes "rg8unorm"
format_word format.Rg8Snorm = codes "rg8snorm"
format_word format.Rg8Uint = codes "rg8uint"
format_word format.Rg8Sint = codes "rg8sint"
format_word format.Rgba8Unorm = codes "rgba8unorm"
format_word format.Rgba8Snorm = codes "rgba8snorm"
format_word format.Rgba8Uint = codes "rgba8uint"
format_word format.Rgba8Sint = codes "rgba8sint"
format_word format.R16Unorm = codes "r16unorm"
format_word format.R16Snorm = codes "r16snorm"
format_word format.R16Uint = codes "r16uint"
format_word format.R16Sint = codes "r16sint"
format_word format.R16Float = codes "r16float"
format_word format.Rg16Unorm = codes "rg16unorm"
format_word format.Rg16Snorm = codes "rg16snorm"
format_word format.Rg16Uint = codes "rg16uint"
format_word format.Rg16Sint = codes "rg16sint"
format_word format.Rg16Float = codes "rg16float"
format_word format.Rgba16Unorm = codes "rgba16unorm"
format_word format.Rgba16Snorm = codes "rgba16snorm"
format_word format.Rgba16Uint = codes "rgba16uint"
format_word format.Rgba16Sint = codes "rgba16sint"
format_word format.Rgba16Float = codes "rgba16float"
format_word format.R32Uint = codes "r32uint"
format_word format.R32Sint = codes "r32sint"
format_word format.R32Float = codes "r32float"
format_word format.Rg32Uint = codes "rg32uint"
format_word format.Rg32Sint = codes "rg32sint"
format_word format.Rg32Float = codes "rg32float"
format_word format.Rgba32Uint = codes "rgba32uint"
format_word format.Rgba32Sint = codes "rgba32sint"
format_word format.Rgba32Float = codes "rgba32float"
format_word format.Bgra8Unorm = codes "bgra8unorm"
format_word format.Rgb10a2Uint = codes "rgb10a2uint"
format_word format.Rgb10a2Unorm = codes "rgb10a2unorm"
format_word format.Rg11b10Ufloat = codes "rg11b10ufloat"
format_word format.R64Uint = codes "r64uint"

-- built-in functions that pack and unpack numbers
abbrev pub packing_word : MathFunction → Option (List ℕ)
packing_word math.Pack4x8snorm = Some (codes "pack4x8snorm")
packing_word math.Pack4x8unorm = Some (codes "pack4x8unorm")
packing_word math.Pack2x16snorm = Some (codes "pack2x16snorm")
packing_word math.Pack2x16unorm = Some (codes "pack2x16unorm")
packing_word math.Unpack4x8snorm = Some (codes "unpack4x8snorm")
packing_word math.Unpack4x8unorm = Some (codes "unpack4x8unorm")
packing_word math.Unpack2x16snorm = Some (codes "unpack2x16snorm")
packing_word math.Unpack2x16unorm = Some (codes "unpack2x16unorm")
packing_word math.Pack2x16float = Some (codes "pack2x16float")
packing_word math.Unpack2x16float = Some (codes "unpack2x16float")
packing_word math.Pack4xI8 = Some (codes "pack4xI8")
packing_word math.Pack4xU8 = Some (codes "pack4xU8")
packing_word math.Unpack4xI8 = Some (codes "unpack4xI8")
packing_word math.Unpack4xU8 = Some (codes "unpack4xU8")
packing_word math.Pack4xI8Clamp = Some (codes "pack4xI8Clamp")
packing_word math.Pack4xU8Clamp = Some (codes "pack4xU8Clamp")
packing_word _ = None

-- built-in functions: the name with a small first letter, but `smoothstep`
abbrev pub math_word : MathFunction → Option (List ℕ)
math_word math.Abs = Some (codes "abs")
math_word math.Min = Some (codes "min")
math_word math.Max = Some (codes "max")
math_word math.Clamp = Some (codes "clamp")
math_word math.Saturate = Some (codes "saturate")
math_word math.Cos = Some (codes "cos")
math_word math.Sin = Some (codes "sin")
math_word math.Tan = Some (codes "tan")
math_word math.Acos = Some (codes "acos")
math_word math.Asin = Some (codes "asin")
math_word math.Atan = Some (codes "atan")
math_word math.Cosh = Some (codes "cosh")
math_word math.Sinh = Some (codes "sinh")
math_word math.Tanh = Some (codes "tanh")
math_word math.Acosh = Some (codes "acosh")
math_word math.Asinh = Some (codes "asinh")
math_word math.Atanh = Some (codes "atanh")
math_word math.Atan2 = Some (codes "atan2")
math_word math.Radians = Some (codes "radians")
math_word math.Degrees = Some (codes "degrees")
math_word math.Ceil = Some (codes "ceil")
math_word math.Floor = Some (codes "floor")
math_word math.Round = Some (codes "round")
math_word math.Fract = Some (codes "fract")
math_word math.Trunc = Some (codes "trunc")
math_word math.Modf = Some (codes "modf")
math_word math.Frexp = Some (codes "frexp")
math_word math.Ldexp = Some (codes "ldexp")
math_word math.Exp = Some (codes "exp")
math_word math.Exp2 = Some (codes "exp2")
math_word math.Log = Some (codes "log")
math_word math.Log2 = Some (codes "log2")
math_word math.Pow = Some (codes "pow")
math_word math.Dot = Some (codes "dot")
math_word math.Dot4I8Packed = Some (codes "dot4I8Packed")
math_word math.Dot4U8Packed = Some (codes "dot4U8Packed")
math_word math.Cross = Some (codes "cross")
math_word math.Distance = Some (codes "distance")
math_word math.Length = Some (codes "length")
math_word math.Normalize = Some (codes "normalize")
math_word math.FaceForward = Some (codes "faceForward")
math_word math.Reflect = Some (codes "reflect")
math_word math.Refract = Some (codes "refract")
math_word math.Sign = Some (codes "sign")
math_word math.Fma = Some (codes "fma")
math_word math.Mix = Some (codes "mix")
math_word math.Step = Some (codes "step")
math_word math.SmoothStep = Some (codes "smoothstep")
math_word math.Sqrt = Some (codes "sqrt")
math_word math.InverseSqrt = Some (codes "inverseSqrt")
math_word math.Transpose = Some (codes "transpose")
math_word math.Determinant = Some (codes "determinant")
math_word math.QuantizeToF16 = Some (codes "quantizeToF16")
math_word math.CountTrailingZeros = Some (codes "countTrailingZeros")
math_word math.CountLeadingZeros = Some (codes "countLeadingZeros")
math_word math.CountOneBits = Some (codes "countOneBits")
math_word math.ReverseBits = Some (codes "reverseBits")
math_word math.ExtractBits = Some (codes "extractBits")
math_word math.InsertBits = Some (codes "insertBits")
math_word math.FirstTrailingBit = Some (codes "firstTrailingBit")
math_word math.FirstLeadingBit = Some (codes "firstLeadingBit")
math_word fun = packing_word fun

-- built-in values
abbrev pub builtin_word : BuiltIn → Option (List ℕ)
builtin_word (builtin.Position invariant) = Some (codes "position")
builtin_word (builtin.Barycentric true) = Some (codes "barycentric")
builtin_word (builtin.Barycentric false) = Some (codes "barycentric_no_perspective")
builtin_word builtin.ViewIndex = Some (codes "view_index")
builtin_word builtin.InstanceIndex = Some (codes "instance_index")
builtin_word builtin.VertexIndex = Some (codes "vertex_index")
builtin_word builtin.ClipDistances = Some (codes "clip_distances")
builtin_word builtin.FragDepth = Some (codes "frag_depth")
builtin_word builtin.FrontFacing = Some (codes "front_facing")
builtin_word builtin.PrimitiveIndex = Some (codes "primitive_index")
builtin_word builtin.DrawIndex = Some (codes "draw_index")
builtin_word builtin.SampleIndex = Some (codes "sample_index")
builtin_word builtin.SampleMask = Some (codes "sample_mask")
builtin_word builtin.GlobalInvocationId = Some (codes "global_invocation_id")
builtin_word builtin.LocalInvocationId = Some (codes "local_invocation_id")
builtin_word builtin.LocalInvocationIndex = Some (codes "local_invocation_index")
builtin_word builtin.WorkGroupId = Some (codes "workgroup_id")
builtin_word builtin.NumWorkGroups = Some (codes "num_workgroups")
builtin_word builtin.NumSubgroups = Some (codes "num_subgroups")
builtin_word builtin.SubgroupId = Some (codes "subgroup_id")
builtin_word builtin.SubgroupSize = Some (codes "subgroup_size")
builtin_word builtin.SubgroupInvocationId = Some (codes "subgroup_invocation_id")
builtin_word builtin.MeshTaskSize = Some (codes "mesh_task_size")
builtin_word builtin.TriangleIndices = Some (codes "triangle_indices")
builtin_word builtin.LineIndices = Some (codes "line_indices")
builtin_word builtin.PointIndex = Some (codes "point_index")
builtin_word builtin.Vertices = Some (codes "vertices")
builtin_word builtin.Primitives = Some (codes "primitives")
builtin_word builtin.VertexCount = Some (codes "vertex_count")
builtin_word builtin.PrimitiveCount = Some (codes "primitive_count")
builtin_word builtin.CullPrimitive = Some (codes "cull_primitive")
builtin_word builtin.RayInvocationId = Some (codes "ray_invocation_id")
builtin_word builtin.NumRayInvocations = Some (codes "num_ray_invocations")
builtin_word builtin.InstanceCustomData = Some (codes "instance_custom_data")
builtin_word builtin.GeometryIndex = Some (codes "geometry_index")
builtin_word builtin.WorldRayOrigin = Some (codes "world_ray_origin")
builtin_word builtin.WorldRayDirection = Some (codes "world_ray_direction")
builtin_word builtin.ObjectRayOrigin = Some (codes "object_ray_origin")
builtin_word builtin.ObjectRayDirection = Some (codes "object_ray_direction")
builtin_word builtin.RayTmin = Some (codes "ray_t_min")
builtin_word builtin.RayTCurrentMax = Some (codes "ray_t_current_max")
builtin_word builtin.ObjectToWorld = Some (codes "object_to_world")
builtin_word builtin.WorldToObject = Some (codes "world_to_object")
builtin_word builtin.HitKind = Some (codes "hit_kind")
builtin_word builtin.BaseInstance = None
builtin_word builtin.BaseVertex = None
builtin_word builtin.CullDistance = None
builtin_word builtin.PointSize = None
builtin_word builtin.PointCoord = None
builtin_word builtin.WorkGroupSize = None

-- Are all bits of the mask set?
abbrev pub has : ℕ → StorageAccess → Bool
has mask access = bit_and access.0 mask == mask

-- the bits of what may be done with a memory
abbrev pub load_bit : ℕ
load_bit = 1

abbrev pub store_bit : ℕ
store_bit = 2

abbrev pub atomic_bit : ℕ
atomic_bit = 4

-- where a variable lives; the space of handles has no word
abbrev pub space_word : AddressSpace → Option (List ℕ)
space_word space.Function = Some (codes "function")
space_word space.Private = Some (codes "private")
space_word space.WorkGroup = Some (codes "workgroup")
space_word space.Uniform = Some (codes "uniform")
space_word (space.Storage access) = Some (codes "storage")
space_word space.Handle = None
space_word space.Immediate = Some (codes "immediate")
space_word space.TaskPayload = Some (codes "task_payload")
space_word space.RayPayload = Some (codes "ray_payload")
space_word space.IncomingRayPayload = Some (codes "incoming_ray_payload")

-- what may be done with a variable of a storage buffer; reading alone has no word
abbrev pub buffer_access_word : StorageAccess → Option (List ℕ)
buffer_access_word access =
    if has atomic_bit access then Some (codes "atomic") else (
    if has store_bit access then Some (codes "read_write") else None)

-- what may be done with what lives there, where that needs a word
abbrev pub space_access_word : AddressSpace → Option (List ℕ)
space_access_word (space.Storage access) = buffer_access_word access
space_access_word _ = None

-- what may be done with a storage image
abbrev pub image_access_word : StorageAccess → List ℕ
image_access_word access =
    if has atomic_bit access then codes "atomic" else (
    if has load_bit access then (
    if has store_bit access then codes "read_write" else codes "read")
    else codes "write")

-- the text of an operator between its operands
abbrev pub operator_text : BinaryOperator → List ℕ
operator_text binary.Add = codes "+"
operator_text binary.Subtract = codes "-"
operator_text binary.Multiply = codes "*"
operator_text binary.Divide = codes "/"
operator_text binary.Modulo = codes "%"
operator_text binary.Equal = codes "=="
operator_text binary.NotEqual = codes "!="
operator_text binary.Less = codes "<"
operator_text binary.LessEqual = codes "<="
operator_text binary.Greater = codes ">"
operator_text binary.GreaterEqual = codes ">="
operator_text binary.And = codes "&"
operator_text binary.ExclusiveOr = codes "^"
operator_text binary.InclusiveOr = codes "|"
operator_text binary.LogicalAnd = codes "&&"
operator_text binary.LogicalOr = codes "||"
operator_text binary.ShiftLeft = codes "<<"
operator_text binary.ShiftRight = codes ">>"

-- the text of an operator before its operand
abbrev pub unary_text : UnaryOperator → List ℕ
unary_text unary.Negate = codes "-"
unary_text unary.LogicalNot = codes "!"
unary_text unary.BitwiseNot = codes "~"
