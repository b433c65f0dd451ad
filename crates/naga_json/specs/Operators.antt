-- What a JSON value says of operators and functions: the names of naga's enums of them, as serde writes them
-- (docs/JSON.md, "Forms").
use Rattle.std.specs.Prelude.{◌∷◌, [], Option, Some}
use Rattle.json.specs.Json.{Json}
use Rattle.naga_json.specs.Said.{◌⇒◌, ◌>>=◌, Table, members, option_field, unit_said, word_said}
use Rattle.naga_json.specs.Said.{variant_said}
use Rattle.naga_json.specs.Numbers.{index_said}
use Rattle.naga_ir.specs.declared.operators.AtomicFunction.{AtomicFunction}
use Rattle.naga_json.specs.declared.operators.AtomicFunctionName.{AtomicFunctionName}
use Rattle.naga_ir.specs.declared.operators.BinaryOperator.{BinaryOperator}
use Rattle.naga_ir.specs.declared.operators.CollectiveOperation.{CollectiveOperation}
use Rattle.naga_ir.specs.declared.operators.DerivativeAxis.{DerivativeAxis}
use Rattle.naga_ir.specs.declared.operators.DerivativeControl.{DerivativeControl}
use Rattle.naga_ir.specs.declared.operators.Direction.{Direction}
use Rattle.naga_ir.specs.declared.operators.GatherMode.{GatherMode}
use Rattle.naga_json.specs.declared.operators.GatherModeName.{GatherModeName}
use Rattle.naga_ir.specs.declared.operators.MathFunction.{MathFunction}
use Rattle.naga_ir.specs.declared.operators.RelationalFunction.{RelationalFunction}
use Rattle.naga_ir.specs.declared.operators.SubgroupOperation.{SubgroupOperation}
use Rattle.naga_ir.specs.declared.operators.UnaryOperator.{UnaryOperator}

abbrev pub unary_operator_words : Table UnaryOperator
unary_operator_words =
    "Negate" ⇒ UnaryOperator.Negate ∷ "LogicalNot" ⇒ UnaryOperator.LogicalNot ∷
    "BitwiseNot" ⇒ UnaryOperator.BitwiseNot ∷ []

abbrev pub unary_operator_said : Json → Option UnaryOperator
unary_operator_said = word_said unary_operator_words

abbrev pub binary_operator_words : Table BinaryOperator
binary_operator_words =
    "Add" ⇒ BinaryOperator.Add ∷ "Subtract" ⇒ BinaryOperator.Subtract ∷
    "Multiply" ⇒ BinaryOperator.Multiply ∷ "Divide" ⇒ BinaryOperator.Divide ∷
    "Modulo" ⇒ BinaryOperator.Modulo ∷ "Equal" ⇒ BinaryOperator.Equal ∷
    "NotEqual" ⇒ BinaryOperator.NotEqual ∷ "Less" ⇒ BinaryOperator.Less ∷
    "LessEqual" ⇒ BinaryOperator.LessEqual ∷ "Greater" ⇒ BinaryOperator.Greater ∷
    "GreaterEqual" ⇒ BinaryOperator.GreaterEqual ∷ "And" ⇒ BinaryOperator.And ∷
    "ExclusiveOr" ⇒ BinaryOperator.ExclusiveOr ∷ "InclusiveOr" ⇒ BinaryOperator.InclusiveOr ∷
    "LogicalAnd" ⇒ BinaryOperator.LogicalAnd ∷ "LogicalOr" ⇒ BinaryOperator.LogicalOr ∷
    "ShiftLeft" ⇒ BinaryOperator.ShiftLeft ∷ "ShiftRight" ⇒ BinaryOperator.ShiftRight ∷ []

abbrev pub binary_operator_said : Json → Option BinaryOperator
binary_operator_said = word_said binary_operator_words

abbrev pub derivative_axis_words : Table DerivativeAxis
derivative_axis_words =
    "X" ⇒ DerivativeAxis.X ∷ "Y" ⇒ DerivativeAxis.Y ∷ "Width" ⇒ DerivativeAxis.Width ∷ []

abbrev pub derivative_axis_said : Json → Option DerivativeAxis
derivative_axis_said = word_said derivative_axis_words

abbrev pub derivative_control_words : Table DerivativeControl
derivative_control_words =
    "Coarse" ⇒ DerivativeControl.Coarse ∷ "Fine" ⇒ DerivativeControl.Fine ∷
    "None" ⇒ DerivativeControl.None ∷ []

abbrev pub derivative_control_said : Json → Option DerivativeControl
derivative_control_said = word_said derivative_control_words

abbrev pub relational_function_words : Table RelationalFunction
relational_function_words =
    "All" ⇒ RelationalFunction.All ∷ "Any" ⇒ RelationalFunction.Any ∷
    "IsNan" ⇒ RelationalFunction.IsNan ∷ "IsInf" ⇒ RelationalFunction.IsInf ∷ []

abbrev pub relational_function_said : Json → Option RelationalFunction
relational_function_said = word_said relational_function_words

abbrev pub math_function_words : Table MathFunction
math_function_words =
    "Abs" ⇒ MathFunction.Abs ∷ "Min" ⇒ MathFunction.Min ∷ "Max" ⇒ MathFunction.Max ∷
    "Clamp" ⇒ MathFunction.Clamp ∷ "Saturate" ⇒ MathFunction.Saturate ∷ "Cos" ⇒ MathFunction.Cos ∷
    "Sin" ⇒ MathFunction.Sin ∷ "Tan" ⇒ MathFunction.Tan ∷ "Acos" ⇒ MathFunction.Acos ∷
    "Asin" ⇒ MathFunction.Asin ∷ "Atan" ⇒ MathFunction.Atan ∷ "Cosh" ⇒ MathFunction.Cosh ∷
    "Sinh" ⇒ MathFunction.Sinh ∷ "Tanh" ⇒ MathFunction.Tanh ∷ "Acosh" ⇒ MathFunction.Acosh ∷
    "Asinh" ⇒ MathFunction.Asinh ∷ "Atanh" ⇒ MathFunction.Atanh ∷ "Atan2" ⇒ MathFunction.Atan2 ∷
    "Radians" ⇒ MathFunction.Radians ∷ "Degrees" ⇒ MathFunction.Degrees ∷
    "Ceil" ⇒ MathFunction.Ceil ∷ "Floor" ⇒ MathFunction.Floor ∷ "Round" ⇒ MathFunction.Round ∷
    "Fract" ⇒ MathFunction.Fract ∷ "Trunc" ⇒ MathFunction.Trunc ∷ "Modf" ⇒ MathFunction.Modf ∷
    "Frexp" ⇒ MathFunction.Frexp ∷ "Ldexp" ⇒ MathFunction.Ldexp ∷ "Exp" ⇒ MathFunction.Exp ∷
    "Exp2" ⇒ MathFunction.Exp2 ∷ "Log" ⇒ MathFunction.Log ∷ "Log2" ⇒ MathFunction.Log2 ∷
    "Pow" ⇒ MathFunction.Pow ∷ "Dot" ⇒ MathFunction.Dot ∷
    "Dot4I8Packed" ⇒ MathFunction.Dot4I8Packed ∷ "Dot4U8Packed" ⇒ MathFunction.Dot4U8Packed ∷
    "Cross" ⇒ MathFunction.Cross ∷ "Distance" ⇒ MathFunction.Distance ∷
    "Length" ⇒ MathFunction.Length ∷ "Normalize" ⇒ MathFunction.Normalize ∷
    "FaceForward" ⇒ MathFunction.FaceForward ∷ "Reflect" ⇒ MathFunction.Reflect ∷
    "Refract" ⇒ MathFunction.Refract ∷ "Sign" ⇒ MathFunction.Sign ∷ "Fma" ⇒ MathFunction.Fma ∷
    "Mix" ⇒ MathFunction.Mix ∷ "Step" ⇒ MathFunction.Step ∷
    "SmoothStep" ⇒ MathFunction.SmoothStep ∷ "Sqrt" ⇒ MathFunction.Sqrt ∷
    "InverseSqrt" ⇒ MathFunction.InverseSqrt ∷ "Transpose" ⇒ MathFunction.Transpose ∷
    "Determinant" ⇒ MathFunction.Determinant ∷ "QuantizeToF16" ⇒ MathFunction.QuantizeToF16 ∷
    "CountTrailingZeros" ⇒ MathFunction.CountTrailingZeros ∷
    "CountLeadingZeros" ⇒ MathFunction.CountLeadingZeros ∷
    "CountOneBits" ⇒ MathFunction.CountOneBits ∷ "ReverseBits" ⇒ MathFunction.ReverseBits ∷
    "ExtractBits" ⇒ MathFunction.ExtractBits ∷ "InsertBits" ⇒ MathFunction.InsertBits ∷
    "FirstTrailingBit" ⇒ MathFunction.FirstTrailingBit ∷
    "FirstLeadingBit" ⇒ MathFunction.FirstLeadingBit ∷
    "Pack4x8snorm" ⇒ MathFunction.Pack4x8snorm ∷ "Pack4x8unorm" ⇒ MathFunction.Pack4x8unorm ∷
    "Pack2x16snorm" ⇒ MathFunction.Pack2x16snorm ∷ "Pack2x16unorm" ⇒ MathFunction.Pack2x16unorm ∷
    "Unpack4x8snorm" ⇒ MathFunction.Unpack4x8snorm ∷
    "Unpack4x8unorm" ⇒ MathFunction.Unpack4x8unorm ∷
    "Unpack2x16snorm" ⇒ MathFunction.Unpack2x16snorm ∷
    "Unpack2x16unorm" ⇒ MathFunction.Unpack2x16unorm ∷
    "Pack2x16float" ⇒ MathFunction.Pack2x16float ∷
    "Unpack2x16float" ⇒ MathFunction.Unpack2x16float ∷ "Pack4xI8" ⇒ MathFunction.Pack4xI8 ∷
    "Pack4xU8" ⇒ MathFunction.Pack4xU8 ∷ "Unpack4xI8" ⇒ MathFunction.Unpack4xI8 ∷
    "Unpack4xU8" ⇒ MathFunction.Unpack4xU8 ∷ "Pack4xI8Clamp" ⇒ MathFunction.Pack4xI8Clamp ∷
    "Pack4xU8Clamp" ⇒ MathFunction.Pack4xU8Clamp ∷ "Inverse" ⇒ MathFunction.Inverse ∷
    "Outer" ⇒ MathFunction.Outer ∷ []

abbrev pub math_function_said : Json → Option MathFunction
math_function_said = word_said math_function_words

abbrev pub direction_words : Table Direction
direction_words =
    "X" ⇒ Direction.X ∷ "Y" ⇒ Direction.Y ∷ "Diagonal" ⇒ Direction.Diagonal ∷ []

abbrev pub direction_said : Json → Option Direction
direction_said = word_said direction_words

abbrev pub collective_operation_words : Table CollectiveOperation
collective_operation_words =
    "Reduce" ⇒ CollectiveOperation.Reduce ∷ "InclusiveScan" ⇒ CollectiveOperation.InclusiveScan ∷
    "ExclusiveScan" ⇒ CollectiveOperation.ExclusiveScan ∷ []

abbrev pub collective_operation_said : Json → Option CollectiveOperation
collective_operation_said = word_said collective_operation_words

abbrev pub subgroup_operation_words : Table SubgroupOperation
subgroup_operation_words =
    "All" ⇒ SubgroupOperation.All ∷ "Any" ⇒ SubgroupOperation.Any ∷
    "Add" ⇒ SubgroupOperation.Add ∷ "Mul" ⇒ SubgroupOperation.Mul ∷
    "Min" ⇒ SubgroupOperation.Min ∷ "Max" ⇒ SubgroupOperation.Max ∷
    "And" ⇒ SubgroupOperation.And ∷ "Or" ⇒ SubgroupOperation.Or ∷ "Xor" ⇒ SubgroupOperation.Xor ∷
    []

abbrev pub subgroup_operation_said : Json → Option SubgroupOperation
subgroup_operation_said = word_said subgroup_operation_words

abbrev pub atomic_function_names : Table AtomicFunctionName
atomic_function_names =
    "Add" ⇒ AtomicFunctionName.Add ∷ "Subtract" ⇒ AtomicFunctionName.Subtract ∷
    "And" ⇒ AtomicFunctionName.And ∷ "ExclusiveOr" ⇒ AtomicFunctionName.ExclusiveOr ∷
    "InclusiveOr" ⇒ AtomicFunctionName.InclusiveOr ∷ "Min" ⇒ AtomicFunctionName.Min ∷
    "Max" ⇒ AtomicFunctionName.Max ∷ "Exchange" ⇒ AtomicFunctionName.Exchange ∷ []

abbrev pub atomic_exchange_said : Json → Option AtomicFunction
atomic_exchange_said j = do
  _ ← members ("compare" ∷ []) j
  compare ← option_field "compare" index_said j
  Some (AtomicFunction.Exchange compare)

abbrev pub atomic_function_payload : AtomicFunctionName → Json → Option AtomicFunction
atomic_function_payload AtomicFunctionName.Add j = unit_said AtomicFunction.Add j
atomic_function_payload AtomicFunctionName.Subtract j = unit_said AtomicFunction.Subtract j
atomic_function_payload AtomicFunctionName.And j = unit_said AtomicFunction.And j
atomic_function_payload AtomicFunctionName.ExclusiveOr j = unit_said AtomicFunction.ExclusiveOr j
atomic_function_payload AtomicFunctionName.InclusiveOr j = unit_said AtomicFunction.InclusiveOr j
atomic_function_payload AtomicFunctionName.Min j = unit_said AtomicFunction.Min j
atomic_function_payload AtomicFunctionName.Max j = unit_said AtomicFunction.Max j
atomic_function_payload AtomicFunctionName.Exchange j = atomic_exchange_said j

abbrev pub atomic_function_said : Json → Option AtomicFunction
atomic_function_said = variant_said atomic_function_names atomic_function_payload

abbrev pub gather_mode_names : Table GatherModeName
gather_mode_names =
    "BroadcastFirst" ⇒ GatherModeName.BroadcastFirst ∷ "Broadcast" ⇒ GatherModeName.Broadcast ∷
    "Shuffle" ⇒ GatherModeName.Shuffle ∷ "ShuffleDown" ⇒ GatherModeName.ShuffleDown ∷
    "ShuffleUp" ⇒ GatherModeName.ShuffleUp ∷ "ShuffleXor" ⇒ GatherModeName.ShuffleXor ∷
    "QuadBroadcast" ⇒ GatherModeName.QuadBroadcast ∷ "QuadSwap" ⇒ GatherModeName.QuadSwap ∷ []

abbrev pub gather_mode_payload : GatherModeName → Json → Option GatherMode
gather_mode_payload GatherModeName.BroadcastFirst j = unit_said GatherMode.BroadcastFirst j
gather_mode_payload GatherModeName.Broadcast j =
    index_said j >>= λ x. Some (GatherMode.Broadcast x)
gather_mode_payload GatherModeName.Shuffle j = index_said j >>= λ x. Some (GatherMode.Shuffle x)
gather_mode_payload GatherModeName.ShuffleDown j =
    index_said j >>= λ x. Some (GatherMode.ShuffleDown x)
gather_mode_payload GatherModeName.ShuffleUp j =
    index_said j >>= λ x. Some (GatherMode.ShuffleUp x)
gather_mode_payload GatherModeName.ShuffleXor j =
    index_said j >>= λ x. Some (GatherMode.ShuffleXor x)
gather_mode_payload GatherModeName.QuadBroadcast j =
    index_said j >>= λ x. Some (GatherMode.QuadBroadcast x)
gather_mode_payload GatherModeName.QuadSwap j =
    direction_said j >>= λ x. Some (GatherMode.QuadSwap x)

abbrev pub gather_mode_said : Json → Option GatherMode
gather_mode_said = variant_said gather_mode_names gather_mode_payload
