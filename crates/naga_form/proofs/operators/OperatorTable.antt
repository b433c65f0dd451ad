-- Each word of the table of operators stands for one of them, but for those that share it.
use Rattle.std.proofs.Common.{◌≡◌, ℕ, Bool, true, false, List, [], ◌∷◌, refl, sym, ap, ◌∙◌, map}
use Rattle.std.proofs.Common.{Option, Some, None, ◌==◌, subst}
use Rattle.std.specs.Prelude.{if◌then◌else◌}
use Rattle.std.specs.Str.{bytes_eq}
use Rattle.std.specs.List.{list_all}
use Rattle.std.proofs.lemmas.Bool.{false≢true, and_parts}
use Rattle.std.proofs.lemmas.Option.{same_Some}
use Rattle.std.proofs.lemmas.Slice.Eq.{bytes_eq-Decides}
use Rattle.std.specs.Option.{option_or}
use Rattle.naga_ir.specs.declared.expression.SwizzleComponent.{SwizzleComponent}
use Rattle.naga_ir.specs.declared.expression.SwizzleComponent.TheVariants as component
use Rattle.naga_ir.specs.declared.types.VectorSize.{VectorSize}
use Rattle.naga_ir.specs.declared.types.VectorSize.TheVariants as vector
use Rattle.naga_ir.specs.declared.operators.BinaryOperator.{BinaryOperator}
use Rattle.naga_ir.specs.declared.operators.BinaryOperator.TheVariants as binary
use Rattle.naga_ir.specs.declared.operators.UnaryOperator.{UnaryOperator}
use Rattle.naga_ir.specs.declared.operators.UnaryOperator.TheVariants as unary
use Rattle.naga_ir.specs.declared.operators.MathFunction.{MathFunction}
use Rattle.naga_ir.specs.declared.operators.MathFunction.TheVariants as math
use Rattle.naga_ir.specs.declared.operators.RelationalFunction.{RelationalFunction}
use Rattle.naga_ir.specs.declared.operators.RelationalFunction.TheVariants as relational
use Rattle.naga_ir.specs.declared.operators.DerivativeAxis.{DerivativeAxis}
use Rattle.naga_ir.specs.declared.operators.DerivativeAxis.TheVariants as axis
use Rattle.naga_ir.specs.declared.operators.DerivativeControl.{DerivativeControl}
use Rattle.naga_ir.specs.declared.operators.DerivativeControl.TheVariants as control
use Rattle.naga_ir.specs.declared.operators.SubgroupOperation.{SubgroupOperation}
use Rattle.naga_ir.specs.declared.operators.SubgroupOperation.TheVariants as subgroup
use Rattle.naga_ir.specs.declared.operators.CollectiveOperation.{CollectiveOperation}
use Rattle.naga_ir.specs.declared.operators.CollectiveOperation.TheVariants as collective
use Rattle.naga_ir.specs.declared.operators.Direction.TheVariants as direction
use Rattle.module_semantics.specs.OperatorTable.{Operator, BinarySign, UnarySign, Select}
use Rattle.module_semantics.specs.OperatorTable.{Math, Relational, Derivative, ArrayLength}
use Rattle.module_semantics.specs.OperatorTable.{Sample, Gather, Texel, TexelStore, TexelChange}
use Rattle.module_semantics.specs.OperatorTable.{ImageSize, CountOf, AtomicLoad, AtomicStore}
use Rattle.module_semantics.specs.OperatorTable.{AtomicChange, UniformLoad, Ballot, Collective}
use Rattle.module_semantics.specs.OperatorTable.{FromSubgroup, Barrier, CooperativeLoad}
use Rattle.module_semantics.specs.OperatorTable.{CooperativeStore, CooperativeMultiplyAdd, TraceRay}
use Rattle.module_semantics.specs.OperatorTable.{RayStep, RayIntersection, RayCorners, MakeSpelled}
use Rattle.module_semantics.specs.OperatorTable.{Splat, Convert, Reinterpret, Level, Automatic, Zero}
use Rattle.module_semantics.specs.OperatorTable.{Exact, Biased, Graded, OnlyTexel, BothTexel}
use Rattle.module_semantics.specs.OperatorTable.{ImageCount, Levels, Layers, Samples, Change, AddTo}
use Rattle.module_semantics.specs.OperatorTable.{SubtractFrom, AndWith, OrWith, XorWith, MinimumOf}
use Rattle.module_semantics.specs.OperatorTable.{MaximumOf, Exchange, CompareExchange, Source, First}
use Rattle.module_semantics.specs.OperatorTable.{Indexed, Shuffled, ShuffledDown, ShuffledUp}
use Rattle.module_semantics.specs.OperatorTable.{ShuffledXor, QuadIndexed, QuadSwapped, BarrierMemory}
use Rattle.module_semantics.specs.OperatorTable.{StorageOrdered, WorkgroupOrdered, SubgroupOrdered}
use Rattle.module_semantics.specs.OperatorTable.{TextureOrdered, run_word, operand_count, one_word}
use Rattle.module_semantics.specs.OperatorTable.{is_distinguished, is_untyped, WithoutForm, ValueOf}

-- the operators of different words that take no type
abbrev pub mathematical : List Operator
mathematical = map Math (
    math.Abs ∷ math.Min ∷ math.Max ∷ math.Clamp ∷ math.Saturate ∷ math.Cos ∷ math.Sin ∷ math.Tan ∷ math.Acos ∷
    math.Asin ∷ math.Atan ∷ math.Cosh ∷ math.Sinh ∷ math.Tanh ∷ math.Acosh ∷ math.Asinh ∷ math.Atanh ∷
    math.Atan2 ∷ math.Radians ∷ math.Degrees ∷ math.Ceil ∷ math.Floor ∷ math.Round ∷ math.Fract ∷ math.Trunc ∷
    math.Modf ∷ math.Frexp ∷ math.Ldexp ∷ math.Exp ∷ math.Exp2 ∷ math.Log ∷ math.Log2 ∷ math.Pow ∷ math.Dot ∷
    math.Dot4I8Packed ∷ math.Dot4U8Packed ∷ math.Cross ∷ math.Distance ∷ math.Length ∷ math.Normalize ∷
    math.FaceForward ∷ math.Reflect ∷ math.Refract ∷ math.Sign ∷ math.Fma ∷ math.Mix ∷ math.Step ∷
    math.SmoothStep ∷ math.Sqrt ∷ math.InverseSqrt ∷ math.Transpose ∷ math.Determinant ∷ math.QuantizeToF16 ∷
    math.CountTrailingZeros ∷ math.CountLeadingZeros ∷ math.CountOneBits ∷ math.ReverseBits ∷
    math.ExtractBits ∷ math.InsertBits ∷ math.FirstTrailingBit ∷ math.FirstLeadingBit ∷ math.Pack4x8snorm ∷
    math.Pack4x8unorm ∷ math.Pack2x16snorm ∷ math.Pack2x16unorm ∷ math.Unpack4x8snorm ∷ math.Unpack4x8unorm ∷
    math.Unpack2x16snorm ∷ math.Unpack2x16unorm ∷ math.Pack2x16float ∷ math.Unpack2x16float ∷ math.Pack4xI8 ∷
    math.Pack4xU8 ∷ math.Unpack4xI8 ∷ math.Unpack4xU8 ∷ math.Pack4xI8Clamp ∷ math.Pack4xU8Clamp ∷
    [])

abbrev pub others : List Operator
others =
    BinarySign binary.Add ∷ BinarySign binary.Subtract ∷ BinarySign binary.Multiply ∷
    BinarySign binary.Divide ∷ BinarySign binary.Modulo ∷ BinarySign binary.Equal ∷
    BinarySign binary.NotEqual ∷ BinarySign binary.Less ∷ BinarySign binary.LessEqual ∷
    BinarySign binary.Greater ∷ BinarySign binary.GreaterEqual ∷ BinarySign binary.And ∷
    BinarySign binary.ExclusiveOr ∷ BinarySign binary.InclusiveOr ∷ BinarySign binary.LogicalAnd ∷
    BinarySign binary.LogicalOr ∷ BinarySign binary.ShiftLeft ∷ BinarySign binary.ShiftRight ∷
    UnarySign unary.LogicalNot ∷ UnarySign unary.BitwiseNot ∷ Select ∷ Relational relational.All ∷
    Relational relational.Any ∷ Derivative axis.X control.Coarse ∷ Derivative axis.X control.Fine ∷
    Derivative axis.X control.None ∷ Derivative axis.Y control.Coarse ∷ Derivative axis.Y control.Fine ∷
    Derivative axis.Y control.None ∷ Derivative axis.Width control.Coarse ∷
    Derivative axis.Width control.Fine ∷ Derivative axis.Width control.None ∷ ArrayLength ∷
    Sample Automatic false false false false ∷ Sample Automatic true false false false ∷
    Sample Exact false false false false ∷ Sample Exact true false false false ∷
    Sample Biased false false false false ∷ Sample Biased true false false false ∷
    Sample Graded false false false false ∷ Sample Graded true false false false ∷
    Sample Zero false true false false ∷ Gather None Automatic false false false false ∷
    Gather None Automatic true false false false ∷
    Gather (Some component.X) Automatic false false false false ∷
    Gather (Some component.X) Automatic true false false false ∷
    Gather (Some component.Y) Automatic false false false false ∷
    Gather (Some component.Y) Automatic true false false false ∷
    Gather (Some component.Z) Automatic false false false false ∷
    Gather (Some component.Z) Automatic true false false false ∷
    Gather (Some component.W) Automatic false false false false ∷
    Gather (Some component.W) Automatic true false false false ∷ Texel false OnlyTexel ∷ TexelStore false ∷
    TexelChange AddTo false ∷ TexelChange SubtractFrom false ∷ TexelChange AndWith false ∷
    TexelChange OrWith false ∷ TexelChange XorWith false ∷ TexelChange MinimumOf false ∷
    TexelChange MaximumOf false ∷ TexelChange Exchange false ∷ ImageSize false ∷ CountOf Levels ∷
    CountOf Layers ∷ CountOf Samples ∷ AtomicLoad ∷ AtomicStore ∷ AtomicChange AddTo ∷
    AtomicChange SubtractFrom ∷ AtomicChange AndWith ∷ AtomicChange OrWith ∷ AtomicChange XorWith ∷
    AtomicChange MinimumOf ∷ AtomicChange MaximumOf ∷ AtomicChange Exchange ∷ AtomicChange CompareExchange ∷
    UniformLoad ∷ Ballot false ∷ Collective subgroup.All collective.Reduce ∷
    Collective subgroup.Any collective.Reduce ∷ Collective subgroup.Add collective.Reduce ∷
    Collective subgroup.Mul collective.Reduce ∷ Collective subgroup.Min collective.Reduce ∷
    Collective subgroup.Max collective.Reduce ∷ Collective subgroup.And collective.Reduce ∷
    Collective subgroup.Or collective.Reduce ∷ Collective subgroup.Xor collective.Reduce ∷
    Collective subgroup.Add collective.InclusiveScan ∷ Collective subgroup.Mul collective.InclusiveScan ∷
    Collective subgroup.Add collective.ExclusiveScan ∷ Collective subgroup.Mul collective.ExclusiveScan ∷
    FromSubgroup First ∷ FromSubgroup Indexed ∷ FromSubgroup Shuffled ∷ FromSubgroup ShuffledDown ∷
    FromSubgroup ShuffledUp ∷ FromSubgroup ShuffledXor ∷ FromSubgroup QuadIndexed ∷
    FromSubgroup (QuadSwapped direction.X) ∷ FromSubgroup (QuadSwapped direction.Y) ∷
    FromSubgroup (QuadSwapped direction.Diagonal) ∷ Barrier true StorageOrdered ∷ Barrier true WorkgroupOrdered ∷
    Barrier true SubgroupOrdered ∷ Barrier true TextureOrdered ∷ Math math.Inverse ∷
    Math math.Outer ∷ Relational relational.IsNan ∷ Relational relational.IsInf ∷ Texel false BothTexel ∷
    TexelChange CompareExchange false ∷ Collective subgroup.All collective.InclusiveScan ∷
    Collective subgroup.Any collective.InclusiveScan ∷ Collective subgroup.Min collective.InclusiveScan ∷
    Collective subgroup.Max collective.InclusiveScan ∷ Collective subgroup.And collective.InclusiveScan ∷
    Collective subgroup.Or collective.InclusiveScan ∷ Collective subgroup.Xor collective.InclusiveScan ∷
    Collective subgroup.All collective.ExclusiveScan ∷ Collective subgroup.Any collective.ExclusiveScan ∷
    Collective subgroup.Min collective.ExclusiveScan ∷ Collective subgroup.Max collective.ExclusiveScan ∷
    Collective subgroup.And collective.ExclusiveScan ∷ Collective subgroup.Or collective.ExclusiveScan ∷
    Collective subgroup.Xor collective.ExclusiveScan ∷ RayStep ∷ RayIntersection true ∷ RayIntersection false ∷
    RayCorners true ∷ RayCorners false ∷ Sample Automatic false true false false ∷
    Sample Automatic true true false false ∷ Sample Zero true true false false ∷
    Sample Exact false true false false ∷ Sample Exact true true false false ∷
    Sample Biased false true false false ∷ Sample Biased true true false false ∷
    Sample Graded false true false false ∷ Sample Graded true true false false ∷
    Gather None Exact false false false false ∷ Gather None Exact true false false false ∷
    Gather None Biased false false false false ∷ Gather None Biased true false false false ∷
    Gather None Graded false false false false ∷ Gather None Graded true false false false ∷
    Gather None Automatic false true false false ∷ Gather None Automatic true true false false ∷
    Gather None Zero false true false false ∷ Gather None Zero true true false false ∷
    Gather None Exact false true false false ∷ Gather None Exact true true false false ∷
    Gather None Biased false true false false ∷ Gather None Biased true true false false ∷
    Gather None Graded false true false false ∷ Gather None Graded true true false false ∷
    Gather (Some component.X) Exact false false false false ∷
    Gather (Some component.X) Exact true false false false ∷
    Gather (Some component.X) Biased false false false false ∷
    Gather (Some component.X) Biased true false false false ∷
    Gather (Some component.X) Graded false false false false ∷
    Gather (Some component.X) Graded true false false false ∷
    Gather (Some component.X) Automatic false true false false ∷
    Gather (Some component.X) Automatic true true false false ∷
    Gather (Some component.X) Zero false true false false ∷
    Gather (Some component.X) Zero true true false false ∷
    Gather (Some component.X) Exact false true false false ∷
    Gather (Some component.X) Exact true true false false ∷
    Gather (Some component.X) Biased false true false false ∷
    Gather (Some component.X) Biased true true false false ∷
    Gather (Some component.X) Graded false true false false ∷
    Gather (Some component.X) Graded true true false false ∷
    Gather (Some component.Y) Exact false false false false ∷
    Gather (Some component.Y) Exact true false false false ∷
    Gather (Some component.Y) Biased false false false false ∷
    Gather (Some component.Y) Biased true false false false ∷
    Gather (Some component.Y) Graded false false false false ∷
    Gather (Some component.Y) Graded true false false false ∷
    Gather (Some component.Y) Automatic false true false false ∷
    Gather (Some component.Y) Automatic true true false false ∷
    Gather (Some component.Y) Zero false true false false ∷
    Gather (Some component.Y) Zero true true false false ∷
    Gather (Some component.Y) Exact false true false false ∷
    Gather (Some component.Y) Exact true true false false ∷
    Gather (Some component.Y) Biased false true false false ∷
    Gather (Some component.Y) Biased true true false false ∷
    Gather (Some component.Y) Graded false true false false ∷
    Gather (Some component.Y) Graded true true false false ∷
    Gather (Some component.Z) Exact false false false false ∷
    Gather (Some component.Z) Exact true false false false ∷
    Gather (Some component.Z) Biased false false false false ∷
    Gather (Some component.Z) Biased true false false false ∷
    Gather (Some component.Z) Graded false false false false ∷
    Gather (Some component.Z) Graded true false false false ∷
    Gather (Some component.Z) Automatic false true false false ∷
    Gather (Some component.Z) Automatic true true false false ∷
    Gather (Some component.Z) Zero false true false false ∷
    Gather (Some component.Z) Zero true true false false ∷
    Gather (Some component.Z) Exact false true false false ∷
    Gather (Some component.Z) Exact true true false false ∷
    Gather (Some component.Z) Biased false true false false ∷
    Gather (Some component.Z) Biased true true false false ∷
    Gather (Some component.Z) Graded false true false false ∷
    Gather (Some component.Z) Graded true true false false ∷
    Gather (Some component.W) Exact false false false false ∷
    Gather (Some component.W) Exact true false false false ∷
    Gather (Some component.W) Biased false false false false ∷
    Gather (Some component.W) Biased true false false false ∷
    Gather (Some component.W) Graded false false false false ∷
    Gather (Some component.W) Graded true false false false ∷
    Gather (Some component.W) Automatic false true false false ∷
    Gather (Some component.W) Automatic true true false false ∷
    Gather (Some component.W) Zero false true false false ∷
    Gather (Some component.W) Zero true true false false ∷
    Gather (Some component.W) Exact false true false false ∷
    Gather (Some component.W) Exact true true false false ∷
    Gather (Some component.W) Biased false true false false ∷
    Gather (Some component.W) Biased true true false false ∷
    Gather (Some component.W) Graded false true false false ∷
    Gather (Some component.W) Graded true true false false ∷ CooperativeStore false ∷ CooperativeStore true ∷
    CooperativeMultiplyAdd ∷ TraceRay ∷ Splat vector.Bi ∷ Splat vector.Tri ∷ Splat vector.Quad ∷
    []

-- the first operator with this word
abbrev pub first_with : List ℕ → List Operator → Option Operator
first_with w [] = None
first_with w (o ∷ os) = if bytes_eq w (run_word o) then Some o else first_with w os

-- the operator of a word, if there is one: those of mathematics stand last
abbrev pub operator_of : List ℕ → Option Operator
operator_of w = option_or (first_with w others) (first_with w mathematical)

-- its word tells the operator that stands for it
abbrev IsDistinguishedBy : Operator → Type 0
IsDistinguishedBy o = operator_of (run_word o) ≡ Some (one_word o)

binary_distinguished : (op : BinaryOperator) → IsDistinguishedBy (BinarySign op)
binary_distinguished binary.Add = refl
binary_distinguished _ = refl

math_distinguished : (f : MathFunction) → IsDistinguishedBy (Math f)
math_distinguished math.Abs = refl
math_distinguished _ = refl

unary_distinguished : (op : UnaryOperator) → IsDistinguishedBy (UnarySign op)
unary_distinguished unary.Negate = refl
unary_distinguished _ = refl

relation_distinguished : (f : RelationalFunction) → IsDistinguishedBy (Relational f)
relation_distinguished relational.All = refl
relation_distinguished _ = refl

derivative_distinguished : (a : DerivativeAxis) (c : DerivativeControl) →
    IsDistinguishedBy (Derivative a c)
derivative_distinguished axis.X control.Coarse = refl
derivative_distinguished axis.X _ = refl
derivative_distinguished axis.Y control.Coarse = refl
derivative_distinguished axis.Y _ = refl
derivative_distinguished axis.Width control.Coarse = refl
derivative_distinguished axis.Width _ = refl

-- with an array index or an offset or without
sample_distinguished : (l : Level) (compares clamped arrayed offset : Bool) →
    IsDistinguishedBy (Sample l compares clamped arrayed offset)
sample_distinguished Automatic true true arrayed offset = refl
sample_distinguished Automatic true false arrayed offset = refl
sample_distinguished Automatic false true arrayed offset = refl
sample_distinguished Automatic false false arrayed offset = refl
sample_distinguished Zero true true arrayed offset = refl
sample_distinguished Zero true false arrayed offset = refl
sample_distinguished Zero false true arrayed offset = refl
sample_distinguished Zero false false arrayed offset = refl
sample_distinguished Exact true true arrayed offset = refl
sample_distinguished Exact true false arrayed offset = refl
sample_distinguished Exact false true arrayed offset = refl
sample_distinguished Exact false false arrayed offset = refl
sample_distinguished Biased true true arrayed offset = refl
sample_distinguished Biased true false arrayed offset = refl
sample_distinguished Biased false true arrayed offset = refl
sample_distinguished Biased false false arrayed offset = refl
sample_distinguished Graded true true arrayed offset = refl
sample_distinguished Graded true false arrayed offset = refl
sample_distinguished Graded false true arrayed offset = refl
sample_distinguished Graded false false arrayed offset = refl

gather_distinguished : (l : Level) (compares clamped arrayed offset : Bool) (c : Option SwizzleComponent) →
    IsDistinguishedBy (Gather c l compares clamped arrayed offset)
gather_distinguished Automatic true true arrayed offset None = refl
gather_distinguished Automatic true true arrayed offset (Some component.X) = refl
gather_distinguished Automatic true true arrayed offset (Some _) = refl
gather_distinguished Automatic true false arrayed offset None = refl
gather_distinguished Automatic true false arrayed offset (Some component.X) = refl
gather_distinguished Automatic true false arrayed offset (Some _) = refl
gather_distinguished Automatic false true arrayed offset None = refl
gather_distinguished Automatic false true arrayed offset (Some component.X) = refl
gather_distinguished Automatic false true arrayed offset (Some _) = refl
gather_distinguished Automatic false false arrayed offset None = refl
gather_distinguished Automatic false false arrayed offset (Some component.X) = refl
gather_distinguished Automatic false false arrayed offset (Some _) = refl
gather_distinguished Zero true true arrayed offset None = refl
gather_distinguished Zero true true arrayed offset (Some component.X) = refl
gather_distinguished Zero true true arrayed offset (Some _) = refl
gather_distinguished Zero true false arrayed offset None = refl
gather_distinguished Zero true false arrayed offset (Some component.X) = refl
gather_distinguished Zero true false arrayed offset (Some _) = refl
gather_distinguished Zero false true arrayed offset None = refl
gather_distinguished Zero false true arrayed offset (Some component.X) = refl
gather_distinguished Zero false true arrayed offset (Some _) = refl
gather_distinguished Zero false false arrayed offset None = refl
gather_distinguished Zero false false arrayed offset (Some component.X) = refl
gather_distinguished Zero false false arrayed offset (Some _) = refl
gather_distinguished Exact true true arrayed offset None = refl
gather_distinguished Exact true true arrayed offset (Some component.X) = refl
gather_distinguished Exact true true arrayed offset (Some _) = refl
gather_distinguished Exact true false arrayed offset None = refl
gather_distinguished Exact true false arrayed offset (Some component.X) = refl
gather_distinguished Exact true false arrayed offset (Some _) = refl
gather_distinguished Exact false true arrayed offset None = refl
gather_distinguished Exact false true arrayed offset (Some component.X) = refl
gather_distinguished Exact false true arrayed offset (Some _) = refl
gather_distinguished Exact false false arrayed offset None = refl
gather_distinguished Exact false false arrayed offset (Some component.X) = refl
gather_distinguished Exact false false arrayed offset (Some _) = refl
gather_distinguished Biased true true arrayed offset None = refl
gather_distinguished Biased true true arrayed offset (Some component.X) = refl
gather_distinguished Biased true true arrayed offset (Some _) = refl
gather_distinguished Biased true false arrayed offset None = refl
gather_distinguished Biased true false arrayed offset (Some component.X) = refl
gather_distinguished Biased true false arrayed offset (Some _) = refl
gather_distinguished Biased false true arrayed offset None = refl
gather_distinguished Biased false true arrayed offset (Some component.X) = refl
gather_distinguished Biased false true arrayed offset (Some _) = refl
gather_distinguished Biased false false arrayed offset None = refl
gather_distinguished Biased false false arrayed offset (Some component.X) = refl
gather_distinguished Biased false false arrayed offset (Some _) = refl
gather_distinguished Graded true true arrayed offset None = refl
gather_distinguished Graded true true arrayed offset (Some component.X) = refl
gather_distinguished Graded true true arrayed offset (Some _) = refl
gather_distinguished Graded true false arrayed offset None = refl
gather_distinguished Graded true false arrayed offset (Some component.X) = refl
gather_distinguished Graded true false arrayed offset (Some _) = refl
gather_distinguished Graded false true arrayed offset None = refl
gather_distinguished Graded false true arrayed offset (Some component.X) = refl
gather_distinguished Graded false true arrayed offset (Some _) = refl
gather_distinguished Graded false false arrayed offset None = refl
gather_distinguished Graded false false arrayed offset (Some component.X) = refl
gather_distinguished Graded false false arrayed offset (Some _) = refl

texel_change_distinguished : (c : Change) (arrayed : Bool) →
    IsDistinguishedBy (TexelChange c arrayed)
texel_change_distinguished AddTo arrayed = refl
texel_change_distinguished _ arrayed = refl

count_distinguished : (c : ImageCount) → IsDistinguishedBy (CountOf c)
count_distinguished Levels = refl
count_distinguished _ = refl

change_distinguished : (c : Change) → IsDistinguishedBy (AtomicChange c)
change_distinguished AddTo = refl
change_distinguished _ = refl

collective_distinguished : (o : SubgroupOperation) (c : CollectiveOperation) →
    IsDistinguishedBy (Collective o c)
collective_distinguished subgroup.All collective.Reduce = refl
collective_distinguished subgroup.All _ = refl
collective_distinguished subgroup.Any collective.Reduce = refl
collective_distinguished subgroup.Any _ = refl
collective_distinguished subgroup.Add collective.Reduce = refl
collective_distinguished subgroup.Add _ = refl
collective_distinguished subgroup.Mul collective.Reduce = refl
collective_distinguished subgroup.Mul _ = refl
collective_distinguished subgroup.Min collective.Reduce = refl
collective_distinguished subgroup.Min _ = refl
collective_distinguished subgroup.Max collective.Reduce = refl
collective_distinguished subgroup.Max _ = refl
collective_distinguished subgroup.And collective.Reduce = refl
collective_distinguished subgroup.And _ = refl
collective_distinguished subgroup.Or collective.Reduce = refl
collective_distinguished subgroup.Or _ = refl
collective_distinguished subgroup.Xor collective.Reduce = refl
collective_distinguished subgroup.Xor _ = refl

source_distinguished : (s : Source) → IsDistinguishedBy (FromSubgroup s)
source_distinguished (QuadSwapped direction.X) = refl
source_distinguished (QuadSwapped _) = refl
source_distinguished _ = refl

barrier_distinguished : (control : Bool) (k : BarrierMemory) → IsDistinguishedBy (Barrier control k)
barrier_distinguished control StorageOrdered = refl
barrier_distinguished control _ = refl

splat_distinguished : (n : VectorSize) → IsDistinguishedBy (Splat n)
splat_distinguished vector.Bi = refl
splat_distinguished _ = refl

pub distinguished : (o : Operator) → is_untyped o ≡ true → IsDistinguishedBy o
distinguished (BinarySign op) u = binary_distinguished op
distinguished (UnarySign op) u = unary_distinguished op
distinguished (Math f) u = math_distinguished f
distinguished (Relational f) u = relation_distinguished f
distinguished (Derivative a c) u = derivative_distinguished a c
distinguished (Sample l compares clamped arrayed offset) u =
    sample_distinguished l compares clamped arrayed offset
distinguished (Gather c l compares clamped arrayed offset) u = gather_distinguished l compares clamped arrayed offset c
distinguished (Texel arrayed OnlyTexel) u = refl
distinguished (Texel arrayed _) u = refl
distinguished (TexelChange c arrayed) u = texel_change_distinguished c arrayed
distinguished (CountOf c) u = count_distinguished c
distinguished (AtomicChange c) u = change_distinguished c
distinguished (Collective o c) u = collective_distinguished o c
distinguished (FromSubgroup s) u = source_distinguished s
distinguished (Barrier control k) u = barrier_distinguished control k
distinguished (CooperativeLoad row_major t) u = absurd (false≢true u)
distinguished (CooperativeStore true) u = refl
distinguished (CooperativeStore false) u = refl
distinguished (RayIntersection true) u = refl
distinguished (RayIntersection false) u = refl
distinguished (RayCorners true) u = refl
distinguished (RayCorners false) u = refl
distinguished (MakeSpelled t n) u = absurd (false≢true u)
distinguished (Splat n) u = splat_distinguished n
distinguished (Convert t) u = absurd (false≢true u)
distinguished (Reinterpret t) u = absurd (false≢true u)
distinguished (WithoutForm x) u = absurd (false≢true u)
distinguished _ u = refl

-- two that take no type, and have one word, have one operator that stands for them
pub untyped_one_word : (a b : Operator) → is_untyped a ≡ true → is_untyped b ≡ true → run_word a ≡ run_word b →
    one_word a ≡ one_word b
untyped_one_word a b ua ub e = same_Some (one_word a) (one_word b) (sym (distinguished a ua)
    ∙ (ap operator_of e ∙ distinguished b ub))

-- ---- what all of the table have
-- what is found by a word has it, and passes a test that all operators of the list pass
found : (test : Operator → Bool) (w : List ℕ) (os : List Operator) (o : Operator) →
    list_all test os ≡ true → first_with w os ≡ Some o → (w ≡ run_word o) × (test o ≡ true)
found test w [] o all e = absurd cc
found test w (x ∷ os) o all e =
    by (bytes_eq w (run_word x)) refl (and_parts (test x) (list_all test os) all)
    (found test w os o) e
  where
    by : (b : Bool) → bytes_eq w (run_word x) ≡ b → (test x ≡ true) × (list_all test os ≡ true) →
        (list_all test os ≡ true → first_with w os ≡ Some o →
        (w ≡ run_word o) × (test o ≡ true)) →
        (if b then Some x else first_with w os) ≡ Some o → (w ≡ run_word o) × (test o ≡ true)
    by true same parts later e =
        let is = same_Some x o e in (
          (bytes_eq-Decides w (run_word x)).0 same ∙ ap run_word is,
          subst (λ y. test y ≡ true) is parts.0,
        )
    by false same parts later e = later parts.1 e

-- One that takes no type has the word of the operator that stands for it, which passes what all of
-- the table pass.
pub by_table : (test : Operator → Bool) → list_all test others ≡ true →
    list_all test mathematical ≡ true → (o : Operator) → is_untyped o ≡ true →
    (run_word o ≡ run_word (one_word o)) × (test (one_word o) ≡ true)
by_table test one two o u = by (first_with (run_word o) others) refl (distinguished o u)
  where
    by : (x : Option Operator) → first_with (run_word o) others ≡ x →
        option_or x (first_with (run_word o) mathematical) ≡ Some (one_word o) →
        (run_word o ≡ run_word (one_word o)) × (test (one_word o) ≡ true)
    by (Some y) is e = found test (run_word o) others (one_word o) one (is ∙ e)
    by None is e = found test (run_word o) mathematical (one_word o) two e

-- ---- with the number of operands
-- the operator with this word's and this number of operands
abbrev by_count : Operator → ℕ → Operator
by_count (BinarySign op) n = if n == 1 then UnarySign unary.Negate else BinarySign op
by_count (TexelStore arrayed) n = TexelStore (n == 4)
by_count (TexelChange c arrayed) n = TexelChange c (n == 4)
by_count (ImageSize of_level) n = ImageSize (n == 2)
by_count (Ballot predicate) n = Ballot (n == 1)
by_count (MakeSpelled t components) n = MakeSpelled t n
by_count (WithoutForm (ValueOf numbers components)) n = WithoutForm (ValueOf numbers n)
by_count o n = o

distinguished_by_count : (o : Operator) → is_distinguished o ≡ true →
    by_count (one_word o) (operand_count o) ≡ o
distinguished_by_count (UnarySign unary.Negate) t = refl
distinguished_by_count (UnarySign _) t = refl
distinguished_by_count (Sample l compares clamped arrayed offset) t = absurd (false≢true t)
distinguished_by_count (Gather c l compares clamped arrayed offset) t = absurd (false≢true t)
distinguished_by_count (Texel arrayed of_) t = absurd (false≢true t)
distinguished_by_count (Convert u) t = absurd (false≢true t)
distinguished_by_count (Barrier control k) t = absurd (false≢true t)
distinguished_by_count (TexelStore true) t = refl
distinguished_by_count (TexelStore false) t = refl
distinguished_by_count (TexelChange c true) t = refl
distinguished_by_count (TexelChange c false) t = refl
distinguished_by_count (ImageSize true) t = refl
distinguished_by_count (ImageSize false) t = refl
distinguished_by_count (Ballot true) t = refl
distinguished_by_count (Ballot false) t = refl
distinguished_by_count (WithoutForm (ValueOf numbers components)) t = refl
distinguished_by_count (WithoutForm _) t = refl
distinguished_by_count _ t = refl

pub counted_apart : (a b : Operator) → is_distinguished a ≡ true → is_distinguished b ≡ true →
    one_word a ≡ one_word b → operand_count a ≡ operand_count b → a ≡ b
counted_apart a b ta tb e n =
    sym (distinguished_by_count a ta) ∙ ((λ i. by_count (e i) (n i)) ∙ distinguished_by_count b tb)

-- what stands for an operator has its word
pub keeps_word : (o : Operator) → run_word (one_word o) ≡ run_word o
keeps_word (UnarySign unary.Negate) = refl
keeps_word (UnarySign _) = refl
keeps_word (Sample Zero true false arrayed offset) = refl
keeps_word (Sample Zero false false arrayed offset) = refl
keeps_word (Sample Zero compares true arrayed offset) = refl
keeps_word (Sample Automatic compares clamped arrayed offset) = refl
keeps_word (Sample _ compares clamped arrayed offset) = refl
keeps_word (Gather c Zero compares false arrayed offset) = refl
keeps_word (Gather c Zero compares true arrayed offset) = refl
keeps_word (Gather c Automatic compares clamped arrayed offset) = refl
keeps_word (Gather c _ compares clamped arrayed offset) = refl
keeps_word (Texel arrayed OnlyTexel) = refl
keeps_word (Texel arrayed _) = refl
keeps_word (WithoutForm (ValueOf numbers components)) = refl
keeps_word (WithoutForm _) = refl
keeps_word _ = refl
