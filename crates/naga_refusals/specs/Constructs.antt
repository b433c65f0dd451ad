-- What is told of a construct for which a module is refused.
use Rattle.std.specs.Prelude.{◌≡◌, ℕ, List, codes, Option, Some, None}
use Rattle.naga_refusals.specs.Errors.{IsCustom, IsUnimplemented, IsUnsupported}
use Rattle.naga_refusals.specs.declared.construct.Construct.{Construct}
use Rattle.naga_refusals.specs.declared.construct.Construct.TheVariants as construct
use Rattle.naga_refusals.specs.declared.error.Error.{Error}
use Rattle.naga_refusals.specs.declared.error.Error.TheVariants.{UnsupportedRelationalFunction}

-- The words of a construct. Of one with a value they say what kind of thing that is, and its debug
-- text is told after them.
abbrev pub construct_words : Construct → List ℕ
construct_words construct.FloatLiteral = codes "float literal"
construct_words construct.AbstractLiteral =
    codes "Abstract types should not appear in IR presented to backends"
construct_words (construct.MathFunction fun) = codes "math function"
construct_words (construct.RelationalFunction fun) = codes "relational function"
construct_words (construct.ScalarType scalar) = codes "scalar type"
construct_words (construct.BuiltIn value) = codes "builtin value"
construct_words construct.OtherType = codes "type without a WGSL form"
construct_words construct.PredeclaredStruct = codes "predeclared struct"
construct_words construct.Conversion = codes "conversion of this type"
construct_words construct.RayQuery = codes "ray query"
construct_words construct.SubgroupOperation = codes "subgroup operation"
construct_words construct.FallThrough = codes "fall-through switch case block"
construct_words construct.ImageCompareExchange = codes "image compare exchange"
construct_words construct.SamplingMethod = codes "sampling form"
construct_words construct.ConstantOperator = codes "operator in a constant"
construct_words construct.ImageLoad = codes "image load with sample and level"
construct_words construct.Index = codes "cannot index"
construct_words construct.OutOfScope = codes "operand out of scope"
construct_words construct.StageVariable = codes "missing payload or mesh output"
construct_words construct.OffAlignment = codes "member off its alignment"
construct_words construct.Overlap = codes "members overlap"
construct_words construct.ArrayStride = codes "array stride"
construct_words construct.FullNamer = codes "namer is full"
construct_words construct.NameKey = codes "name key out of range"

-- What is displayed: the words alone. Of a construct with a value nothing is said, since nothing is
-- known of a debug text.
abbrev pub construct_text : Construct → Option (List ℕ)
construct_text (construct.MathFunction fun) = None
construct_text (construct.RelationalFunction fun) = None
construct_text (construct.ScalarType scalar) = None
construct_text (construct.BuiltIn value) = None
construct_text it = Some (construct_words it)

-- the error that names the construct, or want of memory for its text
abbrev pub IsToldAs : Construct → Error → Type 0
IsToldAs (construct.RelationalFunction fun) error = error ≡ UnsupportedRelationalFunction fun
IsToldAs (construct.MathFunction fun) error =
    IsUnsupported (construct_words (construct.MathFunction fun)) error
IsToldAs (construct.ScalarType scalar) error =
    IsUnsupported (construct_words (construct.ScalarType scalar)) error
IsToldAs (construct.BuiltIn value) error =
    IsUnsupported (construct_words (construct.BuiltIn value)) error
IsToldAs construct.FloatLiteral error =
    IsUnimplemented (construct_words construct.FloatLiteral) error
IsToldAs construct.Conversion error = IsUnimplemented (construct_words construct.Conversion) error
IsToldAs construct.RayQuery error = IsUnimplemented (construct_words construct.RayQuery) error
IsToldAs construct.SubgroupOperation error =
    IsUnimplemented (construct_words construct.SubgroupOperation) error
IsToldAs construct.FallThrough error = IsUnimplemented (construct_words construct.FallThrough) error
IsToldAs construct.ImageCompareExchange error =
    IsUnimplemented (construct_words construct.ImageCompareExchange) error
IsToldAs construct.SamplingMethod error =
    IsUnimplemented (construct_words construct.SamplingMethod) error
IsToldAs it error = IsCustom (construct_words it) error

-- there is such a construct, and the error names it
abbrev pub IsToldOf : Option Construct → Error → Type 0
IsToldOf None error = ⊥
IsToldOf (Some it) error = IsToldAs it error
