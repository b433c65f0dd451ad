-- The names of structs that WGSL has without a declaration.
use Rattle.std.specs.Prelude.{ℕ, ◌*◌, List, ◌++◌, Option, Some, None, codes, decimal}
use Rattle.naga_ir.specs.declared.types.PredeclaredType.{PredeclaredType}
use Rattle.naga_ir.specs.declared.types.PredeclaredType.TheVariants as predeclared
use Rattle.naga_ir.specs.declared.types.Scalar.{Scalar}
use Rattle.naga_ir.specs.declared.types.ScalarKind.{ScalarKind}
use Rattle.naga_ir.specs.declared.types.ScalarKind.TheVariants as kind
use Rattle.naga_ir.specs.declared.types.VectorSize.{VectorSize}
use Rattle.naga_spelling.specs.Words.{vector_word}

-- the kind of a scalar
abbrev pub kind_name : ScalarKind → List ℕ
kind_name kind.Sint = codes "Sint"
kind_name kind.Uint = codes "Uint"
kind_name kind.Float = codes "Float"
kind_name kind.Bool = codes "Bool"
kind_name kind.AbstractInt = codes "AbstractInt"
kind_name kind.AbstractFloat = codes "AbstractFloat"

-- the result of a function of floating-point numbers, with the number of bits: `__modf_result_f32`
abbrev pub result_name : List ℕ → Option VectorSize → Scalar → List ℕ
result_name function None scalar = function ++ (codes "f" ++ decimal (8 * scalar.width))
result_name function (Some size) scalar =
    function ++ (vector_word size ++ (codes "_f" ++ decimal (8 * scalar.width)))

-- the result of an exchange, with the scalar's kind and its number of bytes
abbrev pub exchange_name : Scalar → List ℕ
exchange_name scalar =
    codes "__atomic_compare_exchange_result<" ++
    (kind_name scalar.kind ++ (codes "," ++ (decimal scalar.width ++ codes ">")))

abbrev pub predeclared_name : PredeclaredType → List ℕ
predeclared_name (predeclared.AtomicCompareExchangeWeakResult scalar) = exchange_name scalar
predeclared_name (predeclared.ModfResult size scalar) =
    result_name (codes "__modf_result_") size scalar
predeclared_name (predeclared.FrexpResult size scalar) =
    result_name (codes "__frexp_result_") size scalar
