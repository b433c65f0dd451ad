-- From which number of uses on an expression is bound by a `let`, and the name that it has there.
use Rattle.std.specs.Prelude.{ℕ, List, ◌++◌, codes, decimal}
use Rattle.naga_info.specs.UseCounts.{greatest_count}
use Rattle.naga_ir.specs.declared.expression.Expression.{Expression}
use Rattle.naga_ir.specs.declared.expression.Expression.TheVariants.{Access, AccessIndex, Load}
use Rattle.naga_ir.specs.declared.expression.Expression.TheVariants.{ImageSample, ImageLoad}
use Rattle.naga_ir.specs.declared.expression.Expression.TheVariants.{Derivative}

-- accesses are bound for no number of uses below the greatest count; what depends on when it is
-- evaluated, so that it must be evaluated at its `Emit`, is bound from one use on; all else from
-- two, so that nothing is computed twice
abbrev pub count_to_bind : Expression → ℕ
count_to_bind (Access base index) = greatest_count
count_to_bind (AccessIndex base index) = greatest_count
count_to_bind
    (ImageSample
    image sampler gather coordinate array_index offset level depth_ref clamp_to_edge) =
    1
count_to_bind (ImageLoad image coordinate array_index sample level) = 1
count_to_bind (Derivative axis ctrl expr) = 1
count_to_bind (Load pointer) = 1
count_to_bind _ = 2

-- the name of a bound expression with this handle, where the source gave none: `_e` and the
-- handle's index
abbrev pub baked_name : ℕ → List ℕ
baked_name handle = codes "_e" ++ decimal handle
