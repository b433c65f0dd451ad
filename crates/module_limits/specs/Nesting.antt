-- How deep a module is nested: the operands of its expressions, the parts of its types, and the
-- blocks of its statements. Whoever goes into one of these from the other goes no deeper than the
-- sum of their depths.
--
-- Throughout, m is a module, f a function, p an entry point, e an expression, k a constant or a
-- member of a struct, and levels is how deep something may be nested.
use Rattle.std.specs.Prelude.{ℕ, max, List, [], ◌∷◌, ◌++◌, Option, Some, None, map, nat_le}
use Rattle.std.specs.Prelude.{codes, if◌then◌else◌, slice_get}
use Rattle.std.specs.Option.{is_some, option_and_then, option_to_list}
use Rattle.naga_ir.specs.Operands.{expression_operands}
use Rattle.naga_ir.specs.declared.expression.Expression.{Expression}
use Rattle.naga_ir.specs.declared.expression.Expression.TheVariants as expression
use Rattle.naga_ir.specs.declared.module.Constant.{Constant}
use Rattle.naga_ir.specs.declared.module.Function.{Function}
use Rattle.naga_ir.specs.declared.module.Module.{Module}
use Rattle.naga_ir.specs.declared.types.Type_.{Type_}
use Rattle.naga_ir.specs.declared.types.TypeInner.{TypeInner}
use Rattle.naga_ir.specs.declared.types.TypeInner.TheVariants as inner
use Rattle.module_limits.specs.Depths.{depth_of, greatest}
use Rattle.module_limits.specs.Blocks.{block_depth}
use Rattle.module_limits.specs.declared.nesting.Nested.{Nested}
use Rattle.module_limits.specs.declared.nesting.Nested.TheVariants.{Blocks, Operands, Types}

-- ---- types

-- the types that a type is made of
abbrev pub type_parts : TypeInner → List ℕ
type_parts (inner.Scalar scalar) = []
type_parts (inner.Vector size scalar) = []
type_parts (inner.Matrix columns rows scalar) = []
type_parts (inner.CooperativeMatrix columns rows scalar role) = []
type_parts (inner.Atomic scalar) = []
type_parts (inner.Pointer base space) = base ∷ []
type_parts (inner.ValuePointer size scalar space) = []
type_parts (inner.Array base size stride) = base ∷ []
type_parts (inner.Struct members span) = map (λ k. k.ty) members.items
type_parts (inner.Image dim arrayed class) = []
type_parts (inner.Sampler comparison) = []
type_parts (inner.AccelerationStructure vertex_return) = []
type_parts (inner.RayQuery vertex_return) = []
type_parts (inner.BindingArray base size) = base ∷ []

abbrev pub types_depth : List Type_ → ℕ
types_depth types = depth_of (λ t. type_parts t.inner) types

-- ---- operands

-- the initialiser of the constant that an expression names, if that has no name, by which it would
-- be written
abbrev pub unnamed_initialiser : List Constant → Expression → Option ℕ
unnamed_initialiser constants (expression.Constant c) =
    option_and_then (λ k. if is_some k.name then None else Some k.init) (slice_get constants c)
unnamed_initialiser constants _ = None

-- what one of the module's own expressions is written with
abbrev pub global_parts : List Constant → Expression → List ℕ
global_parts constants e =
    option_to_list (unnamed_initialiser constants e) ++ expression_operands e

abbrev pub globals_depth : List Constant → List Expression → ℕ
globals_depth constants expressions = depth_of (global_parts constants) expressions

abbrev pub operands_depth : Function → ℕ
operands_depth f = depth_of expression_operands f.expressions

-- ---- modules

-- a number of each function and entry point: that of the one that has the greatest
abbrev pub greatest_of : (Function → ℕ) → Module → ℕ
greatest_of number m =
    max (greatest (map number m.functions))
    (greatest (map (λ p. number p.function) m.entry_points.items))

abbrev pub module_operands_depth : Module → ℕ
module_operands_depth m =
    max (globals_depth m.constants m.global_expressions) (greatest_of operands_depth m)

abbrev pub module_types_depth : Module → ℕ
module_types_depth m = types_depth m.types

abbrev pub module_blocks_depth : Module → ℕ
module_blocks_depth m = greatest_of (λ f. block_depth f.body) m

-- how deep it is nested
abbrev pub nesting : Module → ℕ
nesting m =
    max (module_blocks_depth m) (max (module_types_depth m) (module_operands_depth m))

-- what is nested deeper than so many levels, if anything is: the first of blocks, types and
-- operands
abbrev pub nested_past : (levels : ℕ) → Module → Option Nested
nested_past levels m =
    if nat_le (module_blocks_depth m) levels then
    (if nat_le (module_types_depth m) levels then
    (if nat_le (module_operands_depth m) levels then None else Some Operands)
    else Some Types) else Some Blocks

-- what is displayed of it, as `nested too deep: types`
abbrev pub nested_text : Nested → List ℕ
nested_text Blocks = codes "nested too deep: blocks"
nested_text Types = codes "nested too deep: types"
nested_text Operands = codes "nested too deep: operands"
