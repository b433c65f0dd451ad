-- The role of an operand: the field by which an expression or a statement holds it, as `left`, or
-- its number in a list, as `components[2]`.
--
-- Throughout, h is the handle of an operand, xs are the handles of a list, name is that of a field,
-- f a field and fs further ones, e an expression, s a statement by itself, m a module, and g a
-- function of it.
use Rattle.std.specs.Prelude.{ℕ, ◌==◌, List, [], ◌∷◌, Option, None, Some, codes}
use Rattle.std.specs.Prelude.{if◌then◌else◌, All, IsSome, position, slice_get}
use Rattle.std.specs.Option.{option_and_then, option_map, option_or}
use Rattle.module_positions.specs.declared.roles.Role.{Role as ToldRole}
use Rattle.naga_ir.specs.declared.expression.Expression.{Expression}
use Rattle.naga_ir.specs.declared.expression.Expression.TheVariants.{Compose, ImageSample}
use Rattle.naga_ir.specs.declared.expression.SampleLevel.{SampleLevel}
use Rattle.naga_ir.specs.declared.expression.SampleLevel.TheVariants.{Exact, Bias, Gradient}
use Rattle.naga_ir.specs.declared.module.Function.{Function}
use Rattle.naga_ir.specs.declared.module.Module.{Module}
use Rattle.naga_fields.specs.Fields.{Field, expression_fields, holds, statement_fields}
use Rattle.naga_ir.specs.Operands.{expression_operands, own_operands}
use Rattle.naga_ir.specs.StatementTree.{StatementTree, simple, call}
use Rattle.naga_ir.specs.InOrder.{trees_in}
use Rattle.naga_scope.specs.declared.scope_faults.ScopeFault.{ScopeFault}
use Rattle.naga_scope.specs.declared.scope_faults.ScopeFault.TheVariants.{Operand, BreakIf}
use Rattle.naga_scope.specs.declared.scope_faults.ScopeFault.TheVariants.{EmittedOperand}
use Rattle.naga_scope.specs.declared.positions.FunctionRefusalPosition.{FunctionRefusalPosition}
use Rattle.naga_scope.specs.declared.positions.FunctionRefusalPosition.TheVariants.{Scope}
use Rattle.naga_scope.specs.declared.positions.RefusalPosition.{RefusalPosition}
use Rattle.naga_scope.specs.declared.positions.RefusalPosition.TheVariants as refused

-- a field by its name, and where it is a list the number in it
abbrev pub Role : Type 0
Role = List ℕ × Option ℕ

-- so contracts see what code tells of one
abbrev pub seen : ToldRole → Role
seen role = (role.field.now, role.item)

-- the first item of a list that is this handle
abbrev pub list_role : (name : List ℕ) → (h : ℕ) → (xs : List ℕ) → Option Role
list_role name h xs = option_map (λ number. (name, Some number)) (position (λ x. x == h) xs)

-- a field, if it holds this handle
abbrev pub field_role : (h : ℕ) → Field → Option Role
field_role h (name, None) = None
field_role h (name, Some held) = if held == h then Some (name, None) else None

-- the first field that holds it
abbrev pub first_role : (h : ℕ) → List Field → Option Role
first_role h [] = None
first_role h (f ∷ fs) = option_or (field_role h f) (first_role h fs)

-- ---- of an expression
-- in a list, if it has one
abbrev pub component_role : (h : ℕ) → Expression → Option Role
component_role h (Compose ty components) = list_role (codes "components") h components.items
component_role h e = None

-- in a level of detail
abbrev pub level_fields : SampleLevel → List Field
level_fields (Exact level) = holds (codes "level") level ∷ []
level_fields (Bias bias) = holds (codes "level") bias ∷ []
level_fields (Gradient x y) = holds (codes "x") x ∷ holds (codes "y") y ∷ []
level_fields _ = []

abbrev pub level_role : (h : ℕ) → Expression → Option Role
level_role h
    (ImageSample image sampler gather coordinate array_index offset level depth_ref clamp) =
    first_role h (level_fields level)
level_role h e = None

-- The first role that it has: in the list, in a field, in the level of detail.
abbrev pub expression_role : (h : ℕ) → Expression → Option Role
expression_role h e =
    option_or (component_role h e)
    (option_or (first_role h (expression_fields e)) (level_role h e))

-- ---- of a statement by itself
-- in a list, if it has one
abbrev pub argument_role : (h : ℕ) → StatementTree → Option Role
argument_role h (simple (call function arguments outcome)) =
    list_role (codes "arguments") h arguments
argument_role h s = None

-- The first role that it has: in the list, which may hold what is the result too, or in a field.
abbrev pub statement_role : (h : ℕ) → StatementTree → Option Role
statement_role h s = option_or (argument_role h s) (first_role h (statement_fields s))

-- ---- of what is out of scope
-- in the statement that uses it, or in the expression that an Emit binds
abbrev pub fault_role : Function → ScopeFault → Option Role
fault_role g (Operand statement operand) =
    option_and_then (statement_role operand) (slice_get (trees_in g.body) statement)
fault_role g (BreakIf statement next operand) =
    option_and_then (statement_role operand) (slice_get (trees_in g.body) statement)
fault_role g (EmittedOperand statement expression operand) =
    option_and_then (expression_role operand) (slice_get g.expressions expression)
fault_role g fault = None

abbrev pub role_in_function : FunctionRefusalPosition → Function → Option Role
role_in_function (Scope fault) g = fault_role g fault
role_in_function part g = None

-- the role of the operand that is out of scope at this position
abbrev pub role_in : Module → RefusalPosition → Option Role
role_in m (refused.Function h part) = option_and_then (role_in_function part) (slice_get m.functions h)
role_in m (refused.EntryPoint i part) =
    option_and_then (λ e. role_in_function part e.function) (slice_get m.entry_points.items i)
role_in m at = None

-- ---- what is promised
-- each operand has a role, of an expression and of a statement by itself
abbrev pub OperandsHaveRoles : Type 0
OperandsHaveRoles =
    ((e : Expression) → All (λ h. IsSome (expression_role h e)) (expression_operands e))
    × ((s : StatementTree) → All (λ h. IsSome (statement_role h s)) (own_operands s))
