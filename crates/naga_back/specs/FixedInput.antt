-- Which built-in values come into an entry point by its arguments.
use Rattle.std.specs.Prelude.{ℕ, List, [], ◌∷◌, ◌++◌, length, Option, Some, None, slice_get}
use Prim.Native.Nat.{zero, suc}
use Rattle.std.specs.Option.{option_and_then, option_map, option_or}
use Rattle.naga_ir.specs.declared.binding.Binding.{Binding}
use Rattle.naga_ir.specs.declared.binding.Binding.TheVariants as bound
use Rattle.naga_ir.specs.declared.binding.BuiltIn.{BuiltIn}
use Rattle.naga_ir.specs.declared.expression.Expression.{Expression}
use Rattle.naga_ir.specs.declared.expression.Expression.TheVariants.{FunctionArgument, AccessIndex}
use Rattle.naga_ir.specs.declared.module.FunctionArgument.{FunctionArgument as Argument}
use Rattle.naga_ir.specs.declared.module.Module.{Module}
use Rattle.naga_ir.specs.declared.types.StructMember.{StructMember}
use Rattle.naga_ir.specs.declared.types.Type_.{Type_}
use Rattle.naga_ir.specs.declared.types.TypeInner.{TypeInner}
use Rattle.naga_ir.specs.declared.types.TypeInner.TheVariants.{Struct}
use Rattle.naga_info.specs.declared.info.ExpressionInfo.{ExpressionInfo}
use Rattle.naga_back.specs.declared.context.FunctionType.{FunctionType}
use Rattle.naga_back.specs.declared.context.FunctionType.TheVariants.{Function, EntryPoint}
use Rattle.naga_back.specs.FunctionContext.{type_at}

-- the built-in value that a binding names, if it names one
abbrev pub builtin_of : Option Binding → Option BuiltIn
builtin_of (Some (bound.BuiltIn builtin)) = Some builtin
builtin_of _ = None

-- the member with this number, if the type is a struct that has one
abbrev pub member_of : ℕ → TypeInner → Option StructMember
member_of index (Struct members span) = slice_get members.items index
member_of index _ = None

-- the binding of the member with this number of the struct that the expression with this handle is
abbrev pub member_binding :
    List ExpressionInfo → List Type_ → (base index : ℕ) → Option (Option Binding)
member_binding infos types base index =
    option_map (λ member. member.binding)
    (option_and_then (member_of index) (type_at infos types base))

-- how an expression comes from an argument: the binding of the argument, then that of each member
-- on the way, outermost first; `before` has the same of the struct that a member is taken of
abbrev pub way_by :
    List Argument → (member : ℕ → ℕ → Option (Option Binding)) →
    (before : ℕ → Option (List (Option Binding))) → Expression → Option (List (Option Binding))
way_by arguments member before (FunctionArgument number) =
    option_map (λ argument. argument.binding ∷ []) (slice_get arguments number)
way_by arguments member before (AccessIndex base index) =
    option_and_then (λ binding. option_map (λ way. way ++ binding ∷ []) (before base))
    (member base index)
way_by arguments member before _ = None

-- the same of the expression with this handle, where the way has no more than so many steps; none
-- for what is neither an argument nor a chain of members of one
abbrev pub way_of :
    List Argument → (member : ℕ → ℕ → Option (Option Binding)) → List Expression → (steps : ℕ) →
    ℕ → Option (List (Option Binding))
way_of arguments member es zero handle = None
way_of arguments member es (suc steps) handle =
    option_and_then (way_by arguments member (way_of arguments member es steps))
    (slice_get es handle)

-- the first built-in value that is named
abbrev pub first_builtin : List (Option Binding) → Option BuiltIn
first_builtin [] = None
first_builtin (binding ∷ way) = option_or (builtin_of binding) (first_builtin way)

-- the built-in value that the expression with this handle is or is a part of: in an entry
-- point, the argument's, if it has one, else that of the member nearest to the argument; a way has
-- no more steps than there are expressions
unfoldable pub fixed_input :
    FunctionType → Module → List ExpressionInfo → List Expression → ℕ → Option BuiltIn
fixed_input (Function function) m infos es handle = None
fixed_input (EntryPoint index) m infos es handle =
    option_and_then (λ e.
    option_and_then first_builtin
    (way_of e.function.arguments.items (member_binding infos m.types) es (length es) handle))
    (slice_get m.entry_points.items index)
