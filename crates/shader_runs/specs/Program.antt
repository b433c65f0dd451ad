-- A module as shapes: expressions in a list, statements that name them by their index.
--
-- Throughout, p is a module, f a function, g the number of a function and h the handle of an
-- expression; of an expression w is the word, and xs are the operands; of a statement a and b are
-- the bodies, and c, d and e what its constructor tells.
use Rattle.std.specs.Prelude.{ℕ, zero, suc, ℤ, Bool, true, false, cond, List, [], ◌∷◌}
use Rattle.std.specs.Prelude.{length, Option, Some, None, ◌||◌, nat_eq, get_or, slice_get}
use Rattle.std.specs.Prelude.{drop, ◌&&◌}
use Rattle.shader_runs.specs.Value.{Bytes, PartTypes, Selector, Value, ValueType, BooleanType}
use Rattle.shader_runs.specs.Value.{PointerType, type_at}
use Rattle.shader_runs.specs.Value.{ShortCircuit}

mutual
  -- an expression over constants alone that no handle of the function names inside: a literal, a
  -- named constant or override, or an operator's value of this type: of a word over its operands,
  -- as a type's value from parts is (no parts: its zero value), of an index into a value, of a part
  -- of one, or of `&&` or `||`
  pub data ConstantTree : Type 0 where
    Fixed : Value → ConstantTree
    NamedConstant : (index : ℕ) → ConstantTree
    Composed : (word : Bytes) → ValueType → ConstantTrees → ConstantTree
    Indexing : ValueType → (base index : ConstantTree) → ConstantTree
    Picking : Selector → ValueType → (base : ConstantTree) → ConstantTree
    Joining : ShortCircuit → ValueType → (left right : ConstantTree) → ConstantTree

  pub data ConstantTrees : Type 0 where
    no_constant : ConstantTrees
    constant : ConstantTree → ConstantTrees → ConstantTrees

-- a variable of the module is told to be held or at a place; a request's last operands may be
-- constants, which are written out and not by a handle: a level of zero, an offset
pub data Expression : Type 0 where
  Constant : ConstantTree → Expression
  Argument : ℕ → Expression
  Local : ℕ → Expression
  Global : (held : Bool) → ℕ → Expression
  Load : (pointer : ℕ) → Expression
  Operator : (word : Bytes) → (operands : List ℕ) → Expression
  Access : (base index : ℕ) → Expression
  AccessIndex : Selector → (base : ℕ) → Expression
  Swizzle : (letters : Bytes) → (vector : ℕ) → Expression
  Logical : ShortCircuit → (left right : ℕ) → Expression
  Request : (word : Bytes) → (operands : List ℕ) → (constants : ConstantTrees) → Expression
  Result : Expression

-- a statement that makes events with operands and may give a result
pub data Action : Type 0 where
  Asked : (word : Bytes) → Action
  Called : (function : ℕ) → Action

-- the set bits of a control or memory barrier
pub record BarrierBits : Type 0 where
  pub storage : Bool
  pub work_group : Bool
  pub sub_group : Bool
  pub texture : Bool

-- the value of a case
pub data CaseValue : Type 0 where
  Numbered : ℤ → CaseValue
  Default : CaseValue

-- what goes on elsewhere than after the statement: after the loop or the switch, with the loop's
-- `continuing`, in the caller, which may be given an A, or nowhere
pub data Jump (A : Type 0) : Type 0 where
  Break : Jump A
  Continue : Jump A
  Return : Option A → Jump A
  Kill : Jump A

-- it is a `continue`
abbrev pub is_continue : {A : Type 0} → Jump A → Bool
is_continue Continue = true
is_continue _ = false

-- the same jump, with what it returns told in another way
abbrev pub jump_told : {A B : Type 0} → (Option A → Option B) → Jump A → Jump B
jump_told tell Break = Break
jump_told tell Continue = Continue
jump_told tell (Return v) = Return (tell v)
jump_told tell Kill = Kill

mutual
  -- an Emit names count handles from the first on
  pub data Statement : Type 0 where
    Emit : (first count : ℕ) → Statement
    Store : (pointer value : ℕ) → Statement
    Block : Statements → Statement
    If : (condition : ℕ) → (accept reject : Statements) → Statement
    Switch : (selector : ℕ) → Cases → Statement
    Loop : (body continuing : Statements) → (break_if : Option ℕ) → Statement
    Jumps : Jump ℕ → Statement
    Barrier : BarrierBits → Statement
    Act : Action → (operands : List ℕ) → (result : Option ℕ) → Statement

  pub data Statements : Type 0 where
    end : Statements
    then : Statement → Statements → Statements

  pub data Cases : Type 0 where
    no_case : Cases
    case : CaseValue → Statements → (falls_through : Bool) → Cases → Cases

-- Types, given names and whether an expression is used as often as a `let` asks are by handle;
-- first values are the initialisers of the locals, and local pointers the spellings of pointers to
-- these.
pub record Function : Type 0 where
  pub argument_types : List ValueType
  pub result : Option ValueType
  pub first_values : List (Option ℕ)
  pub local_pointers : List Bytes
  pub expressions : List Expression
  pub types : List ValueType
  pub bound_by_uses : List Bool
  pub named_expressions : List Bool
  pub body : Statements

-- how many arguments it takes
abbrev pub argument_count : Function → ℕ
argument_count f = length f.argument_types

-- how many locals it has
abbrev pub local_count : Function → ℕ
local_count f = length f.first_values

-- the spelling of a pointer to a local
abbrev pub local_pointer : Function → ℕ → Bytes
local_pointer f i = get_or f.local_pointers i []

-- the function of this number: that of the functions that it may call
abbrev pub function_numbered : List Function → ℕ → Option Function
function_numbered [] g = None
function_numbered (f ∷ fs) g = cond (nat_eq g (length fs)) (Some f) (function_numbered fs g)

-- the expression of a handle
abbrev pub expression_of : Function → ℕ → Option Expression
expression_of f h = slice_get f.expressions h

-- the type of a handle
abbrev pub handle_type : Function → ℕ → ValueType
handle_type f h = type_at f.types h

-- the handles that an expression is over
abbrev pub operands_of : Option Expression → List ℕ
operands_of (Some (Load p)) = p ∷ []
operands_of (Some (Operator w xs)) = xs
operands_of (Some (Access b i)) = b ∷ i ∷ []
operands_of (Some (AccessIndex x b)) = b ∷ []
operands_of (Some (Swizzle w v)) = v ∷ []
operands_of (Some (Logical j l r)) = l ∷ r ∷ []
operands_of (Some (Request w xs es)) = xs
operands_of _ = []

-- a front end named the handle
abbrev pub is_named : Function → ℕ → Bool
is_named f h = get_or f.named_expressions h false

-- a front end named the handle, or it is used as often as a `let` asks
abbrev pub is_counted : Function → ℕ → Bool
is_counted f h = is_named f h || get_or f.bound_by_uses h false

-- an operator, which makes no event
abbrev pub is_pure : Option Expression → Bool
is_pure (Some (Operator w xs)) = true
is_pure (Some (Access b i)) = true
is_pure (Some (AccessIndex x b)) = true
is_pure (Some (Logical j l r)) = true
is_pure (Some (Swizzle w v)) = true
is_pure _ = false

-- an Emit may give it: it is no result, and not in scope everywhere
abbrev pub is_emittable : Option Expression → Bool
is_emittable (Some (Load p)) = true
is_emittable (Some (Request w xs es)) = true
is_emittable e = is_pure e

-- a `let` binds what an Emit may give where that counts
abbrev pub binds_as : Function → ℕ → Option Expression → Bool
binds_as f h e = is_emittable e && is_counted f h

-- a `let` binds the emitted handle
abbrev pub binds : Function → ℕ → Bool
binds f h = binds_as f h (expression_of f h)

-- the handles from first on
abbrev pub from : ℕ → ℕ → List ℕ
from first zero = []
from first (suc n) = first ∷ from (suc first) n

abbrev mutual
  -- a `continue` of the loop in whose body the statement stands
  pub holds_continue : Statement → Bool
  holds_continue (Emit first count) = false
  holds_continue (Store p v) = false
  holds_continue (Block b) = any_continue b
  holds_continue (If c a b) = any_continue a || any_continue b
  holds_continue (Switch h cases) = some_case_continues cases
  holds_continue (Loop b d e) = false
  holds_continue (Jumps j) = is_continue j
  holds_continue (Barrier bits) = false
  holds_continue (Act a xs r) = false

  pub any_continue : Statements → Bool
  any_continue end = false
  any_continue (then s ss) = holds_continue s || any_continue ss

  pub some_case_continues : Cases → Bool
  some_case_continues no_case = false
  some_case_continues (case l b falls cs) = any_continue b || some_case_continues cs

-- a variable of a module, by its address space: in the handle space it holds a value of this type,
-- in any other it is at a place, with the spelling of a pointer to it. What is held may itself be a
-- pointer, to something else
pub data VariableShape : Type 0 where
  Held : (type : ValueType) → VariableShape
  AtPlace : (pointer : Bytes) → VariableShape

-- it is held
abbrev pub is_held : VariableShape → Bool
is_held (Held type) = true
is_held (AtPlace pointer) = false

-- the spelling of a pointer to it, if it is at a place
abbrev pub pointer_to : VariableShape → Option Bytes
pointer_to (Held type) = None
pointer_to (AtPlace pointer) = Some pointer

-- the type of an expression that is its name: what is held has its own, a place has a pointer's
abbrev pub variable_type : VariableShape → ValueType
variable_type (Held type) = type
variable_type (AtPlace pointer) = PointerType pointer

-- the variable at an index
abbrev pub variable_shape_at : List VariableShape → ℕ → VariableShape
variable_shape_at vs i = get_or vs i (Held BooleanType)

-- a module: the types of its named constants and, after them, of its
-- overrides; the initialisers of the named constants; its variables;
-- what its types are made of; and its functions, then its entry
-- points, in their order, the last one first
pub record Module : Type 0 where
  pub constant_types : List ValueType
  pub initialisers : List ConstantTree
  pub globals : List VariableShape
  pub parts : PartTypes
  pub functions : List Function

-- how many named constants it has
abbrev pub constant_count : Module → ℕ
constant_count p = length p.initialisers

-- the types of its overrides
abbrev pub override_types : Module → List ValueType
override_types p = drop (constant_count p) p.constant_types
