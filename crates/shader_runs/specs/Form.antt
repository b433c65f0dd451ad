-- The abstract text that is written for a module.
--
-- Throughout, f is a function with its names, n are names, s the handles in scope (s1 those after
-- a part), k is how many names have been given, h a handle, e an expression or a
-- constant tree, st a statement, b a body, i an index, j a short circuit, w a word, x a name, a
-- selector, a variable or a handle, and l a case value or a local.
use Rattle.std.specs.Prelude.{ℕ, zero, suc, Bool, true, false, List, [], ◌∷◌, ◌++◌, length, Option}
use Rattle.std.specs.Prelude.{Some, None}
use Rattle.shader_runs.specs.Value.{Bytes, Selector, MemberNamed, ValueType, PointerType}
use Rattle.shader_runs.specs.Value.{Truth}
use Rattle.shader_runs.specs.Program.{ConstantTree, Fixed, NamedConstant, Composed, Indexing}
use Rattle.shader_runs.specs.Program.{Picking, Joining}
use Rattle.shader_runs.specs.Program.{ConstantTrees, no_constant, constant, Expression, Constant}
use Rattle.shader_runs.specs.Program.{Argument, Local, Global, Load, Operator, Access, AccessIndex}
use Rattle.shader_runs.specs.Program.{Logical, Swizzle, Request, Result, Action, Asked, Called}
use Rattle.shader_runs.specs.Program.{CaseValue, Statement, Emit, Store, Block, If, Switch, Loop}
use Rattle.shader_runs.specs.Program.{Barrier, Act, Statements, end, then}
use Rattle.shader_runs.specs.Program.{Cases, no_case, case, Function, argument_count, local_pointer}
use Rattle.shader_runs.specs.Program.{expression_of, handle_type, binds, from, VariableShape}
use Rattle.shader_runs.specs.Program.{pointer_to, Module}
use Rattle.shader_runs.specs.Program.{constant_count, override_types, Jumps, jump_told}
use Rattle.shader_runs.specs.ProgramRun.{barrier_words}
use Rattle.shader_runs.specs.Text.{Tree, Name, LiteralOf, Apply, Deref, AddressOf, Index, PartOf}
use Rattle.shader_runs.specs.Text.{LogicalOf, Trees, no_more, more, Line, Let, Assign, Braces}
use Rattle.shader_runs.specs.Text.{IfElse, SwitchOn, LoopOf}
use Rattle.shader_runs.specs.Text.{Perform, Lines, last, before, Groups, no_group}
use Rattle.shader_runs.specs.Text.{group, Variable, ModuleVariable, TextFunction, TextModule}
use Rattle.shader_runs.specs.Text.{TextConstant, JumpLine}
use Rattle.shader_runs.specs.Scope.{Availability, Bound, Handles, ModuleNames, Names, Naming}
use Rattle.shader_runs.specs.Scope.{bound_name, after_one, named_after, named_by, named_by_all}
use Rattle.shader_runs.specs.Scope.{after, after_all, at_start}

-- a plain form, a value or a reference
pub data Plain : Type 0 where
  AsValue : Tree → Plain
  AsPlace : Tree → Plain

-- a reference where a value is wanted is written with `&`
abbrev pub value_form : Plain → Tree
value_form (AsValue e) = e
value_form (AsPlace e) = AddressOf e

-- a value where a reference is wanted is written with `*`
abbrev pub place_form : Plain → Tree
place_form (AsValue e) = Deref e
place_form (AsPlace e) = e

-- operands in their value forms
abbrev pub value_forms : (ℕ → Plain) → List ℕ → Trees
value_forms operand [] = no_more
value_forms operand (x ∷ xs) = more (value_form (operand x)) (value_forms operand xs)

-- operands in their value forms, and what stands after them
abbrev pub value_forms_then : (ℕ → Plain) → List ℕ → Trees → Trees
value_forms_then operand [] tail = tail
value_forms_then operand (x ∷ xs) tail =
    more (value_form (operand x)) (value_forms_then operand xs tail)

-- through a pointer an index makes a reference
abbrev pub access_form : ValueType → (base index : Plain) → Plain
access_form (PointerType spelling) b i = AsPlace (Index (place_form b) (value_form i))
access_form _ b i = AsValue (Index (value_form b) (value_form i))

-- through a pointer a member or an element makes a reference
abbrev pub part_form : ValueType → Selector → Plain → Plain
part_form (PointerType spelling) x b = AsPlace (PartOf x (place_form b))
part_form _ x b = AsValue (PartOf x (value_form b))

abbrev mutual
  pub constant_form : ModuleNames → ConstantTree → Tree
  constant_form n (Fixed v) = LiteralOf v
  constant_form n (NamedConstant i) = Name (n.constant i)
  constant_form n (Composed w ty es) = Apply w (constant_forms n es)
  constant_form n (Indexing ty b i) = Index (constant_form n b) (constant_form n i)
  constant_form n (Picking x ty b) = PartOf x (constant_form n b)
  constant_form n (Joining j ty l r) = LogicalOf j (constant_form n l) (constant_form n r)

  pub constant_forms : ModuleNames → ConstantTrees → Trees
  constant_forms n no_constant = no_more
  constant_forms n (constant e es) = more (constant_form n e) (constant_forms n es)

-- a module-level variable's name is a value if the variable is held, else a reference
abbrev pub global_form : (held : Bool) → Tree → Plain
global_form true e = AsValue e
global_form false e = AsPlace e

-- an expression that isn't named, over its operands' forms
abbrev pub own_form : Naming → (ℕ → Plain) → Option Expression → Plain
own_form f operand (Some (Constant e)) = AsValue (constant_form f.names.outer e)
own_form f operand (Some (Argument i)) = AsValue (Name (f.names.argument i))
own_form f operand (Some (Local i)) = AsPlace (Name (f.names.local_ i))
own_form f operand (Some (Global held i)) = global_form held (Name (f.names.outer.global i))
own_form f operand (Some (Load p)) = AsValue (place_form (operand p))
own_form f operand (Some (Operator w xs)) = AsValue (Apply w (value_forms operand xs))
own_form f operand (Some (Access b i)) =
    access_form (handle_type f.function b) (operand b) (operand i)
own_form f operand (Some (AccessIndex x b)) = part_form (handle_type f.function b) x (operand b)
own_form f operand (Some (Logical j l r)) =
    AsValue (LogicalOf j (value_form (operand l)) (value_form (operand r)))
own_form f operand (Some (Swizzle w v)) =
    AsValue (PartOf (MemberNamed w) (value_form (operand v)))
own_form f operand (Some (Request w xs es)) =
    AsValue (Apply w (value_forms_then operand xs (constant_forms f.names.outer es)))
own_form f operand (Some Result) = AsValue (LiteralOf (Truth false))
own_form f operand None = AsValue (LiteralOf (Truth false))

-- a bound handle is written as its name
abbrev pub availability_form : Availability → Plain → Plain
availability_form (Bound x) own = AsValue (Name x)
availability_form _ own = own

-- the form of a handle below the bound
abbrev pub written_below : Naming → Handles → ℕ → ℕ → Plain
written_below f s zero h = AsValue (LiteralOf (Truth false))
written_below f s (suc n) h =
    availability_form (s h)
    (own_form f (written_below f s n) (expression_of f.function h))

-- a handle's form: its name where it is bound, else its expression over its operands' forms
abbrev pub written_form : Naming → Handles → ℕ → Plain
written_form f s h = written_below f s (length f.function.expressions) h

-- a handle in a value's position
abbrev pub value_at : Naming → Handles → ℕ → Tree
value_at f s h = value_form (written_form f s h)

-- a value, if one is wanted
abbrev pub value_if : Naming → Handles → Option ℕ → Option Tree
value_if f s None = None
value_if f s (Some h) = Some (value_at f s h)

-- a line where a name is bound
abbrev pub let_if : Bool → Bytes → Tree → Lines → Lines
let_if true x e tail = before (Let x e) tail
let_if false x e tail = tail

-- the lines for emitted handles, in front of what follows
abbrev pub lets : Naming → ℕ → List ℕ → Handles → Lines → Lines
lets f k [] s tail = tail
lets f k (h ∷ hs) s tail =
    let_if (binds f.function h) (bound_name f k h)
    (value_form
    (own_form f (written_form f s) (expression_of f.function h)))
    (lets f (named_after f.function h k) hs (after_one f k h s) tail)

-- what an action's line calls
abbrev pub word_of : Names → Action → Bytes
word_of n (Asked w) = w
word_of n (Called g) = n.outer.function g

-- a result is bound to its name
abbrev pub act_line : Names → Option ℕ → Bytes → Trees → Line
act_line n None w es = Perform w es
act_line n (Some h) w es = Let (n.numbered h) (Apply w es)

-- a line for each word
abbrev pub perform_each : List Bytes → Lines → Lines
perform_each [] tail = tail
perform_each (w ∷ ws) tail = before (Perform w no_more) (perform_each ws tail)

abbrev mutual
  -- a statement's lines, in front of what follows: k
  -- names have been given, s are the handles in scope
  pub form : Naming → ℕ → Statement → Handles → Lines → Lines
  form f k (Emit first count) s tail = lets f k (from first count) s tail
  form f k (Store p v) s tail =
      before (Assign (place_form (written_form f s p)) (value_at f s v)) tail
  form f k (Block b) s tail = before (Braces (form_all f k b s)) tail
  form f k (If c a b) s tail =
      before (IfElse (value_at f s c) (form_all f k a s)
      (form_all f (named_by_all f.function a k) b s)) tail
  form f k (Switch h cases) s tail =
      before (SwitchOn (value_at f s h) (form_cases f k [] cases s)) tail
  form f k (Loop b d e) s tail =
      let s1 = after_all f k b s in
      let k1 = named_by_all f.function b k in
      before
      (LoopOf (form_all f k b s) (form_all f k1 d s1) (value_if f (after_all f k1 d s1) e)) tail
  form f k (Jumps j) s tail = before (JumpLine (jump_told (value_if f s) j)) tail
  form f k (Barrier bits) s tail = perform_each (barrier_words bits) tail
  form f k (Act a xs r) s tail =
      before (act_line f.names r (word_of f.names a) (value_forms (written_form f s) xs)) tail

  pub form_all : Naming → ℕ → Statements → Handles → Lines
  form_all f k end s = last
  form_all f k (then st ss) s =
      form f k st s (form_all f (named_by f.function st k) ss (after f k st s))

  -- a case that falls through gives its value to the next one
  pub form_cases : Naming → ℕ → List CaseValue → Cases → Handles → Groups
  form_cases f k case_values no_case s = no_group
  form_cases f k case_values (case l b true cs) s =
      form_cases f (named_by_all f.function b k) (case_values ++ l ∷ []) cs s
  form_cases f k case_values (case l b false cs) s =
      group (case_values ++ l ∷ []) (form_all f k b s)
      (form_cases f (named_by_all f.function b k) [] cs s)

-- the names from the index i on
abbrev pub names_from : (ℕ → Bytes) → ℕ → ℕ → List Bytes
names_from name i zero = []
names_from name i (suc n) = name i ∷ names_from name (suc i) n

-- the variables from the index i on, with their first values
abbrev pub variables_from : Naming → ℕ → List (Option ℕ) → List Variable
variables_from f i [] = []
variables_from f i (o ∷ os) =
    record {
      name = f.names.local_ i;
      pointer = local_pointer f.function i;
      first_value = value_if f (at_start f.function) o;
    } ∷ variables_from f (suc i) os

-- a function: its name, its parameters, its variables and its lines
abbrev pub form_function : Naming → TextFunction
form_function f =
    record {
      name = f.names.outer.function f.names.earlier;
      parameters = names_from f.names.argument 0 (argument_count f.function);
      variables = variables_from f 0 f.function.first_values;
      lines = form_all f 0 f.function.body (at_start f.function);
    }

-- the functions of a module
abbrev pub form_functions : List Naming → List TextFunction
form_functions [] = []
form_functions (f ∷ fs) = form_function f ∷ form_functions fs

-- the functions without their names
abbrev pub functions_of : List Naming → List Function
functions_of [] = []
functions_of (f ∷ fs) = f.function ∷ functions_of fs

-- the module-level variables from the index i on
abbrev pub globals_from : (ℕ → Bytes) → ℕ → List VariableShape → List ModuleVariable
globals_from name i [] = []
globals_from name i (x ∷ xs) =
    record { name = name i; pointer = pointer_to x } ∷ globals_from name (suc i) xs

-- the named constants from the index i on, with their initialisers
abbrev pub constants_from : ModuleNames → ℕ → List ConstantTree → List TextConstant
constants_from n i [] = []
constants_from n i (e ∷ es) =
    record { name = n.constant i; initialiser = constant_form n e } ∷ constants_from n (suc i) es

-- a text with these functions, which declares what a module declares
abbrev pub form_module_with : Module → ModuleNames → List TextFunction → TextModule
form_module_with p n functions =
    record {
      constants = constants_from n 0 p.initialisers;
      overrides = names_from n.constant (constant_count p) (length (override_types p));
      globals = globals_from n.global 0 p.globals;
      functions = functions;
    }

-- a module, whose functions have these names
abbrev pub form_module : Module → ModuleNames → List Naming → TextModule
form_module p n fs = form_module_with p n (form_functions fs)
