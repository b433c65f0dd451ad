-- Short words for worked functions and their texts: a function by its table of expressions and the
-- list of its statements, a text by the list of its lines.
--
-- Throughout, e is an expression or a tree, k a type, n a number, x a name, f a function (fs are
-- several), g its number, vs are its arguments, t the events so far, v is a value, p and q are
-- places, w is a word, a and b are operands.
use Rattle.std.specs.Prelude.{◌≡◌, ℕ, ◌+◌, ◌*◌, pos, Bool, true, false, cond, List, [], ◌∷◌, ◌++◌}
use Rattle.std.specs.Prelude.{Option, Some, ◌&&◌, ◌||◌, nat_eq, get_or, IsTrue, codes, map}
use Rattle.shader_runs.specs.Value.{Bytes, NoParts, PartTypes, same_bytes, same_integer, At, AtOrigin}
use Rattle.shader_runs.specs.Value.{GlobalOrigin, LocalOrigin, Part, Place, ValueType, IntegerType}
use Rattle.shader_runs.specs.Value.{PointerType, Value, Truth, Whole, Spelled}
use Rattle.shader_runs.specs.World.{Event, Entry, Ask, Read, Write, Discard, World, Meaning}
use Rattle.shader_runs.specs.World.{Settings, Vocabulary}
use Rattle.shader_runs.specs.Outcome.{ReachedOrHalted}
use Rattle.shader_runs.specs.Program.{Fixed, Module, Expression, Constant, Statements, end, then}
use Rattle.shader_runs.specs.Program.{no_case, case, Function, CaseValue, Statement, Cases, Return}
use Rattle.shader_runs.specs.Text.{Tree, Name, LiteralOf, Apply, AddressOf, no_more, more, Let}
use Rattle.shader_runs.specs.Text.{Perform, Lines, last, before, Variable, TextFunction}
use Rattle.shader_runs.specs.Text.{TextModule, Trees, Line, JumpLine}
use Rattle.shader_runs.specs.Constants.{run_module, follow_module}
use Rattle.shader_runs.specs.Scope.{ModuleNames, Naming, fits_function}
use Rattle.shader_runs.specs.Form.{form_functions, functions_of}

-- the type `i32`
abbrev pub i32 : ValueType
i32 = IntegerType (codes "i32")

-- a pointer to a local of type `i32`, by its spelling and as a type
abbrev pub local_i32 : Bytes
local_i32 = codes "ptr<function, i32>"

abbrev pub i32_pointer : ValueType
i32_pointer = PointerType local_i32

-- a number of type `i32`
abbrev pub number : ℕ → Value
number n = Whole (codes "i32") (pos n)

-- such a literal
abbrev pub literal : ℕ → Expression
literal n = Constant (Fixed (number n))

-- `_e` and a digit
abbrev pub numbered_name : ℕ → Bytes
numbered_name h = codes "_e" ++ (h + 48) ∷ []

-- an expression with its type, and whether it is used as often as a `let` asks
pub record TableRow : Type 0 where
  pub expression : Expression
  pub type : ValueType
  pub is_bound : Bool

-- one row of a table of expressions, whose uses bind it by no `let`
abbrev pub row : Expression → ValueType → TableRow
row e k = record { expression = e; type = k; is_bound = false }

-- one whose uses do
abbrev pub bound_row : Expression → ValueType → TableRow
bound_row e k = record { expression = e; type = k; is_bound = true }

-- statements in their order
abbrev pub statements : List Statement → Statements
statements [] = end
statements (s ∷ ss) = then s (statements ss)

-- a case's value and statements
abbrev pub ValuedBody : Type 0
ValuedBody = CaseValue × List Statement

-- cases, none of which falls through
abbrev pub cases : List ValuedBody → Cases
cases [] = no_case
cases (c ∷ cs) = case c.0 (statements c.1) false (cases cs)

-- a local with the spelling of a pointer to it, and its initialiser
abbrev pub LocalDeclaration : Type 0
LocalDeclaration = Bytes × Option ℕ

-- a function by its table of expressions and its statements
abbrev pub function_with : (arguments : List ValueType) → (result : Option ValueType) →
    List LocalDeclaration → List TableRow → List Statement → Function
function_with arguments result locals expressions body =
    record {
      argument_types = arguments;
      result = result;
      first_values = map (λ l. l.1) locals;
      local_pointers = map (λ l. l.0) locals;
      expressions = map (λ x. x.expression) expressions;
      types = map (λ x. x.type) expressions;
      bound_by_uses = map (λ x. x.is_bound) expressions;
      named_expressions = [];
      body = statements body;
    }

-- operands in their order
abbrev pub operands : List Tree → Trees
operands [] = no_more
operands (e ∷ es) = more e (operands es)

-- lines in their order
abbrev pub lines : List Line → Lines
lines [] = last
lines (l ∷ ls) = before l (lines ls)

-- a call where a value is wanted, and one where none is
abbrev pub call_of : Bytes → List Tree → Tree
call_of word es = Apply word (operands es)

abbrev pub perform : Bytes → List Tree → Line
perform word es = Perform word (operands es)

-- a handle is bound to its own name
abbrev pub let_own : ℕ → Tree → Line
let_own h e = Let (numbered_name h) e

-- a value is returned
abbrev pub return_of : Tree → Line
return_of e = JumpLine (Return (Some e))

-- `1i` and such
abbrev pub digits : ℕ → Tree
digits n = LiteralOf (number n)

-- a pointer to a variable
abbrev pub pointer_of : Bytes → Tree
pointer_of x = AddressOf (Name x)

-- a variable of a function with its first value
abbrev pub variable : Bytes → Bytes → Option Tree → Variable
variable x pointer first = record { name = x; pointer = pointer; first_value = first }

-- one of type `i32` that starts with this number
abbrev pub number_variable : Bytes → ℕ → Variable
number_variable x n = variable x local_i32 (Some (digits n))

-- `(a + b)`
abbrev pub sum_of : Tree → Tree → Tree
sum_of a b = Apply (codes "+") (more a (more b no_more))

-- `(a * b)`
abbrev pub product_of : Tree → Tree → Tree
product_of a b = Apply (codes "*") (more a (more b no_more))

-- a handle's own name
abbrev pub named_by : ℕ → Tree
named_by h = Name (numbered_name h)

-- a function's text
abbrev pub text_of : Bytes → List Bytes → List Variable → Lines → TextFunction
text_of name xs ls lines = record { name = name; parameters = xs; variables = ls; lines = lines }

-- ---- how they run

-- the one world of the rows: a read of a place gives what was last stored there, or 7
abbrev pub same_place : Place → Place → Bool
same_place (Part p (At i)) (Part q (At j)) = same_place p q && same_integer i j
same_place (AtOrigin (GlobalOrigin a i)) (AtOrigin (GlobalOrigin b j)) = nat_eq i j
same_place (AtOrigin (LocalOrigin a i j)) (AtOrigin (LocalOrigin b k l)) =
    nat_eq i k && nat_eq j l
same_place _ _ = false

-- what was last stored at a place
abbrev pub stored_value : Place → List Event → Value
stored_value p [] = number 7
stored_value p (Write q v ∷ t) = cond (same_place p q) v (stored_value p t)
stored_value p (Entry g vs firsts ∷ t) = stored_value p t
stored_value p (Ask w vs ∷ t) = stored_value p t
stored_value p (Read q ∷ t) = stored_value p t
stored_value p (Discard ∷ t) = stored_value p t

-- a read gives what was stored, any other request 7
abbrev pub row_world : World
row_world t (Read p) = stored_value p t
row_world t _ = number 7

-- the one meaning of the rows: sums and products
abbrev pub arithmetic : Bytes → ℕ → ℕ → Value
arithmetic w a b =
    cond (same_bytes w (codes "+")) (number (a + b))
    (cond (same_bytes w (codes "*")) (number (a * b)) (number 0))

-- sums and products of numbers, and `select`
abbrev pub row_meaning : Meaning
row_meaning (Spelled w) (Whole s (pos a) ∷ Whole r (pos b) ∷ []) = arithmetic w a b
row_meaning (Spelled w) (x ∷ y ∷ Truth true ∷ []) = y
row_meaning (Spelled w) (x ∷ y ∷ Truth false ∷ []) = x
row_meaning w vs = number 0

-- a word among these
abbrev pub is_one_of : List Bytes → Bytes → Bool
is_one_of [] word = false
is_one_of (w ∷ ws) word = same_bytes w word || is_one_of ws word

-- the words of the rows: two barriers ask for events; sums, products and `select` are operators
abbrev pub row_vocabulary : Vocabulary
row_vocabulary =
    record {
      is_request = is_one_of (codes "storageBarrier" ∷ codes "textureBarrier" ∷ []);
      is_operator = is_one_of (codes "+" ∷ codes "*" ∷ codes "select" ∷ []);
    }

-- no type has parts
abbrev pub no_parts : PartTypes
no_parts whole = NoParts

-- no override and no variable
abbrev pub nothing : Settings
nothing = record { overrides = []; globals = [] }

-- a module of functions alone
abbrev pub functions_alone : List Function → Module
functions_alone fs =
    record {
      constant_types = [];
      initialisers = [];
      globals = [];
      parts = no_parts;
      functions = fs;
    }

-- the names of functions alone
abbrev pub function_names : List Bytes → ModuleNames
function_names fs =
    record {
      constant = λ i. [];
      global = λ i. [];
      function = λ g. get_or fs g [];
      vocabulary = row_vocabulary;
    }

-- a function with the names of its arguments, its locals and its given expressions
abbrev pub with_names :
    List Bytes → (earlier : ℕ) → (arguments locals named : List Bytes) → Function → Naming
with_names fs earlier xs ls gs f =
    record {
      function = f;
      names = record {
        outer = function_names fs;
        argument = λ i. get_or xs i [];
        local_ = λ i. get_or ls i [];
        named = λ k. get_or gs k [];
        numbered = numbered_name;
        earlier = earlier;
      };
    }

-- the only function, with the names of its arguments and locals
abbrev pub only : Bytes → (arguments locals : List Bytes) → Function → Naming
only name arguments locals f = with_names (name ∷ []) 0 arguments locals [] f

-- each function passes the check of scope
abbrev pub all_fit : List Naming → Bool
all_fit [] = true
all_fit (f ∷ fs) = fits_function f && all_fit fs

-- the run of this text, where types have these parts, from a function by its name
abbrev pub follow_text :
    PartTypes → Settings → TextModule → Bytes → List Value → ReachedOrHalted (Option Value)
follow_text parts settings text name vs =
    follow_module text parts settings row_world row_meaning row_vocabulary 3 name vs []

-- the run of functions alone
abbrev pub follow_row : List TextFunction → Bytes → List Value → ReachedOrHalted (Option Value)
follow_row texts =
    follow_text no_parts nothing
    (record { constants = []; overrides = []; globals = []; functions = texts })

-- a module's functions, last first, with their texts, and how the last one runs
pub record IsShown (fs : List Naming) (texts : List TextFunction) (g : ℕ) (name : Bytes)
    (vs : List Value) (result : ReachedOrHalted (Option Value)) : Type 0 where
  pub fits : IsTrue (all_fit fs)
  pub text : form_functions fs ≡ texts
  pub module_run :
      run_module (functions_alone (functions_of fs)) nothing row_world row_meaning 3 g vs []
      ≡ result
  pub text_run : follow_row texts name vs ≡ result

-- the same of a function alone
abbrev pub IsShownAlone : Naming → TextFunction → List Value → ReachedOrHalted (Option Value) →
    Type 0
IsShownAlone f text vs result = IsShown (f ∷ []) (text ∷ []) 0 text.name vs result

-- a text alone runs so
abbrev pub Follows : TextFunction → List Value → ReachedOrHalted (Option Value) → Type 0
Follows text vs result = follow_row (text ∷ []) text.name vs ≡ result
