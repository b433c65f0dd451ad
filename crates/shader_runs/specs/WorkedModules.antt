-- Worked modules by their tables: one world, where a read gives what was stored or added last, one
-- meaning, and that a module and its text do the same in them.
--
-- Throughout, e is an example, g the number of a function, n the bound on turns or a number, vs are
-- arguments, t the events so far, v is a value, p and q are places, x is a name, f a function.
use Rattle.std.specs.Prelude.{◌≡◌, ℕ, ◌+◌, ◌*◌, ◌/◌, ◌%◌, max, pos, cond, List, [], ◌∷◌, length}
use Rattle.std.specs.Prelude.{map, reverse, Option, Some, None, nat_eq, get_or, unwrap_or, IsTrue}
use Rattle.std.specs.Prelude.{codes}
use Rattle.shader_runs.specs.Value.{Bytes, same_bytes, Place, AtOrigin, LocalOrigin, ValueType}
use Rattle.shader_runs.specs.Value.{OtherType, Value, Whole, Pointer}
use Rattle.shader_runs.specs.Value.{Opaque, Spelled, PartWord, IndexWord, MemberNamed}
use Rattle.shader_runs.specs.World.{Event, Entry, Ask, Read, Write, Discard, entries, World}
use Rattle.shader_runs.specs.World.{Meaning, Settings, Vocabulary}
use Rattle.shader_runs.specs.Outcome.{ReachedOrHalted}
use Rattle.shader_runs.specs.Program.{Fixed, VariableShape, Held, AtPlace, pointer_to, Module}
use Rattle.shader_runs.specs.Program.{Function}
use Rattle.shader_runs.specs.Text.{LiteralOf, TextFunction, TextModule}
use Rattle.shader_runs.specs.Constants.{run_module, follow_module}
use Rattle.shader_runs.specs.Scope.{ModuleNames, Naming}
use Rattle.shader_runs.specs.Form.{form_module}
use Rattle.shader_runs.specs.WorkedFunctions.{number, same_place, is_one_of, no_parts}
use Rattle.shader_runs.specs.WorkedFunctions.{numbered_name, all_fit}

-- ---- the world

-- the words that ask for events, and those that are operators
abbrev pub memory_vocabulary : Vocabulary
memory_vocabulary =
    record {
      is_request =
          is_one_of (
          codes "atomicLoad" ∷ codes "atomicStore" ∷ codes "atomicAdd"
          ∷ codes "textureSampleLevel" ∷ codes "textureLoad" ∷ codes "textureStore" ∷ codes "dpdx"
          ∷ codes "workgroupUniformLoad" ∷ codes "subgroupBallot" ∷ codes "traceRay"
          ∷ codes "storageBarrier" ∷ codes "workgroupBarrier" ∷ codes "subgroupBarrier"
          ∷ codes "textureBarrier" ∷ []);
      is_operator = is_one_of (codes "+" ∷ codes "*" ∷ codes "max" ∷ codes "i32" ∷ []);
    }

-- the sum of two integers of one type
abbrev pub sum_value : Value → Value → Value
sum_value (Whole s (pos a)) (Whole r (pos b)) = Whole s (pos (a + b))
sum_value v w = v

-- what an atomic leaves at a place where this was
abbrev pub changed_value : (word : Bytes) → (was operand : Value) → Value
changed_value word was v =
    cond (same_bytes word (codes "atomicStore")) v
    (cond (same_bytes word (codes "atomicAdd")) (sum_value was v) was)

-- what is at a place after a request
abbrev pub after_ask : Place → (word : Bytes) → List Value → (was : Value) → Value
after_ask p word (Pointer q ∷ v ∷ vs) was = cond (same_place p q) (changed_value word was v) was
after_ask p word vs was = was

-- what is at a place after an entry: a local's first value, if it has one
abbrev pub after_entry : Place → (earlier : ℕ) → List (Option Value) → (was : Value) → Value
after_entry (AtOrigin (LocalOrigin pointer k i)) earlier firsts was =
    cond (nat_eq k earlier) (unwrap_or (get_or firsts i None) was) was
after_entry p earlier firsts was = was

-- what is at a place: what was stored or added last, or its first value, or 7
abbrev pub stored_value : Place → List Event → Value
stored_value p [] = number 7
stored_value p (Write q v ∷ t) = cond (same_place p q) v (stored_value p t)
stored_value p (Ask word vs ∷ t) = after_ask p word vs (stored_value p t)
stored_value p (Entry g vs firsts ∷ t) = after_entry p (entries t) firsts (stored_value p t)
stored_value p (Read q ∷ t) = stored_value p t
stored_value p (Discard ∷ t) = stored_value p t

-- a texel by its number
abbrev pub texel : ℕ → Value
texel n = Opaque (codes "vec4<f32>") n

-- a ballot
abbrev pub ballot : Value
ballot = Opaque (codes "vec4<u32>") 1

-- what an image has: the sum of its number and those of a layer, of a level and of an offset
abbrev pub sampled_value : List Value → Value
sampled_value (Opaque i n ∷ _ ∷ _ ∷ Whole s (pos layer) ∷ Opaque l level ∷ Opaque o offset ∷ []) =
    texel (n + layer + level + offset)
sampled_value (Opaque i n ∷ vs) = texel n
sampled_value vs = texel 0

-- what is asked of no place
abbrev pub asked_value : (word : Bytes) → List Value → Value
asked_value word vs = cond (same_bytes word (codes "subgroupBallot")) ballot (sampled_value vs)

-- the one world of these rows
abbrev pub memory_world : World
memory_world t (Read p) = stored_value p t
memory_world t (Ask word (Pointer p ∷ vs)) = stored_value p t
memory_world t (Ask word vs) = asked_value word vs
memory_world t request = number 7

-- ---- the meaning

-- the components of a pair are the tens and the units of its number
abbrev pub pair_type : ValueType
pair_type = OtherType (codes "vec2<i32>")

-- a pair by its number
abbrev pub pair : ℕ → Value
pair n = Opaque (codes "vec2<i32>") n

-- the components in the other order
abbrev pub exchanged_number : ℕ → ℕ
exchanged_number n = n % 10 * 10 + n / 10

-- an operator of two numbers
abbrev pub calculated_number : (word : Bytes) → ℕ → ℕ → ℕ
calculated_number word a b =
    cond (same_bytes word (codes "*")) (a * b)
    (cond (same_bytes word (codes "max")) (max a b) (a + b))

-- products, maxima and sums, `.yx` of a pair, and the elements of an array of images, which are
-- numbered on from its number
abbrev pub memory_meaning : Meaning
memory_meaning (Spelled word) (Whole s (pos a) ∷ Whole r (pos b) ∷ []) =
    number (calculated_number word a b)
memory_meaning (Spelled word) (Opaque s a ∷ Opaque r b ∷ []) = Opaque s (a + b)
memory_meaning (PartWord (MemberNamed letters)) (Opaque s a ∷ []) =
    Opaque s (cond (same_bytes letters (codes "yx")) (exchanged_number a) a)
memory_meaning IndexWord (Opaque s a ∷ Whole r (pos b) ∷ []) =
    Opaque (codes "texture_2d<f32>") (a + b)
memory_meaning word vs = number 0

-- ---- modules with their texts

-- a named constant with a literal as its initialiser
pub record NamedValue : Type 0 where
  pub name : Bytes
  pub type : ValueType
  pub value : Value

-- a module-level variable, with the value that it holds if it isn't at a place
pub record NamedVariable : Type 0 where
  pub name : Bytes
  pub shape : VariableShape
  pub value : Option Value

-- a variable that stands in memory
abbrev pub in_memory : Bytes → (pointer : Bytes) → NamedVariable
in_memory x pointer = record { name = x; shape = AtPlace pointer; value = None }

-- a variable in the handle space that holds this value
abbrev pub holding : Bytes → ValueType → Value → NamedVariable
holding x type v = record { name = x; shape = Held type; value = Some v }

-- an image or such, by its number
abbrev pub resource : Bytes → (type : Bytes) → ℕ → NamedVariable
resource x type n = holding x (OtherType type) (Opaque type n)

-- a function with the names of its arguments and locals
pub record NamedFunction : Type 0 where
  pub name : Bytes
  pub arguments : List Bytes
  pub locals : List Bytes
  pub function : Function

-- such a function
abbrev pub named_function : Bytes → List Bytes → List Bytes → Function → NamedFunction
named_function x arguments locals f =
    record { name = x; arguments = arguments; locals = locals; function = f }

-- a module, with its functions last first
pub record Example : Type 0 where
  pub constants : List NamedValue
  pub variables : List NamedVariable
  pub functions : List NamedFunction

-- functions alone
abbrev pub functions_alone : List NamedFunction → Example
functions_alone fs = record { constants = []; variables = []; functions = fs }

-- the module of shapes
abbrev pub module_of : Example → Module
module_of e =
    record {
      constant_types = map (λ c. c.type) e.constants;
      initialisers = map (λ c. Fixed c.value) e.constants;
      globals = map (λ x. x.shape) e.variables;
      parts = no_parts;
      functions = map (λ f. f.function) e.functions;
    }

-- what its variables hold; it has no overrides
abbrev pub settings_of : Example → Settings
settings_of e = record { overrides = []; globals = map (λ x. x.value) e.variables }

-- the names of its items
abbrev pub outer_of : Example → ModuleNames
outer_of e =
    record {
      constant = λ i. get_or (map (λ c. c.name) e.constants) i [];
      global = λ i. get_or (map (λ x. x.name) e.variables) i [];
      function = λ g. get_or (reverse (map (λ f. f.name) e.functions)) g [];
      vocabulary = memory_vocabulary;
    }

-- each function with its names and with how many stand before it
abbrev pub namings_with : ModuleNames → List NamedFunction → List Naming
namings_with n [] = []
namings_with n (f ∷ fs) =
    record {
      function = f.function;
      names = record {
        outer = n;
        argument = λ i. get_or f.arguments i [];
        local_ = λ i. get_or f.locals i [];
        named = λ k. [];
        numbered = numbered_name;
        earlier = length fs;
      };
    } ∷ namings_with n fs

-- its functions with their names
abbrev pub namings_of : Example → List Naming
namings_of e = namings_with (outer_of e) e.functions

-- the declarations of its text, and these functions
abbrev pub text_with : Example → List TextFunction → TextModule
text_with e texts =
    record {
      constants =
          map (λ c. record { name = c.name; initialiser = LiteralOf c.value }) e.constants;
      overrides = [];
      globals = map (λ x. record { name = x.name; pointer = pointer_to x.shape }) e.variables;
      functions = texts;
    }

-- what a call reaches
abbrev pub CallEnd : Type 0
CallEnd = ReachedOrHalted (Option Value)

-- the module's run of the function of this number, with at most n turns of each loop
abbrev pub run_example : Example → (g n : ℕ) → List Value → CallEnd
run_example e g n vs =
    run_module (module_of e) (settings_of e) memory_world memory_meaning n g vs []

-- the run of this text of it, from the function of that name
abbrev pub follow_example : Example → List TextFunction → (g n : ℕ) → List Value → CallEnd
follow_example e texts g n vs =
    let text = text_with e texts in
    let name = (outer_of e).function g in
    follow_module text no_parts (settings_of e) memory_world memory_meaning memory_vocabulary n name
    vs []

-- these functions are what is written for the module, which passes the check of scope
pub record IsWritten (e : Example) (texts : List TextFunction) : Type 0 where
  pub fits : IsTrue (all_fit (namings_of e))
  pub text : form_module (module_of e) (outer_of e) (namings_of e) ≡ text_with e texts

-- called with these arguments, with at most n turns of each loop, the function g of the module and
-- that of its text do this
pub record IsWorked (e : Example) (texts : List TextFunction) (g n : ℕ) (vs : List Value)
    (result : CallEnd) : Type 0 where
  pub written : IsWritten e texts
  pub module_run : run_example e g n vs ≡ result
  pub text_run : follow_example e texts g n vs ≡ result

-- the entry of a start
abbrev pub start_events : (g : ℕ) → List Value → List (Option Value) → List Event
start_events g vs firsts = Entry g vs firsts ∷ []
