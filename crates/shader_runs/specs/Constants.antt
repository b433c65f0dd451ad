-- Named constants: each side computes its own from
-- their initialisers, under what the caller chooses.
--
-- Throughout, p is a module, s are the settings of its caller, m is the meaning, w the world, n the
-- bound on turns or the number of rounds, g the number of a function or what is chosen for a
-- variable, x such a variable or a constant, o a value that may be missing, l is what words do, e
-- an initialiser, i an index and t are the events so far.
use Rattle.std.specs.Prelude.{ℕ, zero, suc, Bool, cond, not, List, [], ◌∷◌, ◌++◌, map, length}
use Rattle.std.specs.Prelude.{get_or, Option, Some, None, unwrap_or, ◌||◌}
use Rattle.std.specs.List.{list_any}
use Rattle.shader_runs.specs.Value.{Bytes, same_bytes, PartTypes, Value, Spelled}
use Rattle.shader_runs.specs.World.{Event, World, Meaning, Vocabulary, GlobalValue, Stored}
use Rattle.shader_runs.specs.World.{InHandleSpace, Settings, Environment, bind}
use Rattle.shader_runs.specs.Outcome.{Stuck, ReachedOrHalted, Gives, Halts}
use Rattle.shader_runs.specs.Program.{ConstantTree, VariableShape, Held, AtPlace, Module}
use Rattle.shader_runs.specs.Program.{constant_count}
use Rattle.shader_runs.specs.ProgramRun.{also, tree_value, constant_value, run_call}
use Rattle.shader_runs.specs.Text.{Tree, TextConstant, TextModule}
use Rattle.shader_runs.specs.TextRun.{Denotation, IsValue, Scope, Words, evaluate, with_parameters}
use Rattle.shader_runs.specs.TextRun.{with_globals, no_names, names_function, word_use, follow_call}

-- what is known of an item
abbrev pub known_value : List (Option Value) → ℕ → Option Value
known_value found i = get_or found i None

-- the values of the initialisers, where they have one, and after them those of the overrides
abbrev pub found_with : (ConstantTree → Option Value) → Module → Settings → List (Option Value)
found_with value p s = map value p.initialisers ++ map Some s.overrides

-- what so many rounds find: at first the overrides alone have values, and each round computes the
-- initialisers over what the one before it found
abbrev pub found_after : Module → Settings → Meaning → (rounds : ℕ) → List (Option Value)
found_after p s m zero = found_with (λ e. None) p s
found_after p s m (suc n) = found_with (tree_value (known_value (found_after p s m n)) m) p s

-- all values, if they are there
abbrev pub all_found : List (Option Value) → Option (List Value)
all_found [] = Some []
all_found (o ∷ os) = also o (all_found os)

-- what a variable's name stands for: its place, or what the caller chose
abbrev pub global_value_by : VariableShape → Option Value → GlobalValue
global_value_by (AtPlace pointer) chosen = Stored pointer
global_value_by (Held type) chosen = InHandleSpace chosen

-- what the names of all variables stand for
abbrev pub global_values : List VariableShape → List (Option Value) → List GlobalValue
global_values (x ∷ xs) (g ∷ gs) = global_value_by x g ∷ global_values xs gs
global_values _ _ = []

-- what the module's names stand for. Where no constant leads back to itself, as many rounds as
-- there are named constants find the values of all
abbrev pub environment_of : Module → Settings → Meaning → Environment
environment_of p s m =
    let found = found_after p s m (constant_count p) in
    record {
      constants = unwrap_or (all_found found) [];
      globals = global_values p.globals s.globals;
      parts = p.parts;
    }

-- the run of a function of the module
abbrev pub run_module :
    Module → Settings → World → Meaning → (turns function : ℕ) → List Value → List Event →
    ReachedOrHalted (Option Value)
run_module p s w m n g vs t = run_call (environment_of p s m) w m n p.functions g vs t

-- the word is a constant's or a function's name in the text
abbrev pub is_declared : TextModule → Bytes → Bool
is_declared text word =
    list_any (λ c. same_bytes word c.name) text.constants || names_function text.functions word

-- a word in an initialiser is an operator: no function is called
-- there, nothing is asked, and an unknown word has no value
abbrev pub operate :
    TextModule → Meaning → Vocabulary → Bytes → List Value → List Event →
    ReachedOrHalted (Option Value)
operate text m vocabulary word vs t =
    let is_other = is_declared text word || vocabulary.is_request word in
    let refused = is_other || not (vocabulary.is_operator word) in
    cond refused (Halts Stuck t) (Gives (Some (m (Spelled word) vs)) t)

-- an initialiser gives a value, and makes no event
abbrev pub initialised_name : ReachedOrHalted Denotation → Option Denotation
initialised_name (Gives (IsValue v) []) = Some (IsValue v)
initialised_name _ = None

-- named constants, each with what its initialiser gives
abbrev pub with_constants : (Tree → Option Denotation) → List TextConstant → Scope → Scope
with_constants value [] names = names
with_constants value (x ∷ xs) names =
    bind (with_constants value xs names) x.name (value x.initialiser)

-- the module-level names: the named constants, the overrides and the variables
abbrev pub scope_with : (Tree → Option Denotation) → TextModule → Settings → Scope
scope_with value text s =
    let variables = with_globals text.globals s.globals 0 no_names in
    with_constants value text.constants (with_parameters text.overrides s.overrides variables)

-- what an initialiser gives where these names are in scope
abbrev pub initialiser_value : Words → Scope → Tree → Option Denotation
initialiser_value l names e = initialised_name (evaluate l e names [])

-- the names after so many rounds: at first no named constant has a value, and each round evaluates
-- the initialisers in the scope of the one before it
abbrev pub scope_after : Words → TextModule → Settings → (rounds : ℕ) → Scope
scope_after l text s zero = scope_with (λ e. None) text s
scope_after l text s (suc n) = scope_with (initialiser_value l (scope_after l text s n)) text s

-- what words do in the initialisers of a text
abbrev pub initialiser_words : TextModule → PartTypes → World → Meaning → Vocabulary → Words
initialiser_words text parts w m vocabulary =
    record {
      parts = parts;
      world = w;
      meaning = m;
      operates = vocabulary.is_operator;
      respond = operate text m vocabulary;
    }

-- the names of a text: as many rounds as it has named constants
abbrev pub module_scope :
    TextModule → PartTypes → Settings → World → Meaning → Vocabulary → Scope
module_scope text parts s w m vocabulary =
    scope_after (initialiser_words text parts w m vocabulary) text s (length text.constants)

-- what stands for a value; a reference does not
abbrev pub value_denoted : Option Denotation → Option Value
value_denoted (Some (IsValue v)) = Some v
value_denoted _ = None

-- the value of an initialiser of the text, where all its names are in scope
abbrev pub text_initialiser_value :
    TextModule → PartTypes → Settings → World → Meaning → Vocabulary → Tree → Option Value
text_initialiser_value text parts s w m vocabulary e =
    let names = module_scope text parts s w m vocabulary in
    value_denoted (initialiser_value (initialiser_words text parts w m vocabulary) names e)

-- the value of an initialiser of the module, by those of all its named constants and overrides
abbrev pub module_initialiser_value :
    Module → Settings → Meaning → ConstantTree → Option Value
module_initialiser_value p s m e = constant_value (environment_of p s m) m e

-- the run of a function of the text, by its name. What types are made of is told to it. That its
-- structs are declared with the members that a module has is not asked here, but by an interface
abbrev pub follow_module :
    TextModule → PartTypes → Settings → World → Meaning → Vocabulary → (turns : ℕ) →
    (name : Bytes) → List Value → List Event → ReachedOrHalted (Option Value)
follow_module text parts s w m vocabulary n word vs t =
    let uses = word_use text.functions vocabulary in
    let names = module_scope text parts s w m vocabulary in
    follow_call parts names w m uses n text.functions word vs t
