-- The laws: a call runs alike by the text and by the module, event by event.
--
-- Throughout, p is a module, n are its names and fs its functions with theirs, m is the meaning, w
-- the world, g the number of a function f, vs are its arguments and t the events so far, i is an
-- index and e an initialiser. Functions of a text that stand after f are later, and those between f
-- and its callees are between; others and uncalled are the module's there.
use Rattle.std.specs.Prelude.{◌≡◌, ℕ, ◌++◌, List, [], ◌∷◌, length, Some, IsTrue, slice_get}
use Rattle.std.specs.Prelude.{drop}
use Rattle.shader_runs.specs.Value.{Value, has_types}
use Rattle.shader_runs.specs.World.{World, Meaning, Event, Settings, Environment}
use Rattle.shader_runs.specs.Outcome.{Mistyped, ReachedOrHalted, Gives, Halts}
use Rattle.shader_runs.specs.Program.{Function, function_numbered, Module, ConstantTree}
use Rattle.shader_runs.specs.Program.{constant_count}
use Rattle.shader_runs.specs.ProgramRun.{constant_value}
use Rattle.shader_runs.specs.Constants.{global_values, environment_of, run_module, follow_module}
use Rattle.shader_runs.specs.Constants.{module_initialiser_value, text_initialiser_value}
use Rattle.shader_runs.specs.Scope.{ModuleNames, Naming}
use Rattle.shader_runs.specs.Form.{constant_form, form_function, form_functions, form_module}
use Rattle.shader_runs.specs.Form.{form_module_with, functions_of}
use Rattle.shader_runs.specs.Text.{TextFunction}
use Rattle.shader_runs.specs.Typing.{IsConsistent}
use Rattle.shader_runs.specs.Premises.{IsTyped, AllFit, ConstantsFit, SettingsFit, EnvironmentFits}
use Rattle.shader_runs.specs.Premises.{AreRegular, FunctionFits}
use Rattle.shader_runs.specs.Premises.{ModuleNamesAreDistinct, EachWord, OperatesOutside}
use Rattle.shader_runs.specs.Premises.{ConstantInRange}

-- each answer of the world that the run asks for has its type
abbrev pub KeepsTypes : {A : Type 0} → ReachedOrHalted A → Type 0
KeepsTypes (Gives a t) = Unit {0}
KeepsTypes (Halts Mistyped t) = ⊥
KeepsTypes (Halts x t) = Unit {0}

-- a module with its names
pub record ModuleFits (p : Module) (n : ModuleNames) (fs : List Naming) : Type 0 where
  pub functions : functions_of fs ≡ p.functions
  pub distinct : ModuleNamesAreDistinct p n
  pub constants : ConstantsFit p n
  pub all : AllFit p n fs

-- the functions of a text, the last one first, have the names of the module's by their numbers
abbrev pub AreNamed : ModuleNames → List TextFunction → Type 0
AreNamed n [] = Unit {0}
AreNamed n (f ∷ fs) = (f.name ≡ n.function (length fs)) × AreNamed n fs

-- the module's constants fit, and a text with these functions names each of the module's functions
pub record ItemsFit (p : Module) (n : ModuleNames) (functions : List TextFunction) : Type 0 where
  pub distinct : ModuleNamesAreDistinct p n
  pub constants : ConstantsFit p n
  pub named : AreNamed n functions
  pub counted : length functions ≡ length p.functions

-- f is a function of the module, and fits. Its callees are the module's first functions and fit,
-- and all that it calls are among them. Of the functions between and of the later ones nothing is
-- asked but their names, whatever the text has for them.
pub record OneFits (p : Module) (n : ModuleNames) (later : List TextFunction) (f : Naming)
    (between : List TextFunction) (callees : List Naming) : Type 0 where
  pub items : ItemsFit p n (later ++ (form_function f ∷ (between ++ form_functions callees)))
  pub others : List Function
  pub uncalled : List Function
  pub functions : others ++ (f.function ∷ (uncalled ++ functions_of callees)) ≡ p.functions
  pub counted : length uncalled ≡ length between
  pub own : FunctionFits p n (uncalled ++ functions_of callees) f
  pub calls : AreRegular p (functions_of callees) f f.function.body
  pub all : AllFit p n callees

-- of every module whose scope holds, in every world that keeps the types, under all values of
-- overrides and arguments of their types, every typed meaning and every bound on loop turns, a
-- function or entry point makes by its text the module's events, with their operands, ends as in
-- the module and returns the same. Each side computes its named constants from their initialisers
abbrev pub RunsAlike : Type 0
RunsAlike =
    (p : Module) (n : ModuleNames) (fs : List Naming) →
    ModuleFits p n fs →
    (settings : Settings) → SettingsFit p settings →
    (m : Meaning) → IsTyped p m →
    (g : ℕ) (f : Function) → function_numbered p.functions g ≡ Some f →
    (vs : List Value) → IsTrue (has_types p.parts f.argument_types vs) →
    (w : World) (turns : ℕ) (t : List Event) →
    KeepsTypes (run_module p settings w m turns g vs t) →
    let text = form_module p n fs in
    follow_module text p.parts settings w m n.vocabulary turns (n.function g) vs t
    ≡ run_module p settings w m turns g vs t

-- The same of one function that fits after its callees, whatever stands after it, and between it
-- and them, in the module and in the text.
abbrev pub OneRunsAlike : Type 0
OneRunsAlike =
    (p : Module) (n : ModuleNames) (later : List TextFunction) (f : Naming)
    (between : List TextFunction) (callees : List Naming) →
    OneFits p n later f between callees →
    (settings : Settings) → SettingsFit p settings →
    (m : Meaning) → IsTyped p m →
    (vs : List Value) → IsTrue (has_types p.parts f.function.argument_types vs) →
    (w : World) (turns : ℕ) (t : List Event) →
    let g = f.names.earlier in
    KeepsTypes (run_module p settings w m turns g vs t) →
    let functions = later ++ (form_function f ∷ (between ++ form_functions callees)) in
    let text = form_module_with p n functions in
    follow_module text p.parts settings w m n.vocabulary turns (n.function g) vs t
    ≡ run_module p settings w m turns g vs t

-- each named constant has the value of its initialiser over the values of all; the overrides after
-- them and the variables are as the caller chose
pub record IsSolution (p : Module) (s : Settings) (m : Meaning) (env : Environment) : Type 0 where
  pub initialisers : (i : ℕ) (e : ConstantTree) → slice_get p.initialisers i ≡ Some e →
      slice_get env.constants i ≡ constant_value env m e
  pub overrides : drop (constant_count p) env.constants ≡ s.overrides
  pub globals : env.globals ≡ global_values p.globals s.globals
  pub parts : env.parts ≡ p.parts

-- what a module computes for its named constants is
-- what their initialisers say, and no other values are
abbrev pub ConstantsAreComputed : Type 0
ConstantsAreComputed =
    (p : Module) (n : ModuleNames) → ConstantsFit p n →
    (settings : Settings) → SettingsFit p settings →
    (m : Meaning) → IsTyped p m →
    let env = environment_of p settings m in
    EnvironmentFits p env
    × IsSolution p settings m env
    × ((other : Environment) → IsSolution p settings m other → other ≡ env)

-- An initialiser has one value on both sides, in every world: what the text computes of its form is
-- what the module computes of it, whatever functions of the module's names the text has. Its words
-- are operators, and its names those of constants and overrides.
abbrev pub InitialisersAreAlike : Type 0
InitialisersAreAlike =
    (p : Module) (n : ModuleNames) (functions : List TextFunction) →
    ItemsFit p n functions →
    (settings : Settings) → SettingsFit p settings →
    (m : Meaning) → IsTyped p m →
    (w : World) (e : ConstantTree) →
    EachWord (OperatesOutside p n) e → ConstantInRange p e →
    let text = form_module_with p n functions in
    text_initialiser_value text p.parts settings w m n.vocabulary (constant_form n e)
    ≡ module_initialiser_value p settings m e

-- the law above isn't empty: every module whose
-- operators are typed consistently has a typed meaning
abbrev pub HasTypedMeaning : Type 0
HasTypedMeaning = (p : Module) → IsConsistent p → (m : Meaning) × IsTyped p m

-- with each bound on loop turns, from each function and entry point with arguments of its types
-- and after each past, each answer of this world that the run asks for has its type
abbrev pub AlwaysKeepsTypes : Module → Settings → Meaning → World → Type 0
AlwaysKeepsTypes p settings m w =
    (turns : ℕ) (g : ℕ) (f : Function) → function_numbered p.functions g ≡ Some f →
    (vs : List Value) → IsTrue (has_types p.parts f.argument_types vs) →
    (past : List Event) →
    KeepsTypes (run_module p settings w m turns g vs past)

-- Nor is its premise on the world: one world keeps the types in all these runs. The same events may
-- be a past and a run after it in several ways, since a run may have begun at each entry among
-- them. No two of these runs want answers of different types. Where the later one began, the
-- earlier one called the same function with the same arguments after the same events. So until
-- that call ends both do the same, and then the later run asks for nothing more.
abbrev pub HasTypedWorld : Type 0
HasTypedWorld =
    (p : Module) (n : ModuleNames) (fs : List Naming) →
    ModuleFits p n fs →
    (settings : Settings) → SettingsFit p settings →
    (m : Meaning) → IsTyped p m →
    (w : World) × AlwaysKeepsTypes p settings m w
