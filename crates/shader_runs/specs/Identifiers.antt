-- The laws of the identifiers and words in the text that is written for a module.
use Rattle.std.specs.Prelude.{◌≡◌, ℕ, ◌<◌, ◌≤◌, List, [], ◌∷◌, map, length, Option, Some}
use Rattle.shader_runs.specs.Program.{Expression, Argument, Local, Function, argument_count}
use Rattle.shader_runs.specs.Program.{local_count, expression_of, Module}
use Rattle.shader_runs.specs.Scope.{ModuleNames, Naming}
use Rattle.shader_runs.specs.Form.{form_function, form_module, form_module_with}
use Rattle.shader_runs.specs.Text.{TextFunction}
use Rattle.shader_runs.specs.Premises.{FunctionFits}
use Rattle.shader_runs.specs.Correct.{ItemsFit, ModuleFits}
use Rattle.shader_runs.specs.Resolution.{text_function_targets, text_names, text_targets}
use Rattle.shader_runs.specs.Resolution.{function_targets, module_targets}
use Rattle.shader_runs.specs.NamedLets.{lines_lets, text_lets, bound_names}

-- an argument or a variable that an expression names is one of the function
abbrev pub LeafStands : Function → Option Expression → Type 0
LeafStands f (Some (Argument i)) = i < argument_count f
LeafStands f (Some (Local i)) = i < local_count f
LeafStands f _ = Unit {0}

-- those of each function
abbrev pub LeavesStand : List Naming → Type 0
LeavesStand [] = Unit {0}
LeavesStand (f ∷ fs) =
    ((h : ℕ) → LeafStands f.function (expression_of f.function h)) × LeavesStand fs

-- in the text of every module whose scope holds, each identifier and each word stands for what the
-- module means by it: no name in scope hides a word
abbrev pub ResolvesAsMeant : Type 0
ResolvesAsMeant =
    (p : Module) (n : ModuleNames) (fs : List Naming) → ModuleFits p n fs → LeavesStand fs →
    text_targets (form_module p n fs) ≡ map (map Some) (module_targets p fs)

-- So it is in one function, whatever stands in those of the text that are not its callees.
abbrev pub FunctionResolvesAsMeant : Type 0
FunctionResolvesAsMeant =
    (p : Module) (n : ModuleNames) (functions : List TextFunction) → ItemsFit p n functions →
    (callees : List Function) → length callees ≤ length p.functions →
    (f : Naming) → FunctionFits p n callees f →
    ((h : ℕ) → LeafStands f.function (expression_of f.function h)) →
    text_function_targets (text_names (form_module_with p n functions)) (form_function f)
    ≡ map Some (function_targets f)

-- the text of every module has these `let`s and no others
abbrev pub BindsAsMeant : Type 0
BindsAsMeant =
    (p : Module) (n : ModuleNames) (fs : List Naming) →
    text_lets (form_module p n fs) ≡ map bound_names fs

-- and so has that of every function
abbrev pub FunctionBindsAsMeant : Type 0
FunctionBindsAsMeant = (f : Naming) → lines_lets (form_function f).lines ≡ bound_names f
