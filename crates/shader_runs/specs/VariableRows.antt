-- A worked variable that is held and whose type is a pointer: by its space it is a value on both
-- sides, and a text that declares it at a place does something else.
use Rattle.std.specs.Prelude.{◌≡◌, ℕ, Bool, true, false, List, [], ◌∷◌, Option, Some, None}
use Rattle.std.specs.Prelude.{codes}
use Rattle.shader_runs.specs.Value.{Bytes, Place, AtOrigin, GlobalOrigin, PointerType, Value}
use Rattle.shader_runs.specs.Value.{Pointer}
use Rattle.shader_runs.specs.World.{Read, Write}
use Rattle.shader_runs.specs.Outcome.{Stuck, Gives, Halts}
use Rattle.shader_runs.specs.Program.{Global, Load, Emit, Store, Return, Function}
use Rattle.shader_runs.specs.Program.{expression_of, handle_type, Jumps}
use Rattle.shader_runs.specs.Text.{Name, Deref, Assign, ModuleVariable, TextFunction}
use Rattle.shader_runs.specs.Text.{TextModule}
use Rattle.shader_runs.specs.Constants.{follow_module}
use Rattle.shader_runs.specs.Premises.{LeafFits, SettingsFit, choices_fit}
use Rattle.shader_runs.specs.WorkedModules.{memory_world, memory_meaning, memory_vocabulary}
use Rattle.shader_runs.specs.WorkedModules.{in_memory, holding, named_function, Example, CallEnd}
use Rattle.shader_runs.specs.WorkedModules.{module_of, settings_of, text_with, IsWorked}
use Rattle.shader_runs.specs.WorkedModules.{start_events}
use Rattle.shader_runs.specs.WorkedFunctions.{i32, number, named_by, text_of, row, function_with}
use Rattle.shader_runs.specs.WorkedFunctions.{bound_row}
use Rattle.shader_runs.specs.WorkedFunctions.{no_parts, lines, let_own, return_of}

-- a pointer to a number of the module, and one to such a pointer
abbrev pub number_pointer : Bytes
number_pointer = codes "ptr<private, i32>"

abbrev pub pointer_pointer : Bytes
pointer_pointer = codes "ptr<private, ptr<private, i32>>"

-- the place of the number, the second variable
abbrev pub number_place : Place
number_place = AtOrigin (GlobalOrigin number_pointer 1)

-- the number is read, stored to where the first variable points, and returned
abbrev pub pointed_function : Function
pointed_function =
    function_with [] (Some i32) [] (
    row (Global true 0) (PointerType number_pointer)
    ∷ row (Global false 1) (PointerType number_pointer)
    ∷ bound_row (Load 1) i32 ∷ []) (
    Emit 2 1
    ∷ Store 0 2
    ∷ Jumps (Return (Some 2)) ∷ [])

-- its module: `p` holds a pointer to `n`
abbrev pub pointed_example : Example
pointed_example =
    let p = holding (codes "p") (PointerType number_pointer) (Pointer number_place) in
    record {
      constants = [];
      variables = p ∷ in_memory (codes "n") number_pointer ∷ [];
      functions = named_function (codes "get") [] [] pointed_function ∷ [];
    }

-- both variables have one type, but by their spaces `p` is a value and `n` a reference
abbrev pub pointed_text : List TextFunction
pointed_text =
    text_of (codes "get") [] [] (lines (
    let_own 2 (Name (codes "n"))
    ∷ Assign (Deref (Name (codes "p"))) (named_by 2)
    ∷ return_of (named_by 2) ∷ [])) ∷ []

-- these functions below other declarations of `p` and `n`
abbrev pub declared_so : List ModuleVariable → TextModule
declared_so variables = record (text_with pointed_example pointed_text) { globals = variables }

-- what such a text does
abbrev pub follow_declared : List ModuleVariable → CallEnd
follow_declared variables =
    let settings = settings_of pointed_example in
    follow_module (declared_so variables) no_parts settings memory_world memory_meaning
    memory_vocabulary 1 (codes "get") [] []

-- `p` declared with a space, at a place of its own
abbrev pub placed_pointer : ModuleVariable
placed_pointer = record { name = codes "p"; pointer = Some pointer_pointer }

-- `p` as it is written, without one
abbrev pub held_pointer : ModuleVariable
held_pointer = record { name = codes "p"; pointer = None }

-- `n` at its place, and without a space
abbrev pub placed_number : ModuleVariable
placed_number = record { name = codes "n"; pointer = Some number_pointer }

abbrev pub held_number : ModuleVariable
held_number = record { name = codes "n"; pointer = None }

-- the choices for `p` and `n` are as their spaces ask
abbrev pub may_choose : List (Option Value) → Bool
may_choose choices =
    let m = module_of pointed_example in
    choices_fit m.parts m.globals choices

-- what both runs do
abbrev pub pointed_result : CallEnd
pointed_result =
    let start = start_events 0 [] [] in
    Gives (Some (number 7)) (Write number_place (number 7) ∷ Read number_place ∷ start)

-- what the module and its text do, and what texts with other spaces do: where `p` is at a place,
-- `p` itself is read, and what is there is no pointer; where `n` is held, nothing is chosen for it,
-- and its name stands for nothing. The caller chooses a value for `p` and none for `n`. The leaves
-- are as the law of runs asks
pub record VariableRowsHold : Type 0 where
  pub leaves : (h : ℕ) →
      LeafFits (module_of pointed_example) pointed_function (handle_type pointed_function h)
      (expression_of pointed_function h)
  pub settings : SettingsFit (module_of pointed_example) (settings_of pointed_example)
  pub without_value : may_choose (None ∷ None ∷ []) ≡ false
  pub value_for_place :
      may_choose (Some (Pointer number_place) ∷ Some (number 7) ∷ []) ≡ false
  pub worked : IsWorked pointed_example pointed_text 0 1 [] pointed_result
  pub as_written : follow_declared (held_pointer ∷ placed_number ∷ []) ≡ pointed_result
  pub pointer_at_place : follow_declared (placed_pointer ∷ placed_number ∷ []) ≡
      Halts Stuck
      (Read (AtOrigin (GlobalOrigin pointer_pointer 0)) ∷ Read number_place ∷ start_events 0 [] [])
  pub held_place : follow_declared (held_pointer ∷ held_number ∷ []) ≡
      Halts Stuck (start_events 0 [] [])
