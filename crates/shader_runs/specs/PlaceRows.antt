-- Worked places: which steps lead into them, and what runs do with a step that isn't there.
--
-- Throughout, whole is the spelling of a pointer, x a selector, e a tree.
use Rattle.std.specs.Prelude.{◌≡◌, ℤ, pos, false, cond, [], ◌∷◌, Option, Some, None}
use Rattle.std.specs.Prelude.{IsTrue, codes}
use Rattle.shader_runs.specs.Value.{Bytes, same_bytes, NoParts, Elements, Components, Members}
use Rattle.shader_runs.specs.Value.{PartTypes, Selector, MemberNamed, ElementAt, Step, At, Field}
use Rattle.shader_runs.specs.Value.{step_to, step_at, place_type, Place, AtOrigin, GlobalOrigin, Part}
use Rattle.shader_runs.specs.Value.{PointerType, Value, Pointer, PartWord}
use Rattle.shader_runs.specs.World.{Read, Write, Settings}
use Rattle.shader_runs.specs.Outcome.{ReachedOrHalted, Gives}
use Rattle.shader_runs.specs.Program.{Fixed, NamedConstant, AtPlace, Module, Constant, Argument}
use Rattle.shader_runs.specs.Program.{Global, Load, Access, AccessIndex, Emit, Store, Return}
use Rattle.shader_runs.specs.Program.{Function, Jumps}
use Rattle.shader_runs.specs.ProgramRun.{combined_value}
use Rattle.shader_runs.specs.Text.{Tree, Name, Index, PartOf, Assign, TextFunction, TextModule}
use Rattle.shader_runs.specs.Constants.{run_module}
use Rattle.shader_runs.specs.Scope.{Naming, fits_function}
use Rattle.shader_runs.specs.Form.{form_module}
use Rattle.shader_runs.specs.WorkedFunctions.{i32, number, numbered_name, row, function_with, lines}
use Rattle.shader_runs.specs.WorkedFunctions.{bound_row}
use Rattle.shader_runs.specs.WorkedFunctions.{let_own, return_of, digits, named_by, text_of}
use Rattle.shader_runs.specs.WorkedFunctions.{row_world, row_meaning, row_vocabulary, follow_text}
use Rattle.shader_runs.specs.Rows.{x_name, entered_with, stuck_after_entry}

-- ---- what types are made of

-- pointers to a number, to a vector of two numbers, to an array of four
-- and one of any number, and to a struct with a member `x`
abbrev pub private_i32 : Bytes
private_i32 = codes "ptr<private, i32>"

abbrev pub private_vector : Bytes
private_vector = codes "ptr<private, vec2<i32>>"

abbrev pub private_array : Bytes
private_array = codes "ptr<private, array<i32, 4>>"

abbrev pub private_unsized : Bytes
private_unsized = codes "ptr<private, array<i32>>"

abbrev pub private_struct : Bytes
private_struct = codes "ptr<private, Cell>"

-- their parts
abbrev pub row_parts : PartTypes
row_parts whole =
    cond (same_bytes whole private_vector) (Components 2 private_i32)
    (cond (same_bytes whole private_array) (Elements (Some 4) private_i32)
    (cond (same_bytes whole private_unsized) (Elements None private_i32)
    (cond (same_bytes whole private_struct) (Members ((x_name, private_i32) ∷ [])) NoParts)))

-- ---- which steps lead into them

-- `.x`, `.w`, `.yx`, `.xw`, `[0]`, `[2]` and `[4]`
abbrev pub dot_x : Selector
dot_x = MemberNamed x_name

abbrev pub dot_w : Selector
dot_w = MemberNamed (codes "w")

abbrev pub dot_yx : Selector
dot_yx = MemberNamed (codes "yx")

abbrev pub dot_xw : Selector
dot_xw = MemberNamed (codes "xw")

abbrev pub at_0 : Selector
at_0 = ElementAt 0

abbrev pub at_2 : Selector
at_2 = ElementAt 2

abbrev pub at_4 : Selector
at_4 = ElementAt 4

-- the step that a selector names in what such a pointer points to
abbrev pub step_into : (whole : Bytes) → Selector → Option Step
step_into whole x = step_to (row_parts whole) x

-- the step of a computed index
abbrev pub computed_step : (whole : Bytes) → ℤ → Option Step
computed_step whole z = step_at (row_parts whole) z

-- `.x` and `[0]` of a vector are one step, and `.x` of a struct
-- is its member's. Steps that lead to no part are not there
pub record StepsAreDistinguished : Type 0 where
  pub letter_of_vector : step_into private_vector dot_x ≡ Some (At (pos 0))
  pub number_of_vector : step_into private_vector at_0 ≡ Some (At (pos 0))
  pub letter_past_vector : step_into private_vector dot_w ≡ None
  pub number_past_vector : step_into private_vector at_2 ≡ None
  pub number_of_array : step_into private_array at_2 ≡ Some (At (pos 2))
  pub number_past_array : step_into private_array at_4 ≡ None
  pub number_of_unsized : step_into private_unsized at_4 ≡ Some (At (pos 4))
  pub letter_of_array : step_into private_array dot_x ≡ None
  pub letters_of_vector : step_into private_vector dot_yx ≡ None
  pub member_of_struct : step_into private_struct dot_x ≡ Some (Field x_name)
  pub other_member_of_struct : step_into private_struct dot_w ≡ None
  pub number_of_struct : step_into private_struct at_0 ≡ None
  pub letter_of_number : step_into private_i32 dot_x ≡ None
  pub index_of_vector : computed_step private_vector (pos 9) ≡ Some (At (pos 9))
  pub index_of_array : computed_step private_array (pos 9) ≡ Some (At (pos 9))
  pub index_of_struct : computed_step private_struct (pos 0) ≡ None
  pub index_of_number : computed_step private_i32 (pos 0) ≡ None

-- ---- what runs do

-- a variable `v`, by its place
abbrev pub v_place : (whole : Bytes) → Place
v_place whole = AtOrigin (GlobalOrigin whole 0)

-- a text that returns this, with `v` declared so
abbrev pub returning_text : (whole : Bytes) → Tree → TextModule
returning_text whole e =
    record {
      constants = [];
      overrides = [];
      globals = record { name = codes "v"; pointer = Some whole } ∷ [];
      functions = text_of (codes "h") [] [] (lines (return_of e ∷ [])) ∷ [];
    }

-- the variable is stored
abbrev pub places_settings : Settings
places_settings = record { overrides = []; globals = None ∷ [] }

-- what the text does that returns this part of `v`
abbrev pub follow_part : (whole : Bytes) → Selector → ReachedOrHalted (Option Value)
follow_part whole x =
    let text = returning_text whole (PartOf x (Name (codes "v"))) in
    follow_text row_parts places_settings text (codes "h") []

-- what that does that returns `v[0]`, with a computed index
abbrev pub follow_index : (whole : Bytes) → ReachedOrHalted (Option Value)
follow_index whole =
    let text = returning_text whole (Index (Name (codes "v")) (digits 0)) in
    follow_text row_parts places_settings text (codes "h") []

-- a part is read where this step leads
abbrev pub reads_part : (whole : Bytes) → Step → ReachedOrHalted (Option Value)
reads_part whole step =
    Gives (Some (number 7)) (Read (Part (v_place whole) step) ∷ entered_with [] [])

-- what the meaning has for several components, after this vector was read
abbrev pub reads_several : (whole : Bytes) → ReachedOrHalted (Option Value)
reads_several whole =
    Gives (Some (row_meaning (PartWord dot_yx) (number 7 ∷ [])))
    (Read (v_place whole) ∷ entered_with [] [])

-- what a module has for a part of `v`
abbrev pub part_in_module : (whole : Bytes) → Selector → Option Value
part_in_module whole x =
    combined_value row_parts row_meaning (Some (AccessIndex x 0)) (Pointer (v_place whole) ∷ [])

-- a text reads a part that is there, reads a vector of which it takes several components, and is
-- stuck where there is none. A module has no value there, and is stuck where one is wanted
pub record PartsAreReached : Type 0 where
  pub letter_of_vector : follow_part private_vector dot_x ≡ reads_part private_vector (At (pos 0))
  pub number_of_vector : follow_part private_vector at_0 ≡ reads_part private_vector (At (pos 0))
  pub number_of_array : follow_part private_array at_2 ≡ reads_part private_array (At (pos 2))
  pub member_of_struct : follow_part private_struct dot_x ≡ reads_part private_struct (Field x_name)
  pub letter_past_vector : follow_part private_vector dot_w ≡ stuck_after_entry []
  pub letters_of_vector : follow_part private_vector dot_yx ≡ reads_several private_vector
  pub letters_past_vector : follow_part private_vector dot_xw ≡ stuck_after_entry []
  pub letters_of_array : follow_part private_array dot_yx ≡ stuck_after_entry []
  pub number_past_array : follow_part private_array at_4 ≡ stuck_after_entry []
  pub number_of_unsized : follow_part private_unsized at_4 ≡ reads_part private_unsized (At (pos 4))
  pub letter_of_array : follow_part private_array dot_x ≡ stuck_after_entry []
  pub number_of_struct : follow_part private_struct at_0 ≡ stuck_after_entry []
  pub letter_of_number : follow_part private_i32 dot_x ≡ stuck_after_entry []
  pub index_of_array : follow_index private_array ≡ reads_part private_array (At (pos 0))
  pub index_of_struct : follow_index private_struct ≡ stuck_after_entry []
  pub member_in_module :
      part_in_module private_struct dot_x
      ≡ Some (Pointer (Part (v_place private_struct) (Field x_name)))
  pub none_in_module : part_in_module private_array dot_x ≡ None
  pub none_past_end_in_module : part_in_module private_array at_4 ≡ None

-- ---- a module with a named constant and a variable

-- a store to `v.x` and a read of `v[i]`, which are one place where i is 0
abbrev pub places_function : Function
places_function =
    function_with (i32 ∷ []) (Some i32) [] (
    row (Argument 0) i32
    ∷ row (Global false 0) (PointerType private_vector)
    ∷ row (Constant (NamedConstant 0)) i32
    ∷ row (AccessIndex dot_x 1) (PointerType private_i32)
    ∷ row (Access 1 0) (PointerType private_i32)
    ∷ bound_row (Load 4) i32 ∷ []) (
    Emit 3 1
    ∷ Store 3 2
    ∷ Emit 4 2
    ∷ Jumps (Return (Some 5)) ∷ [])

-- its names
abbrev pub places_naming : Naming
places_naming =
    record {
      function = places_function;
      names = record {
        outer = record {
          constant = λ i. codes "N";
          global = λ i. codes "v";
          function = λ g. codes "h";
          vocabulary = row_vocabulary;
        };
        argument = λ i. codes "i";
        local_ = λ i. [];
        named = λ k. [];
        numbered = numbered_name;
        earlier = 0;
      };
    }

-- the module of it
abbrev pub places_module : Module
places_module =
    record {
      constant_types = i32 ∷ [];
      initialisers = Fixed (number 5) ∷ [];
      globals = AtPlace private_vector ∷ [];
      parts = row_parts;
      functions = places_function ∷ [];
    }

-- its text
abbrev pub places_lines : TextFunction
places_lines =
    text_of (codes "h") (codes "i" ∷ []) [] (lines (
    Assign (PartOf dot_x (Name (codes "v"))) (Name (codes "N"))
    ∷ let_own 5 (Index (Name (codes "v")) (Name (codes "i")))
    ∷ return_of (named_by 5) ∷ []))

abbrev pub places_text : TextModule
places_text =
    record {
      constants = record { name = codes "N"; initialiser = digits 5 } ∷ [];
      overrides = [];
      globals = record { name = codes "v"; pointer = Some private_vector } ∷ [];
      functions = places_lines ∷ [];
    }

-- the first component of the variable
abbrev pub x_place : Place
x_place = Part (v_place private_vector) (At (pos 0))

-- what both runs give
abbrev pub places_result : ReachedOrHalted (Option Value)
places_result =
    let entry = entered_with (number 0 ∷ []) [] in
    Gives (Some (number 5)) (Read x_place ∷ Write x_place (number 5) ∷ entry)

-- the module and its text run so, and the place has the type of its expressions
pub record PlacesRow : Type 0 where
  pub fits : IsTrue (fits_function places_naming)
  pub text : form_module places_module places_naming.names.outer (places_naming ∷ []) ≡ places_text
  pub module_run :
      run_module places_module places_settings row_world row_meaning 3 0 (number 0 ∷ []) []
      ≡ places_result
  pub text_run :
      follow_text row_parts places_settings places_text (codes "h") (number 0 ∷ [])
      ≡ places_result
  pub typed : place_type row_parts x_place ≡ private_i32

-- ---- the rows together

pub record PlaceRowsHold : Type 0 where
  pub steps : StepsAreDistinguished
  pub reached : PartsAreReached
  pub places : PlacesRow
