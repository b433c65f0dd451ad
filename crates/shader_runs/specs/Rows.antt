-- Worked functions: each with its text, and what both runs of it do in one world. Then texts that
-- other writers would give, which do something else.
--
-- Throughout, t are the events so far, vs are arguments, and f and e a function and an expression.
use Rattle.std.specs.Prelude.{◌≡◌, ℕ, pos, Bool, true, false, List, [], ◌∷◌, ◌++◌, Option, Some}
use Rattle.std.specs.Prelude.{None, codes}
use Rattle.shader_runs.specs.Value.{Bytes, AtOrigin, LocalOrigin, Place, ValueType, BooleanType, Value}
use Rattle.shader_runs.specs.Value.{Truth, Pointer}
use Rattle.shader_runs.specs.World.{Event, Entry, Ask, Read, Write}
use Rattle.shader_runs.specs.Outcome.{ReachedOrHalted, Gives, Halts, Stuck, Unreturned, OutOfTurns}
use Rattle.shader_runs.specs.Program.{BarrierBits, Fixed, Module, Expression, Constant, Argument}
use Rattle.shader_runs.specs.Program.{Local, Load, Operator, Result, Called, Numbered, Default}
use Rattle.shader_runs.specs.Program.{Statements, Emit, Store, If, Switch, Loop, Break, Continue}
use Rattle.shader_runs.specs.Program.{Return, Act, Barrier, end, then, no_case, case, Function}
use Rattle.shader_runs.specs.Program.{Statement, Jumps}
use Rattle.shader_runs.specs.Text.{Tree, Name, LiteralOf, Deref, Index, Let, Assign, IfElse}
use Rattle.shader_runs.specs.Text.{Braces, SwitchOn, LoopOf, Lines, last, before}
use Rattle.shader_runs.specs.Text.{no_group, group, Variable, TextFunction, Line, JumpLine}
use Rattle.shader_runs.specs.Constants.{run_module}
use Rattle.shader_runs.specs.Scope.{Naming, fits_function}
use Rattle.shader_runs.specs.Premises.{SettingsFit}
use Rattle.shader_runs.specs.Typing.{IsConsistent}
use Rattle.shader_runs.specs.Correct.{ModuleFits}
use Rattle.shader_runs.specs.Progress.{AllWellFormed}
use Rattle.shader_runs.specs.Results.{may_end_all, AllGiveResults}
use Rattle.shader_runs.specs.WorkedFunctions.{i32, local_i32, i32_pointer, number, literal}
use Rattle.shader_runs.specs.WorkedFunctions.{numbered_name, row, statements, function_with, lines}
use Rattle.shader_runs.specs.WorkedFunctions.{bound_row}
use Rattle.shader_runs.specs.WorkedFunctions.{call_of, perform, let_own, return_of, digits}
use Rattle.shader_runs.specs.WorkedFunctions.{pointer_of, variable, number_variable, sum_of}
use Rattle.shader_runs.specs.WorkedFunctions.{product_of, named_by, text_of, row_world, row_meaning}
use Rattle.shader_runs.specs.WorkedFunctions.{nothing, functions_alone, with_names, only}
use Rattle.shader_runs.specs.WorkedFunctions.{follow_row, IsShown, IsShownAlone, Follows}

-- ---- a local, and sums

-- the local's name, and its variable: without a first value, and one that starts with 1
abbrev pub a_name : Bytes
a_name = codes "a"

abbrev pub local_a : Variable
local_a = variable a_name local_i32 None

abbrev pub a_first : Variable
a_first = number_variable a_name 1

-- the first local of the first call
abbrev pub a_place : Place
a_place = AtOrigin (LocalOrigin local_i32 0 0)

-- the entry of a start
abbrev pub entered_with : List Value → List (Option Value) → List Event
entered_with vs firsts = Entry 0 vs firsts ∷ []

-- that of a function whose local starts with 1
abbrev pub entered_with_one : List Event
entered_with_one = entered_with [] (Some (number 1) ∷ [])

-- a read, a store over what was read, and what was read is returned
abbrev pub store_function : Function
store_function =
    function_with [] (Some i32) ((local_i32, Some 0) ∷ []) (
    row (literal 1) i32
    ∷ row (Local 0) i32_pointer
    ∷ bound_row (Load 1) i32
    ∷ row (literal 2) i32 ∷ []) (
    Emit 2 1
    ∷ Store 1 3
    ∷ Jumps (Return (Some 2)) ∷ [])

abbrev pub store_text : TextFunction
store_text =
    text_of (codes "g") [] (a_first ∷ []) (lines (
    let_own 2 (Name a_name)
    ∷ Assign (Name a_name) (digits 2)
    ∷ return_of (named_by 2) ∷ []))

-- its names
abbrev pub store_naming : Naming
store_naming = only (codes "g") [] (a_name ∷ []) store_function

-- [store]: the read is bound in front of the store
abbrev pub StoreRow : Type 0
StoreRow =
    let events = Write a_place (number 2) ∷ Read a_place ∷ entered_with_one in
    IsShownAlone store_naming store_text [] (Gives (Some (number 7)) events)

-- the read is used nowhere
abbrev pub unused_function : Function
unused_function =
    function_with [] (Some i32) ((local_i32, Some 0) ∷ []) (
    row (literal 1) i32
    ∷ row (Local 0) i32_pointer
    ∷ row (Load 1) i32
    ∷ row (literal 2) i32 ∷ []) (
    Emit 2 1
    ∷ Store 1 3
    ∷ Jumps (Return (Some 3)) ∷ [])

abbrev pub unused_text : TextFunction
unused_text =
    text_of (codes "g") [] (a_first ∷ []) (lines (
    Assign (Name a_name) (digits 2)
    ∷ return_of (digits 2) ∷ []))

-- [unused]: the read counts nowhere, is not written, and is no event
abbrev pub UnusedRow : Type 0
UnusedRow =
    let events = Write a_place (number 2) ∷ entered_with_one in
    IsShownAlone (only (codes "g") [] (a_name ∷ []) unused_function) unused_text [] (
    Gives (Some (number 2)) events)

-- a sum of what was read
abbrev pub late_function : Function
late_function =
    function_with [] (Some i32) ((local_i32, Some 0) ∷ []) (
    row (literal 1) i32
    ∷ row (Local 0) i32_pointer
    ∷ bound_row (Load 1) i32
    ∷ row (Operator (codes "+") (2 ∷ 0 ∷ [])) i32
    ∷ row (literal 2) i32 ∷ []) (
    Emit 2 2
    ∷ Store 1 4
    ∷ Jumps (Return (Some 3)) ∷ [])

abbrev pub late_text : TextFunction
late_text =
    text_of (codes "p") [] (a_first ∷ []) (lines (
    let_own 2 (Name a_name)
    ∷ Assign (Name a_name) (digits 2)
    ∷ return_of (sum_of (named_by 2) (digits 1)) ∷ []))

-- [late]: the sum is written after the store
abbrev pub LateRow : Type 0
LateRow =
    let events = Write a_place (number 2) ∷ Read a_place ∷ entered_with_one in
    IsShownAlone (only (codes "p") [] (a_name ∷ []) late_function) late_text [] (
    Gives (Some (number 8)) events)

-- the parameters of the rows
abbrev pub x_name : Bytes
x_name = codes "x"

abbrev pub c_name : Bytes
c_name = codes "c"

-- `(x + x)`
abbrev pub x_plus_x : Tree
x_plus_x = sum_of (Name x_name) (Name x_name)

-- a sum that is stored, and a read
abbrev pub inline_function : Function
inline_function =
    function_with (i32 ∷ []) (Some i32) ((local_i32, None) ∷ []) (
    row (Argument 0) i32
    ∷ row (Local 0) i32_pointer
    ∷ row (Operator (codes "+") (0 ∷ 0 ∷ [])) i32
    ∷ bound_row (Load 1) i32 ∷ []) (
    Emit 2 1
    ∷ Store 1 2
    ∷ Emit 3 1
    ∷ Jumps (Return (Some 3)) ∷ [])

abbrev pub inline_text : TextFunction
inline_text =
    text_of (codes "q") (x_name ∷ []) (local_a ∷ []) (lines (
    Assign (Name a_name) x_plus_x
    ∷ let_own 3 (Name a_name)
    ∷ return_of (named_by 3) ∷ []))

-- what the sum's store and the read are after the entry
abbrev pub sum_events : List Event
sum_events = Read a_place ∷ Write a_place (number 8) ∷ entered_with (number 4 ∷ []) (None ∷ [])

-- [inline]: a sum that is used once is written where it is used
abbrev pub InlineRow : Type 0
InlineRow =
    let naming = only (codes "q") (x_name ∷ []) (a_name ∷ []) inline_function in
    IsShownAlone naming inline_text (number 4 ∷ []) (Gives (Some (number 8)) sum_events)

-- the sum is used again in a product
abbrev pub twofold_function : Function
twofold_function =
    function_with (i32 ∷ []) (Some i32) ((local_i32, None) ∷ []) (
    row (Argument 0) i32
    ∷ row (Local 0) i32_pointer
    ∷ bound_row (Operator (codes "+") (0 ∷ 0 ∷ [])) i32
    ∷ bound_row (Load 1) i32
    ∷ row (Operator (codes "*") (2 ∷ 3 ∷ [])) i32 ∷ []) (
    Emit 2 1
    ∷ Store 1 2
    ∷ Emit 3 2
    ∷ Jumps (Return (Some 4)) ∷ [])

abbrev pub twofold_text : TextFunction
twofold_text =
    text_of (codes "q") (x_name ∷ []) (local_a ∷ []) (lines (
    let_own 2 x_plus_x
    ∷ Assign (Name a_name) (named_by 2)
    ∷ let_own 3 (Name a_name)
    ∷ return_of (product_of (named_by 2) (named_by 3)) ∷ []))

-- [twofold]: a sum that is used twice is bound
abbrev pub TwofoldRow : Type 0
TwofoldRow =
    let naming = only (codes "q") (x_name ∷ []) (a_name ∷ []) twofold_function in
    IsShownAlone naming twofold_text (number 4 ∷ []) (Gives (Some (number 64)) sum_events)

-- ---- branches

-- the same sum in both branches
abbrev pub sibling_function : Function
sibling_function =
    let branch = statements (Emit 2 1 ∷ Jumps (Return (Some 2)) ∷ []) in
    function_with (BooleanType ∷ i32 ∷ []) (Some i32) [] (
    row (Argument 0) BooleanType
    ∷ row (Argument 1) i32
    ∷ bound_row (Operator (codes "+") (1 ∷ 1 ∷ [])) i32 ∷ []) (
    If 0 branch branch ∷ [])

-- a sum bound under this name, and returned
abbrev pub let_and_return : Bytes → Lines
let_and_return name = lines (Let name x_plus_x ∷ return_of (Name name) ∷ [])

-- a choice between these branches
abbrev pub sibling_text : (accept reject : Lines) → TextFunction
sibling_text accept reject =
    text_of (codes "k") (c_name ∷ x_name ∷ []) [] (lines (
    IfElse (Name c_name) accept reject ∷ []))

-- [sibling]: each branch binds its own name
abbrev pub SiblingRow : Type 0
SiblingRow =
    let vs = Truth false ∷ number 4 ∷ [] in
    let branch = let_and_return (numbered_name 2) in
    let naming = only (codes "k") (c_name ∷ x_name ∷ []) [] sibling_function in
    IsShownAlone naming (sibling_text branch branch) vs (
    Gives (Some (number 8)) (entered_with vs []))

-- the sum, named by a front end
abbrev pub twice_naming : Naming
twice_naming =
    with_names (codes "k" ∷ []) 0 (c_name ∷ x_name ∷ []) [] (codes "y" ∷ codes "y_1" ∷ []) (
    record sibling_function { named_expressions = false ∷ false ∷ true ∷ [] })

-- [twice]: a given name is given anew in each branch
abbrev pub TwiceRow : Type 0
TwiceRow =
    let vs = Truth true ∷ number 4 ∷ [] in
    let text = sibling_text (let_and_return (codes "y")) (let_and_return (codes "y_1")) in
    IsShownAlone twice_naming text vs (Gives (Some (number 8)) (entered_with vs []))

-- ---- loops

-- a sum of a loop's body is stored again in `continuing`
abbrev pub tail_function : Function
tail_function =
    let body = statements (Emit 2 1 ∷ Store 1 2 ∷ []) in
    let continuing = statements (Store 1 2 ∷ []) in
    function_with (i32 ∷ []) None ((local_i32, None) ∷ []) (
    row (Argument 0) i32
    ∷ row (Local 0) i32_pointer
    ∷ bound_row (Operator (codes "+") (0 ∷ 0 ∷ [])) i32
    ∷ row (Constant (Fixed (Truth true))) BooleanType ∷ []) (
    Loop body continuing (Some 3) ∷ [])

abbrev pub tail_text : TextFunction
tail_text =
    let body = lines (let_own 2 x_plus_x ∷ Assign (Name a_name) (named_by 2) ∷ []) in
    let continuing = lines (Assign (Name a_name) (named_by 2) ∷ []) in
    text_of (codes "lp") (x_name ∷ []) (local_a ∷ []) (lines (
    LoopOf body continuing (Some (LiteralOf (Truth true))) ∷ []))

-- [tail]: `continuing` uses a name of the body
abbrev pub TailRow : Type 0
TailRow =
    let storing = Write a_place (number 8) in
    let events = storing ∷ storing ∷ entered_with (number 4 ∷ []) (None ∷ []) in
    let naming = only (codes "lp") (x_name ∷ []) (a_name ∷ []) tail_function in
    IsShownAlone naming tail_text (number 4 ∷ []) (Gives None events)

-- a sum of constants in a loop
abbrev pub folded_function : Function
folded_function =
    let body = statements (If 0 (then (Jumps Continue) end) end ∷ Emit 3 1 ∷ Store 1 3 ∷ []) in
    let continuing = statements (Store 1 3 ∷ []) in
    function_with (BooleanType ∷ []) None ((local_i32, None) ∷ []) (
    row (Argument 0) BooleanType
    ∷ row (Local 0) i32_pointer
    ∷ row (literal 1) i32
    ∷ bound_row (Operator (codes "+") (2 ∷ 2 ∷ [])) i32 ∷ []) (
    Loop body continuing (Some 0) ∷ [])

-- `(1i + 1i)`
abbrev pub one_plus_one : Tree
one_plus_one = sum_of (digits 1) (digits 1)

-- its text, with this in `continuing`
abbrev pub folded_text : Tree → TextFunction
folded_text e =
    let leaving = IfElse (Name c_name) (before (JumpLine Continue) last) last in
    let body =
    lines (leaving ∷ let_own 3 one_plus_one ∷ Assign (Name a_name) (named_by 3) ∷ []) in
    let continuing = lines (Assign (Name a_name) e ∷ []) in
    text_of (codes "cf") (c_name ∷ []) (local_a ∷ []) (lines (
    LoopOf body continuing (Some (Name c_name)) ∷ []))

-- [folded]: a sum of constants has a name that a `continue` may skip, so `continuing` writes it out
abbrev pub FoldedRow : Type 0
FoldedRow =
    let vs = Truth true ∷ [] in
    let naming = only (codes "cf") (c_name ∷ []) (a_name ∷ []) folded_function in
    IsShownAlone naming (folded_text one_plus_one) vs (
    Gives None (Write a_place (number 2) ∷ entered_with vs (None ∷ [])))

-- ---- calls

-- adds one through a pointer
abbrev pub increment : Function
increment =
    function_with (i32_pointer ∷ []) None [] (
    row (Argument 0) i32_pointer
    ∷ row (literal 1) i32
    ∷ bound_row (Load 0) i32
    ∷ row (Operator (codes "+") (2 ∷ 1 ∷ [])) i32 ∷ []) (
    Emit 2 2
    ∷ Store 0 3 ∷ [])

-- calls it with its local
abbrev pub run_function : Function
run_function =
    function_with [] (Some i32) ((local_i32, None) ∷ []) (
    row (Local 0) i32_pointer
    ∷ bound_row (Load 0) i32 ∷ []) (
    Act (Called 0) (0 ∷ []) None
    ∷ Emit 1 1
    ∷ Jumps (Return (Some 1)) ∷ [])

-- their texts, with this for the argument
abbrev pub call_texts : Tree → List TextFunction
call_texts p =
    text_of (codes "run") [] (local_a ∷ []) (lines (
    perform (codes "inc") (pointer_of a_name ∷ [])
    ∷ let_own 1 (Name a_name)
    ∷ return_of (named_by 1) ∷ []))
    ∷ text_of (codes "inc") (codes "p" ∷ []) [] (lines (
    let_own 2 p
    ∷ Assign p (sum_of (named_by 2) (digits 1)) ∷ [])) ∷ []

-- their names
abbrev pub call_namings : List Naming
call_namings =
    let functions = codes "inc" ∷ codes "run" ∷ [] in
    with_names functions 1 [] (a_name ∷ []) [] run_function
    ∷ with_names functions 0 (codes "p" ∷ []) [] [] increment ∷ []

-- [call]: a callee reads and stores through a pointer to its caller's local
abbrev pub CallRow : Type 0
CallRow =
    let entries = Entry 0 (Pointer a_place ∷ []) [] ∷ Entry 1 [] (None ∷ []) ∷ [] in
    let events = Read a_place ∷ Write a_place (number 8) ∷ Read a_place ∷ entries in
    IsShown call_namings (call_texts (Deref (Name (codes "p")))) 1 (codes "run") [] (
    Gives (Some (number 8)) events)

-- a function with this body, over this expression
abbrev pub body_of : Expression → Option ValueType → Statements → Function
body_of e result body =
    record (function_with [] result [] (row e i32 ∷ []) []) { body = body }

-- [unreturned]: a callee ends without the result that its caller wants
abbrev pub UnreturnedRow : Type 0
UnreturnedRow =
    let functions = codes "idle" ∷ codes "run" ∷ [] in
    let idle = body_of (literal 1) (Some i32) end in
    let calls = statements (Act (Called 0) [] (Some 0) ∷ Jumps (Return (Some 0)) ∷ []) in
    let caller = body_of Result (Some i32) calls in
    let called = lines (let_own 0 (call_of (codes "idle") []) ∷ return_of (named_by 0) ∷ []) in
    let texts = text_of (codes "run") [] [] called ∷ text_of (codes "idle") [] [] last ∷ [] in
    let calling = with_names functions 1 [] [] [] caller in
    let namings = calling ∷ with_names functions 0 [] [] [] idle ∷ [] in
    IsShown namings texts 1 (codes "run") [] (Halts Unreturned (Entry 0 [] [] ∷ Entry 1 [] [] ∷ []))

-- ---- bodies

-- the run of this body is stuck where it starts
abbrev pub IsStuck : Statements → Type 0
IsStuck body =
    let alone = functions_alone (body_of (literal 1) None body ∷ []) in
    run_module alone nothing row_world row_meaning 3 0 [] [] ≡ Halts Stuck (entered_with [] [])

-- bodies that aren't well-formed
pub record AreStuck : Type 0 where
  pub break_outside : IsStuck (then (Jumps Break) end)
  pub continue_outside : IsStuck (then (Jumps Continue) end)
  pub break_in_continuing : IsStuck (then (Loop end (then (Jumps Break) end) None) end)
  pub continue_in_continuing : IsStuck (then (Loop end (then (Jumps Continue) end) None) end)
  pub number_as_condition : IsStuck (then (If 0 end end) end)
  pub number_as_break_if : IsStuck (then (Loop end end (Some 0)) end)
  pub number_as_pointer : IsStuck (then (Store 0 0) end)

-- a body that returns, and one that breaks
abbrev pub returning_body : Statements
returning_body = then (Jumps (Return (Some 0))) end

abbrev pub breaking_body : Statements
breaking_body = then (If 0 (then (Jumps Break) end) end) end

-- whether a run may come to the end of a body of one statement
abbrev pub ends_after : Statement → Bool
ends_after st = may_end_all (then st end)

-- the first case is empty or returns, and the default returns
abbrev pub with_default : Statement
with_default =
    Switch 0 (case (Numbered (pos 1)) end true (case Default returning_body false no_case))

abbrev pub without_default : Statement
without_default = Switch 0 (case (Numbered (pos 1)) returning_body false no_case)

-- where a run may come to the end of a body
pub record EndsAreDistinguished : Type 0 where
  pub both_return : ends_after (If 0 returning_body returning_body) ≡ false
  pub one_returns : ends_after (If 0 returning_body end) ≡ true
  pub loop_without_break : ends_after (Loop end end None) ≡ false
  pub loop_with_break : ends_after (Loop breaking_body end None) ≡ true
  pub loop_with_break_if : ends_after (Loop end end (Some 0)) ≡ true
  pub with_default : ends_after with_default ≡ false
  pub without_default : ends_after without_default ≡ true

-- ---- switches, and a loop that a condition leaves

-- cases 1 and 2 fall through to a default with this body
abbrev pub switch_function : Option ValueType → List Statement → Function
switch_function result body =
    let joined = case Default (statements body) false no_case in
    let second = case (Numbered (pos 2)) end true joined in
    function_with (i32 ∷ []) result [] (row (Argument 0) i32 ∷ []) (
    Switch 0 (case (Numbered (pos 1)) end true second) ∷ [])

abbrev pub switch_text : List Line → TextFunction
switch_text body =
    let case_values = Numbered (pos 1) ∷ Numbered (pos 2) ∷ Default ∷ [] in
    text_of (codes "s") (x_name ∷ []) [] (lines (
    SwitchOn (Name x_name) (group case_values (lines body) no_group) ∷ []))

-- [switch]: empty cases that fall through are joined
abbrev pub SwitchRow : Type 0
SwitchRow =
    let naming = only (codes "s") (x_name ∷ []) [] (switch_function None []) in
    IsShownAlone naming (switch_text []) (number 1 ∷ []) (
    Gives None (entered_with (number 1 ∷ []) []))

-- the joined case runs for each of its values
abbrev pub JoinedRow : Type 0
JoinedRow =
    let function = switch_function (Some i32) (Jumps (Return (Some 0)) ∷ []) in
    let text = switch_text (return_of (Name x_name) ∷ []) in
    IsShownAlone (only (codes "s") (x_name ∷ []) [] function) text (number 1 ∷ []) (
    Gives (Some (number 1)) (entered_with (number 1 ∷ []) []))

-- case 1 stores 1 and falls through to the default, which stores 2
abbrev pub fallen_function : Function
fallen_function =
    let next = case Default (statements (Store 1 3 ∷ [])) false no_case in
    function_with (i32 ∷ []) None ((local_i32, None) ∷ []) (
    row (Argument 0) i32
    ∷ row (Local 0) i32_pointer
    ∷ row (literal 1) i32
    ∷ row (literal 2) i32 ∷ []) (
    Switch 0 (case (Numbered (pos 1)) (statements (Store 1 2 ∷ [])) true next) ∷ [])

-- the lines of a case that stores this
abbrev pub storing_lines : ℕ → Lines
storing_lines k = lines (Assign (Name a_name) (digits k) ∷ [])

-- a text of it, with these lines in case 1
abbrev pub fallen_text : Lines → TextFunction
fallen_text own =
    let next = group (Default ∷ []) (storing_lines 2) no_group in
    text_of (codes "s") (x_name ∷ []) (local_a ∷ []) (lines (
    SwitchOn (Name x_name) (group (Numbered (pos 1) ∷ []) own next) ∷ []))

-- [fallen]: no text is written for the module, whose run stores twice. So does a text with a block
-- for each of the two cases, and not one with the lines of case 1 alone
pub record FallenRow : Type 0 where
  pub module_run :
      let vs = number 1 ∷ [] in
      run_module (functions_alone (fallen_function ∷ [])) nothing row_world row_meaning 3 0 vs []
      ≡ Gives None (
      Write a_place (number 2) ∷ Write a_place (number 1) ∷ entered_with vs (None ∷ []))
  pub two_blocks :
      let vs = number 1 ∷ [] in
      let blocks = Braces (storing_lines 1) ∷ Braces (storing_lines 2) ∷ [] in
      Follows (fallen_text (lines blocks)) vs (Gives None (
      Write a_place (number 2) ∷ Write a_place (number 1) ∷ entered_with vs (None ∷ [])))
  pub one_case :
      let vs = number 1 ∷ [] in
      Follows (fallen_text (storing_lines 1)) vs (Gives None (
      Write a_place (number 1) ∷ entered_with vs (None ∷ [])))

-- a loop that a condition leaves
abbrev pub loop_function : Function
loop_function =
    function_with (BooleanType ∷ []) None [] (row (Argument 0) BooleanType ∷ []) (
    Loop end end (Some 0) ∷ [])

abbrev pub loop_text : TextFunction
loop_text =
    text_of (codes "l") (c_name ∷ []) [] (lines (LoopOf last last (Some (Name c_name)) ∷ []))

-- it runs so where the condition has this value
abbrev pub LoopRuns : Bool → (List Event → ReachedOrHalted (Option Value)) → Type 0
LoopRuns b result =
    let vs = Truth b ∷ [] in
    IsShownAlone (only (codes "l") (c_name ∷ []) [] loop_function) loop_text vs (
    result (entered_with vs []))

-- [loop]: it is left at once, or has its three turns
abbrev pub LoopRow : Type 0
LoopRow = LoopRuns true (λ t. Gives None t) × LoopRuns false (λ t. Halts OutOfTurns t)

-- ---- a barrier, and `select`

-- a barrier with two of its bits set
abbrev pub barrier_function : Function
barrier_function =
    let bits : BarrierBits =
    record { storage = true; work_group = false; sub_group = false; texture = true } in
    function_with [] None [] [] (Barrier bits ∷ [])

abbrev pub barrier_text : TextFunction
barrier_text =
    text_of (codes "b") [] [] (lines (
    perform (codes "storageBarrier") []
    ∷ perform (codes "textureBarrier") [] ∷ []))

-- [barrier]: an event for each bit
abbrev pub BarrierRow : Type 0
BarrierRow =
    let storage = Ask (codes "storageBarrier") [] in
    let texture = Ask (codes "textureBarrier") [] in
    IsShownAlone (only (codes "b") [] [] barrier_function) barrier_text [] (
    Gives None (texture ∷ storage ∷ entered_with [] []))

-- takes its second argument where the first holds
abbrev pub select_function : Function
select_function =
    function_with (BooleanType ∷ i32 ∷ i32 ∷ []) (Some i32) [] (
    row (Argument 0) BooleanType
    ∷ row (Argument 1) i32
    ∷ row (Argument 2) i32
    ∷ row (Operator (codes "select") (2 ∷ 1 ∷ 0 ∷ [])) i32 ∷ []) (
    Emit 3 1
    ∷ Jumps (Return (Some 3)) ∷ [])

-- a call of `select` with these operands in front
abbrev pub select_text : (reject accept : Bytes) → TextFunction
select_text reject accept =
    text_of (codes "sel") (c_name ∷ codes "a" ∷ codes "b" ∷ []) [] (lines (
    return_of (call_of (codes "select") (Name reject ∷ Name accept ∷ Name c_name ∷ [])) ∷ []))

-- the arguments of its runs
abbrev pub select_values : List Value
select_values = Truth true ∷ number 1 ∷ number 2 ∷ []

-- [select]: the operand that is taken where the condition holds stands after the other
abbrev pub SelectRow : Type 0
SelectRow =
    let naming = only (codes "sel") (c_name ∷ codes "a" ∷ codes "b" ∷ []) [] select_function in
    IsShownAlone naming (select_text (codes "b") (codes "a")) select_values (
    Gives (Some (number 1)) (entered_with select_values []))

-- ---- what the check of scope refuses

-- [continue]: `continuing` uses a sum that a `continue` may skip
abbrev pub continue_function : Function
continue_function =
    let body = statements (If 0 (then (Jumps Continue) end) end ∷ Emit 3 1 ∷ []) in
    let continuing = statements (Store 2 3 ∷ []) in
    function_with (BooleanType ∷ i32 ∷ []) None ((local_i32, None) ∷ []) (
    row (Argument 0) BooleanType
    ∷ row (Argument 1) i32
    ∷ row (Local 0) i32_pointer
    ∷ row (Operator (codes "+") (1 ∷ 1 ∷ [])) i32 ∷ []) (
    Loop body continuing (Some 0) ∷ [])

-- the same with a `break` in place of the `continue`, which skips `continuing` too
abbrev pub break_function : Function
break_function =
    let body = statements (If 0 (then (Jumps Break) end) end ∷ Emit 3 1 ∷ []) in
    let continuing = statements (Store 2 3 ∷ []) in
    record continue_function { body = statements (Loop body continuing (Some 0) ∷ []) }

-- a sum of a loop's body is used after the loop
abbrev pub after_loop_function : Function
after_loop_function =
    let body = statements (Emit 3 1 ∷ Store 2 3 ∷ []) in
    record continue_function {
      result = Some i32;
      body = statements (Loop body end (Some 0) ∷ Jumps (Return (Some 3)) ∷ []);
    }

-- a sum of constants is emitted in a loop's body and again in its `continuing`
abbrev pub again_function : Function
again_function =
    let body = statements (If 0 (then (Jumps Continue) end) end ∷ Emit 3 1 ∷ []) in
    let continuing = statements (Emit 3 1 ∷ []) in
    record folded_function { body = statements (Loop body continuing (Some 0) ∷ []) }

-- the check of a function
abbrev pub check_of : Function → Bool
check_of f = fits_function (only (codes "n") (c_name ∷ x_name ∷ []) (a_name ∷ []) f)

-- what the check of scope refuses, and beside it what it lets pass
pub record ChecksOfScope : Type 0 where
  pub continue_ : check_of continue_function ≡ false
  pub break_ : check_of break_function ≡ true
  pub after_loop : check_of after_loop_function ≡ false
  pub emitted_again : check_of again_function ≡ false

-- ---- what other writers would give for these functions, and what it does

-- stuck after the entry
abbrev pub stuck_after_entry : List Value → ReachedOrHalted (Option Value)
stuck_after_entry vs = Halts Stuck (entered_with vs [])

-- what [store] reads is written out after the store
abbrev pub load_inlined_text : TextFunction
load_inlined_text =
    text_of (codes "g") [] (a_first ∷ []) (lines (
    Assign (Name a_name) (digits 2)
    ∷ return_of (Name a_name) ∷ []))

-- what [unused] reads is bound
abbrev pub every_emit_text : TextFunction
every_emit_text =
    text_of (codes "g") [] (a_first ∷ []) (lines (
    let_own 2 (Name a_name)
    ∷ Assign (Name a_name) (digits 2)
    ∷ return_of (digits 2) ∷ []))

-- the second branch of [sibling] uses the name that the first one bound
abbrev pub used_in_sibling_text : TextFunction
used_in_sibling_text =
    sibling_text (let_and_return (numbered_name 2)) (lines (return_of (named_by 2) ∷ []))

-- or binds its own to it
abbrev pub copied_in_sibling_text : TextFunction
copied_in_sibling_text =
    sibling_text (let_and_return (numbered_name 2)) (lines (
    let_own 2 (named_by 2)
    ∷ return_of (named_by 2) ∷ []))

-- a name of a loop's body is used after the loop
abbrev pub after_loop_text : TextFunction
after_loop_text =
    let body = lines (let_own 3 x_plus_x ∷ []) in
    text_of (codes "n") (c_name ∷ x_name ∷ []) [] (lines (
    LoopOf body last (Some (Name c_name))
    ∷ return_of (named_by 3) ∷ []))

-- a local has the name of the function that is called
abbrev pub hidden_texts : List TextFunction
hidden_texts =
    text_of (codes "run") [] (variable (codes "inc") local_i32 None ∷ []) (lines (
    perform (codes "inc") [] ∷ []))
    ∷ text_of (codes "inc") [] [] last ∷ []

-- an element of a pointer that isn't followed
abbrev pub not_dereferenced_text : TextFunction
not_dereferenced_text =
    text_of (codes "h") (codes "p" ∷ []) [] (lines (
    return_of (Index (Name (codes "p")) (digits 0)) ∷ []))

pub record AreDistinguished : Type 0 where
  pub load_inlined_past_store : Follows load_inlined_text [] (
      Gives (Some (number 2)) (Read a_place ∷ Write a_place (number 2) ∷ entered_with_one))
  pub every_emit_bound : Follows every_emit_text [] (
      Gives (Some (number 2)) (Write a_place (number 2) ∷ Read a_place ∷ entered_with_one))
  pub name_used_in_sibling_block :
      let vs = Truth false ∷ number 4 ∷ [] in
      Follows used_in_sibling_text vs (stuck_after_entry vs)
  pub name_of_sibling_copied :
      let vs = Truth false ∷ number 4 ∷ [] in
      Follows copied_in_sibling_text vs (stuck_after_entry vs)
  pub continuing_uses_skipped_constant_name :
      let vs = Truth true ∷ [] in
      Follows (folded_text (named_by 3)) vs (Halts Stuck (entered_with vs (None ∷ [])))
  pub loop_names_kept_after_loop :
      let vs = Truth true ∷ number 4 ∷ [] in
      Follows after_loop_text vs (stuck_after_entry vs)
  pub function_hidden_by_local :
      follow_row hidden_texts (codes "run") [] ≡ Halts Stuck (Entry 1 [] (None ∷ []) ∷ [])
  pub pointer_argument_not_dereferenced :
      let vs = Pointer a_place ∷ [] in
      Follows not_dereferenced_text vs (stuck_after_entry vs)
  pub select_accept_first :
      Follows (select_text (codes "a") (codes "b")) select_values (
      Gives (Some (number 2)) (entered_with select_values []))

-- ---- words that are no function's name and no request

-- returns 1
abbrev pub one_function : Function
one_function = function_with [] (Some i32) [] (row (literal 1) i32 ∷ []) (Jumps (Return (Some 0)) ∷ [])

-- a text of it, with these lines in front
abbrev pub one_text : List Line → TextFunction
one_text front = text_of (codes "f") [] [] (lines (front ++ return_of (digits 1) ∷ []))

-- a call of a word that means nothing, and the same as a line
abbrev pub unknown_call : Tree
unknown_call = call_of (codes "frobnicate") []

abbrev pub unknown_line : Line
unknown_line = perform (codes "frobnicate") []

-- a line that performs an operator
abbrev pub operator_line : Line
operator_line = perform (codes "select") (digits 1 ∷ digits 2 ∷ [])

-- the module and its own text return 1. After a line that calls an unknown word, or one that wants
-- a value of it, a text is stuck. So it is after a line that performs an operator
pub record UnknownWordsAreStuck : Type 0 where
  pub written :
      IsShownAlone (only (codes "f") [] [] one_function) (one_text []) []
      (Gives (Some (number 1)) (entered_with [] []))
  pub line : Follows (one_text (unknown_line ∷ [])) [] (stuck_after_entry [])
  pub value : Follows (one_text (let_own 0 unknown_call ∷ [])) [] (stuck_after_entry [])
  pub operator : Follows (one_text (operator_line ∷ [])) [] (stuck_after_entry [])

-- ---- the rows together

-- the module of [store]
abbrev pub store_module : Module
store_module = functions_alone (store_function ∷ [])

-- all premises
pub record PremisesHold : Type 0 where
  pub fits : ModuleFits store_module store_naming.names.outer (store_naming ∷ [])
  pub settings : SettingsFit store_module nothing
  pub consistent : IsConsistent store_module
  pub well_formed : AllWellFormed store_module.functions
  pub results : AllGiveResults store_module.functions

-- all rows
pub record RowsHold : Type 0 where
  pub premises : PremisesHold
  pub store : StoreRow
  pub unused : UnusedRow
  pub late : LateRow
  pub inline : InlineRow
  pub twofold : TwofoldRow
  pub sibling : SiblingRow
  pub twice : TwiceRow
  pub tail : TailRow
  pub folded : FoldedRow
  pub call : CallRow
  pub unreturned : UnreturnedRow
  pub switch : SwitchRow
  pub joined : JoinedRow
  pub fallen : FallenRow
  pub loop : LoopRow
  pub barrier : BarrierRow
  pub select : SelectRow
  pub refused : ChecksOfScope
  pub stuck : AreStuck
  pub ends : EndsAreDistinguished
  pub distinguished : AreDistinguished
  pub unknown_words : UnknownWordsAreStuck
