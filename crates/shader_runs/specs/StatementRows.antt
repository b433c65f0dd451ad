-- Worked functions for kinds of statements: each with its text, and what both runs of it do. Then
-- texts that other writers would give, which do something else.
--
-- Throughout, c and b are the conditions of a function, j is a short circuit, n the bound on turns,
-- vs are arguments, e is a tree.
use Rattle.std.specs.Prelude.{◌≡◌, ◌≢◌, ℕ, pos, Bool, true, false, cond, List, [], ◌∷◌, ◌++◌, Some}
use Rattle.std.specs.Prelude.{None, ◌&&◌, ◌||◌, codes}
use Rattle.shader_runs.specs.Value.{Bytes, Place, AtOrigin, LocalOrigin, BooleanType, PointerType}
use Rattle.shader_runs.specs.Value.{Value, Truth, Pointer, MemberNamed, ShortCircuit}
use Rattle.shader_runs.specs.Value.{ShortCircuitAnd, ShortCircuitOr, is_decided}
use Rattle.shader_runs.specs.World.{Event, Entry, Read, Write, Discard}
use Rattle.shader_runs.specs.Outcome.{Gives, Halts, Stuck, OutOfTurns, Discarded}
use Rattle.shader_runs.specs.Program.{Fixed, no_constant, Composed, Block, Constant, Argument}
use Rattle.shader_runs.specs.Program.{Local, Load, Operator, Logical, Swizzle, Result, Called}
use Rattle.shader_runs.specs.Program.{Numbered, Default, Emit, Store, If, Switch, Loop, Break}
use Rattle.shader_runs.specs.Program.{Continue, Return, Kill, Act, end, Function, Jumps}
use Rattle.shader_runs.specs.Text.{Tree, Name, LiteralOf, Deref, PartOf, LogicalOf, Assign, Braces}
use Rattle.shader_runs.specs.Text.{IfElse, SwitchOn, LoopOf}
use Rattle.shader_runs.specs.Text.{last, no_group, group, Line, TextFunction, JumpLine}
use Rattle.shader_runs.specs.Correct.{ModuleFits}
use Rattle.shader_runs.specs.Rows.{x_plus_x}
use Rattle.shader_runs.specs.WorkedModules.{texel, pair_type, pair, named_function, Example}
use Rattle.shader_runs.specs.WorkedModules.{functions_alone, module_of, outer_of, namings_of}
use Rattle.shader_runs.specs.WorkedModules.{follow_example, run_example, IsWritten, IsWorked}
use Rattle.shader_runs.specs.WorkedModules.{start_events, CallEnd}
use Rattle.shader_runs.specs.RequestRows.{counter_place, atomic_example, atomic_text, atomic_events}
use Rattle.shader_runs.specs.RequestRows.{AtomicRow, level_zero, sampling_example, sampling_text}
use Rattle.shader_runs.specs.RequestRows.{sampling_values, sampling_events, SamplingRow, TexelRow}
use Rattle.shader_runs.specs.RequestRows.{UnusedRequestsRow, EdgeRow, TogetherRow}
use Rattle.shader_runs.specs.WorkedFunctions.{i32, local_i32, i32_pointer, number, literal}
use Rattle.shader_runs.specs.WorkedFunctions.{ValuedBody, named_by, sum_of, product_of, text_of}
use Rattle.shader_runs.specs.WorkedFunctions.{row, statements, cases, function_with, lines, call_of}
use Rattle.shader_runs.specs.WorkedFunctions.{bound_row}
use Rattle.shader_runs.specs.WorkedFunctions.{perform, let_own, return_of, digits, pointer_of}
use Rattle.shader_runs.specs.WorkedFunctions.{variable, number_variable}

-- ---- `&&` and `||`

-- a pointer to a local of type `bool`, and the first local of the first call
abbrev pub local_bool : Bytes
local_bool = codes "ptr<function, bool>"

abbrev pub flag_place : Place
flag_place = AtOrigin (LocalOrigin local_bool 0 0)

-- an argument and a local that starts with this value
abbrev pub logical_function : ShortCircuit → Bool → Function
logical_function j b =
    function_with (BooleanType ∷ []) (Some BooleanType) ((local_bool, Some 1) ∷ []) (
    row (Argument 0) BooleanType
    ∷ row (Constant (Fixed (Truth b))) BooleanType
    ∷ row (Local 0) (PointerType local_bool)
    ∷ bound_row (Load 2) BooleanType
    ∷ row (Logical j 0 3) BooleanType ∷ []) (
    Emit 3 2
    ∷ Jumps (Return (Some 4)) ∷ [])

-- its module
abbrev pub logical_example : ShortCircuit → Bool → Example
logical_example j b =
    let f = logical_function j b in
    functions_alone (named_function (codes "decide") (codes "c" ∷ []) (codes "a" ∷ []) f ∷ [])

-- its text, with these lines
abbrev pub logical_text : Bool → List Line → List TextFunction
logical_text b body =
    let flag = variable (codes "a") local_bool (Some (LiteralOf (Truth b))) in
    text_of (codes "decide") (codes "c" ∷ []) (flag ∷ []) (lines body) ∷ []

-- the operator with the argument on its left
abbrev pub logical_with : ShortCircuit → Tree → Tree
logical_with j right = LogicalOf j (Name (codes "c")) right

-- the tables of truth
abbrev pub truth_of : ShortCircuit → Bool → Bool → Bool
truth_of ShortCircuitAnd c b = c && b
truth_of ShortCircuitOr c b = c || b

-- what is returned after these events
abbrev pub logical_end : ShortCircuit → Bool → Bool → List Event → CallEnd
logical_end j c b events =
    Gives (Some (Truth (truth_of j c b)))
    (events ++ start_events 0 (Truth c ∷ []) (Some (Truth b) ∷ []))

-- the read stands in front, and is made whatever the left side is
abbrev pub LogicalRow : Type 0
LogicalRow =
    (j : ShortCircuit) (c b : Bool) →
    let body = let_own 3 (Name (codes "a")) ∷ return_of (logical_with j (named_by 3)) ∷ [] in
    let result = logical_end j c b (Read flag_place ∷ []) in
    IsWorked (logical_example j b) (logical_text b body) 0 3 (Truth c ∷ []) result

-- a read that is written on the right side is made only where the left side doesn't decide
abbrev pub ReadOnTheRight : Type 0
ReadOnTheRight =
    (j : ShortCircuit) (c b : Bool) →
    let text = logical_text b (return_of (logical_with j (Name (codes "a"))) ∷ []) in
    let result = logical_end j c b (cond (is_decided j c) [] (Read flag_place ∷ [])) in
    follow_example (logical_example j b) text 0 3 (Truth c ∷ []) ≡ result

-- ---- jumps

-- the function's locals
abbrev pub a_place : Place
a_place = AtOrigin (LocalOrigin local_i32 0 0)

abbrev pub n_place : Place
n_place = AtOrigin (LocalOrigin local_i32 0 1)

-- a loop over a switch whose default stands in the middle: one case continues the loop, one leaves
-- the switch, and one returns
abbrev pub jumps_function : Function
jumps_function =
    let zero : ValuedBody = (Numbered (pos 0), Store 0 3 ∷ Jumps Continue ∷ []) in
    let others : ValuedBody = (Default, Jumps Break ∷ []) in
    let one : ValuedBody = (Numbered (pos 1), Emit 6 1 ∷ Jumps (Return (Some 6)) ∷ []) in
    let body = Emit 5 1 ∷ Switch 5 (cases (zero ∷ others ∷ one ∷ [])) ∷ Store 0 4 ∷ [] in
    let continuing = Emit 7 2 ∷ Store 1 8 ∷ [] in
    function_with [] (Some i32) ((local_i32, Some 2) ∷ (local_i32, Some 2) ∷ []) (
    row (Local 0) i32_pointer
    ∷ row (Local 1) i32_pointer
    ∷ row (literal 0) i32
    ∷ row (literal 5) i32
    ∷ row (literal 1) i32
    ∷ bound_row (Load 0) i32
    ∷ bound_row (Load 1) i32
    ∷ bound_row (Load 1) i32
    ∷ row (Operator (codes "+") (7 ∷ 4 ∷ [])) i32 ∷ []) (
    Loop (statements body) (statements continuing) None ∷ [])

-- its module
abbrev pub jumps_example : Example
jumps_example =
    let locals = codes "a" ∷ codes "n" ∷ [] in
    functions_alone (named_function (codes "walk") [] locals jumps_function ∷ [])

-- its text
abbrev pub jumps_text : List TextFunction
jumps_text =
    let a = Name (codes "a") in
    let n = Name (codes "n") in
    let zero = Assign a (digits 5) ∷ JumpLine Continue ∷ [] in
    let others = JumpLine Break ∷ [] in
    let one = let_own 6 n ∷ return_of (named_by 6) ∷ [] in
    let groups =
    group (Numbered (pos 0) ∷ []) (lines zero)
    (group (Default ∷ []) (lines others) (group (Numbered (pos 1) ∷ []) (lines one) no_group)) in
    let body = let_own 5 a ∷ SwitchOn (named_by 5) groups ∷ Assign a (digits 1) ∷ [] in
    let continuing = let_own 7 n ∷ Assign n (sum_of (named_by 7) (digits 1)) ∷ [] in
    let variables = number_variable (codes "a") 0 ∷ number_variable (codes "n") 0 ∷ [] in
    let loop = LoopOf (lines body) (lines continuing) None in
    text_of (codes "walk") [] variables (lines (loop ∷ [])) ∷ []

-- three turns: 0 continues, 5 goes to the default, and 1 returns the number of the turns before
abbrev pub JumpsRow : Type 0
JumpsRow =
    IsWorked jumps_example jumps_text 0 3 [] (Gives (Some (number 2)) (
    Read n_place ∷ Read a_place
    ∷ Write n_place (number 2) ∷ Read n_place ∷ Write a_place (number 1) ∷ Read a_place
    ∷ Write n_place (number 1) ∷ Read n_place ∷ Write a_place (number 5) ∷ Read a_place
    ∷ start_events 0 [] (Some (number 0) ∷ Some (number 0) ∷ [])))

-- ---- a block

-- a sum has its name in a block, and another one after it; the local starts with its type's zero
abbrev pub block_function : Function
block_function =
    let inner = Emit 3 1 ∷ Store 2 3 ∷ [] in
    function_with (i32 ∷ []) (Some i32) ((local_i32, Some 1) ∷ []) (
    row (Argument 0) i32
    ∷ row (Constant (Composed (codes "i32") i32 no_constant)) i32
    ∷ row (Local 0) i32_pointer
    ∷ bound_row (Operator (codes "+") (0 ∷ 0 ∷ [])) i32
    ∷ bound_row (Load 2) i32
    ∷ row (Operator (codes "*") (3 ∷ 4 ∷ [])) i32 ∷ []) (
    Block (statements inner)
    ∷ Emit 3 3
    ∷ Jumps (Return (Some 5)) ∷ [])

-- its module
abbrev pub block_example : Example
block_example =
    functions_alone (
    named_function (codes "nest") (codes "x" ∷ []) (codes "a" ∷ []) block_function ∷ [])

-- its text, with these lines after the block
abbrev pub block_text : List Line → List TextFunction
block_text following =
    let a = Name (codes "a") in
    let zero = call_of (codes "i32") [] in
    let inner = let_own 3 x_plus_x ∷ Assign a (named_by 3) ∷ [] in
    let product = return_of (product_of (named_by 3) (named_by 4)) in
    let variables = variable (codes "a") local_i32 (Some zero) ∷ [] in
    text_of (codes "nest") (codes "x" ∷ []) variables (lines (
    Braces (lines inner) ∷ (following ++ let_own 4 a ∷ product ∷ []))) ∷ []

-- its events after the block
abbrev pub block_events : List Event
block_events =
    Read a_place ∷ Write a_place (number 6) ∷ start_events 0 (number 3 ∷ []) (Some (number 0) ∷ [])

-- 6 is stored, and multiplied by itself
abbrev pub BlockRow : Type 0
BlockRow =
    let text = block_text (let_own 3 x_plus_x ∷ []) in
    IsWorked block_example text 0 3 (number 3 ∷ []) (Gives (Some (number 36)) block_events)

-- ---- calls

-- reads through its argument, stores one more, and returns what it read
abbrev pub take_function : Function
take_function =
    function_with (i32_pointer ∷ []) (Some i32) [] (
    row (Argument 0) i32_pointer
    ∷ row (literal 1) i32
    ∷ bound_row (Load 0) i32
    ∷ row (Operator (codes "+") (2 ∷ 1 ∷ [])) i32 ∷ []) (
    Emit 2 2
    ∷ Store 0 3
    ∷ Jumps (Return (Some 2)) ∷ [])

-- passes its argument on, and adds what it reads then
abbrev pub forward_function : Function
forward_function =
    function_with (i32_pointer ∷ []) (Some i32) [] (
    row (Argument 0) i32_pointer
    ∷ row Result i32
    ∷ bound_row (Load 0) i32
    ∷ row (Operator (codes "+") (1 ∷ 2 ∷ [])) i32 ∷ []) (
    Act (Called 0) (0 ∷ []) (Some 1)
    ∷ Emit 2 2
    ∷ Jumps (Return (Some 3)) ∷ [])

-- passes a pointer to its local, and multiplies by what it reads then
abbrev pub own_function : Function
own_function =
    function_with [] (Some i32) ((local_i32, Some 1) ∷ []) (
    row (Local 0) i32_pointer
    ∷ row (literal 4) i32
    ∷ row Result i32
    ∷ bound_row (Load 0) i32
    ∷ row (Operator (codes "*") (2 ∷ 3 ∷ [])) i32 ∷ []) (
    Act (Called 1) (0 ∷ []) (Some 2)
    ∷ Emit 3 2
    ∷ Jumps (Return (Some 4)) ∷ [])

-- adds to what it is given
abbrev pub start_function : Function
start_function =
    function_with [] (Some i32) [] (
    row Result i32
    ∷ row (literal 1) i32
    ∷ row (Operator (codes "+") (0 ∷ 1 ∷ [])) i32 ∷ []) (
    Act (Called 2) [] (Some 0)
    ∷ Emit 2 1
    ∷ Jumps (Return (Some 2)) ∷ [])

-- their module
abbrev pub calls_example : Example
calls_example =
    functions_alone (
    named_function (codes "start") [] [] start_function
    ∷ named_function (codes "own") [] (codes "a" ∷ []) own_function
    ∷ named_function (codes "forward") (codes "q" ∷ []) [] forward_function
    ∷ named_function (codes "take") (codes "p" ∷ []) [] take_function ∷ [])

-- their texts, where a pointer to the local is spelled so, and this is passed on
abbrev pub calls_text : (pointer : Bytes) → (passed : Tree) → List TextFunction
calls_text pointer passed =
    let a = Name (codes "a") in
    let at_p = Deref (Name (codes "p")) in
    let local_ = variable (codes "a") pointer (Some (digits 4)) in
    text_of (codes "start") [] [] (lines (
    let_own 0 (call_of (codes "own") [])
    ∷ return_of (sum_of (named_by 0) (digits 1)) ∷ []))
    ∷ text_of (codes "own") [] (local_ ∷ []) (lines (
    let_own 2 (call_of (codes "forward") (pointer_of (codes "a") ∷ []))
    ∷ let_own 3 a
    ∷ return_of (product_of (named_by 2) (named_by 3)) ∷ []))
    ∷ text_of (codes "forward") (codes "q" ∷ []) [] (lines (
    let_own 1 (call_of (codes "take") (passed ∷ []))
    ∷ let_own 2 (Deref (Name (codes "q")))
    ∷ return_of (sum_of (named_by 1) (named_by 2)) ∷ []))
    ∷ text_of (codes "take") (codes "p" ∷ []) [] (lines (
    let_own 2 at_p
    ∷ Assign at_p (sum_of (named_by 2) (digits 1))
    ∷ return_of (named_by 2) ∷ [])) ∷ []

-- a local of the second call, with this spelling of a pointer to it
abbrev pub second_local : Bytes → Place
second_local pointer = AtOrigin (LocalOrigin pointer 1 0)

-- the entries of the first three calls
abbrev pub entered_to_forward : Place → List Event
entered_to_forward p =
    Entry 1 (Pointer p ∷ []) [] ∷ Entry 2 [] (Some (number 4) ∷ []) ∷ start_events 3 [] []

-- the last callee reads 4 and stores 5; then (4 + 5) * 5 + 1 is returned
abbrev pub calls_end : Place → CallEnd
calls_end p =
    Gives (Some (number 46)) (
    Read p ∷ Read p ∷ Write p (number 5) ∷ Read p
    ∷ Entry 0 (Pointer p ∷ []) [] ∷ entered_to_forward p)

-- the last callee works on a local of the caller of its caller
abbrev pub CallsRow : Type 0
CallsRow =
    let text = calls_text local_i32 (Name (codes "q")) in
    IsWorked calls_example text 3 3 [] (calls_end (second_local local_i32))

-- ---- a discard in a callee, inside a loop

-- discards where its argument is true
abbrev pub check_function : Function
check_function =
    let kill = statements (Jumps Kill ∷ []) in
    function_with (BooleanType ∷ []) None [] (row (Argument 0) BooleanType ∷ []) (
    If 0 kill end ∷ [])

-- in its first turn the callee returns, in the second it discards
abbrev pub repeat_function : Function
repeat_function =
    let body = Emit 3 1 ∷ Act (Called 0) (3 ∷ []) None ∷ Store 0 2 ∷ [] in
    function_with [] None ((local_bool, Some 1) ∷ []) (
    row (Local 0) (PointerType local_bool)
    ∷ row (Constant (Fixed (Truth false))) BooleanType
    ∷ row (Constant (Fixed (Truth true))) BooleanType
    ∷ bound_row (Load 0) BooleanType ∷ []) (
    Loop (statements body) end None ∷ [])

-- their module
abbrev pub discard_example : Example
discard_example =
    functions_alone (
    named_function (codes "repeat") [] (codes "a" ∷ []) repeat_function
    ∷ named_function (codes "check") (codes "c" ∷ []) [] check_function ∷ [])

-- their texts
abbrev pub discard_text : List TextFunction
discard_text =
    let a = Name (codes "a") in
    let check = perform (codes "check") (named_by 3 ∷ []) in
    let body = let_own 3 a ∷ check ∷ Assign a (LiteralOf (Truth true)) ∷ [] in
    let flag = variable (codes "a") local_bool (Some (LiteralOf (Truth false))) in
    text_of (codes "repeat") [] (flag ∷ []) (lines (LoopOf (lines body) last None ∷ []))
    ∷ text_of (codes "check") (codes "c" ∷ []) [] (lines (
    IfElse (Name (codes "c")) (lines (JumpLine Kill ∷ [])) last ∷ [])) ∷ []

-- the discard ends the caller too
abbrev pub DiscardRow : Type 0
DiscardRow =
    IsWorked discard_example discard_text 1 3 [] (Halts Discarded (
    Discard
    ∷ Entry 0 (Truth true ∷ []) [] ∷ Read flag_place
    ∷ Write flag_place (Truth true) ∷ Entry 0 (Truth false ∷ []) [] ∷ Read flag_place
    ∷ start_events 1 [] (Some (Truth false) ∷ [])))

-- ---- a loop without events and without an end

-- continues, or comes to the end of its turn, without an event
abbrev pub silent_function : Function
silent_function =
    let skip = If 0 (statements (Jumps Continue ∷ [])) end in
    function_with (BooleanType ∷ []) None [] (row (Argument 0) BooleanType ∷ []) (
    Loop (statements (skip ∷ [])) end None ∷ [])

-- its module
abbrev pub silent_example : Example
silent_example =
    functions_alone (named_function (codes "wait") (codes "c" ∷ []) [] silent_function ∷ [])

-- its text
abbrev pub silent_text : List TextFunction
silent_text =
    let skip = IfElse (Name (codes "c")) (lines (JumpLine Continue ∷ [])) last in
    let loop = LoopOf (lines (skip ∷ [])) last None in
    text_of (codes "wait") (codes "c" ∷ []) [] (lines (loop ∷ [])) ∷ []

-- whatever the bound is, it is out of turns, after the entry alone
abbrev pub SilentRow : Type 0
SilentRow =
    (c : Bool) (n : ℕ) →
    let vs = Truth c ∷ [] in
    IsWorked silent_example silent_text 0 n vs (Halts OutOfTurns (start_events 0 vs []))

-- ---- a swizzle with a name, and a word that a function takes

-- components in another order, used twice
abbrev pub swizzle_function : Function
swizzle_function =
    function_with (pair_type ∷ []) (Some pair_type) [] (
    row (Argument 0) pair_type
    ∷ bound_row (Swizzle (codes "yx") 0) pair_type
    ∷ row (Operator (codes "+") (1 ∷ 1 ∷ [])) pair_type ∷ []) (
    Emit 1 2
    ∷ Jumps (Return (Some 2)) ∷ [])

-- its module
abbrev pub swizzle_example : Example
swizzle_example =
    functions_alone (named_function (codes "swap") (codes "v" ∷ []) [] swizzle_function ∷ [])

-- its text
abbrev pub swizzle_text : List TextFunction
swizzle_text =
    text_of (codes "swap") (codes "v" ∷ []) [] (lines (
    let_own 1 (PartOf (MemberNamed (codes "yx")) (Name (codes "v")))
    ∷ return_of (sum_of (named_by 1) (named_by 1)) ∷ [])) ∷ []

-- 12 becomes 21, and twice that
abbrev pub SwizzleRow : Type 0
SwizzleRow =
    let vs : List Value = pair 12 ∷ [] in
    IsWorked swizzle_example swizzle_text 0 3 vs (Gives (Some (pair 42)) (start_events 0 vs []))

-- the greater one of its arguments
abbrev pub greater_function : Function
greater_function =
    function_with (i32 ∷ i32 ∷ []) (Some i32) [] (
    row (Argument 0) i32
    ∷ row (Argument 1) i32
    ∷ row (Operator (codes "max") (0 ∷ 1 ∷ [])) i32 ∷ []) (
    Emit 2 1
    ∷ Jumps (Return (Some 2)) ∷ [])

-- with a later function of this name, which does nothing
abbrev pub greater_example : Bytes → Example
greater_example later =
    functions_alone (
    named_function later [] [] (function_with [] None [] [] [])
    ∷ named_function (codes "greater") (codes "x" ∷ codes "y" ∷ []) [] greater_function ∷ [])

-- its text
abbrev pub greater_text : Bytes → List TextFunction
greater_text later =
    let x = Name (codes "x") in
    let y = Name (codes "y") in
    text_of later [] [] last
    ∷ text_of (codes "greater") (codes "x" ∷ codes "y" ∷ []) [] (lines (
    return_of (call_of (codes "max") (x ∷ y ∷ [])) ∷ [])) ∷ []

-- the arguments
abbrev pub greater_values : List Value
greater_values = number 3 ∷ number 8 ∷ []

-- what the module's run gives, whatever the later function's name is
abbrev pub greater_end : CallEnd
greater_end = Gives (Some (number 8)) (start_events 0 greater_values [])

-- a later function of another name does not matter
abbrev pub GreaterRow : Type 0
GreaterRow =
    let later = codes "most" in
    IsWorked (greater_example later) (greater_text later) 0 3 greater_values greater_end

-- what the law asks of the module and its names
abbrev pub FitsExample : Example → Type 0
FitsExample e = ModuleFits (module_of e) (outer_of e) (namings_of e)

-- where the later function has the operator's name, the word is that function, which can't be
-- called here; the law doesn't hold of such a module, and its premise refuses it
pub record WordIsTaken : Type 0 where
  pub written : IsWritten (greater_example (codes "max")) (greater_text (codes "max"))
  pub module_run : run_example (greater_example (codes "max")) 0 3 greater_values ≡ greater_end
  pub text_run :
      follow_example (greater_example (codes "max")) (greater_text (codes "max")) 0 3 greater_values
      ≡ Halts Stuck (start_events 0 greater_values [])
  pub refused : FitsExample (greater_example (codes "max")) → ⊥

-- what other writers would give for these functions, and what it does
pub record StatementsAreDistinguished : Type 0 where
  -- an atomic that is read like any other variable
  pub plain_read :
      follow_example atomic_example (atomic_text (Name (codes "counter"))) 0 3 []
      ≡ Gives (Some (number 15)) (Read counter_place ∷ atomic_events)
  -- a sampling without its offset
  pub no_offset :
      follow_example sampling_example (sampling_text (LiteralOf level_zero ∷ [])) 0 3 sampling_values
      ≡ Gives (Some (texel 400)) (sampling_events (level_zero ∷ []))
  pub read_on_the_right : ReadOnTheRight
  -- a name of a block is used after it
  pub name_after_block :
      follow_example block_example (block_text []) 0 3 (number 3 ∷ []) ≡ Halts Stuck block_events
  -- a pointer that is passed on by its address
  pub address_of_pointer :
      follow_example calls_example (calls_text local_i32 (pointer_of (codes "q"))) 3 3 []
      ≡ Halts Stuck (entered_to_forward (second_local local_i32))
  -- a local of another type: all that is stored there is stored at another place
  pub local_of_another_type :
      let u32 = codes "ptr<function, u32>" in
      follow_example calls_example (calls_text u32 (Name (codes "q"))) 3 3 []
      ≡ calls_end (second_local u32)
  pub places_differ :
      calls_end (second_local (codes "ptr<function, u32>")) ≢ calls_end (second_local local_i32)
  pub word_is_taken : WordIsTaken

-- all rows
pub record StatementRowsHold : Type 0 where
  pub atomic : AtomicRow
  pub sample : SamplingRow
  pub texel : TexelRow
  pub unused_requests : UnusedRequestsRow
  pub edge : EdgeRow
  pub together : TogetherRow
  pub logical : LogicalRow
  pub jumps : JumpsRow
  pub block : BlockRow
  pub calls : CallsRow
  pub discard : DiscardRow
  pub silent : SilentRow
  pub swizzle : SwizzleRow
  pub greater : GreaterRow
  pub distinguished : StatementsAreDistinguished
