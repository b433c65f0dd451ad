-- A text's run: each expression is evaluated anew where it stands, and names are looked up.
--
-- What a place is made of is told to the run as it is told to the module's: both have one table of
-- the parts of types.
--
-- Throughout, l is what words do, n the bound on turns, names are the scope and t the events so far
-- (t1 and t2 are later ones), e is a tree, x a name, a selector, a line, a case value or why a run
-- stops, v a value (vs are several), p a place, z an integer, m the meaning, w the world or a word,
-- d what a name stands for, q what is reached, f the text of a function, g its number, k the number
-- of entries, and i an index.
use Rattle.std.specs.Prelude.{ℕ, suc, Bool, true, false, cond, nat_eq, List, [], ◌∷◌, length}
use Rattle.std.specs.Prelude.{option_map, option_and_then, Option, Some, None, ◌||◌}
use Rattle.shader_runs.specs.Value.{Bytes, same_bytes, PartTypes, Place, AtOrigin, GlobalOrigin}
use Rattle.shader_runs.specs.Value.{LocalOrigin, integer_in, place_in, element_place, place_to}
use Rattle.shader_runs.specs.Value.{place_type}
use Rattle.shader_runs.specs.Value.{Selector, takes_several}
use Rattle.shader_runs.specs.Value.{Value, Pointer}
use Rattle.shader_runs.specs.Value.{Spelled, PartWord, IndexWord, ShortCircuit}
use Rattle.shader_runs.specs.World.{Event, Entry, Ask, Read, Write, entries, World}
use Rattle.shader_runs.specs.World.{Meaning, Vocabulary, bind}
use Rattle.shader_runs.specs.Outcome.{Stuck, Unreturned, Outcome, Done, Broke}
use Rattle.shader_runs.specs.Outcome.{reach, unless, Returned, Stopped, ReachedOrHalted, Gives}
use Rattle.shader_runs.specs.Outcome.{Halts}
use Rattle.shader_runs.specs.Outcome.{answer, Next, and_then, turn, turns, after_switch, branch_by}
use Rattle.shader_runs.specs.Outcome.{with_integer, closed_outcome, closed_if, jump_outcome}
use Rattle.shader_runs.specs.Program.{CaseValue, Numbered, is_continue}
use Rattle.shader_runs.specs.ProgramRun.{run_if_arguments_fit, decides, undecided_value}
use Rattle.shader_runs.specs.ProgramRun.{same_case_value}
use Rattle.shader_runs.specs.ProgramRun.{case_value_if}
use Rattle.shader_runs.specs.Text.{Tree, Name, LiteralOf, Apply, Deref, AddressOf, Index, PartOf}
use Rattle.shader_runs.specs.Text.{LogicalOf, Trees, no_more, more, Line, Let, Assign, Braces}
use Rattle.shader_runs.specs.Text.{IfElse, SwitchOn, LoopOf}
use Rattle.shader_runs.specs.Text.{Perform, Lines, last, before, Groups, no_group}
use Rattle.shader_runs.specs.Text.{group, Variable, ModuleVariable, TextFunction, JumpLine}

-- what an expression stands for: a value, or a
-- reference, the place of a variable or of a part of one
pub data Denotation : Type 0 where
  IsValue : Value → Denotation
  IsPlace : Place → Denotation

-- what each name stands for
abbrev pub Scope : Type 0
Scope = Bytes → Option Denotation

-- the parts of places; which words are operators; and what a word with operands does: a
-- function's name, a word that asks for an event, or an operator
pub record Words : Type 0 where
  pub parts : PartTypes
  pub world : World
  pub meaning : Meaning
  pub operates : Bytes → Bool
  pub respond : Bytes → List Value → List Event → ReachedOrHalted (Option Value)

-- a reference where a value is wanted is read
abbrev pub read_value : World → ReachedOrHalted Denotation → ReachedOrHalted Value
read_value w (Gives (IsValue v) t) = Gives v t
read_value w (Gives (IsPlace p) t) = Gives (w t (Read p)) (Read p ∷ t)
read_value w (Halts x t) = Halts x t

-- one more value
abbrev pub put_before : Value → ReachedOrHalted (List Value) → ReachedOrHalted (List Value)
put_before v (Halts x t) = Halts x t
put_before v (Gives vs t) = Gives (v ∷ vs) t

-- operands are evaluated in their order
abbrev pub followed_by : ReachedOrHalted Value → (List Event → ReachedOrHalted (List Value)) →
    ReachedOrHalted (List Value)
followed_by (Halts x t) rest = Halts x t
followed_by (Gives v t) rest = put_before v (rest t)

-- a word with its operands
abbrev pub word_answer : Words → Bytes → ReachedOrHalted (List Value) →
    ReachedOrHalted (Option Value)
word_answer l w (Halts x t) = Halts x t
word_answer l w (Gives vs t) = l.respond w vs t

-- a word where it stands. A variable's name hides a function or an operator of that name
abbrev pub word_reached :
    Words → Bytes → Scope → List Event → ReachedOrHalted (List Value) →
    ReachedOrHalted (Option Value)
word_reached l word names t vs = unless (names word) t (word_answer l word vs)

-- a value is wanted: operators and requests give one, and so does a function that returns one
abbrev pub as_value : ReachedOrHalted (Option Value) → ReachedOrHalted Denotation
as_value (Halts x t) = Halts x t
as_value (Gives None t) = Halts Unreturned t
as_value (Gives (Some v) t) = Gives (IsValue v) t

-- `*` makes a reference of a pointer
abbrev pub dereference : ReachedOrHalted Value → ReachedOrHalted Denotation
dereference (Halts x t) = Halts x t
dereference (Gives v t) = reach (option_map IsPlace (place_in v)) t

-- `&` makes a pointer of a reference
abbrev pub address_reached : ReachedOrHalted Denotation → ReachedOrHalted Denotation
address_reached (Halts x t) = Halts x t
address_reached (Gives (IsPlace p) t) = Gives (IsValue (Pointer p)) t
address_reached (Gives (IsValue v) t) = Halts Stuck t

-- an integer leads to an element, if the place has elements
abbrev pub part_reached : PartTypes → Place → ReachedOrHalted Value → ReachedOrHalted Denotation
part_reached parts p (Halts x t) = Halts x t
part_reached parts p (Gives v t) =
    reach (option_map IsPlace (option_and_then (element_place parts p) (integer_in v))) t

-- an index into a value
abbrev pub index_reached : Meaning → Value → ReachedOrHalted Value → ReachedOrHalted Denotation
index_reached m v (Halts x t) = Halts x t
index_reached m v (Gives i t) = Gives (IsValue (m IndexWord (v ∷ i ∷ []))) t

-- an index; a pointer has none
abbrev pub index_into : PartTypes → Meaning → ReachedOrHalted Denotation →
    (List Event → ReachedOrHalted Value) → ReachedOrHalted Denotation
index_into parts m (Halts x t) rest = Halts x t
index_into parts m (Gives (IsPlace p) t) rest = part_reached parts p (rest t)
index_into parts m (Gives (IsValue v) t) rest = unless (place_in v) t (index_reached m v (rest t))

-- a member, an element or several components of a value; a pointer has none
abbrev pub value_picked : Meaning → Selector → Value → List Event → ReachedOrHalted Denotation
value_picked m x v t = unless (place_in v) t (Gives (IsValue (m (PartWord x) (v ∷ []))) t)

-- several components are no part of a vector's place: the vector is read
abbrev pub components_picked :
    PartTypes → World → Meaning → Selector → Place → List Event → ReachedOrHalted Denotation
components_picked parts w m x p t =
    cond (takes_several (parts (place_type parts p)) x)
    (value_picked m x (w t (Read p)) (Read p ∷ t)) (Halts Stuck t)

-- a part of a place, if the place has it
abbrev pub place_picked : PartTypes → World → Meaning → Selector → Place → List Event →
    Option Place → ReachedOrHalted Denotation
place_picked parts w m x p t (Some q) = Gives (IsPlace q) t
place_picked parts w m x p t None = components_picked parts w m x p t

-- what a selector picks out of a place or a value
abbrev pub part_picked : PartTypes → World → Meaning → Selector → ReachedOrHalted Denotation →
    ReachedOrHalted Denotation
part_picked parts w m x (Halts y t) = Halts y t
part_picked parts w m x (Gives (IsPlace p) t) = place_picked parts w m x p t (place_to parts p x)
part_picked parts w m x (Gives (IsValue v) t) = value_picked m x v t

-- the right side was evaluated
abbrev pub undecided_reached : Meaning → ShortCircuit → Value → ReachedOrHalted Value →
    ReachedOrHalted Denotation
undecided_reached m j l (Halts x t) = Halts x t
undecided_reached m j l (Gives r t) = Gives (IsValue (undecided_value m j l r)) t

-- the right side is evaluated only where it decides
abbrev pub logical_reached :
    Meaning → ShortCircuit → ReachedOrHalted Value → (List Event → ReachedOrHalted Value) →
    ReachedOrHalted Denotation
logical_reached m j (Halts x t) rest = Halts x t
logical_reached m j (Gives l t) rest =
    elim (decides j l) [ true ↦ Gives (IsValue l) t | false ↦ undecided_reached m j l (rest t) ]

abbrev mutual
  pub evaluate : Words → Tree → Scope → List Event → ReachedOrHalted Denotation
  evaluate l (Name x) names t = reach (names x) t
  evaluate l (LiteralOf v) names t = Gives (IsValue v) t
  evaluate l (Apply word es) names t =
      as_value (word_reached l word names t (evaluate_all l es names t))
  evaluate l (Deref e) names t = dereference (read_value l.world (evaluate l e names t))
  evaluate l (AddressOf e) names t = address_reached (evaluate l e names t)
  evaluate l (Index e i) names t =
      index_into l.parts l.meaning (evaluate l e names t)
      (λ t1. read_value l.world (evaluate l i names t1))
  evaluate l (PartOf x e) names t = part_picked l.parts l.world l.meaning x (evaluate l e names t)
  evaluate l (LogicalOf j a b) names t =
      logical_reached l.meaning j (read_value l.world (evaluate l a names t))
      (λ t1. read_value l.world (evaluate l b names t1))

  pub evaluate_all : Words → Trees → Scope → List Event → ReachedOrHalted (List Value)
  evaluate_all l no_more names t = Gives [] t
  evaluate_all l (more e es) names t =
      followed_by (read_value l.world (evaluate l e names t)) (evaluate_all l es names)

-- a tree in a value's position
abbrev pub value_of : Words → Tree → Scope → List Event → ReachedOrHalted Value
value_of l e names t = read_value l.world (evaluate l e names t)

-- goes on with a value
abbrev pub with_value : {S : Type 0} → ReachedOrHalted Value → (Value → List Event → Outcome S) →
    Outcome S
with_value (Halts x t) go = Stopped x t
with_value (Gives v t) go = go v t

-- goes on with a reference
abbrev pub with_place :
    {S : Type 0} → ReachedOrHalted Denotation → (Place → List Event → Outcome S) → Outcome S
with_place (Halts x t) go = Stopped x t
with_place (Gives (IsValue v) t) go = Stopped Stuck t
with_place (Gives (IsPlace p) t) go = go p t

-- A call whose result is not wanted. What an operator gives is wanted: it is no line by itself.
-- What a request gives may be dropped, also where WGSL says that it must be used, and a `let` may
-- name it, also where WGSL has no value for it: to a run either is the request's event. Which
-- `let`s a text has is told apart from its runs (`text_lets`).
abbrev pub perform_outcome :
    (operates : Bool) → Scope → ReachedOrHalted (Option Value) → Outcome Scope
perform_outcome operates names (Halts x t) = Stopped x t
perform_outcome true names (Gives v t) = Stopped Stuck t
perform_outcome false names (Gives v t) = Done names t

abbrev mutual
  -- a `continue` of the loop in whose body the line stands
  pub has_continue : Line → Bool
  has_continue (Let x e) = false
  has_continue (Assign p e) = false
  has_continue (Braces b) = some_continue b
  has_continue (IfElse e a b) = some_continue a || some_continue b
  has_continue (SwitchOn e groups) = some_group_continues groups
  has_continue (LoopOf b d e) = false
  has_continue (JumpLine j) = is_continue j
  has_continue (Perform w es) = false

  pub some_continue : Lines → Bool
  some_continue last = false
  some_continue (before l ls) = has_continue l || some_continue ls

  pub some_group_continues : Groups → Bool
  some_group_continues no_group = false
  some_group_continues (group case_values b gs) = some_continue b || some_group_continues gs

-- `break if` leaves the loop
abbrev pub break_line : Words → Option Tree → Next Scope
break_line l None names t = Done names t
break_line l (Some e) names t =
    with_value (value_of l e names t) (λ v t1. branch_by v t1 (Broke names t1) (Done names t1))

-- what is returned
abbrev pub return_line : Words → Option Tree → Next Scope
return_line l None names t = Returned None t
return_line l (Some e) names t = with_value (value_of l e names t) (λ v t1. Returned (Some v) t1)

-- a case value among those of a group
abbrev pub among : CaseValue → List CaseValue → Bool
among x [] = false
among x (l ∷ ls) = same_case_value x l || among x ls

-- some group has this case value
abbrev pub group_has : CaseValue → Groups → Bool
group_has x no_group = false
group_has x (group case_values b gs) = among x case_values || group_has x gs

abbrev mutual
  pub follow : Words → ℕ → Line → Next Scope
  follow l n (Let x e) names t =
      with_value (value_of l e names t) (λ v t1. Done (bind names x (Some (IsValue v))) t1)
  follow l n (Assign p e) names t =
      with_place (evaluate l p names t)
      (λ place t1. with_value (value_of l e names t1) (λ v t2. Done names (Write place v ∷ t2)))
  follow l n (Braces b) names t = closed_outcome names (follow_all l n b names t)
  follow l n (IfElse e a b) names t =
      with_value (value_of l e names t) (λ v t1.
      closed_outcome names (branch_by v t1 (follow_all l n a names t1) (follow_all l n b names t1)))
  follow l n (SwitchOn e groups) names t =
      with_value (value_of l e names t) (λ v t1. closed_outcome names (with_integer v t1 (λ z.
      let case_value = case_value_if (group_has (Numbered z) groups) z in
      after_switch (follow_groups l n groups case_value names t1))))
  follow l n (LoopOf b d e) names t =
      turns n (λ names1 t1.
      closed_outcome names1
      (turn (follow_in_loop l n b) (follow_in_loop l n d) (break_line l e) names1 t1)) names t
  follow l n (JumpLine j) names t = jump_outcome (return_line l) j names t
  follow l n (Perform w es) names t =
      perform_outcome (l.operates w) names (word_reached l w names t (evaluate_all l es names t))

  -- lines in their order
  pub follow_all : Words → ℕ → Lines → Next Scope
  follow_all l n last names t = Done names t
  follow_all l n (before x ls) names t = and_then (follow l n x names t) (follow_all l n ls)

  -- the same of a loop's body, or of its `continuing`. A `continue` may skip the lines after it, so
  -- what comes after the list in the loop sees the names from before the first line that holds one
  pub follow_in_loop : Words → ℕ → Lines → Next Scope
  follow_in_loop l n last names t = Done names t
  follow_in_loop l n (before x ls) names t =
      closed_if (has_continue x) names (and_then (follow l n x names t) (follow_in_loop l n ls))

  -- the first group with this case value
  pub follow_groups : Words → ℕ → Groups → CaseValue → Next Scope
  follow_groups l n no_group x names t = Done names t
  follow_groups l n (group case_values b gs) x names t =
      cond (among x case_values) (follow_all l n b names t) (follow_groups l n gs x names t)

-- parameters with their values
abbrev pub with_parameters : List Bytes → List Value → Scope → Scope
with_parameters [] vs names = names
with_parameters (x ∷ xs) [] names = names
with_parameters (x ∷ xs) (v ∷ vs) names = bind (with_parameters xs vs names) x (Some (IsValue v))

-- after the declaration of a function's variable its name stands for its place
abbrev pub with_variable : Variable → (entries index : ℕ) → Scope → Scope
with_variable x k i names = bind names x.name (Some (IsPlace (AtOrigin (LocalOrigin x.pointer k i))))

-- after the declarations of a function's variables
abbrev pub with_variables : List Variable → (entries index : ℕ) → Scope → Scope
with_variables [] k i names = names
with_variables (x ∷ xs) k i names = with_variables xs k (suc i) (with_variable x k i names)

-- what a module-level variable's name stands for, by its declaration: a place of the declared type,
-- or what the caller chose, if any, where no pointer leads to it
abbrev pub global_denoted : (pointer : Option Bytes) → ℕ → Option Value → Option Denotation
global_denoted (Some pointer) i chosen = Some (IsPlace (AtOrigin (GlobalOrigin pointer i)))
global_denoted None i chosen = option_map IsValue chosen

-- module-level variables with their places or values
abbrev pub with_globals : List ModuleVariable → List (Option Value) → ℕ → Scope → Scope
with_globals [] gs i names = names
with_globals (x ∷ xs) [] i names = names
with_globals (x ∷ xs) (g ∷ gs) i names =
    bind (with_globals xs gs (suc i) names) x.name (global_denoted x.pointer i g)

-- nothing is in scope
abbrev pub no_names : Scope
no_names x = None

-- what a word before operands is, wherever no variable hides it: the name of a function of the
-- module, a word that asks for an event, an operator, or nothing that is known
pub data WordUse : Type 0 where
  NamesFunction : WordUse
  AsksForEvent : WordUse
  Operates : WordUse
  MeansNothing : WordUse

-- it is an operator
abbrev pub is_operation : WordUse → Bool
is_operation Operates = true
is_operation _ = false

-- what a word does that is the name of no function which stands before.
-- A later function can't be called, nor a word that means nothing
abbrev pub respond_by_use :
    WordUse → World → Meaning → Bytes → List Value → List Event → ReachedOrHalted (Option Value)
respond_by_use NamesFunction w m word vs t = Halts Stuck t
respond_by_use AsksForEvent w m word vs t = Gives (Some (w t (Ask word vs))) (Ask word vs ∷ t)
respond_by_use Operates w m word vs t = Gives (Some (m (Spelled word) vs)) t
respond_by_use MeansNothing w m word vs t = Halts Stuck t

-- some function has this name
abbrev pub names_function : List TextFunction → Bytes → Bool
names_function [] word = false
names_function (f ∷ fs) word = same_bytes word f.name || names_function fs word

-- what each word is in a text with these functions
abbrev pub word_use : List TextFunction → Vocabulary → Bytes → WordUse
word_use fs vocabulary word =
    cond (names_function fs word) NamesFunction (
    cond (vocabulary.is_request word) AsksForEvent (
    cond (vocabulary.is_operator word) Operates MeansNothing))

-- one more first value
abbrev pub put_first : Option Value → ReachedOrHalted (List (Option Value)) →
    ReachedOrHalted (List (Option Value))
put_first v (Halts x t) = Halts x t
put_first v (Gives vs t) = Gives (v ∷ vs) t

-- first values are evaluated in their order
abbrev pub first_followed :
    ReachedOrHalted Value → (List Event → ReachedOrHalted (List (Option Value))) →
    ReachedOrHalted (List (Option Value))
first_followed (Halts x t) rest = Halts x t
first_followed (Gives v t) rest = put_first (Some v) (rest t)

-- a variable's first value, if it has one, and those of the variables after it
abbrev pub first_then : Words → Option Tree → Scope → List Event →
    (List Event → ReachedOrHalted (List (Option Value))) → ReachedOrHalted (List (Option Value))
first_then l None names t rest = put_first None (rest t)
first_then l (Some e) names t rest = first_followed (value_of l e names t) rest

-- the first values of a function's variables, in their order: each is evaluated where the variables
-- before it are in scope
abbrev pub first_of_each :
    Words → List Variable → (entries index : ℕ) → Scope → List Event →
    ReachedOrHalted (List (Option Value))
first_of_each l [] k i names t = Gives [] t
first_of_each l (x ∷ xs) k i names t =
    first_then l x.first_value names t (first_of_each l xs k (suc i) (with_variable x k i names))

-- the entry, with the first values
abbrev pub entered_by : ℕ → List Value → ReachedOrHalted (List (Option Value)) →
    (List Event → ReachedOrHalted (Option Value)) → ReachedOrHalted (Option Value)
entered_by g vs (Halts x t) body = Halts x t
entered_by g vs (Gives firsts t) body = body (Entry g vs firsts ∷ t)

-- a body, from the first values of its variables on, in the scope of its parameters
abbrev pub follow_body :
    Words → ℕ → ℕ → TextFunction → List Value → Scope → List Event → ReachedOrHalted (Option Value)
follow_body l n g f vs names t =
    entered_by g vs (first_of_each l f.variables (entries t) 0 names t)
    (λ t1. answer (follow_all l n f.lines (with_variables f.variables (entries t) 0 names) t1))

-- a word among these functions, the last one first; uses
-- tells what a word is that names none of these functions
abbrev pub follow_call : PartTypes → Scope → World → Meaning → (uses : Bytes → WordUse) → ℕ →
    List TextFunction → Bytes → List Value → List Event → ReachedOrHalted (Option Value)
follow_call parts outer w m uses n [] word vs t = respond_by_use (uses word) w m word vs t
follow_call parts outer w m uses n (f ∷ fs) word vs t =
    let l : Words = record {
      parts = parts;
      world = w;
      meaning = m;
      operates = λ word. is_operation (uses word);
      respond = follow_call parts outer w m uses n fs;
    } in
    let scope = with_parameters f.parameters vs outer in
    let body = follow_body l n (length fs) f vs scope t in
    let own = run_if_arguments_fit (nat_eq (length vs) (length f.parameters)) body t in
    let other = follow_call parts outer w m uses n fs word vs t in
    cond (same_bytes word f.name) own other
