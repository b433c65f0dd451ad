-- The points that a run comes by: those of a module's run, and those of its text's run.
--
-- Throughout, c is a call, l is what words do, n the bound on turns, t are the events so far (t1
-- and t2 are later ones), s is a state (s1 and s2 are later ones), q a point, g a region, h a
-- handle, i the index of a case, j the number of a turn, x a case value or a name, z an integer, e
-- a tree or an optional handle, b, d and a are bodies, ss statements, ls lines.
use Rattle.std.specs.Prelude.{◌≡◌, ℕ, zero, suc, ℤ, Bool, true, false, cond, ◌||◌, ◌+◌, ◌-◌, ◌<◌}
use Rattle.std.specs.Prelude.{◌≤◌, List, [], ◌∷◌, length, Option, Some, IsTrue}
use Rattle.shader_runs.specs.Value.{Bytes, Truth, Whole}
use Rattle.shader_runs.specs.World.{Event}
use Rattle.shader_runs.specs.Outcome.{Done, Gives, Next, and_then, and_continue, turn}
use Rattle.shader_runs.specs.Outcome.{closed_outcome}
use Rattle.shader_runs.specs.Program.{CaseValue, Numbered, Statement, Emit, Block, If, Switch, Loop}
use Rattle.shader_runs.specs.Program.{Barrier, Statements, end, then, Cases, no_case, case}
use Rattle.shader_runs.specs.Program.{Function, binds, from}
use Rattle.shader_runs.specs.ProgramRun.{Call, EmittedValues, used_value, emit, leave}
use Rattle.shader_runs.specs.ProgramRun.{barrier_words}
use Rattle.shader_runs.specs.ProgramRun.{same_case_value, has_case_value, case_value_if, run}
use Rattle.shader_runs.specs.ProgramRun.{run_all}
use Rattle.shader_runs.specs.Text.{Tree, Line, Braces, IfElse, SwitchOn, LoopOf, Lines, last}
use Rattle.shader_runs.specs.Text.{before, Groups, no_group, group}
use Rattle.shader_runs.specs.TextRun.{Scope, Words, value_of, break_line, among, group_has, follow}
use Rattle.shader_runs.specs.TextRun.{follow_in_loop}

-- where more statements or lines stand inside one: a block, the branches, the cases of a switch or
-- the groups of its text, and in each turn of a loop, the first one 0, its body, its `continuing`
-- and the place in front of its `break if`
pub data Region : Type 0 where
  Inner : Region
  Accept : Region
  Reject : Region
  CaseBody : (index : ℕ) → Region
  LoopBody : (number : ℕ) → Region
  Continuing : (number : ℕ) → Region
  BreakIf : (number : ℕ) → Region

-- the way to a point from the beginning of a list of statements or lines: it is there; after the
-- first one, in the rest; in a region of the first one; or inside an Emit, after so many handles
pub data Point : Type 0 where
  here : Point
  following : Point → Point
  inside : Region → Point → Point
  emitting : (count : ℕ) → Point

-- so many turns, each of which is done
abbrev pub after_turns : {S : Type 0} → Next S → ℕ → Next S
after_turns once zero s t = Done s t
after_turns once (suc j) s t = and_then (once s t) (after_turns once j)

-- a loop of at most n turns, begun with this state and these events, comes to a region with those
pub data InTurn {S : Type 0} (n : ℕ) (body continuing once : Next S) :
    Region → S → List Event → S → List Event → Type 0 where
  -- after the turns before this one
  to_body : {j : ℕ} {s s1 : S} {t t1 : List Event} →
      j < n → after_turns once j s t ≡ Done s1 t1 →
      InTurn n body continuing once (LoopBody j) s t s1 t1
  -- after the end of the body, or a `continue` in it
  to_continuing : {j : ℕ} {s s1 s2 : S} {t t1 t2 : List Event} →
      InTurn n body continuing once (LoopBody j) s t s1 t1 →
      and_continue (body s1 t1) Done ≡ Done s2 t2 →
      InTurn n body continuing once (Continuing j) s t s2 t2
  -- after the end of `continuing`
  to_break_if : {j : ℕ} {s s1 s2 : S} {t t1 t2 : List Event} →
      InTurn n body continuing once (Continuing j) s t s1 t1 →
      continuing s1 t1 ≡ Done s2 t2 →
      InTurn n body continuing once (BreakIf j) s t s2 t2

-- the body of the case with this index
abbrev pub body_at : Cases → ℕ → Statements
body_at no_case i = end
body_at (case l b falls cs) zero = b
body_at (case l b falls cs) (suc i) = body_at cs i

-- the statements of a region; in front of `break if` there are none
abbrev pub statements_in : Statement → Region → Statements
statements_in (Block b) Inner = b
statements_in (If h a b) Accept = a
statements_in (If h a b) Reject = b
statements_in (Switch h cases) (CaseBody i) = body_at cases i
statements_in (Loop b d e) (LoopBody j) = b
statements_in (Loop b d e) (Continuing j) = d
statements_in _ _ = end

-- the statements after a point of a list
abbrev pub statements_at : Statements → Point → Statements
statements_at ss here = ss
statements_at end q = end
statements_at (then st ss) (following q) = statements_at ss q
statements_at (then st ss) (inside g q) = statements_at (statements_in st g) q
statements_at (then (Emit first count) ss) (emitting i) = then (Emit (first + i) (count - i)) ss
statements_at (then _ ss) (emitting i) = ss

-- one turn of a module's loop
abbrev pub module_turn : Call → ℕ → (body continuing : Statements) → Option ℕ → Next EmittedValues
module_turn c n b d e = turn (run_all c n b) (run_all c n d) (leave c e)

-- from its first case on, the run comes to the case with this index, by cases that fall through
pub data FallsTo (c : Call) (n : ℕ) :
    Cases → ℕ → EmittedValues → List Event → EmittedValues → List Event → Type 0 where
  this_case : {l : CaseValue} {b : Statements} {falls : Bool} {cs : Cases}
      {kept : EmittedValues} {t : List Event} →
      FallsTo c n (case l b falls cs) 0 kept t kept t
  next_case : {l : CaseValue} {b : Statements} {cs : Cases} {i : ℕ}
      {kept kept1 kept2 : EmittedValues} {t t1 t2 : List Event} →
      run_all c n b kept t ≡ Done kept1 t1 →
      FallsTo c n cs i kept1 t1 kept2 t2 →
      FallsTo c n (case l b true cs) (suc i) kept t kept2 t2

-- with this value the run comes to the case with this index
pub data ComesToCase (c : Call) (n : ℕ) (x : CaseValue) :
    Cases → ℕ → EmittedValues → List Event → EmittedValues → List Event → Type 0 where
  own_case : {l : CaseValue} {b : Statements} {falls : Bool} {cs : Cases} {i : ℕ}
      {kept kept1 : EmittedValues} {t t1 : List Event} →
      IsTrue (same_case_value x l) →
      FallsTo c n (case l b falls cs) i kept t kept1 t1 →
      ComesToCase c n x (case l b falls cs) i kept t kept1 t1
  other_case : {l : CaseValue} {b : Statements} {falls : Bool} {cs : Cases} {i : ℕ}
      {kept kept1 : EmittedValues} {t t1 : List Event} →
      same_case_value x l ≡ false →
      ComesToCase c n x cs i kept t kept1 t1 →
      ComesToCase c n x (case l b falls cs) (suc i) kept t kept1 t1

-- the run of a statement, begun with these kept values and events, comes to a region with those
pub data Comes (c : Call) (n : ℕ) :
    Statement → Region → EmittedValues → List Event → EmittedValues → List Event → Type 0 where
  into_block : {b : Statements} {kept : EmittedValues} {t : List Event} →
      Comes c n (Block b) Inner kept t kept t
  into_accept : {h : ℕ} {a b : Statements} {kept : EmittedValues} {t : List Event} →
      used_value c kept h ≡ Some (Truth true) →
      Comes c n (If h a b) Accept kept t kept t
  into_reject : {h : ℕ} {a b : Statements} {kept : EmittedValues} {t : List Event} →
      used_value c kept h ≡ Some (Truth false) →
      Comes c n (If h a b) Reject kept t kept t
  into_case : {h i : ℕ} {cases : Cases} {spelling : Bytes} {z : ℤ}
      {kept kept1 : EmittedValues} {t t1 : List Event} →
      used_value c kept h ≡ Some (Whole spelling z) →
      ComesToCase c n
      (case_value_if (has_case_value (Numbered z) cases) z) cases i kept t kept1 t1 →
      Comes c n (Switch h cases) (CaseBody i) kept t kept1 t1
  into_loop : {b d : Statements} {e : Option ℕ} {g : Region}
      {kept kept1 : EmittedValues} {t t1 : List Event} →
      InTurn n (run_all c n b) (run_all c n d) (module_turn c n b d e) g kept t kept1 t1 →
      Comes c n (Loop b d e) g kept t kept1 t1

-- the run of a list, begun with these kept values and events, passes a point with those
pub data Passes (c : Call) (n : ℕ) :
    Statements → Point → EmittedValues → List Event → EmittedValues → List Event → Type 0 where
  is_here : {ss : Statements} {kept : EmittedValues} {t : List Event} →
      Passes c n ss here kept t kept t
  goes_after : {st : Statement} {ss : Statements} {q : Point}
      {kept kept1 kept2 : EmittedValues} {t t1 t2 : List Event} →
      run c n st kept t ≡ Done kept1 t1 →
      Passes c n ss q kept1 t1 kept2 t2 →
      Passes c n (then st ss) (following q) kept t kept2 t2
  goes_inside : {st : Statement} {ss : Statements} {g : Region} {q : Point}
      {kept kept1 kept2 : EmittedValues} {t t1 t2 : List Event} →
      Comes c n st g kept t kept1 t1 →
      Passes c n (statements_in st g) q kept1 t1 kept2 t2 →
      Passes c n (then st ss) (inside g q) kept t kept2 t2
  emits : {first count i : ℕ} {ss : Statements} {kept kept1 : EmittedValues} {t t1 : List Event} →
      i ≤ count → emit c (from first i) kept t ≡ Done kept1 t1 →
      Passes c n (then (Emit first count) ss) (emitting i) kept t kept1 t1

-- the lines of the group with this index
abbrev pub lines_at : Groups → ℕ → Lines
lines_at no_group i = last
lines_at (group case_values b gs) zero = b
lines_at (group case_values b gs) (suc i) = lines_at gs i

-- the lines of a region
abbrev pub lines_in : Line → Region → Lines
lines_in (Braces b) Inner = b
lines_in (IfElse e a b) Accept = a
lines_in (IfElse e a b) Reject = b
lines_in (SwitchOn e groups) (CaseBody i) = lines_at groups i
lines_in (LoopOf b d e) (LoopBody j) = b
lines_in (LoopOf b d e) (Continuing j) = d
lines_in _ _ = last

-- the lines after a point of a list
abbrev pub lines_after : Lines → Point → Lines
lines_after ls here = ls
lines_after last q = last
lines_after (before x ls) (following q) = lines_after ls q
lines_after (before x ls) (inside g q) = lines_after (lines_in x g) q
lines_after (before x ls) (emitting i) = ls

-- one turn of a text's loop, which leaves the names that it began with
abbrev pub text_turn : Words → ℕ → (body continuing : Lines) → Option Tree → Next Scope
text_turn l n b d e names t =
    closed_outcome names
    (turn (follow_in_loop l n b) (follow_in_loop l n d) (break_line l e) names t)

-- this case value is one of the group with this index, and of no group before it
pub data GoesToGroup (x : CaseValue) : Groups → ℕ → Type 0 where
  own_group : {case_values : List CaseValue} {b : Lines} {gs : Groups} →
      IsTrue (among x case_values) →
      GoesToGroup x (group case_values b gs) 0
  other_group : {case_values : List CaseValue} {b : Lines} {gs : Groups} {i : ℕ} →
      among x case_values ≡ false → GoesToGroup x gs i →
      GoesToGroup x (group case_values b gs) (suc i)

-- the run of a line, begun with these names and events, comes to a region with those
pub data TextComes (l : Words) (n : ℕ) :
    Line → Region → Scope → List Event → Scope → List Event → Type 0 where
  into_braces : {b : Lines} {names : Scope} {t : List Event} →
      TextComes l n (Braces b) Inner names t names t
  into_then : {e : Tree} {a b : Lines} {names : Scope} {t t1 : List Event} →
      value_of l e names t ≡ Gives (Truth true) t1 →
      TextComes l n (IfElse e a b) Accept names t names t1
  into_else : {e : Tree} {a b : Lines} {names : Scope} {t t1 : List Event} →
      value_of l e names t ≡ Gives (Truth false) t1 →
      TextComes l n (IfElse e a b) Reject names t names t1
  into_group : {e : Tree} {i : ℕ} {gs : Groups} {spelling : Bytes} {z : ℤ}
      {names : Scope} {t t1 : List Event} →
      value_of l e names t ≡ Gives (Whole spelling z) t1 →
      GoesToGroup (case_value_if (group_has (Numbered z) gs) z) gs i →
      TextComes l n (SwitchOn e gs) (CaseBody i) names t names t1
  into_loop_line : {b d : Lines} {e : Option Tree} {g : Region}
      {names names1 : Scope} {t t1 : List Event} →
      InTurn n (follow_in_loop l n b) (follow_in_loop l n d) (text_turn l n b d e) g
      names t names1 t1 →
      TextComes l n (LoopOf b d e) g names t names1 t1

-- the run of lines, begun with these names and events, passes a point with those
pub data TextPasses (l : Words) (n : ℕ) :
    Lines → Point → Scope → List Event → Scope → List Event → Type 0 where
  is_here_in_text : {ls : Lines} {names : Scope} {t : List Event} →
      TextPasses l n ls here names t names t
  goes_after_line : {x : Line} {ls : Lines} {q : Point}
      {names names1 names2 : Scope} {t t1 t2 : List Event} →
      follow l n x names t ≡ Done names1 t1 →
      TextPasses l n ls q names1 t1 names2 t2 →
      TextPasses l n (before x ls) (following q) names t names2 t2
  goes_inside_line : {x : Line} {ls : Lines} {g : Region} {q : Point}
      {names names1 names2 : Scope} {t t1 t2 : List Event} →
      TextComes l n x g names t names1 t1 →
      TextPasses l n (lines_in x g) q names1 t1 names2 t2 →
      TextPasses l n (before x ls) (inside g q) names t names2 t2

-- how many of these handles a `let` binds
abbrev pub let_count : Function → List ℕ → ℕ
let_count f [] = 0
let_count f (h ∷ hs) = cond (binds f h) (suc (let_count f hs)) (let_count f hs)

-- how many lines are written for a statement
abbrev pub line_count : Function → Statement → ℕ
line_count f (Emit first count) = let_count f (from first count)
line_count f (Barrier bits) = length (barrier_words bits)
line_count f _ = 1

-- after so many lines
abbrev pub after_lines : ℕ → Point → Point
after_lines zero q = q
after_lines (suc m) q = following (after_lines m q)

-- the group of a case: cases that fall through have theirs together with the next case
abbrev pub group_of : Cases → ℕ → ℕ
group_of no_case i = 0
group_of (case l b falls cs) zero = 0
group_of (case l b true cs) (suc i) = group_of cs i
group_of (case l b false cs) (suc i) = suc (group_of cs i)

-- the region of a statement's text
abbrev pub region_in_text : Statement → Region → Region
region_in_text (Switch h cases) (CaseBody i) = CaseBody (group_of cases i)
region_in_text _ g = g

-- where a point of a list is in the text that is written for the list
abbrev pub point_in_text : Function → Statements → Point → Point
point_in_text f ss here = here
point_in_text f end q = here
point_in_text f (then st ss) (following q) = after_lines (line_count f st) (point_in_text f ss q)
point_in_text f (then st ss) (inside g q) =
    inside (region_in_text st g) (point_in_text f (statements_in st g) q)
point_in_text f (then (Emit first count) ss) (emitting i) =
    after_lines (let_count f (from first i)) here
point_in_text f (then _ ss) (emitting i) = here

-- the case with this index falls through
abbrev pub case_falls : Cases → ℕ → Bool
case_falls no_case i = false
case_falls (case l b falls cs) zero = falls
case_falls (case l b falls cs) (suc i) = case_falls cs i

-- the region is a case that falls through
abbrev pub region_falls : Statement → Region → Bool
region_falls (Switch h cases) (CaseBody i) = case_falls cases i
region_falls _ _ = false

-- the point is in a case that falls through
abbrev pub falls_at : Statements → Point → Bool
falls_at ss here = false
falls_at end q = false
falls_at (then st ss) (following q) = falls_at ss q
falls_at (then st ss) (inside g q) = region_falls st g || falls_at (statements_in st g) q
falls_at (then st ss) (emitting i) = false
