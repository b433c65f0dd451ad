-- No end of a module's run is missed by the points that it passes.
--
-- Throughout, c is a call, n the bound on turns, t are the events so far, o is an outcome, ss are
-- statements, b and d bodies.
use Rattle.std.specs.Prelude.{◌≡◌, ℕ, Bool, true, false, List, IsTrue}
use Rattle.shader_runs.specs.World.{Event}
use Rattle.shader_runs.specs.Outcome.{Stop, Stuck, Unreturned, OutOfTurns, Discarded, Mistyped}
use Rattle.shader_runs.specs.Outcome.{Outcome, Done, Continued, Broke, Returned, Stopped}
use Rattle.shader_runs.specs.Program.{Statement, Block, If, Switch, Loop, Statements, end, then}
use Rattle.shader_runs.specs.ProgramRun.{Call, EmittedValues, run, run_all}
use Rattle.shader_runs.specs.Passes.{Point, here, following, statements_at, Passes}

-- the point after the last statement
abbrev pub end_of : Statements → Point
end_of end = here
end_of (then st ss) = following (end_of ss)

-- no statement stands inside this one
abbrev pub is_simple : Statement → Bool
is_simple (Block b) = false
is_simple (If h a b) = false
is_simple (Switch h cases) = false
is_simple (Loop b d e) = false
is_simple _ = true

-- a discard, an answer of a wrong type, or want of a callee's result
abbrev pub stops_early : Stop → Bool
stops_early Discarded = true
stops_early Mistyped = true
stops_early Unreturned = true
stops_early Stuck = false
stops_early OutOfTurns = false

-- a continue, a break, a return, or one of these
abbrev pub is_early : {S : Type 0} → Outcome S → Bool
is_early (Done s t) = false
is_early (Continued s t) = true
is_early (Broke s t) = true
is_early (Returned v t) = true
is_early (Stopped x t) = stops_early x

-- the run of a list passes the point in front of a simple statement that ends it so
pub record EndsAt (c : Call) (n : ℕ) (ss : Statements) (kept : EmittedValues) (t : List Event)
    (o : Outcome EmittedValues) : Type 0 where
  pub point : Point
  pub statement : Statement
  pub rest : Statements
  pub kept_there : EmittedValues
  pub events_there : List Event
  pub passed : Passes c n ss point kept t kept_there events_there
  pub stands : statements_at ss point ≡ then statement rest
  pub simple : IsTrue (is_simple statement)
  pub ends : run c n statement kept_there events_there ≡ o

-- a list that is done passes the point after it, and one that ends early passes the point in front
-- of the statement where it does
abbrev pub EndsAreReached : Type 0
EndsAreReached =
    (c : Call) (n : ℕ) (ss : Statements) (kept : EmittedValues) (t : List Event) →
    ((kept1 : EmittedValues) (t1 : List Event) →
    run_all c n ss kept t ≡ Done kept1 t1 → Passes c n ss (end_of ss) kept t kept1 t1)
    × (IsTrue (is_early (run_all c n ss kept t)) → EndsAt c n ss kept t (run_all c n ss kept t))
