-- The law of results: where functions return what they promise, no call misses a result.
--
-- Throughout, s and ss are statements, b, a and d are bodies, k is the type of a result, v a value,
-- t are the events so far and x is why a run stops; of a module p, fs are its functions with their
-- names, f is one, g its number, m the meaning, and w the world.
use Rattle.std.specs.Prelude.{◌≡◌, ℕ, Bool, true, false, not, is_some, List, [], ◌∷◌, Option, Some}
use Rattle.std.specs.Prelude.{None, ◌&&◌, ◌||◌, IsTrue}
use Rattle.shader_runs.specs.Value.{ValueType, Value}
use Rattle.shader_runs.specs.World.{World, Meaning, Event, Settings}
use Rattle.shader_runs.specs.Outcome.{Stop, Unreturned, ReachedOrHalted, Gives, Halts}
use Rattle.shader_runs.specs.Program.{Default, Statement, Block, If, Switch, Loop, Break}
use Rattle.shader_runs.specs.Program.{Return, Statements, end, then, Cases, no_case, case}
use Rattle.shader_runs.specs.Program.{Function, function_numbered, Module, Jumps}
use Rattle.shader_runs.specs.ProgramRun.{has_case_value}
use Rattle.shader_runs.specs.Constants.{run_module}
use Rattle.shader_runs.specs.Scope.{Naming}
use Rattle.shader_runs.specs.Form.{functions_of}
use Rattle.shader_runs.specs.Premises.{AreRegular}

abbrev mutual
  -- a `break` of the loop or the switch around the statement
  pub holds_break : Statement → Bool
  holds_break (Block b) = any_break b
  holds_break (If c a b) = any_break a || any_break b
  holds_break (Jumps Break) = true
  holds_break _ = false

  pub any_break : Statements → Bool
  any_break end = false
  any_break (then s ss) = holds_break s || any_break ss

abbrev mutual
  -- a run may come to what stands after the statement
  pub may_end : Statement → Bool
  may_end (Block b) = may_end_all b
  may_end (If c a b) = may_end_all a || may_end_all b
  may_end (Switch h cases) = not (has_case_value Default cases) || some_case_ends cases
  may_end (Loop b d e) = any_break b || is_some e
  may_end (Jumps j) = false
  may_end _ = true

  pub may_end_all : Statements → Bool
  may_end_all end = true
  may_end_all (then s ss) = may_end s && may_end_all ss

  -- a case that falls through ends as the next one does
  pub some_case_ends : Cases → Bool
  some_case_ends no_case = false
  some_case_ends (case l b falls cs) =
      any_break b || ((not falls && may_end_all b) || some_case_ends cs)

abbrev mutual
  -- each `return` has a value
  pub has_values : Statement → Bool
  has_values (Block b) = all_have_values b
  has_values (If c a b) = all_have_values a && all_have_values b
  has_values (Switch h cases) = cases_have_values cases
  has_values (Loop b d e) = all_have_values b && all_have_values d
  has_values (Jumps (Return None)) = false
  has_values _ = true

  pub all_have_values : Statements → Bool
  all_have_values end = true
  all_have_values (then s ss) = has_values s && all_have_values ss

  pub cases_have_values : Cases → Bool
  cases_have_values no_case = true
  cases_have_values (case l b falls cs) = all_have_values b && cases_have_values cs

-- a body with a result returns a value, and no run of it comes to its end
abbrev pub GivesResult : Option ValueType → Statements → Type 0
GivesResult None body = Unit {0}
GivesResult (Some k) body = IsTrue (all_have_values body) × (may_end_all body ≡ false)

-- each function
abbrev pub AllGiveResults : List Function → Type 0
AllGiveResults [] = Unit {0}
AllGiveResults (f ∷ fs) = GivesResult f.result f.body × AllGiveResults fs

-- what is returned is there, where there is a result
abbrev pub IsReturned : Option ValueType → Option Value → Type 0
IsReturned (Some k) None = ⊥
IsReturned _ _ = Unit {0}

-- a reason to end, other than that a wanted result wasn't returned
abbrev pub NotUnreturned : Stop → Type 0
NotUnreturned Unreturned = ⊥
NotUnreturned _ = Unit {0}

-- a call gives its function's result, and inside it no result is missing
abbrev pub IsComplete : Option ValueType → ReachedOrHalted (Option Value) → Type 0
IsComplete k (Gives v t) = IsReturned k v
IsComplete k (Halts x t) = NotUnreturned x

-- where each function with a result returns a value on all paths, no call misses a result
abbrev pub ResultsAreReturnedIn : Module → Type 0
ResultsAreReturnedIn p =
    AllGiveResults p.functions →
    (settings : Settings) (m : Meaning) (g : ℕ) (f : Function) →
    function_numbered p.functions g ≡ Some f →
    (vs : List Value) (w : World) (turns : ℕ) (t : List Event) →
    IsComplete f.result (run_module p settings w m turns g vs t)

-- the statements of each function are regular
abbrev pub AllRegular : Module → List Naming → Type 0
AllRegular p [] = Unit {0}
AllRegular p (f ∷ fs) = AreRegular p (functions_of fs) f f.function.body × AllRegular p fs

-- in each module whose statements are regular, whatever is in scope there
abbrev pub ResultsAreReturned : Type 0
ResultsAreReturned =
    (p : Module) (fs : List Naming) → functions_of fs ≡ p.functions → AllRegular p fs →
    ResultsAreReturnedIn p
