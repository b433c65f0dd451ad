-- How a stretch of a run ends, for a run that carries some state of its own.
--
-- Throughout, s is the state of a run and t the events so far (s1 and t1
-- are later ones), v a value, x why a run stops, o an outcome, q what is
-- reached, b a truth value, z an integer and n a bound on turns.
use Rattle.std.specs.Prelude.{ℕ, zero, suc, ℤ, Bool, true, false, List, ◌∷◌, Option, None, cond}
use Rattle.std.specs.Prelude.{Some}
use Rattle.shader_runs.specs.Value.{Value, truth_in, integer_in}
use Rattle.shader_runs.specs.World.{Event, Discard}
use Rattle.shader_runs.specs.Program.{Jump, Break, Continue, Return, Kill}

-- why a run ends before its end: a wanted value is missing, a callee ended without the result that
-- its caller wants, a loop had its turns, a discard, or an answer of a wrong type
pub data Stop : Type 0 where
  Stuck : Stop
  Unreturned : Stop
  OutOfTurns : Stop
  Discarded : Stop
  Mistyped : Stop

-- S is what the run knows of values: kept by handle, or bound by name
pub data Outcome (S : Type 0) : Type 0 where
  Done : S → List Event → Outcome S
  Continued : S → List Event → Outcome S
  Broke : S → List Event → Outcome S
  Returned : Option Value → List Event → Outcome S
  Stopped : Stop → List Event → Outcome S

-- what goes on from a state and the events so far
abbrev pub Next : Type 0 → Type 0
Next S = S → List Event → Outcome S

-- how a jump ends a stretch; what is returned is found out by returning
abbrev pub jump_outcome : {A S : Type 0} → (returning : Option A → Next S) → Jump A → Next S
jump_outcome returning Break s t = Broke s t
jump_outcome returning Continue s t = Continued s t
jump_outcome returning (Return v) s t = returning v s t
jump_outcome returning Kill s t = Stopped Discarded (Discard ∷ t)

-- the next statement
abbrev pub and_then : {S : Type 0} → Outcome S → Next S → Outcome S
and_then (Done s t) next = next s t
and_then (Continued s t) next = Continued s t
and_then (Broke s t) next = Broke s t
and_then (Returned v t) next = Returned v t
and_then (Stopped x t) next = Stopped x t

-- a loop's `continuing`, after its body ended or continued
abbrev pub and_continue : {S : Type 0} → Outcome S → Next S → Outcome S
and_continue (Done s t) next = next s t
and_continue (Continued s t) next = next s t
and_continue (Broke s t) next = Broke s t
and_continue (Returned v t) next = Returned v t
and_continue (Stopped x t) next = Stopped x t

-- nothing leaves a `continuing` but its end and a return
abbrev pub within : {S : Type 0} → Outcome S → Outcome S
within (Done s t) = Done s t
within (Continued s t) = Stopped Stuck t
within (Broke s t) = Stopped Stuck t
within (Returned v t) = Returned v t
within (Stopped x t) = Stopped x t

-- one turn of a loop, which ends by Broke where `break if` leaves
abbrev pub turn : {S : Type 0} → (body continuing leave : Next S) → Next S
turn body continuing leave s t =
    and_continue (body s t) (λ s1 t1. and_then (within (continuing s1 t1)) leave)

-- the next turn, or what follows the loop
abbrev pub and_again : {S : Type 0} → Outcome S → Next S → Outcome S
and_again (Done s t) next = next s t
and_again (Continued s t) next = Stopped Stuck t
and_again (Broke s t) next = Done s t
and_again (Returned v t) next = Returned v t
and_again (Stopped x t) next = Stopped x t

-- at most n turns
abbrev pub turns : {S : Type 0} → ℕ → Next S → Next S
turns zero once s t = Stopped OutOfTurns t
turns (suc n) once s t = and_again (once s t) (turns n once)

-- a `break` in a case leaves the switch
abbrev pub after_switch : {S : Type 0} → Outcome S → Outcome S
after_switch (Done s t) = Done s t
after_switch (Continued s t) = Continued s t
after_switch (Broke s t) = Done s t
after_switch (Returned v t) = Returned v t
after_switch (Stopped x t) = Stopped x t

-- what a block leaves to what follows it: the state from outside
abbrev pub closed_outcome : {S : Type 0} → S → Outcome S → Outcome S
closed_outcome s (Done _ t) = Done s t
closed_outcome s (Continued _ t) = Continued s t
closed_outcome s (Broke _ t) = Broke s t
closed_outcome s (Returned v t) = Returned v t
closed_outcome s (Stopped x t) = Stopped x t

-- the state from outside where the test holds
abbrev pub closed_if : {S : Type 0} → Bool → S → Outcome S → Outcome S
closed_if true s o = closed_outcome s o
closed_if false s o = o

-- goes on with what is there, or is stuck
abbrev pub or_stuck : {A S : Type 0} → Option A → List Event → (A → Outcome S) → Outcome S
or_stuck None t go = Stopped Stuck t
or_stuck (Some a) t go = go a

-- a branch by a truth value
abbrev pub branch_by : {S : Type 0} → Value → List Event → (accept reject : Outcome S) → Outcome S
branch_by v t accept reject = or_stuck (truth_in v) t (λ b. cond b accept reject)

-- a switch goes on by an integer
abbrev pub with_integer : {S : Type 0} → Value → List Event → (ℤ → Outcome S) → Outcome S
with_integer v t go = or_stuck (integer_in v) t go

-- what is reached after more events, or why nothing is
pub data ReachedOrHalted (A : Type 0) : Type 0 where
  Gives : A → List Event → ReachedOrHalted A
  Halts : Stop → List Event → ReachedOrHalted A

-- what is there, or a run that is stuck
abbrev pub reach : {A : Type 0} → Option A → List Event → ReachedOrHalted A
reach None t = Halts Stuck t
reach (Some a) t = Gives a t

-- what goes on, unless something is there: then the run is stuck
abbrev pub unless : {A B : Type 0} → Option A → List Event → ReachedOrHalted B → ReachedOrHalted B
unless None t q = q
unless (Some a) t q = Halts Stuck t

-- how a call ends, by how its body does
abbrev pub answer : {S : Type 0} → Outcome S → ReachedOrHalted (Option Value)
answer (Done s t) = Gives None t
answer (Continued s t) = Halts Stuck t
answer (Broke s t) = Halts Stuck t
answer (Returned v t) = Gives v t
answer (Stopped x t) = Halts x t
