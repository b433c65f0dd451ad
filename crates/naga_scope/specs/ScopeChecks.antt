-- The check of the rules of scope at a statement, which tells the first fault that it finds: an Emit is
-- asked handle by handle, and another statement what it uses before what it gives.
--
-- Throughout, f is a function, with its names where a naming is taken, s are the handles in scope, k
-- is how many names have been given, n the number of a statement, next that of the one that would
-- stand after a loop, h a handle, e an expression, and st a statement.
use Rattle.std.specs.Prelude.{ℕ, Bool, true, false, List, [], ◌∷◌, Option, Some, None, Result, Ok}
use Rattle.std.specs.Prelude.{Err}
use Rattle.std.specs.Result.{result_and}
use Rattle.naga_scope.specs.declared.scope_faults.ScopeFault.{ScopeFault}
use Rattle.naga_scope.specs.declared.scope_faults.ScopeFault.TheVariants.{FirstValue, Operand}
use Rattle.naga_scope.specs.declared.scope_faults.ScopeFault.TheVariants.{BreakIf, EmittedOperand}
use Rattle.naga_scope.specs.declared.scope_faults.ScopeFault.TheVariants.{IntroducedBefore}
use Rattle.naga_scope.specs.declared.scope_faults.ScopeFault.TheVariants.{NeedsNoEmit}
use Rattle.shader_runs.specs.Program.{Statement, Emit, Store, If, Switch, Return, Act, Jumps}
use Rattle.shader_runs.specs.Program.{Function, expression_of, operands_of, binds, from}
use Rattle.shader_runs.specs.Program.{is_emittable}
use Rattle.shader_runs.specs.Scope.{Handles, Naming, before_local, at_start, is_new, usable}
use Rattle.shader_runs.specs.Scope.{after_one, named_after, named_after_all, named_by}

-- nothing is wrong, or there is a fault
abbrev pub Checked : Type 0
Checked = Result (Unit {0}) ScopeFault

-- the fault, unless that is so
abbrev pub unless : Bool → ScopeFault → Checked
unless true fault = Ok tt
unless false fault = Err fault

-- ---- uses
abbrev pub check_use : Function → Handles → (n h : ℕ) → Checked
check_use f s n h = unless (usable f s h) (Operand n h)

abbrev pub check_uses : Function → Handles → (n : ℕ) → List ℕ → Checked
check_uses f s n [] = Ok tt
check_uses f s n (h ∷ hs) = result_and (check_use f s n h) (check_uses f s n hs)

abbrev pub check_use_if : Function → Handles → (n : ℕ) → Option ℕ → Checked
check_use_if f s n None = Ok tt
check_use_if f s n (Some h) = check_use f s n h

-- of the `break if` of a loop, after which the statement with the second number would stand
abbrev pub check_break : Function → Handles → (n next : ℕ) → Option ℕ → Checked
check_break f s n next None = Ok tt
check_break f s n next (Some h) = unless (usable f s h) (BreakIf n next h)

-- ---- what is given
-- the operands of a handle that an Emit binds
abbrev pub check_operands : Function → Handles → (n x : ℕ) → List ℕ → Checked
check_operands f s n x [] = Ok tt
check_operands f s n x (h ∷ hs) =
    result_and (unless (usable f s h) (EmittedOperand n x h)) (check_operands f s n x hs)

abbrev pub check_bound : Bool → Checked → Checked
check_bound true operands = operands
check_bound false operands = Ok tt

abbrev pub check_emitted : Function → Handles → (n h : ℕ) → Checked
check_emitted f s n h =
    let e = expression_of f h in
    result_and (unless (is_new (s h)) (IntroducedBefore n h))
    (result_and (unless (is_emittable e) (NeedsNoEmit n h))
    (check_bound (binds f h) (check_operands f s n h (operands_of e))))

abbrev pub check_emit : Naming → (k n : ℕ) → List ℕ → Handles → Checked
check_emit f k n [] s = Ok tt
check_emit f k n (h ∷ hs) s =
    result_and (check_emitted f.function s n h)
    (check_emit f (named_after f.function h k) n hs (after_one f k h s))

abbrev pub check_result : (n : ℕ) → Option ℕ → Handles → Checked
check_result n None s = Ok tt
check_result n (Some h) s = unless (is_new (s h)) (IntroducedBefore n h)

-- ---- statements
-- A statement by itself: what it uses and what it gives. What stands in its blocks is left out, and so
-- is a loop's `break if`.
abbrev pub check_own : Naming → (k n : ℕ) → Statement → Handles → Checked
check_own f k n (Emit first count) s = check_emit f k n (from first count) s
check_own f k n (Store p v) s = result_and (check_use f.function s n p) (check_use f.function s n v)
check_own f k n (If c a b) s = check_use f.function s n c
check_own f k n (Switch h cs) s = check_use f.function s n h
check_own f k n (Jumps (Return v)) s = check_use_if f.function s n v
check_own f k n (Act a xs r) s = result_and (check_uses f.function s n xs) (check_result n r s)
check_own f k n st s = Ok tt

-- how many names have been given after it, those in its blocks left out, where k were before it
abbrev pub own_named : Function → Statement → (k : ℕ) → ℕ
own_named f (Emit first count) k = named_after_all f (from first count) k
own_named f st k = k

-- and after what stands in its blocks, where k were before that
abbrev pub inside_named : Function → Statement → (k : ℕ) → ℕ
inside_named f (Emit first count) k = k
inside_named f st k = named_by f st k

-- ---- locals
-- the first value of a local
abbrev pub check_first : Function → (i : ℕ) → Option ℕ → Checked
check_first f i None = Ok tt
check_first f i (Some h) = unless (usable (before_local f i) (at_start f) h) (FirstValue i h)
