-- Where the check of a statement finds a fault, the statement breaks a rule of scope with it.
-- Serves `of` and `of_function`.
use Rattle.std.proofs.Common.{◌≡◌, ⊎_elim, ℕ, zero, suc, ◌+◌, Bool, true, false, List, [], ◌∷◌, Option}
use Rattle.std.proofs.Common.{Some, None, refl, sym, subst, ◌∙◌, arith, length}
use Rattle.std.specs.Prelude.{IsTrue, IsFalse, slice_get, Err}
use Rattle.std.specs.Result.{result_and}
use Rattle.naga_scope.specs.ScopeChecks.{unless, check_use, check_uses, check_break, check_use_if, check_operands}
use Rattle.naga_scope.specs.ScopeChecks.{check_bound, check_emitted, check_emit, check_result, check_first}
use Rattle.naga_scope.specs.ScopeChecks.{check_own}
use Rattle.naga_scope.specs.ScopeFaults.{IsOperandOf, inside, is_loop, BreaksWith, IsScopeFault}
use Rattle.naga_scope.specs.declared.scope_faults.ScopeFault.{ScopeFault}
use Rattle.naga_scope.specs.declared.scope_faults.ScopeFault.TheVariants.{FirstValue, Operand}
use Rattle.naga_scope.specs.declared.scope_faults.ScopeFault.TheVariants.{BreakIf, EmittedOperand}
use Rattle.naga_scope.specs.declared.scope_faults.ScopeFault.TheVariants.{IntroducedBefore}
use Rattle.naga_scope.specs.declared.scope_faults.ScopeFault.TheVariants.{NeedsNoEmit}
use Rattle.naga_scope.proofs.ScopeChecks.{and_err, emitted_ok, unless_err}
use Rattle.shader_runs.specs.Program.{Statement, Emit, Store, If, Switch, Loop, Return, Act, Jumps, Statements}
use Rattle.shader_runs.specs.Program.{Function, expression_of, operands_of, binds, from, is_emittable}
use Rattle.shader_runs.specs.Scope.{Handles, Naming, before_local, bound_name, at_start, is_new, usable, after_one}
use Rattle.shader_runs.specs.Scope.{named_after}
use Rattle.shader_runs.specs.Premises.{AllBelow}
use Rattle.shader_runs.specs.ScopeRules.{IntroducedHandle, Emitted, AsResult, ScopeState, start_state}
use Rattle.shader_runs.specs.ScopeRules.{following_one, after_turn, WasIntroduced}
use Rattle.shader_runs.specs.ScopeFaults.{IsOutOfScopeAt, UsesAt, stored_pointer, stored_value}
use Rattle.shader_runs.specs.ScopeFaults.{condition, selector, break_if, returned, operand}
use Rattle.shader_runs.specs.ScopeFaults.{IntroducesAt, emitted, as_result}
use Rattle.shader_runs.proofs.ScopeFaults.{gives_emitted}
use Rattle.shader_runs.proofs.ScopeRules.{Tracks, false_is_not_true, tracks_emitted, may_emit_rule, tracks_start}

-- ---- what a statement breaks a rule with
-- what an Emit breaks a rule with, from some handle on
abbrev EmitsWith : Function → ScopeState → Statement → (n : ℕ) → ScopeFault → Type 0
EmitsWith f at st n (FirstValue i h) = ⊥
EmitsWith f at st n (Operand k h) = ⊥
EmitsWith f at st n (BreakIf k next h) = ⊥
EmitsWith f at st n e = BreaksWith f (record { at = at; statement = st }) n e

emits_breaks : (f : Function) (at : ScopeState) (st : Statement) (n : ℕ) (e : ScopeFault) → EmitsWith f at st n e →
    BreaksWith f (record { at = at; statement = st }) n e
emits_breaks f at st n (FirstValue i h) breaks = elim breaks [ ]
emits_breaks f at st n (Operand k h) breaks = elim breaks [ ]
emits_breaks f at st n (BreakIf k next h) breaks = elim breaks [ ]
emits_breaks f at st n (EmittedOperand k x h) breaks = breaks
emits_breaks f at st n (IntroducedBefore k h) breaks = breaks
emits_breaks f at st n (NeedsNoEmit k h) breaks = breaks

-- what the rest of an Emit gives and breaks
module _ (f : Function) (at : ScopeState) (first count : ℕ) where
  introduces_further : (there : ScopeState) (g : IntroducedHandle) →
      IntroducesAt f (following_one f first at) (Emit (suc first) count) there g →
      IntroducesAt f at (Emit first (suc count)) there g
  introduces_further there g (emitted i l) =
      gives_emitted f at first (suc count) (suc i) (suc first + i) (omega arith) (omega (arith, l))

  introduces_first : IntroducesAt f at (Emit first (suc count)) at (Emitted first)
  introduces_first = gives_emitted f at first (suc count) 0 first (omega arith) (omega arith)

  emits_further : (n : ℕ) (e : ScopeFault) → EmitsWith f (following_one f first at) (Emit (suc first) count) n e →
      EmitsWith f at (Emit first (suc count)) n e
  emits_further n (FirstValue i h) b = elim b [ ]
  emits_further n (Operand k h) b = elim b [ ]
  emits_further n (BreakIf k next h) b = elim b [ ]
  emits_further n (EmittedOperand k x h) b =
      let c = b.1 in
      (b.0, (c.0, introduces_further c.0 (Emitted x) c.1, c.2, c.3, c.4))
  emits_further n (IntroducedBefore k h) b =
      let c = b.1 in
      (b.0, (c.0, c.1, introduces_further c.0 c.1 c.2, c.3, c.4))
  emits_further n (NeedsNoEmit k h) b =
      let c = b.1 in
      (b.0, (c.0, introduces_further c.0 (Emitted h) c.1, c.2))

module _ (f : Function) (at : ScopeState) (s : Handles) (t : Tracks f at s) (st : Statement) (n : ℕ)
    (e : ScopeFault) where
  abbrev Breaks : Type 0
  Breaks = BreaksWith f (record { at = at; statement = st }) n e

  out_of : (h : ℕ) → IsFalse (usable f s h) → IsOutOfScopeAt f at h
  out_of h is d = false_is_not_true (usable f s h) is ((t.used h).1 d)

  old : (h : ℕ) → IsFalse (is_new (s h)) → WasIntroduced f at h
  old h is = (t.introduced h).0 is

  use_breaks : IsFalse (is_loop st) → (h : ℕ) → UsesAt f at st at h → check_use f s n h ≡ Err e → Breaks
  use_breaks plain h u is =
      let x = unless_err (usable f s h) (Operand n h) e is in
      subst (BreaksWith f (record { at = at; statement = st }) n) x.1 (refl, plain, (at, u, out_of h x.0))

  uses_break : IsFalse (is_loop st) → (hs : List ℕ) →
      ((i h : ℕ) → slice_get hs i ≡ Some h → UsesAt f at st at h) → check_uses f s n hs ≡ Err e → Breaks
  uses_break plain [] u is = absurd cc
  uses_break plain (h ∷ hs) u is =
      ⊎_elim (use_breaks plain h (u 0 h refl)) (λ p. uses_break plain hs (λ i. u (suc i)) p.1)
      (and_err (check_use f s n h) (check_uses f s n hs) e is)

  use_if_breaks : IsFalse (is_loop st) → (o : Option ℕ) → ((h : ℕ) → o ≡ Some h → UsesAt f at st at h) →
      check_use_if f s n o ≡ Err e → Breaks
  use_if_breaks plain None u is = absurd cc
  use_if_breaks plain (Some h) u is = use_breaks plain h (u h refl) is

  result_breaks : (o : Option ℕ) → ((h : ℕ) → o ≡ Some h → IntroducesAt f at st at (AsResult h)) → check_result n o s
      ≡ Err e → Breaks
  result_breaks None g is = absurd cc
  result_breaks (Some h) g is =
      let x = unless_err (is_new (s h)) (IntroducedBefore n h) e is in
      subst (BreaksWith f (record { at = at; statement = st }) n) x.1
      (refl, (at, AsResult h, g h refl, refl, old h x.0))

  -- an Emit gives this handle here
  module _ (x : ℕ) (g : IntroducesAt f at st at (Emitted x)) where
    operands_break : IsTrue (binds f x) → (hs : List ℕ) →
        ((i h : ℕ) → slice_get hs i ≡ Some h → IsOperandOf f x h) → check_operands f s n x hs ≡ Err e →
        EmitsWith f at st n e
    operands_break bound [] u is = absurd cc
    operands_break bound (h ∷ hs) u is =
        ⊎_elim
        (λ is. let y = unless_err (usable f s h) (EmittedOperand n x h) e is in
        subst (EmitsWith f at st n) y.1 (refl, (at, g, bound, u 0 h refl, out_of h y.0)))
        (λ p. operands_break bound hs (λ i. u (suc i)) p.1)
        (and_err (unless (usable f s h) (EmittedOperand n x h)) (check_operands f s n x hs) e is)

    bound_breaks : (b : Bool) → binds f x ≡ b →
        check_bound b (check_operands f s n x (operands_of (expression_of f x))) ≡ Err e →
        EmitsWith f at st n e
    bound_breaks true bound is = operands_break bound (operands_of (expression_of f x)) (λ i h at. (i, at)) is
    bound_breaks false bound is = absurd cc

    emitted_breaks : check_emitted f s n x ≡ Err e → EmitsWith f at st n e
    emitted_breaks is =
        let emittable = unless (is_emittable (expression_of f x)) (NeedsNoEmit n x) in
        let bound = check_bound (binds f x) (check_operands f s n x (operands_of (expression_of f x))) in
        ⊎_elim
        (λ is. let y = unless_err (is_new (s x)) (IntroducedBefore n x) e is in
        subst (EmitsWith f at st n) y.1 (refl, (at, Emitted x, g, refl, old x y.0)))
        (λ p. ⊎_elim
        (λ is. let y = unless_err (is_emittable (expression_of f x)) (NeedsNoEmit n x) e is in
        subst (EmitsWith f at st n) y.1 (refl, (at, g, y.0)))
        (λ q. bound_breaks (binds f x) refl q.1)
        (and_err emittable bound e p.1))
        (and_err (unless (is_new (s x)) (IntroducedBefore n x)) (result_and emittable bound) e is)

module _ (f : Naming) (e : ScopeFault) where
  emit_breaks : (k n first count : ℕ) (at : ScopeState) (s : Handles) → Tracks f.function at s →
      check_emit f k n (from first count) s ≡ Err e → EmitsWith f.function at (Emit first count) n e
  emit_breaks k n first zero at s t is = absurd cc
  emit_breaks k n first (suc count) at s t is =
      let k1 = named_after f.function first k in
      let s1 = after_one f k first s in
      ⊎_elim
      (emitted_breaks f.function at s t (Emit first (suc count)) n e first (introduces_first f.function at first count))
      (λ p.
      let may = sym (emitted_ok f.function s n first) ∙ p.0 in
      let kind = ((may_emit_rule f.function at s first t).0 may).kind in
      let t1 = tracks_emitted f.function first at s t kind (bound_name f k first) in
      emits_further f.function at first count n e
      (emit_breaks k1 n (suc first) count (following_one f.function first at) s1 t1 p.1))
      (and_err (check_emitted f.function s n first) (check_emit f k1 n (from (suc first) count) s1) e is)

  -- ---- a statement by itself
  pub own_breaks : (k n : ℕ) (st : Statement) (at : ScopeState) (s : Handles) → Tracks f.function at s →
      check_own f k n st s ≡ Err e → BreaksWith f.function (record { at = at; statement = st }) n e
  own_breaks k n (Emit first count) at s t is =
      emits_breaks f.function at (Emit first count) n e (emit_breaks k n first count at s t is)
  own_breaks k n (Store p v) at s t is =
      ⊎_elim (use_breaks f.function at s t (Store p v) n e refl p stored_pointer)
      (λ q. use_breaks f.function at s t (Store p v) n e refl v stored_value q.1)
      (and_err (check_use f.function s n p) (check_use f.function s n v) e is)
  own_breaks k n (If c a b) at s t is = use_breaks f.function at s t (If c a b) n e refl c condition is
  own_breaks k n (Switch h cs) at s t is = use_breaks f.function at s t (Switch h cs) n e refl h selector is
  own_breaks k n (Jumps (Return v)) at s t is =
      use_if_breaks f.function at s t (Jumps (Return v)) n e refl v
      (λ h same. subst (λ v. UsesAt f.function at (Jumps (Return v)) at h) (sym same) returned) is
  own_breaks k n (Act a xs r) at s t is =
      ⊎_elim (uses_break f.function at s t (Act a xs r) n e refl xs (λ i h at. operand i at))
      (λ q. result_breaks f.function at s t (Act a xs r) n e r
      (λ h same. subst (λ r. IntroducesAt f.function at (Act a xs r) at (AsResult h)) (sym same) as_result) q.1)
      (and_err (check_uses f.function s n xs) (check_result n r s) e is)
  own_breaks k n _ at s t is = absurd cc

  -- ---- the `break if` of a loop
  pub break_breaks : (n next : ℕ) (a b : Statements) (o : Option ℕ) (at : ScopeState) (s : Handles) →
      Tracks f.function (after_turn f.function b (after_turn f.function a at)) s →
      next ≡ suc n + length (inside f.function at (Loop a b o)) →
      check_break f.function s n next o ≡ Err e →
      BreaksWith f.function (record { at = at; statement = Loop a b o }) n e
  break_breaks n next a b None at s t stands is = absurd cc
  break_breaks n next a b (Some h) at s t stands is =
      let x = unless_err (usable f.function s h) (BreakIf n next h) e is in
      let last = after_turn f.function b (after_turn f.function a at) in
      let out : IsOutOfScopeAt f.function last h = λ d. false_is_not_true (usable f.function s h) x.0
      ((t.used h).1 d) in
      subst (BreaksWith f.function (record { at = at; statement = Loop a b (Some h) }) n) x.1
      (refl, stands, refl, (last, break_if, out))

-- ---- the first value of a local
pub first_breaks : (f : Function) → ((h : ℕ) → AllBelow h (operands_of (expression_of f h))) → (e : ScopeFault) (i : ℕ)
    (o : Option ℕ) → slice_get f.first_values i ≡ Some o → check_first f i o ≡ Err e → IsScopeFault f e
first_breaks f ordered e i None at is = absurd cc
first_breaks f ordered e i (Some h) at is =
    let own = before_local f i in
    let x = unless_err (usable own (at_start f) h) (FirstValue i h) e is in
    let t = tracks_start own ordered in
    let out : IsOutOfScopeAt own start_state h = λ d. false_is_not_true (usable own (at_start f) h) x.0
    ((t.used h).1 d) in
    subst (IsScopeFault f) x.1 (at, out)
