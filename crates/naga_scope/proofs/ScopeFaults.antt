-- A fault of a function breaks a rule of scope.
-- Serves `of` and `of_function`.
use Rattle.std.proofs.Common.{◌≡◌, ⊎_elim, ℕ, zero, suc, Some, sym, subst}
use Rattle.std.proofs.lemmas.Option.{same_Some}
use Rattle.std.specs.Prelude.{IsTrue, slice_get}
use Rattle.module_semantics.proofs.FunctionNumbers.{in_append}
use Rattle.naga_scope.specs.ScopeFaults.{Standing, inside, standing, case_standing, IsOperandOf}
use Rattle.naga_scope.specs.ScopeFaults.{BreaksWith, IsScopeFault}
use Rattle.naga_scope.specs.declared.scope_faults.ScopeFault.{ScopeFault}
use Rattle.naga_scope.specs.declared.scope_faults.ScopeFault.TheVariants.{FirstValue, Operand}
use Rattle.naga_scope.specs.declared.scope_faults.ScopeFault.TheVariants.{BreakIf, EmittedOperand}
use Rattle.naga_scope.specs.declared.scope_faults.ScopeFault.TheVariants.{IntroducedBefore}
use Rattle.naga_scope.specs.declared.scope_faults.ScopeFault.TheVariants.{NeedsNoEmit}
use Rattle.shader_runs.specs.Program.{Statement, Block, If, Switch, Loop, Statements, end, then}
use Rattle.shader_runs.specs.Program.{Cases, no_case, case, Function, binds}
use Rattle.shader_runs.specs.ScopeRules.{Emitted, ScopeState, start_state, following, after_turn, WasIntroduced}
use Rattle.shader_runs.specs.ScopeFaults.{UsesAt, emitted_operand, IntroducesAt, emitted}
use Rattle.shader_runs.specs.ScopeFaults.{BreaksScope, out_of_scope, introduced_before}
use Rattle.shader_runs.specs.ScopeFaults.{not_emittable, IsCaseBody, this_case, later_case}
use Rattle.shader_runs.specs.ScopeFaults.{StandsIn, stands_first, later, in_block, in_accept}
use Rattle.shader_runs.specs.ScopeFaults.{in_reject, in_case, in_loop, in_continuing, HasScopeFault}
use Rattle.shader_runs.specs.ScopeFaults.{in_first_value, in_body}

-- ---- a statement
binds_operand : (f : Function) (at : ScopeState) (st : Statement) (there : ScopeState) (x h : ℕ) →
    IntroducesAt f at st there (Emitted x) →
    IsTrue (binds f x) → IsOperandOf f x h → UsesAt f at st there h
binds_operand f at st there x h (emitted i l) bound is = emitted_operand i is.0 l bound is.1

breaks_scope : (f : Function) (s : Standing) (n : ℕ) (e : ScopeFault) → BreaksWith f s n e →
    BreaksScope f s.at s.statement
breaks_scope f s n (FirstValue i h) x = elim x [ ]
breaks_scope f s n (Operand k h) x = let c = x.2 in out_of_scope c.0 h c.1 c.2
breaks_scope f s n (BreakIf k next h) x = let c = x.3 in out_of_scope c.0 h c.1 c.2
breaks_scope f s n (EmittedOperand k y h) x =
    let c = x.1 in out_of_scope c.0 h (binds_operand f s.at s.statement c.0 y h c.1 c.2 c.3) c.4
breaks_scope f s n (IntroducedBefore k h) x =
    let c = x.1 in introduced_before c.0 c.1 c.2 (subst (WasIntroduced f c.0) (sym c.3) c.4)
breaks_scope f s n (NeedsNoEmit k h) x = let c = x.1 in not_emittable c.0 h c.1 c.2

-- ---- a function
mutual
  stands_in : (f : Function) (at : ScopeState) (ss : Statements) (i : ℕ) (s : Standing) →
      slice_get (standing f at ss) i ≡ Some s →
      StandsIn f at ss s.at s.statement
  stands_in f at end i s is = absurd cc
  stands_in f at (then st ss) zero s is =
      subst (λ s. StandsIn f at (then st ss) s.at s.statement)
      (same_Some (record { at = at; statement = st }) s is) stands_first
  stands_in f at (then st ss) (suc i) s is =
      ⊎_elim (inside_in f at st ss i s) (λ p. later (stands_in f (following f st at) ss p.0 s p.2))
      (in_append (inside f at st) (standing f (following f st at) ss) i s is)

  inside_in : (f : Function) (at : ScopeState) (st : Statement) (ss : Statements) (i : ℕ) (s : Standing) →
      slice_get (inside f at st) i ≡ Some s → StandsIn f at (then st ss) s.at s.statement
  inside_in f at (Block b) ss i s is = in_block (stands_in f at b i s is)
  inside_in f at (If c a b) ss i s is =
      ⊎_elim (λ is. in_accept (stands_in f at a i s is)) (λ p. in_reject (stands_in f at b p.0 s p.2))
      (in_append (standing f at a) (standing f at b) i s is)
  inside_in f at (Switch h cs) ss i s is = let x = case_in f at cs i s is in in_case x.1 x.2
  inside_in f at (Loop b d e) ss i s is =
      ⊎_elim (λ is. in_loop (stands_in f at b i s is))
      (λ p. in_continuing (stands_in f (after_turn f b at) d p.0 s p.2))
      (in_append (standing f at b) (standing f (after_turn f b at) d) i s is)
  inside_in f at _ ss i s is = absurd cc

  case_in : (f : Function) (at : ScopeState) (cs : Cases) (i : ℕ) (s : Standing) →
      slice_get (case_standing f at cs) i ≡ Some s →
      (b : Statements) × IsCaseBody b cs × StandsIn f at b s.at s.statement
  case_in f at no_case i s is = absurd cc
  case_in f at (case l b falls cs) i s is =
      ⊎_elim (λ is. (b, this_case, stands_in f at b i s is))
      (λ p. let x = case_in f at cs p.0 s p.2 in (x.0, later_case x.1, x.2))
      (in_append (standing f at b) (case_standing f at cs) i s is)

in_the_body : (f : Function) (e : ScopeFault) →
    ((n : ℕ) × (s : Standing) × (slice_get (standing f start_state f.body) n ≡ Some s)
    × BreaksWith f s n e) →
    HasScopeFault f
in_the_body f e x =
    in_body x.1.at x.1.statement (stands_in f start_state f.body x.0 x.1 x.2) (breaks_scope f x.1 x.0 e x.3)

pub fault_breaks : (f : Function) (e : ScopeFault) → IsScopeFault f e → HasScopeFault f
fault_breaks f (FirstValue i h) x = in_first_value i h x.0 x.1
fault_breaks f (Operand k h) x = in_the_body f (Operand k h) x
fault_breaks f (BreakIf k next h) x = in_the_body f (BreakIf k next h) x
fault_breaks f (EmittedOperand k y h) x = in_the_body f (EmittedOperand k y h) x
fault_breaks f (IntroducedBefore k h) x = in_the_body f (IntroducedBefore k h) x
fault_breaks f (NeedsNoEmit k h) x = in_the_body f (NeedsNoEmit k h) x

-- a fault of a statement is one of the function
pub is_scope_fault : (f : Function) (n : ℕ) (s : Standing) → slice_get (standing f start_state f.body) n ≡ Some s →
    (e : ScopeFault) → BreaksWith f s n e → IsScopeFault f e
is_scope_fault f n s at (FirstValue i h) breaks = elim breaks [ ]
is_scope_fault f n s at (Operand k h) breaks = (n, s, at, breaks)
is_scope_fault f n s at (BreakIf k next h) breaks = (n, s, at, breaks)
is_scope_fault f n s at (EmittedOperand k y h) breaks = (n, s, at, breaks)
is_scope_fault f n s at (IntroducedBefore k h) breaks = (n, s, at, breaks)
is_scope_fault f n s at (NeedsNoEmit k h) breaks = (n, s, at, breaks)
