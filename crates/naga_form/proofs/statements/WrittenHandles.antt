-- Handles that are written: what a statement writes by itself, and the operands of what is written.
use Rattle.std.proofs.Common.{◌≡◌, ℕ, zero, suc, Bool, List, [], ◌∷◌, ◌++◌, Some, refl, sym}
use Rattle.std.proofs.Common.{arith, subst}
use Rattle.std.proofs.lemmas.Option.{same_Some}
use Rattle.std.specs.Prelude.{slice_get}
use Rattle.std.specs.List.{AllByRecursion, IsAmong, flat_map}
use Rattle.std.specs.Option.{option_to_list}
use Rattle.module_semantics.specs.FunctionShapes.{function_shape}
use Rattle.module_semantics.specs.Written.{IsWrittenIn, OperandOf, Start, block_handles}
use Rattle.naga_info.specs.declared.info.ExpressionInfo.{ExpressionInfo}
use Rattle.naga_info.specs.declared.info.ModuleInfo.{ModuleInfo}
use Rattle.naga_ir.specs.declared.module.Module.{Module}
use Rattle.shader_runs.specs.Program.{binds}
use Rattle.naga_ir.specs.Operands.{expression_operands}
use Rattle.naga_ir.specs.declared.expression.Expression as ir
use Rattle.naga_ir.specs.declared.module.Function as ir_function
use Rattle.naga_ir.specs.declared.module.LocalVariable.{LocalVariable}

-- handles among which are those that a function writes itself, and with each its operands
pub record AreClosed (W : ℕ → Type 0) (binds : ℕ → Bool) (f : ir_function.Function) : Type 0 where
  pub operands : (h : ℕ) (e : ir.Expression) → slice_get f.expressions h ≡ Some e → W h →
      AllByRecursion W (expression_operands e)
  pub firsts : (l : ℕ) (v : LocalVariable) → slice_get f.local_variables l ≡ Some v →
      AllByRecursion W (option_to_list v.init)
  pub body : AllByRecursion W (block_handles binds f.body)

-- ---- lists
pub all_map : {X : Type 0} {P Q : X → Type 0} → ((x : X) → P x → Q x) → (xs : List X) →
    AllByRecursion P xs → AllByRecursion Q xs
all_map f [] all = tt
all_map f (x ∷ xs) all = (f x all.0, all_map f xs all.1)

pub all_front : {X : Type 0} (P : X → Type 0) (xs ys : List X) → AllByRecursion P (xs ++ ys) →
    AllByRecursion P xs
all_front P [] ys all = tt
all_front P (x ∷ xs) ys all = (all.0, all_front P xs ys all.1)

pub all_rest : {X : Type 0} (P : X → Type 0) (xs ys : List X) → AllByRecursion P (xs ++ ys) →
    AllByRecursion P ys
all_rest P [] ys all = all
all_rest P (x ∷ xs) ys all = all_rest P xs ys all.1

pub all_among : {X : Type 0} {P : X → Type 0} (xs : List X) → ((x : X) → IsAmong xs x → P x) →
    AllByRecursion P xs
all_among [] f = tt
all_among (x ∷ xs) f =
    (f x (0, (omega arith, refl)), all_among xs (λ y is. f y (suc is.0, (omega (arith, is.1.0), is.1.1))))

among_front : {X : Type 0} (xs ys : List X) (x : X) → IsAmong xs x → IsAmong (xs ++ ys) x
among_front [] ys x is = absurd (omega (arith, is.1.0))
among_front (y ∷ xs) ys x (zero, is) = (0, (omega arith, is.1))
among_front (y ∷ xs) ys x (suc i, is) =
    let more = among_front xs ys x (i, (omega (arith, is.0), is.1)) in
    (suc more.0, (omega (arith, more.1.0), more.1.1))

among_rest : {X : Type 0} (xs ys : List X) (x : X) → IsAmong ys x → IsAmong (xs ++ ys) x
among_rest [] ys x is = is
among_rest (y ∷ xs) ys x is =
    let more = among_rest xs ys x is in (suc more.0, (omega (arith, more.1.0), more.1.1))

among_each : {X Y : Type 0} (f : X → List Y) (xs : List X) (i : ℕ) (x : X) (y : Y) →
    slice_get xs i ≡ Some x → IsAmong (f x) y → IsAmong (flat_map f xs) y
among_each f [] i x y at is = absurd cc
among_each f (z ∷ xs) zero x y at is =
    among_front (f z) (flat_map f xs) y (subst (λ z. IsAmong (f z) y) (sym (same_Some z x at)) is)
among_each f (z ∷ xs) (suc i) x y at is =
    among_rest (f z) (flat_map f xs) y (among_each f xs i x y at is)

-- the handles that are written in a function are such
module _ (m : Module) (info : ModuleInfo) (f : ir_function.Function) (es : List ExpressionInfo) where
  abbrev bound : ℕ → Bool
  bound = binds (function_shape m info f es)

  pub written_are_closed : AreClosed (IsWrittenIn m info f es) bound f
  written_are_closed = record {
    operands = λ h e at w. all_among (expression_operands e) (λ x is. OperandOf h x e w at is);
    firsts = λ l v at. all_among (option_to_list v.init)
        (λ x is. Start x
        (among_front _ (block_handles bound f.body) x
        (among_each (λ (v : LocalVariable). option_to_list v.init) f.local_variables l v x at is)));
    body = all_among (block_handles bound f.body)
        (λ x is. Start x (among_rest (flat_map (λ l. option_to_list l.init) f.local_variables) _ x is));
  }
