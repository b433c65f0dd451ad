-- A module's own expression is written by another where it names constants without names.
-- Serves `global`.
--
-- Throughout, m is a module, representatives tell by which each of its own expressions is written, h is one of
-- these, and e what stands there.
use Rattle.std.proofs.Common.{◌≡◌, ◌≤◌, ◌<◌, ℕ, zero, suc, Bool, true, false, List, Option, Some}
use Rattle.std.proofs.Common.{None, refl, sym, ◌∙◌, arith, slice_get, subst}
use Rattle.std.specs.Prelude.{if◌then◌else◌}
use Rattle.std.specs.Option.{is_some, option_and_then, option_map_or}
use Rattle.module_semantics.specs.ExpressionForms.{global_has_form, global_has_form_over}
use Rattle.module_semantics.specs.ExpressionForms.{global_has_form_within}
use Rattle.naga_ir.specs.declared.expression.Expression.{Expression}
use Rattle.naga_ir.specs.declared.expression.Expression.TheVariants as expression
use Rattle.naga_ir.specs.declared.module.Constant.{Constant}
use Rattle.naga_ir.specs.declared.module.Module.{Module}
use Rattle.naga_tables.specs.Tables.{AreRepresentatives, representative_at, representative_over}
use Rattle.naga_wgsl_shared.proofs.ConstantRows.{constant_passes, constant_row, in_order}
use Rattle.naga_wgsl_shared.proofs.ConstantRows.{initialiser_has_form, unnamed_constant}
use Rattle.naga_wgsl_shared.specs.Constants.{global_text}
use Rattle.naga_wgsl_shared.specs.ModuleText.{CanWriteOf}

-- what one is written by has its text, is written as it is, and does not stand after it
pub record IsRepresentative (m : Module) (h representative : ℕ) : Type 0 where
  pub text : global_text m representative ≡ global_text m h
  pub has_form : global_has_form m representative ≡ true
  pub before : representative ≤ h

module _ (m : Module) (can : CanWriteOf m) (representatives : List ℕ) (are : AreRepresentatives m representatives) where
  itself : (h : ℕ) → global_has_form m h ≡ true → IsRepresentative m h h
  itself h is = record { text = refl; has_form = is; before = omega arith }

  -- by the initialiser of the constant that it names
  of_initialiser : (h c : ℕ) (k : Constant) →
      slice_get m.global_expressions h ≡ Some (expression.Constant c) →
      slice_get m.constants c ≡ Some k → is_some k.name ≡ false → global_has_form m h ≡ true →
      (representative : ℕ) → IsRepresentative m k.init representative → IsRepresentative m h representative
  of_initialiser h c k at there unnamed is representative of =
      let before = (in_order m can).initialisers h c k at there in
      record {
        text =
            of.text
            ∙ (unnamed_constant m c k there unnamed
            ∙ constant_row m can h (expression.Constant c) c at refl);
        has_form = of.has_form;
        before = omega (arith, before, of.before);
      }

  -- the initialiser of a constant without a name is written where the constant is
  formed_initialiser : (h c : ℕ) (k : Constant) →
      slice_get m.global_expressions h ≡ Some (expression.Constant c) →
      slice_get m.constants c ≡ Some k → is_some k.name ≡ false → global_has_form m h ≡ true →
      global_has_form m k.init ≡ true
  formed_initialiser h c k at there unnamed is =
      let order = in_order m can in
      initialiser_has_form m order c (constant_passes m order h (expression.Constant c) c at refl is) k
      there unnamed

  -- so it is for one by those before it
  over_those : (h : ℕ) (e : Expression) → slice_get m.global_expressions h ≡ Some e →
      global_has_form m h ≡ true →
      ((x : ℕ) → x < h → global_has_form m x ≡ true → IsRepresentative m x (representative_at representatives x)) →
      IsRepresentative m h (representative_over m (representative_at representatives) h e)
  over_those h (expression.Constant c) at is earlier = by (slice_get m.constants c) refl
    where
      named : (k : Constant) → slice_get m.constants c ≡ Some k → (b : Bool) →
          is_some k.name ≡ b →
          IsRepresentative m h (option_map_or (representative_at representatives) (if b then None else Some k.init) h)
      named k there true is_named = itself h is
      named k there false unnamed =
          of_initialiser h c k at there unnamed is (representative_at representatives k.init)
          (earlier k.init ((in_order m can).initialisers h c k at there)
          (formed_initialiser h c k at there unnamed is))

      by : (o : Option Constant) → slice_get m.constants c ≡ o →
          IsRepresentative m h
          (option_map_or (representative_at representatives)
          (option_and_then (λ k. if is_some k.name then None else Some k.init) o) h)
      by None there = itself h is
      by (Some k) there = named k there (is_some k.name) refl
  over_those h _ at is earlier = itself h is

  below : (bound h : ℕ) → h < bound → global_has_form m h ≡ true →
      IsRepresentative m h (representative_at representatives h)
  below zero h lt is = absurd (omega (arith, lt))
  below (suc bound) h lt is = by (slice_get m.global_expressions h) refl is (below bound)
    where
      by : (o : Option Expression) → slice_get m.global_expressions h ≡ o →
          option_map_or (global_has_form_over m (global_has_form_within h m)) o false ≡ true →
          ((x : ℕ) → x < bound → global_has_form m x ≡ true →
          IsRepresentative m x (representative_at representatives x)) →
          IsRepresentative m h (representative_at representatives h)
      by None at is_over earlier = absurd cc
      by (Some e) at is_over earlier =
          subst (IsRepresentative m h) (sym (are h e at))
          (over_those h e at is (λ x lt_x. earlier x (omega (arith, lt, lt_x))))

  -- what the table tells of one
  pub representative_is : (h : ℕ) → global_has_form m h ≡ true →
      IsRepresentative m h (representative_at representatives h)
  representative_is h is = below (suc h) h (omega arith) is
