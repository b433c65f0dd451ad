-- The names that front ends gave in a function, after labels that were named before.
-- Serves `write_by_plan` and `write_function`.
use Rattle.std.proofs.Common.{◌≡◌, ◌≤◌, ◌^◌, ◌∙◌, ◌++◌, ℕ, zero, suc, List, [], ◌∷◌, append-nil}
use Rattle.std.proofs.Common.{append_assoc, ap, get_or, refl, slice_get, subst, sym, take}
use Rattle.std.specs.Option.{option_map_or}
use Rattle.naga_ir.specs.declared.module.Module.{Module}
use Rattle.naga_naming.specs.Naming.{HasNamed, Names, labels_with_stem, name_after}
use Rattle.module_semantics.specs.ExpressionLabels.{name_of_label}
use Rattle.module_semantics.specs.Names.{labels_named_in, wgsl_names}
use Rattle.naga_scope.proofs.ExpressionNames.{counted_none_full}
use Rattle.naga_scope.specs.ExpressionNames.{HasOtherUses, names_following}
use Rattle.naga_wgsl_fns.specs.PlanRefusals.{ExpressionNamesAreFullIn}

-- ---- names in a list
-- the name with a number
name_at : (start : Names) (earlier labels : List (List ℕ)) (k : ℕ) →
    get_or (names_following start earlier labels) k [] ≡ name_of_label start earlier labels k
name_at start earlier [] k = refl
name_at start earlier (label ∷ labels) zero =
    ap (λ e. name_after start e label) (sym (append-nil earlier))
name_at start earlier (label ∷ labels) (suc k) =
    name_at start (earlier ++ label ∷ []) labels k
    ∙ ap (λ e. option_map_or (name_after start e) (slice_get labels k) [])
    (append_assoc earlier (label ∷ []) (take k labels))

-- uses are nothing to names
same_names : (m : Module) (new : Names) (earlier labels : List (List ℕ)) → HasOtherUses (wgsl_names m) new →
    (k : ℕ) → name_of_label new earlier labels k ≡ name_of_label (wgsl_names m) earlier labels k
same_names m new earlier labels words k = ap (λ n. name_of_label n earlier labels k) words

-- ---- counts
-- a namer with the words of WGSL counts its labels
pub few_named : (m : Module) (labels : List (List ℕ)) (namer : Names) →
    HasOtherUses (wgsl_names m) namer → HasNamed namer labels →
    (stem : List ℕ) → labels_with_stem (wgsl_names m) labels stem ≤ 2 ^ 32
few_named m labels namer words has stem =
    subst (λ n. n ≤ 2 ^ 32) (ap (λ n. labels_with_stem n labels stem) words) (has.few stem)

-- ---- the names of a function
module _ (m : Module) (handle : ℕ) (earlier : List (List ℕ)) where
  -- those that a namer gave after these labels
  pub named_are : (old : Names) → HasOtherUses (wgsl_names m) old → (names : List (List ℕ)) →
      names ≡ names_following old earlier (labels_named_in m handle) → (k : ℕ) →
      get_or names k [] ≡ name_of_label (wgsl_names m) earlier (labels_named_in m handle) k
  named_are old words names is k =
      ap (λ ls. get_or ls k []) is
      ∙ (name_at old earlier (labels_named_in m handle) k
      ∙ same_names m old earlier (labels_named_in m handle) words k)

  -- where it has named them all, none of them is full
  pub none_full : (namer : Names) → HasOtherUses (wgsl_names m) namer →
      HasNamed namer (earlier ++ labels_named_in m handle) →
      ExpressionNamesAreFullIn m earlier handle → ⊥
  none_full namer words has full =
      counted_none_full (wgsl_names m) earlier (labels_named_in m handle)
      (few_named m (earlier ++ labels_named_in m handle) namer words has) full
