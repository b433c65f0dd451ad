-- Steps down a chain of filters, and what of it is in force.
--
-- Throughout, nodes are the filters of a module, last is the last of a chain among the first i + 1 of
-- them, and met are filters that stand after that chain.
use Rattle.std.proofs.Common.{◌≡◌, ◌||◌, ℕ, suc, Bool, true, false, List, [], ◌∷◌, ◌++◌, Option, Some, None}
use Rattle.std.proofs.Common.{append_assoc, arith, inl, inr, refl, subst, sym}
use Rattle.std.specs.Prelude.{Contains, if◌then◌else◌, slice_get}
use Rattle.std.specs.List.{list_any}
use Rattle.std.specs.Option.{option_and_then, option_map_or}
use Rattle.std.proofs.lemmas.List.Elements.{Contains-append_right}
use Rattle.std.proofs.lemmas.Option.{same_Some}
use Rattle.naga_ir.specs.declared.diagnostics.DiagnosticFilter.{DiagnosticFilter}
use Rattle.naga_ir.specs.declared.diagnostics.DiagnosticFilterNode.{DiagnosticFilterNode}
use Rattle.naga_words.specs.Diagnostics.{rule_name}
use Rattle.diagnostic_directives.specs.Filters.{AreApart, StandsBelow, chain_below, ends_at, filter_of, has_its_rule, in_force}
use Rattle.diagnostic_directives.specs.Filters.{is_of_rule, parent_of}
use Rattle.diagnostic_directives.specs.Filters.{unless_overruled}

module _ (nodes : List DiagnosticFilterNode) (i : ℕ) (last : Option ℕ) (met : List DiagnosticFilter) where
  -- the chain ends here: with its last filter behind it, that of the parent is left
  pub met_here : (node : DiagnosticFilterNode) → ends_at last i ≡ true → slice_get nodes i ≡ Some node →
      chain_below nodes (suc i) last ++ met ≡ chain_below nodes i node.parent ++ (node.inner ∷ met)
  met_here node here is = whole (ends_at last i) here (slice_get nodes i) is
    where
      whole : (b : Bool) → b ≡ true → (at : Option DiagnosticFilterNode) → at ≡ Some node →
          (chain_below nodes i (if b then option_and_then (λ node. node.parent) at else last)
          ++ (if b then option_map_or (λ node. node.inner ∷ []) at [] else [])) ++ met
          ≡ chain_below nodes i node.parent ++ (node.inner ∷ met)
      whole true ends (Some x) same = subst
          (λ y. (chain_below nodes i x.parent ++ (x.inner ∷ [])) ++ met
          ≡ chain_below nodes i y.parent ++ (y.inner ∷ met)) (same_Some x node same)
          (append_assoc (chain_below nodes i x.parent) (x.inner ∷ []) met)
      whole true ends None same = absurd (cc)
      whole false ends at same = absurd (cc)

  -- it does not: all of it stands further down
  pub passed : ends_at last i ≡ false → chain_below nodes (suc i) last ++ met ≡ chain_below nodes i last ++ met
  passed elsewhere = whole (ends_at last i) elsewhere
    where
      whole : (b : Bool) → b ≡ false →
          (chain_below nodes i (if b then parent_of nodes i else last)
          ++ (if b then filter_of nodes i else [])) ++ met ≡ chain_below nodes i last ++ met
      whole true ends = absurd (cc)
      whole false ends = append_assoc (chain_below nodes i last) [] met

-- the filter here is one of the chain that ends here
pub stands_here : (nodes : List DiagnosticFilterNode) (i : ℕ) (last : Option ℕ) → ends_at last i ≡ true →
    StandsBelow nodes (suc i) last i
stands_here nodes i last ends = inl (ends, refl)

in_longer : (b : Bool) (f : DiagnosticFilter) (fs : List DiagnosticFilter) (g : DiagnosticFilter) → Contains fs g →
    Contains (unless_overruled b f fs) g
in_longer true f fs g is = is
in_longer false f fs g is = Contains-append_right (f ∷ []) fs g is

-- what is in force of the end of a chain is in force of the whole
pub kept_in_force : (fs gs : List DiagnosticFilter) (g : DiagnosticFilter) → Contains (in_force gs) g →
    Contains (in_force (fs ++ gs)) g
kept_in_force [] gs g is = is
kept_in_force (f ∷ fs) gs g is =
    in_longer (has_its_rule (fs ++ gs) f) f (in_force (fs ++ gs)) g (kept_in_force fs gs g is)

-- ---- each rule has one

right_none : (a b : Bool) → (a || b) ≡ false → b ≡ false
right_none true b none = absurd (cc)
right_none false b none = none

either_none : (a b c : Bool) → (a || b) ≡ false → c ≡ false → (a || c) ≡ false
either_none true b c none rest = none
either_none false b c none rest = rest

-- of what no filter of a chain is, none in force is
none_in_force : (P : DiagnosticFilter → Bool) (fs : List DiagnosticFilter) → list_any P fs ≡ false →
    list_any P (in_force fs) ≡ false
none_in_force P [] none = none
none_in_force P (f ∷ fs) none =
    longer (has_its_rule fs f) (none_in_force P fs (right_none (P f) (list_any P fs) none))
  where
    longer : (b : Bool) → list_any P (in_force fs) ≡ false → list_any P (unless_overruled b f (in_force fs)) ≡ false
    longer true rest = rest
    longer false rest = either_none (P f) (list_any P fs) (list_any P (in_force fs)) none rest

pub apart : (fs : List DiagnosticFilter) → AreApart (in_force fs)
apart [] = tt
apart (f ∷ fs) = longer (has_its_rule fs f) refl (apart fs)
  where
    longer : (b : Bool) → has_its_rule fs f ≡ b → AreApart (in_force fs) →
        AreApart (unless_overruled b f (in_force fs))
    longer true is rest = rest
    longer false is rest = (none_in_force (is_of_rule (rule_name f.triggering_rule)) fs is, rest)

-- a filter whose rule no later one has is in force
pub is_in_force : (f : DiagnosticFilter) (fs : List DiagnosticFilter) → has_its_rule fs f ≡ false →
    Contains (in_force (f ∷ fs)) f
is_in_force f fs last = subst (λ b. Contains (unless_overruled b f (in_force fs)) f) (sym last)
    (0, omega arith, refl)
