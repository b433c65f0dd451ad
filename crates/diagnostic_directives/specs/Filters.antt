-- Which filters of diagnostics hold in a module.
--
-- Throughout, m is a module, nodes are all of its filters with their parents, f and g are filters
-- (fs are several of a chain, the outermost first), h is the handle of one, and last is the last filter
-- of a chain, if it has one.
use Rattle.std.specs.Prelude.{◌≡◌, ⊤, ℕ, zero, suc, Bool, true, false, List, [], ◌∷◌, ◌++◌, Option}
use Rattle.std.specs.Prelude.{if◌then◌else◌, ◌==◌, ◌⊎◌, IsTrue, length, slice_get}
use Rattle.std.specs.List.{list_any}
use Rattle.std.specs.Option.{option_and_then, option_map_or}
use Rattle.std.specs.Str.{bytes_eq}
use Rattle.naga_ir.specs.declared.diagnostics.DiagnosticFilter.{DiagnosticFilter}
use Rattle.naga_ir.specs.declared.diagnostics.DiagnosticFilterNode.{DiagnosticFilterNode}
use Rattle.naga_ir.specs.declared.module.Module.{Module}
use Rattle.naga_words.specs.Diagnostics.{rule_name}

-- ---- chains

-- is this the last one?
abbrev pub ends_at : (last : Option ℕ) → (n : ℕ) → Bool
ends_at last n = option_map_or (λ h. h == n) last false

abbrev pub parent_of : List DiagnosticFilterNode → (n : ℕ) → Option ℕ
parent_of nodes n = option_and_then (λ node. node.parent) (slice_get nodes n)

abbrev pub filter_of : List DiagnosticFilterNode → (n : ℕ) → List DiagnosticFilter
filter_of nodes n = option_map_or (λ node. node.inner ∷ []) (slice_get nodes n) []

-- The filters of a chain among the first n nodes, the outermost first. It ends at its last filter, in
-- front of which stands the chain of that one's parent. Parents stand before their nodes; of one that
-- does not there is nothing, so that the chain begins there. So every chain ends, in any module.
abbrev pub chain_below : List DiagnosticFilterNode → (n : ℕ) → (last : Option ℕ) →
    List DiagnosticFilter
chain_below nodes zero last = []
chain_below nodes (suc n) last =
    chain_below nodes n (if ends_at last n then parent_of nodes n else last)
    ++ (if ends_at last n then filter_of nodes n else [])

-- the filter of this handle is one of such a chain
abbrev pub StandsBelow : List DiagnosticFilterNode → (n : ℕ) → (last : Option ℕ) → (h : ℕ) → Type 0
StandsBelow nodes zero last h = ⊥
StandsBelow nodes (suc n) last h =
    (IsTrue (ends_at last n) × (h ≡ n))
    ⊎ StandsBelow nodes n (if ends_at last n then parent_of nodes n else last) h

-- the filters that hold in a module: its leaf, the parent of that, and so on, the last one first
abbrev pub module_chain : Module → List DiagnosticFilter
module_chain m =
    chain_below m.diagnostic_filters (length m.diagnostic_filters) m.diagnostic_filter_leaf

-- the filter of this handle is one of them
abbrev pub StandsOnChain : Module → (h : ℕ) → Type 0
StandsOnChain m h =
    StandsBelow m.diagnostic_filters (length m.diagnostic_filters) m.diagnostic_filter_leaf h

-- ---- one filter of a rule

-- the filter has a rule of this name
abbrev pub is_of_rule : (name : List ℕ) → DiagnosticFilter → Bool
is_of_rule name f = bytes_eq (rule_name f.triggering_rule) name

-- some of the filters has the rule of this one
abbrev pub has_its_rule : List DiagnosticFilter → DiagnosticFilter → Bool
has_its_rule fs f = list_any (is_of_rule (rule_name f.triggering_rule)) fs

abbrev pub unless_overruled : (is_overruled : Bool) → DiagnosticFilter → List DiagnosticFilter →
    List DiagnosticFilter
unless_overruled true f fs = fs
unless_overruled false f fs = f ∷ fs

-- Those of a chain that no later one overrules. So each rule has the one that is nearest to the leaf.
abbrev pub in_force : List DiagnosticFilter → List DiagnosticFilter
in_force [] = []
in_force (f ∷ fs) = unless_overruled (has_its_rule fs f) f (in_force fs)

-- no later one has the rule of an earlier one
abbrev pub AreApart : List DiagnosticFilter → Type 0
AreApart [] = ⊤
AreApart (f ∷ fs) = (has_its_rule fs f ≡ false) × AreApart fs

abbrev pub filters_in_force : Module → List DiagnosticFilter
filters_in_force m = in_force (module_chain m)
