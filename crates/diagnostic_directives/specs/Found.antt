-- What was found of a module's chain of filters, from its leaf on.
--
-- Throughout, fs and met are the filters that were met, the outermost first, nodes are all filters of a
-- module with their parents, last is the last filter of a chain, if it has one, and here is the handle
-- of the filter f.
use Rattle.std.specs.Prelude.{◌≡◌, ⊤, ℕ, suc, false, List, [], ◌∷◌, ◌++◌, Option, Some, Contains}
use Rattle.std.specs.Prelude.{slice_get, string_bytes}
use Rattle.std.specs.BTreeSet.{contains_text}
use Rattle.std.specs.List.{flat_map, list_any}
use Rattle.std.specs.declared.string.String.{String}
use Rattle.naga_ir.specs.declared.diagnostics.DiagnosticFilter.{DiagnosticFilter}
use Rattle.naga_ir.specs.declared.diagnostics.DiagnosticFilterNode.{DiagnosticFilterNode}
use Rattle.naga_words.specs.Diagnostics.{rule_name}
use Rattle.naga_words.specs.declared.sink.SinkError.TheVariants as sink
use Rattle.diagnostic_directives.specs.Directives.{HaveNames, directive}
use Rattle.diagnostic_directives.specs.Filters.{StandsBelow, chain_below, in_force, is_of_rule}
use Rattle.diagnostic_directives.specs.Names.{has_name}
use Rattle.diagnostic_directives.specs.declared.error.DirectiveError.{DirectiveError}
use Rattle.diagnostic_directives.specs.declared.error.DirectiveError.TheVariants.{RuleName, Sink}
use Rattle.diagnostic_directives.specs.declared.found.Found.{Found}

-- texts after one another, of which the first one comes last
abbrev pub joined_backwards : {Y : Type 0} → List (String Y) → List ℕ
joined_backwards [] = []
joined_backwards (text ∷ texts) = joined_backwards texts ++ string_bytes text

-- the directives of those of the filters that are in force are kept, each of which has a name, and the
-- names of all rules
pub record Tells (fs : List DiagnosticFilter) (found : Found) : Type 0 where
  pub lines : joined_backwards found.lines.items ≡ flat_map directive (in_force fs)
  pub rules : (name : List ℕ) → contains_text found.rules name ≡ list_any (is_of_rule name) fs
  pub named : HaveNames (in_force fs)

-- With the filters met that stand after the chain up to `last` among those up to here, one step was
-- taken: these are met now, and the chain that is left ends below.
pub record Steps (nodes : List DiagnosticFilterNode) (here : ℕ) (last below : Option ℕ)
    (met : List DiagnosticFilter) (found : Found) : Type 0 where
  pub now : List DiagnosticFilter
  pub whole : chain_below nodes here below ++ now ≡ chain_below nodes (suc here) last ++ met
  pub stands : (h : ℕ) → StandsBelow nodes here below h → StandsBelow nodes (suc here) last h
  pub tells : Tells now found

-- why it was not taken: a filter of the chain, like one in force, has a rule without a name; or memory
-- was wanting
abbrev pub NoStep : List DiagnosticFilterNode → (here : ℕ) → (last : Option ℕ) →
    (met : List DiagnosticFilter) → DirectiveError → Type 0
NoStep nodes here last met (RuleName h) =
    (node : DiagnosticFilterNode) × (slice_get nodes h ≡ Some node)
    × StandsBelow nodes (suc here) last h
    × Contains (in_force (chain_below nodes (suc here) last ++ met)) node.inner
    × (has_name node.inner.triggering_rule ≡ false)
NoStep nodes here last met (Sink sink.Failed) = ⊥
NoStep nodes here last met (Sink (sink.Memory error)) = ⊤

-- memory was wanting
abbrev pub IsWant : DirectiveError → Type 0
IsWant (RuleName h) = ⊥
IsWant (Sink sink.Failed) = ⊥
IsWant (Sink (sink.Memory error)) = ⊤

-- why the filter was not added: no filter of its rule was met, and the rule has no name; or memory was
-- wanting
abbrev pub NotAdded : Found → (here : ℕ) → DiagnosticFilter → DirectiveError → Type 0
NotAdded found here f (RuleName h) =
    (h ≡ here) × (contains_text found.rules (rule_name f.triggering_rule) ≡ false)
    × (has_name f.triggering_rule ≡ false)
NotAdded found here f (Sink sink.Failed) = ⊥
NotAdded found here f (Sink (sink.Memory error)) = ⊤
