-- The directives of a module, which stand in front of its text.
--
-- Throughout, m is a module, and f a filter (fs are several).
use Rattle.std.specs.Prelude.{◌≡◌, ⊤, ℕ, ◌<◌, false, All, IsTrue, List, [], ◌∷◌, ◌++◌, Some}
use Rattle.std.specs.Prelude.{Contains, codes, slice_get}
use Rattle.std.specs.List.{flat_map}
use Rattle.naga_ir.specs.declared.diagnostics.DiagnosticFilter.{DiagnosticFilter}
use Rattle.naga_ir.specs.declared.diagnostics.DiagnosticFilterNode.{DiagnosticFilterNode}
use Rattle.naga_ir.specs.declared.module.Module.{Module}
use Rattle.naga_spelling.specs.Sink.{IsAfter}
use Rattle.naga_words.specs.Diagnostics.{rule_name, severity_word}
use Rattle.naga_words.specs.declared.sink.SinkError.TheVariants as sink
use Rattle.diagnostic_directives.specs.Filters.{StandsOnChain, filters_in_force}
use Rattle.diagnostic_directives.specs.Names.{has_name}
use Rattle.diagnostic_directives.specs.declared.error.DirectiveError.{DirectiveError}
use Rattle.diagnostic_directives.specs.declared.error.DirectiveError.TheVariants.{RuleName, Sink}

-- `diagnostic(off, derivative_uniformity);`, as a line
abbrev pub directive : DiagnosticFilter → List ℕ
directive f =
    codes "diagnostic(" ++ (severity_word f.new_severity ++ (codes ", "
    ++ (rule_name f.triggering_rule ++ codes ");\n")))

-- an empty line after lines, if there are any
abbrev pub with_empty_line : List ℕ → List ℕ
with_empty_line [] = []
with_empty_line (b ∷ bytes) = (b ∷ bytes) ++ codes "\n"

-- those of the filters that are in force, the outermost first, and an empty line; nothing where there
-- is no filter
abbrev pub module_directives : Module → List ℕ
module_directives m = with_empty_line (flat_map directive (filters_in_force m))

-- each of these directives has a name for its rule
abbrev pub HaveNames : List DiagnosticFilter → Type 0
HaveNames fs = All (λ f. IsTrue (has_name f.triggering_rule)) fs

-- The filter of this handle stands on the chain of the module, it or one like it is in force, and its
-- rule has no name.
abbrev pub LacksName : Module → ℕ → Type 0
LacksName m h =
    (node : DiagnosticFilterNode) × (slice_get m.diagnostic_filters h ≡ Some node)
    × StandsOnChain m h × Contains (filters_in_force m) node.inner
    × (has_name node.inner.triggering_rule ≡ false)

-- why a module has no directives: a rule has no name, or memory was wanting
abbrev pub HasNoDirectives : Module → DirectiveError → Type 0
HasNoDirectives m (RuleName h) = LacksName m h
HasNoDirectives m (Sink sink.Failed) = ⊥
HasNoDirectives m (Sink (sink.Memory error)) = ⊤

-- Why they were not written, and what the sink holds, which held content before and has failed so
-- often before and after: it is as it was where a rule has no name, and else has a beginning of them.
abbrev pub Unwritten : Module → (content now : List ℕ) → (before after : ℕ) → DirectiveError →
    Type 0
Unwritten m content now before after (RuleName h) =
    LacksName m h × (now ≡ content) × (after ≡ before)
Unwritten m content now before after (Sink sink.Failed) =
    IsAfter content (module_directives m) now × (before < after)
Unwritten m content now before after (Sink (sink.Memory error)) =
    IsAfter content (module_directives m) now
