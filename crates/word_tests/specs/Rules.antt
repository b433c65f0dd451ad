-- What a rule names.
use Rattle.std.specs.Prelude.{ℕ, ◌≤◌, length}
use Rattle.naga_info.specs.declared.rules.Rule.{Rule}
use Rattle.naga_words.specs.Rules.{AllFit, FitsConclusion}
use Rattle.naga_spelling.specs.Spelling.{Context}

-- What the rule names is known to each context that has so many types.
abbrev pub FitsAmong : ℕ → Rule → Type 0
FitsAmong types rule =
    (c : Context) → types ≤ length c.types →
    AllFit c rule.arguments.items × FitsConclusion c rule.conclusion
