use Rattle.std.proofs.Common.{◌∙◌}
use Rattle.naga_keywords.specs.Words.{same_words}
use Rattle.naga_keywords.proofs.SetLemmas.{same_words_decides}
use Rattle.naga_keywords.proofs.keyword_set.CaseInsensitiveKeywordSetPartialEq.eq.Goals as goal

pub returns-clause-same : goal.returns-clause-same
returns-clause-same c =
    same_words_decides c.args.self.now c.args.other.now c.has_words_of.result
    (c.has_words_of.ensures ∙ (λ i. same_words (c.self.view_is i) (c.other.view_is i)))
