use Rattle.std.proofs.Common.{◌∙◌, ap}
use Rattle.std.specs.FinSet as set
use Rattle.naga_keywords.proofs.SetLemmas.{contains-texts_of}
use Rattle.naga_keywords.specs.declared.keywords.TheConstants.{RESERVED}
use Rattle.diagnostic_directives.specs.Names.{is_reserved}
use Rattle.diagnostic_directives.proofs.names.is_reserved.Goals as goal

pub returns : goal.returns
unfolding is_reserved
returns c =
    c.contains-2.ensures ∙ ap (λ words. set.contains words c.args.word.now) c.reserved_words.ensures
    ∙ contains-texts_of (λ word. word.now) RESERVED.now c.args.word.now
