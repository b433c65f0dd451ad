use Rattle.std.proofs.Common.{map, refl}
use Rattle.naga_keywords.specs.declared.keywords.TheConstants.{RESERVED, BUILTIN_IDENTIFIERS}
use Rattle.naga_keywords.proofs.Plains.{words_are}
use Rattle.naga_keywords.proofs.keywords.words_are_plain.Goals as goal

pub returns-clause-reserved : goal.returns-clause-reserved
returns-clause-reserved c = words_are (map (λ word. word.now) RESERVED.now) refl

pub returns-clause-builtin : goal.returns-clause-builtin
returns-clause-builtin c = words_are (map (λ word. word.now) BUILTIN_IDENTIFIERS.now) refl
