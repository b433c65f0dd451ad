use Rattle.std.proofs.Common.{map, refl}
use Rattle.naga_keywords.specs.declared.keywords.TheConstants.{RESERVED, BUILTIN_IDENTIFIERS}
use Rattle.naga_naming.proofs.NameShapes.{plain_ends}
use Rattle.naga_keywords.proofs.Plains.{words_are}
use Rattle.naga_naming.proofs.laws.words_of_wgsl_have_plain_ends.Goals as goal

pub returns-clause-reserved : goal.returns-clause-reserved
returns-clause-reserved c = plain_ends (map (λ word. word.now) RESERVED.now)
    (words_are (map (λ word. word.now) RESERVED.now) refl)

pub returns-clause-builtin : goal.returns-clause-builtin
returns-clause-builtin c = plain_ends (map (λ word. word.now) BUILTIN_IDENTIFIERS.now)
    (words_are (map (λ word. word.now) BUILTIN_IDENTIFIERS.now) refl)
