use Rattle.std.proofs.Common.{refl}
use Rattle.naga_keywords.proofs.Rearranged.{rearranged}
use Rattle.naga_keywords.proofs.by_bytes.tables_are_rearranged.Goals as goal

pub returns-clause-reserved : goal.returns-clause-reserved
returns-clause-reserved c = rearranged _ _ refl

pub returns-clause-builtin : goal.returns-clause-builtin
returns-clause-builtin c = rearranged _ _ refl
