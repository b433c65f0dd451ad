use Rattle.std.proofs.Common.{ap}
use Rattle.std.specs.Cmp.{on_equiv}
use Rattle.std.specs.Cmp.Lexicographic.{bytes_decides, nat_list_eq_equiv}
use Rattle.std.specs.Hash as fed
use Rattle.std.specs.List.{flat_map}
use Rattle.naga_keywords.specs.Words.{in_lower_case}
use Rattle.naga_naming.proofs.laws.caseless_texts_are_compared.Goals as goal

pub returns-clause-equality : goal.returns-clause-equality
returns-clause-equality c = on_equiv in_lower_case nat_list_eq_equiv

pub returns-clause-hash : goal.returns-clause-hash
returns-clause-hash c =
    record { fed = λ a b same. ap (flat_map fed.u8) ((bytes_decides (in_lower_case a) (in_lower_case b)).0 same) }
