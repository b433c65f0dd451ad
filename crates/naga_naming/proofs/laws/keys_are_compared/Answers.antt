use Rattle.naga_naming.specs.contracts.key.NameKeyHash.TheImpl.Laws.{respects_eq-law}
use Rattle.naga_naming.proofs.Keys.{same_key_laws}
use Rattle.naga_naming.proofs.laws.keys_are_compared.Goals as goal

pub returns-clause-equality : goal.returns-clause-equality
returns-clause-equality c = same_key_laws

pub returns-clause-hash : goal.returns-clause-hash
returns-clause-hash c = record { fed = respects_eq-law }
