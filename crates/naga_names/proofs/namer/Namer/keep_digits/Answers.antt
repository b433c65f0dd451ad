use Rattle.std.proofs.Common.{List, ℕ, true, sym, subst}
use Rattle.naga_naming.specs.Naming.{Names, HasNamed}
use Rattle.naga_names.proofs.namer.Namer.keep_digits.Goals as goal

-- the names so far stand
named_before : (names : Names) (earlier : List (List ℕ)) → HasNamed names earlier →
    HasNamed (record names { keeps_digits = true }) earlier
named_before names earlier has = record { uses_are = has.uses_are; few = has.few }

pub returns-clause-history : goal.returns-clause-history
returns-clause-history c = λ earlier has.
    subst (λ names. HasNamed (record names { keeps_digits = true }) earlier) (sym c.self.view_is)
    (named_before c.args.self.now earlier has)
