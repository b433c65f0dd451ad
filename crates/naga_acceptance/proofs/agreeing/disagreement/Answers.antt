use Rattle.std.proofs.Common.{◌-◌, refl}
use Rattle.module_semantics.specs.acceptance.AgreeingOperators.{groups_of}
use Rattle.naga_acceptance.specs.declared.agreeing.Share.{Share}
use Rattle.naga_acceptance.specs.declared.agreeing.TheConstants.{REMAINDERS}
use Rattle.naga_acceptance.proofs.OperatorShares.{agree_before, all_in, all_or_first}
use Rattle.naga_acceptance.proofs.agreeing.disagreement.Goals as goal

pub returns-clause-agree : goal.returns-clause-agree
returns-clause-agree c =
    let m = c.args.module.now
    in let share : Share = record { first = 0; last = REMAINDERS - 1 }
    in all_or_first m.types (groups_of m c.args.info.now) share (all_in share refl refl) c.first_disagreement.result
    c.first_disagreement.ensures

pub returns-clause-fault : goal.returns-clause-fault
returns-clause-fault c =
    let m = c.args.module.now
    in let share : Share = record { first = 0; last = REMAINDERS - 1 }
    in agree_before m.types (groups_of m c.args.info.now) share (all_in share refl refl) c.first_disagreement.result
    c.first_disagreement.ensures
