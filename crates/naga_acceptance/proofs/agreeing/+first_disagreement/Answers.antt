use Rattle.std.proofs.Common.{ℕ, ◌+◌, ◌-◌, ◌/◌, ◌<◌, ◌≤◌, arith, subst, sym}
use Rattle.module_semantics.specs.acceptance.AgreeingOperators.{groups_of}
use Rattle.naga_acceptance.specs.Uses.{IsFirstDisagreement, is_in}
use Rattle.naga_acceptance.proofs.OperatorShares.{first_of_halves}
use Rattle.naga_acceptance.proofs.agreeing.+first_disagreement.Goals as goal

pub returns-in-Err : goal.returns-in-Err
returns-in-Err t c =
    let types = c.args.module.now.types
    in let gs = groups_of c.args.module.now c.args.info.now
    in let share = c.args.share
    in let middle : ℕ = share.first + (share.last - share.first) / 2
    in let halved : share.first < share.last = c.in-Err.ensures.crowded
    in let above : share.first ≤ middle = omega arith
    in let below : middle < share.last = omega (arith, halved)
    in subst (λ found. IsFirstDisagreement types gs (is_in share) found) (sym c.earlier.ensures)
    (first_of_halves share middle above below types gs c.first_disagreement-found.result c.first_disagreement.result
    c.first_disagreement-found.ensures c.first_disagreement.ensures)
