use Rattle.std.proofs.Common.{◌≡◌, suc, ◌-◌, get_or, ap, sym, ◌∙◌, arith}
use Rattle.naga_acceptance.proofs.CaseValueNumbers.{found_twice}
use Rattle.naga_acceptance.proofs.case_value_numbers.has_equal_neighbours.Goals as goal

pub returns-then-numbers-index : goal.returns-then-numbers-index
returns-then-numbers-index c =
    let ns = c.args.numbers.now in
    let k = c.loop-index.index - 1 in
    let next : suc k ≡ c.loop-index.index = omega arith in
    let same = c.if-numbers-index.true ∙ ap (λ i. get_or ns i 0) (sym next)
    in (get_or ns k 0, found_twice ns k (omega (arith, next)) same)
