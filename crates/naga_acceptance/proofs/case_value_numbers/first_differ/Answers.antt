use Rattle.std.proofs.Common.{subst}
use Rattle.std.specs.List.Sorted.{IsPermutation}
use Rattle.std.proofs.lemmas.List.Sorted.{IsNonDecreasingBy-from_sort}
use Rattle.naga_acceptance.proofs.CaseValueNumbers.{common_decided, twice_decided}
use Rattle.naga_acceptance.proofs.case_value_numbers.first_differ.Goals as goal

pub has_common-requires : goal.has_common-requires
has_common-requires c =
    IsNonDecreasingBy-from_sort (λ n. n) c.sort_unstable.new.self c.sort_unstable.ensures.sorted

pub returns-then-not-has_equal_neighbours : goal.returns-then-not-has_equal_neighbours
returns-then-not-has_equal_neighbours c =
    let sorted = c.sort_unstable.new.self in
    let moved = subst (λ ms. IsPermutation ms sorted) c.numbers_of-table.ensures.numbers
    c.sort_unstable.ensures.permutation
    in common_decided c.args.first.now c.args.following.now sorted c.has_common.result moved
    (IsNonDecreasingBy-from_sort (λ n. n) sorted c.sort_unstable.ensures.sorted)
    c.if-not-has_equal_neighbours.ensures c.has_common.ensures

pub returns-else-not-has_equal_neighbours : goal.returns-else-not-has_equal_neighbours
returns-else-not-has_equal_neighbours c =
    let sorted = c.sort_unstable.new.self in
    let moved = subst (λ ms. IsPermutation ms sorted) c.numbers_of-table.ensures.numbers
    c.sort_unstable.ensures.permutation
    in twice_decided c.args.first.now c.args.following.now sorted c.has_equal_neighbours.result moved
    c.if-not-has_equal_neighbours.false c.if-not-has_equal_neighbours.ensures
