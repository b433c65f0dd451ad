use Rattle.std.proofs.Common.{◌≢◌, ℕ, suc, ◌<◌, get_or}
use Rattle.naga_acceptance.proofs.case_value_numbers.has_equal_neighbours.Given as goal

abbrev pub invariant-loop-index : goal.invariant-loop-index
invariant-loop-index l =
    (k : ℕ) → suc k < l.index → get_or l.numbers k 0 ≢ get_or l.numbers (suc k) 0
