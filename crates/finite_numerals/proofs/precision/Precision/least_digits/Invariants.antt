use Rattle.std.proofs.Common.{◌≡◌, ◌+◌, ◌-◌, ◌<◌, ◌≤◌, ◌^◌, ℕ}
use Rattle.finite_numerals.specs.Nearest.{denoted_by}
use Rattle.finite_numerals.specs.Search.{unsigned}
use Rattle.finite_numerals.proofs.precision.Precision.least_digits.Given as goal

abbrev pub invariant-loop-low : goal.invariant-loop-low
invariant-loop-low l = record {
  ordered : l.low ≤ l.high;
  few : l.high ≤ 2 ^ 61;
  reach : l.size ≤ denoted_by l.self (unsigned l.high l.exponent);
  least : (fewer : ℕ) → fewer + 1 ≡ l.low → denoted_by l.self (unsigned fewer l.exponent) < l.size;
}

-- proposed from the loop's first test
abbrev pub decreases-loop-low : goal.decreases-loop-low
decreases-loop-low l = l.high - l.low
