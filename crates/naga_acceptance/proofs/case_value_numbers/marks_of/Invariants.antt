use Rattle.std.proofs.Common.{◌≡◌, ℕ, ◌<◌, ◌%◌, length, true, false, slice_index, slice_index_or}
use Rattle.naga_acceptance.specs.declared.case_value_numbers.TheConstants.{CELLS}
use Rattle.naga_acceptance.proofs.case_value_numbers.marks_of.Given as goal

abbrev pub invariant-loop-number : goal.invariant-loop-number
invariant-loop-number l = record {
  size : length l.marks ≡ CELLS;
  so_far : (k : ℕ) → k < l.number-index → slice_index_or l.marks (slice_index l.numbers k % CELLS) false ≡ true;
}
