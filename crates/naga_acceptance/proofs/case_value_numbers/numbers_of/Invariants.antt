use Rattle.std.proofs.Common.{◌≡◌, ◌++◌, take, drop, length}
use Rattle.naga_ir.specs.StatementViews.{cases_of}
use Rattle.naga_acceptance.specs.CaseValues.{numbers_of}
use Rattle.naga_acceptance.proofs.case_value_numbers.numbers_of.Given as goal

abbrev pub invariant-loop-index : goal.invariant-loop-index
invariant-loop-index l = record {
  size : length l.numbers ≡ 4096;
  so_far : take l.index l.numbers ++ numbers_of (cases_of (drop l.index l.cases)) ≡
      numbers_of (cases_of l.cases);
}
