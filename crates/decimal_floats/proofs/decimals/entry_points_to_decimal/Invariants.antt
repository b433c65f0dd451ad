use Rattle.std.proofs.Common.{take}
use Rattle.std.specs.Prelude.{IsTrue}
use Rattle.std.specs.List.{AllZip, list_all}
use Rattle.decimal_floats.specs.Decimals.{IsDecimalEntryPoint, entry_point_is_decimal}
use Rattle.decimal_floats.proofs.decimals.entry_points_to_decimal.Given as goal

abbrev pub invariant-loop-entry_point : goal.invariant-loop-entry_point
invariant-loop-entry_point l = record {
  decimal : AllZip IsDecimalEntryPoint l.fn.entry_points l.entry_points;
  complete : IsTrue (list_all entry_point_is_decimal (take l.entry_point-index l.entry_points));
}
