use Rattle.std.proofs.Common.{◌≡◌, length, take}
use Rattle.std.specs.Prelude.{IsTrue}
use Rattle.std.specs.List.{AllZip, list_all}
use Rattle.decimal_floats.specs.Decimals.{IsDecimalFunction, function_is_decimal}
use Rattle.decimal_floats.proofs.decimals.functions_to_decimal.Given as goal

abbrev pub invariant-loop-index : goal.invariant-loop-index
invariant-loop-index l = record {
  decimal : AllZip IsDecimalFunction l.fn.functions l.functions;
  complete : IsTrue (list_all function_is_decimal (take l.index l.functions));
  count : length l.functions ≡ l.index-end;
}
