use Rattle.std.proofs.Common.{◌≡◌, length, take}
use Rattle.std.specs.Prelude.{IsTrue}
use Rattle.std.specs.List.{AllZip, list_all}
use Rattle.decimal_floats.specs.Decimals.{IsDecimalExpression, expression_is_decimal}
use Rattle.decimal_floats.proofs.decimals.expressions_to_decimal.Given as goal

abbrev pub invariant-loop-index : goal.invariant-loop-index
invariant-loop-index l = record {
  decimal : AllZip IsDecimalExpression l.fn.expressions l.expressions;
  complete : IsTrue (list_all expression_is_decimal (take l.index l.expressions));
  count : length l.expressions ≡ l.index-end;
}
