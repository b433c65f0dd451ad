use Rattle.std.proofs.Common.{◌<◌, arith, get_or, length, refl}
use Rattle.std.proofs.lemmas.Slice.Zip.{AllZip-long}
use Rattle.decimal_floats.specs.Decimals.{IsDecimalEntryPoint, entry_point_is_decimal}
use Rattle.decimal_floats.proofs.DecimalItems.{entry_point_set, same_entry_points}
use Rattle.decimal_floats.proofs.Lists.{all_done, all_more}
use Rattle.decimal_floats.proofs.decimals.entry_points_to_decimal.Goals as goal

pub loop-entry_point-init : goal.loop-entry_point-init
loop-entry_point-init c = record { decimal = same_entry_points c.args.entry_points.now; complete = refl }

pub returns-in_err-function_to_decimal-clause-decimal : goal.returns-in_err-function_to_decimal-clause-decimal
returns-in_err-function_to_decimal-clause-decimal c =
    entry_point_set c.args.entry_points.now c.loop-entry_point.entry_points
    c.loop-entry_point.entry_point-index c.entry_point-item.result
    c.function_to_decimal.new.function c.loop-entry_point.invariant.decimal
    c.loop-entry_point-test.true c.entry_point-item.is c.function_to_decimal.ensures.decimal

pub loop-entry_point-preserved : goal.loop-entry_point-preserved
loop-entry_point-preserved c =
    let points = c.loop-entry_point.entry_points in
    let at = c.loop-entry_point.entry_point-index in
    let long = AllZip-long IsDecimalEntryPoint c.args.entry_points.now points c.loop-entry_point.invariant.decimal in
    let within : at < length points = omega (arith, c.loop-entry_point-test.true, long) in
    record {
      decimal = entry_point_set c.args.entry_points.now points at c.entry_point-item.result
          c.function_to_decimal.new.function c.loop-entry_point.invariant.decimal
          c.loop-entry_point-test.true c.entry_point-item.is c.function_to_decimal.ensures.decimal;
      complete = all_more entry_point_is_decimal points at
          (record (get_or points at c.entry_point-item.result) { function = c.function_to_decimal.new.function }) within
          c.loop-entry_point.invariant.complete c.in_ok-function_to_decimal.ensures.complete;
    }

pub returns-clause-complete : goal.returns-clause-complete
returns-clause-complete c =
    let points = c.loop-entry_point.entry_points in
    let long = AllZip-long IsDecimalEntryPoint c.args.entry_points.now points c.loop-entry_point.invariant.decimal in
    all_done entry_point_is_decimal points c.loop-entry_point.entry_point-index
    (omega (arith, c.loop-entry_point-test.false, long)) c.loop-entry_point.invariant.complete
