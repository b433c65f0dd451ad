use Rattle.std.proofs.Common.{◌≡◌, ◌+◌, ◌<◌, ◌∙◌, ℕ, arith, length, length-set, refl, set, subst, sym, take, true}
use Rattle.std.specs.List.{list_all}
use Rattle.decimal_floats.specs.Decimals.{function_is_decimal}
use Rattle.decimal_floats.proofs.DecimalItems.{function_set, same_functions}
use Rattle.decimal_floats.proofs.Lists.{all_done, all_more}
use Rattle.decimal_floats.proofs.decimals.functions_to_decimal.Goals as goal

pub loop-index-init : goal.loop-index-init
loop-index-init c = record {
  decimal = same_functions c.args.functions.now;
  complete = refl;
  count = sym c.len-index-end.ensures;
}

pub returns-in_err-function_to_decimal-clause-decimal : goal.returns-in_err-function_to_decimal-clause-decimal
returns-in_err-function_to_decimal-clause-decimal c =
    function_set c.args.functions.now c.loop-index.functions c.from_index.result
    c.get_mut.result.now c.function_to_decimal.new.function c.loop-index.invariant.decimal
    c.get_mut.ensures.item c.function_to_decimal.ensures.decimal

pub loop-index-preserved : goal.loop-index-preserved
loop-index-preserved c =
    let within : c.loop-index.index < length c.loop-index.functions =
    omega (arith, c.loop-index-test.true, c.loop-index.invariant.count) in
    record {
      decimal = function_set c.args.functions.now c.loop-index.functions c.from_index.result
          c.get_mut.result.now c.function_to_decimal.new.function c.loop-index.invariant.decimal
          c.get_mut.ensures.item c.function_to_decimal.ensures.decimal;
      complete = subst
          (λ (i : ℕ). list_all function_is_decimal (take (c.loop-index.index + 1)
          (set c.loop-index.functions i c.function_to_decimal.new.function)) ≡ true) (sym c.from_index.ensures)
          (all_more function_is_decimal c.loop-index.functions c.loop-index.index
          c.function_to_decimal.new.function within c.loop-index.invariant.complete
          c.in_ok-function_to_decimal.ensures.complete);
      count = length-set c.loop-index.functions c.from_index.result
          c.function_to_decimal.new.function ∙ c.loop-index.invariant.count;
    }

pub returns-clause-complete : goal.returns-clause-complete
returns-clause-complete c =
    all_done function_is_decimal c.loop-index.functions c.loop-index.index
    (omega (arith, c.loop-index-test.false, c.loop-index.invariant.count)) c.loop-index.invariant.complete
