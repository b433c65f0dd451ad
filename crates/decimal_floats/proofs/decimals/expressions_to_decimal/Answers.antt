use Rattle.std.proofs.Common.{◌≡◌, ◌+◌, ◌<◌, ◌∙◌, ℕ, arith, length, length-set, refl, set, subst, sym, take, true}
use Rattle.std.specs.List.{list_all}
use Rattle.decimal_floats.specs.Decimals.{expression_is_decimal}
use Rattle.decimal_floats.proofs.DecimalItems.{expression_set, same_expressions}
use Rattle.decimal_floats.proofs.Lists.{all_done, all_more}
use Rattle.decimal_floats.proofs.decimals.expressions_to_decimal.Goals as goal

pub loop-index-init : goal.loop-index-init
loop-index-init c = record {
  decimal = same_expressions c.args.expressions.now;
  complete = refl;
  count = sym c.len-index-end.ensures;
}

pub returns-in_err-expression_to_decimal-clause-decimal : goal.returns-in_err-expression_to_decimal-clause-decimal
returns-in_err-expression_to_decimal-clause-decimal c =
    expression_set c.args.expressions.now c.loop-index.expressions c.from_index.result
    c.get_mut.result.now c.expression_to_decimal.new.expression c.loop-index.invariant.decimal
    c.get_mut.ensures.item c.expression_to_decimal.ensures.decimal

pub loop-index-preserved : goal.loop-index-preserved
loop-index-preserved c =
    let within : c.loop-index.index < length c.loop-index.expressions =
    omega (arith, c.loop-index-test.true, c.loop-index.invariant.count) in
    record {
      decimal = expression_set c.args.expressions.now c.loop-index.expressions c.from_index.result
          c.get_mut.result.now c.expression_to_decimal.new.expression c.loop-index.invariant.decimal
          c.get_mut.ensures.item c.expression_to_decimal.ensures.decimal;
      complete = subst
          (λ (i : ℕ). list_all expression_is_decimal (take (c.loop-index.index + 1)
          (set c.loop-index.expressions i c.expression_to_decimal.new.expression)) ≡ true) (sym c.from_index.ensures)
          (all_more expression_is_decimal c.loop-index.expressions c.loop-index.index
          c.expression_to_decimal.new.expression within c.loop-index.invariant.complete
          c.in_ok-expression_to_decimal.ensures.complete);
      count = length-set c.loop-index.expressions c.from_index.result
          c.expression_to_decimal.new.expression ∙ c.loop-index.invariant.count;
    }

pub returns-clause-complete : goal.returns-clause-complete
returns-clause-complete c =
    all_done expression_is_decimal c.loop-index.expressions c.loop-index.index
    (omega (arith, c.loop-index-test.false, c.loop-index.invariant.count)) c.loop-index.invariant.complete
