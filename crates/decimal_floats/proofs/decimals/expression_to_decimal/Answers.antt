use Rattle.std.proofs.Common.{sym, subst}
use Rattle.naga_ir.specs.declared.expression.Expression.{Expression}
use Rattle.naga_ir.specs.declared.expression.Expression.TheVariants as expression
use Rattle.decimal_floats.specs.Decimals.{IsDecimalExpression, same, to_decimal}
use Rattle.decimal_floats.proofs.decimals.expression_to_decimal.Goals as goal

pub returns-in_err-decimal_literal-clause-decimal : goal.returns-in_err-decimal_literal-clause-decimal
returns-in_err-decimal_literal-clause-decimal c = same c.args.expression.now

pub returns-in_ok-decimal_literal-clause-decimal : goal.returns-in_ok-decimal_literal-clause-decimal
returns-in_ok-decimal_literal-clause-decimal c =
    let now = expression.Literal c.in_ok-decimal_literal.field-0 in
    subst (λ (e : Expression). IsDecimalExpression e now) (sym c.in-Literal.is)
    (to_decimal c.in-Literal.literal c.in_ok-decimal_literal.field-0
    c.in_ok-decimal_literal.ensures.decimal)

pub returns-in_default-clause-decimal : goal.returns-in_default-clause-decimal
returns-in_default-clause-decimal c = same c.args.expression.now
