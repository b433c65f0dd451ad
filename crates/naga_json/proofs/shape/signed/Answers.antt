use Rattle.std.proofs.Common.{◌∙◌, sym}
use Rattle.json.specs.Find.{as_number}
use Rattle.json.specs.Value.{value_view}
use Rattle.naga_json.proofs.Numerals.{minus_zero_read, signed_read}
use Rattle.naga_json.proofs.shape.signed.Goals as goal

pub returns-then-is_minus_zero : goal.returns-then-is_minus_zero
returns-then-is_minus_zero c =
    minus_zero_read (as_number (value_view c.args.value.now)) (sym c.is_minus_zero.ensures ∙ c.if-is_minus_zero.true)

pub returns-else-is_minus_zero : goal.returns-else-is_minus_zero
returns-else-is_minus_zero c =
    signed_read (as_number (value_view c.args.value.now)) c.as_i64.result
    (sym c.is_minus_zero.ensures ∙ c.if-is_minus_zero.false) c.as_i64.ensures
