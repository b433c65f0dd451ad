use Rattle.std.proofs.Common.{sym, ◌∙◌}
use Rattle.naga_naming.proofs.Label.{lowercase_is_alphanumeric}
use Rattle.naga_names.proofs.namer.label.is_letter_or_digit.Goals as goal

pub returns-then-is_ascii_lowercase : goal.returns-then-is_ascii_lowercase
returns-then-is_ascii_lowercase c =
    sym (lowercase_is_alphanumeric c.args.byte
    (sym c.is_ascii_lowercase.ensures.value ∙ c.if-is_ascii_lowercase.true))
