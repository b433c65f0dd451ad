use Rattle.std.proofs.Common.{[], ◌∷◌, ◌++◌, sym, ap, ◌∙◌, string_bytes}
use Rattle.std.specs.Char.{encode_utf8}
use Rattle.naga_naming.specs.Label.{with_separator}
use Rattle.naga_naming.proofs.Label.{ascii_of-separating, ascii_of-alphanumeric}
use Rattle.naga_naming.proofs.Label.{alphanumeric_is_ascii, on_ok, on_ok_then, pushed_char}
use Rattle.naga_names.proofs.namer.label.push_as_ascii.Goals as goal

pub returns-then-is_separating : goal.returns-then-is_separating
returns-then-is_separating c = on_ok_then c.push_separator.result c.push_separator.ensures (λ done before is.
    done ∙ ap with_separator is
    ∙ sym (ascii_of-separating before c.args.c (sym c.is_separating.ensures ∙ c.if-is_separating.true)))

pub returns-then-is_ascii_alphanumeric : goal.returns-then-is_ascii_alphanumeric
returns-then-is_ascii_alphanumeric c =
    let plain = sym c.is_ascii_alphanumeric.ensures.value ∙ c.if-is_ascii_alphanumeric.true in
    on_ok c.push.result (λ ok before is.
    pushed_char c.push.result (string_bytes c.args.text.now) (string_bytes c.push.new.self)
    (encode_utf8 c.args.c) c.args.c
    (c.push.ensures.ascii (alphanumeric_is_ascii c.args.c plain)) c.push.ensures.bytes ok
    ∙ ap (λ t. t ++ c.args.c ∷ []) is
    ∙ sym (ascii_of-alphanumeric before c.args.c (sym c.is_separating.ensures ∙ c.if-is_separating.false) plain))
