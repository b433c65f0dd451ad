use Rattle.std.proofs.Common.{sym, ap, ◌∙◌, ◌++◌, codes, string_bytes, lit<}
use Rattle.std.specs.Char.{encode_utf8}
use Rattle.naga_naming.specs.Label.{with_separator}
use Rattle.naga_naming.proofs.Label.{ends_separated-last, with_separator-yes, with_separator-not}
use Rattle.naga_naming.proofs.Label.{on_ok, pushed_char}
use Rattle.naga_names.proofs.namer.label.push_separator.Goals as goal

pub returns-then-ends_with : goal.returns-then-ends_with
returns-then-ends_with c =
    let ends = c.ends_with.ensures.byte (lit< tt) (lit< tt) (λ w o h. h) ∙ ends_separated-last c.as_str.result.now in
    sym (ap with_separator (sym c.as_str.ensures.value) ∙ with_separator-yes c.as_str.result.now
    (sym ends ∙ c.if-ends_with.true) ∙ c.as_str.ensures.value)

pub returns : goal.returns
returns c =
    let ends = c.ends_with.ensures.byte (lit< tt) (lit< tt) (λ w o h. h) ∙ ends_separated-last c.as_str.result.now in
    on_ok c.push.result (λ ok.
    pushed_char c.push.result (string_bytes c.args.text.now) (string_bytes c.push.new.self) (encode_utf8 95) 95
    (c.push.ensures.ascii (lit< tt)) c.push.ensures.bytes ok
    ∙ sym (ap with_separator (sym c.as_str.ensures.value) ∙ with_separator-not c.as_str.result.now
    (sym ends ∙ c.if-ends_with.false) ∙ ap (λ t. t ++ codes "_") c.as_str.ensures.value))
