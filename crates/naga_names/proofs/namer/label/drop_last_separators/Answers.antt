use Rattle.std.proofs.Common.{sym, ap, ◌∙◌, string_bytes, string_len, lit<}
use Rattle.std.proofs.lemmas.Str.Pattern.{ends_char}
use Rattle.naga_naming.specs.Label.{ends_separated}
use Rattle.naga_naming.proofs.Label.{ends_separated-last, without_last-done, without_last-pop}
use Rattle.naga_names.proofs.namer.label.drop_last_separators.Goals as goal

pub loop-text-preserved : goal.loop-text-preserved
loop-text-preserved c =
    let text = c.as_str.result.now in
    let last = sym (c.ends_with.ensures.byte (lit< tt) (lit< tt) (λ w o h. h)) ∙ c.loop-text-test.true in
    let split = (ends_char 95 text c.ends_with.result c.ends_with.ensures.cases (lit< tt)).0 c.loop-text-test.true in
    without_last-pop (string_bytes c.loop-text.text) (string_bytes c.pop.new.self) (string_len c.loop-text.text)
    c.loop-text.text.bytes.ok.0
    (rw c.as_str.ensures.value at last) (rw c.as_str.ensures.value at split) c.pop.ensures.ascii_bytes
    ∙ c.loop-text.invariant

pub returns : goal.returns
returns c =
    let ends = c.ends_with.ensures.byte (lit< tt) (lit< tt) (λ w o h. h) ∙ ends_separated-last c.as_str.result.now in
    sym (without_last-done (string_bytes c.loop-text.text)
    (ap ends_separated (sym c.as_str.ensures.value) ∙ sym ends ∙ c.loop-text-test.false)) ∙ c.loop-text.invariant
