use Rattle.std.proofs.Common.{sym, ap, ◌∙◌, ◌||◌, codes}
use Rattle.std.specs.Str.{bytes_eq}
use Rattle.naga_names.proofs.Ends.{separated_by_front}
use Rattle.naga_names.proofs.namer.label.digits_are_separated.Goals as goal

pub returns-then-ends_separated : goal.returns-then-ends_separated
returns-then-ends_separated c =
    let front = c.without_last_digits-front.result.now in
    let apart = sym c.ends_separated.ensures ∙ c.if-ends_separated.true in
    c.if-ends_separated.true ∙ sym (ap (λ b. b || bytes_eq front (codes "_e")) apart)
    ∙ separated_by_front c.args.text.now front c.without_last_digits-front.ensures.digits
    c.without_last_digits-front.ensures.all

pub returns-else-ends_separated : goal.returns-else-ends_separated
returns-else-ends_separated c =
    let front = c.without_last_digits-front.result.now in
    let apart = sym c.ends_separated.ensures ∙ c.if-ends_separated.false in
    c.eq.ensures ∙ ap (bytes_eq front) c.as_slice.ensures
    ∙ sym (ap (λ b. b || bytes_eq front (codes "_e")) apart)
    ∙ separated_by_front c.args.text.now front c.without_last_digits-front.ensures.digits
    c.without_last_digits-front.ensures.all
