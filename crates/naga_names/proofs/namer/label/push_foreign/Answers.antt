use Rattle.std.proofs.Common.{◌≡◌, ◌++◌, sym, ap, ◌∙◌, length, string_bytes}
use borrow.Author.Tests.{eqb-true, eqb-false}
use Rattle.naga_naming.specs.Label.{with_separator, by_number}
use Rattle.naga_naming.proofs.Label.{ascii_of-first_foreign, ascii_of-later_foreign, on_ok_then}
use Rattle.naga_naming.proofs.Label.{nothing_there}
use Rattle.naga_names.proofs.namer.label.push_foreign.Goals as goal

pub returns-then-is_empty : goal.returns-then-is_empty
returns-then-is_empty c = on_ok_then c.push_number.result c.push_number.ensures (λ done before is.
    let none : length (string_bytes c.args.text.now) ≡ 0 = sym (ap length c.as_str.ensures.value)
    ∙ eqb-true _ 0 (sym c.is_empty.ensures ∙ c.if-is_empty.true) in
    done ∙ ap (λ t. t ++ by_number c.args.c) (nothing_there (string_bytes c.args.text.now) none)
    ∙ sym (ascii_of-first_foreign before c.args.c c.requires (sym (ap length is) ∙ none)))

pub returns : goal.returns
returns c = on_ok_then c.push_number-2.result c.push_number-2.ensures (λ done before is.
    done ∙ ap (λ t. t ++ by_number c.args.c) (c.in_ok-push_separator.ensures ∙ ap with_separator is)
    ∙ sym (ascii_of-later_foreign before c.args.c c.requires
    (λ none. eqb-false (length c.as_str.result.now) 0 (sym c.is_empty.ensures
    ∙ c.if-is_empty.false) (ap length c.as_str.ensures.value ∙ ap length is ∙ none))))
