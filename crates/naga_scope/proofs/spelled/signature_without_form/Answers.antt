use Rattle.std.proofs.Common.{ap, sym, ◌∙◌}
use Rattle.std.specs.Option.{option_or}
use Rattle.naga_scope.specs.SpelledTypes.{argument_types, first_unspellable, result_types}
use Rattle.naga_scope.proofs.spelled.signature_without_form.Goals as goal

pub returns-in-Some : goal.returns-in-Some
returns-in-Some c =
    let f = c.args.function.now in
    let m = c.args.module.now in
    sym
    (ap (λ o. option_or o (first_unspellable m (result_types f.result)))
    (ap (λ xs. first_unspellable m (argument_types xs)) (sym c.deref.ensures.value)
    ∙ (sym c.argument_without_form.ensures ∙ c.in-Some.is)))

pub returns : goal.returns
returns c =
    let f = c.args.function.now in
    let m = c.args.module.now in
    c.answer_without_form.ensures
    ∙ sym
    (ap (λ o. option_or o (first_unspellable m (result_types f.result)))
    (ap (λ xs. first_unspellable m (argument_types xs)) (sym c.deref.ensures.value)
    ∙ (sym c.argument_without_form.ensures ∙ c.in_default.is)))
