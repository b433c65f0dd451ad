use Rattle.std.proofs.Common.{◌++◌, ◌∙◌, ap, sym}
use Rattle.module_semantics.specs.AlikeTypes.{inner_key_by}
use Rattle.std.specs.Option.{option_map}
use Rattle.naga_acceptance.specs.Views.{bases, numbers}
use Rattle.naga_acceptance.proofs.alike.inner_top.Goals as goal

pub returns-in-Pointer-clause-form : goal.returns-in-Pointer-clause-form
returns-in-Pointer-clause-form c = λ types.
    c.level_over.ensures.form types
    ∙ (ap (λ o. option_map (λ rest. numbers c.pointer_level.result ++ rest) o) (c.over_base.ensures.form types)
    ∙ (ap (λ l. option_map (λ rest. l ++ rest) (bases types c.args.within c.in-Pointer.base)) c.pointer_level.ensures
    ∙ ap (inner_key_by (bases types c.args.within)) (sym c.in-Pointer.is)))

pub returns-in-Array-clause-form : goal.returns-in-Array-clause-form
returns-in-Array-clause-form c = λ types.
    c.level_over-in-Array.ensures.form types
    ∙ (ap (λ o. option_map (λ rest. numbers c.array_level.result ++ rest) o) (c.over_base-in-Array.ensures.form types)
    ∙ (ap (λ l. option_map (λ rest. l ++ rest) (bases types c.args.within c.in-Array.base)) c.array_level.ensures
    ∙ ap (inner_key_by (bases types c.args.within)) (sym c.in-Array.is)))

pub returns-in-BindingArray-clause-form : goal.returns-in-BindingArray-clause-form
returns-in-BindingArray-clause-form c = λ types.
    c.level_over-in-BindingArray.ensures.form types
    ∙ (ap (λ o. option_map (λ rest. numbers c.array_level-in-BindingArray.result ++ rest) o)
    (c.over_base-in-BindingArray.ensures.form types)
    ∙ (ap (λ l. option_map (λ rest. l ++ rest) (bases types c.args.within c.in-BindingArray.base))
    c.array_level-in-BindingArray.ensures
    ∙ ap (inner_key_by (bases types c.args.within)) (sym c.in-BindingArray.is)))
