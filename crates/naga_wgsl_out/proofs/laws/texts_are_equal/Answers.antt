use Rattle.std.proofs.Common.{◌≡◌, List, ◌++◌, sym, ◌∙◌, subst}
use Rattle.std.specs.Prelude.{ℕ, Ok, OnOk, Result}
use Rattle.std.proofs.lemmas.List.{append_cancel_left}
use Rattle.naga_refusals.specs.declared.error.Error.{Error}
use Rattle.naga_wgsl_out.specs.Writing.{written_text}
use Rattle.naga_wgsl_out.proofs.laws.texts_are_equal.Goals as goal

appended_is : (answer : Result Unit Error) (content now appended text : List ℕ) →
    OnOk answer (now ≡ content ++ text) → answer ≡ Ok tt → now ≡ content ++ appended →
    appended ≡ text
appended_is answer content now appended text wrote is stands =
    append_cancel_left content appended text
    (sym stands ∙ subst (λ (answer : Result Unit Error). OnOk answer (now ≡ content ++ text)) is wrote)

pub returns : goal.returns
returns c =
    λ m info flags one other content now appended content1 now1 appended1 wrote wrote1 is is1 stands stands1.
    appended_is one content now appended (written_text m info flags) wrote is stands
    ∙ sym (appended_is other content1 now1 appended1 (written_text m info flags) wrote1 is1 stands1)
