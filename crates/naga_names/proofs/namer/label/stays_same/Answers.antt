use Rattle.std.proofs.Common.{refl, sym, ap, subst, ◌∙◌, ◌≡◌, List, ℕ, false, take_all}
use Rattle.std.proofs.lemmas.Bool.{not-true}
use Rattle.std.proofs.lemmas.List.{take_more}
use Rattle.naga_naming.specs.Label.{ends_separated, StaysSame}
use Rattle.naga_naming.proofs.Label.{stays-nothing, stays-letter, stays-separator}
use Rattle.naga_names.proofs.namer.label.stays_same.Goals.{then-is_letter_or_digit}
use Rattle.naga_names.proofs.namer.label.stays_same.Goals.{else-is_letter_or_digit+then-byte-eq95+then-not-is_separated}
use Rattle.naga_names.proofs.namer.label.stays_same.Goals as goal

pub loop-byte-init : goal.loop-byte-init
loop-byte-init c = record { stays = stays-nothing; separated = refl }

pub loop-byte-preserved : goal.loop-byte-preserved
loop-byte-preserved c =
    let more =
    take_more c.as_bytes-bytes.result.now c.loop-byte.byte-index 0 c.loop-byte-test.true in
    elim c.if-is_letter_or_digit.branch [
      | then-is_letter_or_digit w ↦
          let step = stays-letter _ _ c.loop-byte.invariant.stays
          (sym c.is_letter_or_digit.ensures ∙ w.if-is_letter_or_digit.true) in
          record {
            stays = subst StaysSame (sym more) step.0;
            separated = ap ends_separated more
                ∙ step.1 ∙ sym w.is_separated-is;
          }
      | else-is_letter_or_digit+then-byte-eq95+then-not-is_separated w ↦
          let step = stays-separator _ _ w.if-byte-eq95.true c.loop-byte.invariant.stays
          (c.loop-byte.invariant.separated ∙ w.if-not-is_separated.true) in
          record {
            stays = subst StaysSame (sym more) step.0;
            separated = ap ends_separated more
                ∙ step.1 ∙ sym w.is_separated-is;
          }
    ]

pub returns : goal.returns
returns c = λ lone.
    let P : List ℕ → Type 0 = λ text. StaysSame text × (ends_separated text ≡ false) in
    subst P (take_all c.loop-byte.byte-index c.as_bytes-bytes.result.now c.loop-byte-test.false
    ∙ c.as_bytes-bytes.ensures.value)
    (c.loop-byte.invariant.stays, c.loop-byte.invariant.separated ∙ not-true _ lone)
