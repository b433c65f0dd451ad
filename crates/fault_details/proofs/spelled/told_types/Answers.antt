use Rattle.std.proofs.Common.{◌≡◌, ◌∙◌, inl, inr, rules, string_bytes, subst, sym, true≢false}
use Rattle.std.proofs.lemmas.Slice.Eq.{bytes_eq-Decides}
use Rattle.fault_details.specs.Told.{IsTold}
use Rattle.fault_details.proofs.Apart.{ok_then}
use Rattle.fault_details.proofs.spelled.told_types.Goals as goal

-- one text would tell both
pub returns-then-eq : goal.returns-then-eq
returns-then-eq c =
    let m = c.args.«module».now in
    let same : string_bytes c.in_ok-told_expected.told_expected ≡ string_bytes c.in_ok-told_got.told_got =
    search rules in
    ok_then c.positioned_types.result
    (λ t positioned. inr (
      positioned,
      (
        string_bytes c.in_ok-told_expected.told_expected,
        c.in_ok-told_expected.ensures,
        subst (IsTold m c.args.got.now) (sym same) c.in_ok-told_got.ensures,
      ),
    ))
    c.positioned_types.ensures

pub returns : goal.returns
returns c =
    inl (
      c.in_ok-told_expected.ensures,
      c.in_ok-told_got.ensures,
      λ same.
          let texts = c.as_str.ensures.value ∙ (same ∙ sym c.as_str-2.ensures.value) in
          absurd (true≢false (sym ((bytes_eq-Decides _ _).1 texts) ∙ (sym c.eq.ensures ∙ c.if-eq.false))),
    )
