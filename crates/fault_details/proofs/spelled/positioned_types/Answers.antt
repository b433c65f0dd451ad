use Rattle.std.proofs.Common.{◌≡◌, ◌∙◌, inl, inr, rules, string_bytes, subst, sym, true≢false}
use Rattle.std.proofs.lemmas.Slice.Eq.{bytes_eq-Decides}
use Rattle.fault_details.specs.Told.{IsPositioned}
use Rattle.fault_details.proofs.spelled.positioned_types.Goals as goal

-- one text would tell both
pub returns-then-eq : goal.returns-then-eq
returns-then-eq c =
    let m = c.args.«module».now in
    let same : string_bytes c.in_ok-expected.expected ≡ string_bytes c.in_ok-positioned_got.positioned_got
    = search rules in
    inr (
      c.in_ok-expected.ensures,
      subst (IsPositioned m c.args.got.now) (sym same) c.in_ok-positioned_got.ensures,
      search rules,
    )

pub returns : goal.returns
returns c =
    inl (
      c.in_ok-expected.ensures,
      c.in_ok-positioned_got.ensures,
      λ same.
          let texts = c.as_str.ensures.value ∙ (same ∙ sym c.as_str-2.ensures.value) in
          absurd (true≢false (sym ((bytes_eq-Decides _ _).1 texts) ∙ (sym c.eq.ensures ∙ c.if-eq.false))),
    )
