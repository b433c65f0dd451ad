use Rattle.std.proofs.Common.{rules, ◌≡◌, ◌+◌, ◌<◌, ◌^◌, arith, ap, sym, ◌∙◌, string_bytes}
use Rattle.std.specs.FinMap as finite
use Rattle.std.specs.Str.{bytes_eq}
use Rattle.std.proofs.lemmas.Map.Steps.{set_value_same}
use Rattle.naga_naming.specs.Naming.{later_name}
use Rattle.naga_naming.proofs.Label.{on_err}
use Rattle.naga_naming.proofs.Naming.{uses_in, uses_in-insert, uses_of-absent, uses_of-present}
use Rattle.naga_names.proofs.namer.uses.Uses.later_name.Goals as goal

pub returns-in_default-clause-ok : goal.returns-in_default-clause-ok
returns-in_default-clause-ok c = (
  uses_of-absent c.self.inside.later.entries c.args.self.now c.self.view_is c.args.stem.now
      c.in_default.ensures.value,
  ap (λ m. uses_in m.entries) c.get_mut.follows.holds-at-none ∙ c.self.view_is,
)

pub returns-in_default-clause-full : goal.returns-in_default-clause-full
returns-in_default-clause-full c = λ full.
    let none =
    uses_of-absent c.self.inside.later.entries c.args.self.now c.self.view_is c.args.stem.now
    c.in_default.ensures.value in
    absurd (omega (arith, full, none))

pub returns-in_default-number_after-clause-err : goal.returns-in_default-number_after-clause-err
returns-in_default-number_after-clause-err c =
    ap uses_in ((c.get_mut.follows.holds c.in-Some.later.now).0
    ∙ set_value_same (λ k. bytes_eq c.args.stem.now (string_bytes k)) c.self.inside.later.entries
    c.in-Some.later.now (sym c.in-Some.ensures.value))
    ∙ c.self.view_is

pub returns-in_default-number_after-clause-reason :
    goal.returns-in_default-number_after-clause-reason
returns-in_default-number_after-clause-reason c =
    let used =
    uses_of-present c.self.inside.later.entries c.args.self.now c.self.view_is c.args.stem.now
    c.in-Some.later.now c.in-Some.ensures.value in
    used ∙ c.in_default-number_after.ensures.none

pub returns-in_err-name-clause-err : goal.returns-in_err-name-clause-err
returns-in_err-name-clause-err c =
    on_err c.from_residual.result (ap uses_in ((c.get_mut.follows.holds c.in-Some.later.now).0
    ∙ set_value_same (λ k. bytes_eq c.args.stem.now (string_bytes k)) c.self.inside.later.entries
    c.in-Some.later.now (sym c.in-Some.ensures.value))
    ∙ c.self.view_is)

pub returns-clause-ok : goal.returns-clause-ok
returns-clause-ok c =
    let later = c.in-Some.later.now in
    let number = c.in-Some-number_after.number in
    let used =
    uses_of-present c.self.inside.later.entries c.args.self.now c.self.view_is c.args.stem.now
    later c.in-Some.ensures.value in
    let same : number ≡ later + 1 = c.in-Some-number_after.ensures.number.0 in
    let room : number < 2 ^ 32 = c.in-Some-number_after.ensures.number.1 in (
      omega (arith, used),
      omega (arith, used, same, room),
      c.in_ok-name.ensures ∙ ap (later_name c.args.stem.now) (same ∙ sym used),
      uses_in-insert c.args.stem.now number c.self.inside.later (c.get_mut.follows.lender number)
          ((c.get_mut.follows.holds number).3 (search rules))
          ∙ (λ i. finite.insert (c.self.view_is i) c.args.stem.now ((same ∙ sym used) i + 1)),
    )

pub returns-clause-full : goal.returns-clause-full
returns-clause-full c = λ full.
    let used =
    uses_of-present c.self.inside.later.entries c.args.self.now c.self.view_is c.args.stem.now
    c.in-Some.later.now c.in-Some.ensures.value in
    let same : c.in-Some-number_after.number ≡ c.in-Some.later.now + 1 =
    c.in-Some-number_after.ensures.number.0 in
    let room : c.in-Some-number_after.number < 2 ^ 32 = c.in-Some-number_after.ensures.number.1 in
    absurd (omega (arith, full, used, same, room))
