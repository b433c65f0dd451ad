use Rattle.std.proofs.Common.{◌≡◌, true, false, ap, sym, ◌∙◌}
use Rattle.std.specs.Option.{is_some}
use Rattle.module_semantics.specs.acceptance.AgreeingOperators.{groups_of}
use Rattle.naga_acceptance.specs.Uses.{first_answer, first_uses, group_of, group_uses, operation}
use Rattle.naga_acceptance.proofs.Agreement.{found_in_front, none_in_front}
use Rattle.naga_acceptance.proofs.agreeing.earlier_answer.Goals as goal

pub returns-then-is_some : goal.returns-then-is_some
returns-then-is_some c =
    let types = c.args.module.now.types
    in let v = operation types c.args.used.now
    in let front = group_uses types (groups_of c.args.module.now c.args.info.now) c.args.number
    in let found : is_some (first_answer front v) ≡ true =
    ap is_some (sym c.groups_answer-found.ensures) ∙ sym c.is_some.ensures ∙ c.if-is_some.true
    in c.groups_answer-found.ensures
    ∙ sym (found_in_front front (first_uses types (group_of c.args.group) c.args.index) v found)

pub returns : goal.returns
returns c =
    let types = c.args.module.now.types
    in let v = operation types c.args.used.now
    in let front = group_uses types (groups_of c.args.module.now c.args.info.now) c.args.number
    in let none : is_some (first_answer front v) ≡ false =
    ap is_some (sym c.groups_answer-found.ensures) ∙ sym c.is_some.ensures ∙ c.if-is_some.false
    in c.first_answer.ensures
    ∙ sym (none_in_front front (first_uses types (group_of c.args.group) c.args.index) v none)
