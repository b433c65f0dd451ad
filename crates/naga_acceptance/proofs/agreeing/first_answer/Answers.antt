use Rattle.std.proofs.Common.{◌≡◌, ℕ, ◌+◌, suc, true, false, ap, sym, ◌∙◌, arith}
use Rattle.std.specs.Option.{is_some, option_to_list}
use Rattle.naga_acceptance.specs.Uses.{first_answer, group_of, operation, use_in}
use Rattle.naga_acceptance.proofs.EarlierUses.{found_further, none_further}
use Rattle.naga_acceptance.proofs.agreeing.first_answer.Goals as goal

pub returns-then-is_some : goal.returns-then-is_some
returns-then-is_some c =
    let v = operation c.args.types.now c.args.used.now
    in let uses_at = λ (n : ℕ). option_to_list (use_in c.args.types.now (group_of c.args.group) n)
    in let found : is_some (first_answer (uses_at c.loop-index.index) v) ≡ true =
    ap is_some (sym c.answer_at-found.ensures) ∙ sym c.is_some.ensures ∙ c.if-is_some.true
    in c.answer_at-found.ensures
    ∙ found_further uses_at c.loop-index.index c.args.end v c.loop-index.invariant found c.loop-index-test.true

pub loop-index-preserved : goal.loop-index-preserved
loop-index-preserved c =
    let v = operation c.args.types.now c.args.used.now
    in let uses_at = λ (n : ℕ). option_to_list (use_in c.args.types.now (group_of c.args.group) n)
    in let none : is_some (first_answer (uses_at c.loop-index.index) v) ≡ false =
    ap is_some (sym c.answer_at-found.ensures) ∙ sym c.is_some.ensures ∙ c.if-is_some.false
    in let next : c.loop-index.index + 1 ≡ suc c.loop-index.index = omega arith
    in none_further uses_at c.loop-index.index (c.loop-index.index + 1) v c.loop-index.invariant none next
