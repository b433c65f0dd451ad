use Rattle.std.proofs.Common.{◌≡◌, ℕ, ◌+◌, suc, true, false, ap, sym, ◌∙◌, arith, slice_get, []}
use Rattle.std.specs.Option.{is_some, option_map_or}
use Rattle.module_semantics.specs.acceptance.AgreeingOperators.{groups_of, uses_of}
use Rattle.naga_acceptance.specs.Uses.{first_answer, operation}
use Rattle.naga_acceptance.proofs.EarlierUses.{found_further, none_further}
use Rattle.naga_acceptance.proofs.agreeing.groups_answer.Goals as goal

pub returns-then-is_some : goal.returns-then-is_some
returns-then-is_some c =
    let types = c.args.module.now.types
    in let v = operation types c.args.used.now
    in let uses_at =
    λ (n : ℕ). option_map_or (uses_of types) (slice_get (groups_of c.args.module.now c.args.info.now) n) []
    in let found : is_some (first_answer (uses_at c.loop-position.position) v) ≡ true =
    ap is_some (sym c.group_answer-found.ensures) ∙ sym c.is_some.ensures ∙ c.if-is_some.true
    in c.group_answer-found.ensures
    ∙ found_further uses_at c.loop-position.position c.args.number v c.loop-position.invariant found
    c.loop-position-test.true

pub loop-position-preserved : goal.loop-position-preserved
loop-position-preserved c =
    let types = c.args.module.now.types
    in let v = operation types c.args.used.now
    in let uses_at =
    λ (n : ℕ). option_map_or (uses_of types) (slice_get (groups_of c.args.module.now c.args.info.now) n) []
    in let none : is_some (first_answer (uses_at c.loop-position.position) v) ≡ false =
    ap is_some (sym c.group_answer-found.ensures) ∙ sym c.is_some.ensures ∙ c.if-is_some.false
    in let next : c.loop-position.position + 1 ≡ suc c.loop-position.position = omega arith
    in none_further uses_at c.loop-position.position (c.loop-position.position + 1) v c.loop-position.invariant none
    next
