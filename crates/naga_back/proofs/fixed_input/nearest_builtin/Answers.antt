use Rattle.std.proofs.Common.{arith, ◌∙◌, sym, ap, ◌-◌, ◌+◌, ◌≤◌, ◌≡◌, length, slice_get, Some}
use Rattle.std.proofs.lemmas.Option.{slice_get_past, slice_get_read}
use Rattle.std.specs.Option.{option_or}
use Rattle.naga_back.specs.FixedInput.{member_binding}
use Rattle.naga_back.proofs.FixedInputs.{rest_of_walk, walk_begins, walk_ends, walk_at_member}
use Rattle.naga_back.proofs.FixedInputs.{walk_without_member, walk_at_argument}
use Rattle.naga_back.proofs.FixedInputs.{walk_without_argument, walk_past_the_end, walk_at_another}
use Rattle.naga_back.proofs.FixedInputs.{no_way_of_others}
use Rattle.naga_back.proofs.fixed_input.nearest_builtin.Goals as goal

pub loop-step-init : goal.loop-step-init
loop-step-init c = grind (arith, walk_begins)

pub returns-then-index-len : goal.returns-then-index-len
returns-then-index-len c = grind (arith, walk_past_the_end)

pub returns-in_err-argument-in-FunctionArgument : goal.returns-in_err-argument-in-FunctionArgument
returns-in_err-argument-in-FunctionArgument c =
    let absent : length c.args.arguments.now ≤ c.in-FunctionArgument.number = grind arith in
    c.from_residual.ensures ∙
    sym (c.loop-step.invariant ∙
    walk_without_argument _ _ _ _ _ _ _ _ (omega arith)
    (c.index-in-loop-step.ensures ∙ ap (λ e. Some e) c.in-FunctionArgument.is) (slice_get_past _ _ absent))

pub returns-in-FunctionArgument : goal.returns-in-FunctionArgument
returns-in-FunctionArgument c =
    let found : slice_get c.args.arguments.now c.in-FunctionArgument.number
    ≡ Some c.in_ok-argument-in-FunctionArgument.argument.now = grind (arith, slice_get_read) in
    c.first_of.ensures ∙
    ap (λ o. option_or o c.loop-step.nearest) c.builtin_of.ensures ∙
    sym (c.loop-step.invariant ∙
    walk_at_argument _ _ _ _ _ _ _ _ _ (omega arith)
    (c.index-in-loop-step.ensures ∙ ap (λ e. Some e) c.in-FunctionArgument.is)
    found)

pub returns-in_err-binding-in-AccessIndex : goal.returns-in_err-binding-in-AccessIndex
returns-in_err-binding-in-AccessIndex c = grind (arith, walk_without_member)

pub returns-in_default : goal.returns-in_default
returns-in_default c =
    sym (c.loop-step.invariant ∙
    walk_at_another _ _ _ _ _ _ _ _ (omega arith) c.index-in-loop-step.ensures
    (no_way_of_others _ _ _ _ c.in_default.not-AccessIndex c.in_default.not-FunctionArgument))

pub loop-step-preserved : goal.loop-step-preserved
loop-step-preserved c =
    c.loop-step.invariant ∙
    walk_at_member _ _ _ _ _ _ _ _ _ _ (omega arith)
    (c.index-in-loop-step.ensures ∙ ap (λ e. Some e) c.in-AccessIndex.is)
    (sym c.in_ok-binding-in-AccessIndex.ensures) ∙
    ap (λ o. rest_of_walk c.args.arguments.now (member_binding c.args.info.now c.args.types.now)
    c.args.expressions.now (length c.args.expressions.now - (c.loop-step._step + 1))
    c.in-AccessIndex.base o)
    (sym (c.first_of-nearest.ensures ∙ ap (λ o. option_or o c.loop-step.nearest) c.builtin_of-in-AccessIndex.ensures))

pub returns : goal.returns
returns c = grind (arith, walk_ends)
