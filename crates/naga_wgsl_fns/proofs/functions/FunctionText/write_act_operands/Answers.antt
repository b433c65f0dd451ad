use Rattle.std.proofs.Common.{◌∙◌, ap, subst, sym, true}
use Rattle.naga_words.proofs.Writing.{leaves_as, leaves_last, leaves_more, leaves_start, writes_as}
use Rattle.naga_wgsl_fns.proofs.ExpressionRows.{operands_more, operands_none}
use Rattle.naga_wgsl_fns.specs.Expressions.{operands_left}
use Rattle.naga_wgsl_fns.specs.FunctionText.{AreInText}
use Rattle.naga_wgsl_fns.proofs.functions.FunctionText.write_act_operands.Goals as goal

pub loop-operand-init : goal.loop-operand-init
loop-operand-init g c =
    let self = c.args.self.now in
    let items = c.into_iter-operand-iterator.ensures.into_iter_gives ∙ c.operands-operand-items.ensures in
    record {
      leaves = leaves_as (ap (operands_left self c.args.scope.now.table true) (sym items)) (leaves_start _ _);
      inside = subst (AreInText self) (sym items) c.requires.operands;
    }

pub write_next_operand-requires-clause-operand : goal.write_next_operand-requires-clause-operand
write_next_operand-requires-clause-operand g c =
    (subst (AreInText c.args.self.now) c.in-Some.ensures.steps c.loop-operand.invariant.inside).0

pub loop-operand-preserved : goal.loop-operand-preserved
loop-operand-preserved g c =
    let self = c.args.self.now in
    let table = c.args.scope.now.table in
    let steps = c.in-Some.ensures.steps in
    let first = c.loop-operand.is_first in
    record {
      leaves = leaves_more _ _ _ _ _ _ _ c.loop-operand.invariant.leaves
          (ap (operands_left self table first) steps ∙ operands_more self table first c.in-Some.operand c.next.new.self)
          c.write_next_operand.ensures;
      inside = (subst (AreInText self) steps c.loop-operand.invariant.inside).1;
    }

pub returns : goal.returns
returns g c =
    let self = c.args.self.now in
    let table = c.args.scope.now.table in
    let first = c.loop-operand.is_first in
    leaves_last _ _ _ _ _ c.loop-operand.invariant.leaves
    (writes_as (sym (ap (operands_left self table first) c.in-None.ensures.steps.0
    ∙ operands_none self table first)) c.put.ensures)
