use Rattle.naga_ir.specs.Operands.{own_operands}
use Rattle.naga_ir.specs.StatementViews.{tree_of}
use Rattle.naga_words.specs.Output.{output_view}
use Rattle.naga_words.proofs.Writing.{Leaves}
use Rattle.std.proofs.Common.{true}
use Rattle.naga_wgsl_fns.specs.Expressions.{operands_left}
use Rattle.naga_wgsl_fns.specs.FunctionText.{AreInText}
use Rattle.naga_wgsl_fns.proofs.functions.FunctionText.write_act_operands.Given as goal

abbrev pub invariant-loop-operand : goal.invariant-loop-operand
invariant-loop-operand g l = record {
  leaves : Leaves (output_view g.W.TextSink.text g.W.TextSink.failures l.initial.out)
      (output_view g.W.TextSink.text g.W.TextSink.failures l.out)
      (operands_left l.self l.scope.table true (own_operands (tree_of l.statement)))
      (operands_left l.self l.scope.table l.is_first l.operand-iterator);
  inside : AreInText l.self l.operand-iterator;
}
