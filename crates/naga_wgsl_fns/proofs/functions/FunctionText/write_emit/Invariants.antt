use Rattle.std.proofs.Common.{◌≡◌, ◌+◌, ◌-◌, ◌≤◌, length}
use Rattle.shader_runs.specs.Program.{from}
use Rattle.shader_runs.specs.Scope.{after_emit, named_after_all}
use Rattle.naga_scope.specs.Log.{Extends}
use Rattle.naga_words.specs.Output.{output_view}
use Rattle.naga_words.proofs.Writing.{Leaves}
use Rattle.std.specs.List.{filter}
use Rattle.naga_wgsl_fns.specs.FunctionText.{AreInText, AreLets, bound, handles_in, naming}
use Rattle.naga_wgsl_fns.specs.Statements.{lets_text}
use Rattle.naga_wgsl_fns.proofs.functions.FunctionText.write_emit.Given as goal

abbrev pub invariant-loop-index : goal.invariant-loop-index
invariant-loop-index g l = record {
  leaves : Leaves (output_view g.W.TextSink.text g.W.TextSink.failures l.initial.out)
      (output_view g.W.TextSink.text g.W.TextSink.failures l.out)
      (lets_text l.self l.initial.at.scope.named (handles_in l.self l.initial.at.scope.table)
      l.initial.at.indent (from l.fn.range.first (l.fn.range.end - l.fn.range.first)))
      (lets_text l.self l.at.scope.named (handles_in l.self l.at.scope.table) l.initial.at.indent
      (from l.index (l.fn.range.end - l.index)));
  after : after_emit (naming l.self) l.at.scope.named (from l.index (l.fn.range.end - l.index))
      (handles_in l.self l.at.scope.table) ≡
      after_emit (naming l.self) l.initial.at.scope.named
      (from l.fn.range.first (l.fn.range.end - l.fn.range.first)) (handles_in l.self l.initial.at.scope.table);
  named : named_after_all (naming l.self).function (from l.index (l.fn.range.end - l.index)) l.at.scope.named ≡
      named_after_all (naming l.self).function
      (from l.fn.range.first (l.fn.range.end - l.fn.range.first)) l.initial.at.scope.named;
  kept : Extends l.initial.at.scope l.at.scope;
  counted : length l.at.scope.log + (l.fn.range.end - l.index) ≤ length l.initial.at.scope.log
      + (l.fn.range.end - l.fn.range.first);
  names : l.at.scope.named + (l.fn.range.end - l.index) ≤ l.initial.at.scope.named
      + (l.fn.range.end - l.fn.range.first);
  written : AreInText l.self (filter (bound l.self) (from l.index (l.fn.range.end - l.index)));
  indent : l.at.indent ≡ l.initial.at.indent;
  lets : AreLets l.self (filter (bound l.self) (from l.index (l.fn.range.end - l.index)));
}
