use Rattle.std.proofs.Common.{drop}
use Rattle.naga_words.specs.Output.{output_view}
use Rattle.naga_words.proofs.Writing.{Leaves}
use Rattle.naga_wgsl_fns.specs.Functions.{arguments_text}
use Rattle.naga_wgsl_fns.proofs.FunctionRows.{arguments_left}
use Rattle.naga_wgsl_fns.proofs.functions.FunctionText.write_arguments.Given as goal

abbrev pub invariant-loop-number : goal.invariant-loop-number
invariant-loop-number g l =
    Leaves (output_view g.W.TextSink.text g.W.TextSink.failures l.initial.out)
    (output_view g.W.TextSink.text g.W.TextSink.failures l.out) (arguments_text l.self)
    (arguments_left l.self l.number (drop l.number l.argument-items))
