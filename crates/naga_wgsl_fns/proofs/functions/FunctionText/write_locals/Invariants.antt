use Rattle.std.proofs.Common.{drop}
use Rattle.naga_words.specs.Output.{output_view}
use Rattle.naga_words.proofs.Writing.{Leaves}
use Rattle.naga_wgsl_fns.proofs.FunctionRows.{locals_left}
use Rattle.naga_wgsl_fns.proofs.functions.FunctionText.write_locals.Given as goal

abbrev pub invariant-loop-index : goal.invariant-loop-index
invariant-loop-index g l =
    Leaves (output_view g.W.TextSink.text g.W.TextSink.failures l.initial.out)
    (output_view g.W.TextSink.text g.W.TextSink.failures l.out)
    (locals_left l.self 0 l.self.function.now.local_variables)
    (locals_left l.self l.index (drop l.index l.self.function.now.local_variables))
