use Rattle.std.proofs.Common.{drop}
use Rattle.naga_words.specs.Output.{output_view}
use Rattle.naga_words.proofs.Writing.{Leaves}
use Rattle.naga_wgsl_fns.specs.Statements.{case_values_of, waiting_text}
use Rattle.naga_wgsl_fns.proofs.switches.write_waiting.Given as goal

abbrev pub invariant-loop-case : goal.invariant-loop-case
invariant-loop-case g l =
    Leaves (output_view g.W.TextSink.text g.W.TextSink.failures l.initial.out)
    (output_view g.W.TextSink.text g.W.TextSink.failures l.out)
    (waiting_text (case_values_of l.waiting)) (waiting_text (case_values_of (drop l.case-index l.waiting)))
