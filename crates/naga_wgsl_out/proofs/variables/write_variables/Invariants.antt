use Rattle.naga_words.specs.Output.{output_view}
use Rattle.wgsl_text.specs.Declarations.{globals_pieces}
use Rattle.wgsl_text.specs.Text.{text}
use Rattle.naga_wgsl_out.proofs.ArenaLoops.{HasWritten}
use Rattle.naga_wgsl_out.specs.Variables.{globals_of, variable_text}
use Rattle.naga_wgsl_out.proofs.variables.write_variables.Given as goal

abbrev pub invariant-loop-handle : goal.invariant-loop-handle
invariant-loop-handle g l =
    HasWritten (output_view g.W.TextSink.text g.W.TextSink.failures l.initial.out)
    (output_view g.W.TextSink.text g.W.TextSink.failures l.out)
    (text (globals_pieces (globals_of l.text.shader.now)))
    (λ p. variable_text l.text.shader.now p.0 p.1) l.text.shader.now.global_variables l.handle-iterator
