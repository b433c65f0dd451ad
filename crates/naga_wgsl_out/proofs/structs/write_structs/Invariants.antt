use Rattle.naga_words.specs.Output.{output_view}
use Rattle.naga_wgsl_out.proofs.ArenaLoops.{HasWritten}
use Rattle.naga_wgsl_out.specs.Structs.{declared_text, structs_text}
use Rattle.naga_wgsl_out.proofs.structs.write_structs.Given as goal

abbrev pub invariant-loop-handle : goal.invariant-loop-handle
invariant-loop-handle g l =
    HasWritten (output_view g.W.TextSink.text g.W.TextSink.failures l.initial.out)
    (output_view g.W.TextSink.text g.W.TextSink.failures l.out) (structs_text l.text.shader.now)
    (λ p. declared_text l.text.shader.now p.0 p.1) l.text.shader.now.types l.handle-iterator
