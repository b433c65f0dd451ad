use Rattle.naga_words.specs.Output.{output_view}
use Rattle.wgsl_text.specs.Declarations.{overrides_pieces}
use Rattle.wgsl_text.specs.Text.{text}
use Rattle.naga_wgsl_out.proofs.ArenaLoops.{HasWritten}
use Rattle.naga_wgsl_out.specs.Constants.{override_text, overrides_of}
use Rattle.naga_wgsl_out.proofs.constants.write_overrides.Given as goal

abbrev pub invariant-loop-handle : goal.invariant-loop-handle
invariant-loop-handle g l =
    HasWritten (output_view g.W.TextSink.text g.W.TextSink.failures l.initial.out)
    (output_view g.W.TextSink.text g.W.TextSink.failures l.out)
    (text (overrides_pieces (overrides_of l.text.shader.now)))
    (λ p. override_text l.text.shader.now p.0 p.1) l.text.shader.now.overrides l.handle-iterator
