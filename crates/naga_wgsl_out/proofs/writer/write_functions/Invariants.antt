use Rattle.std.proofs.Common.{◌+◌, ℕ, List, length}
use Rattle.naga_wgsl_out.proofs.Functions.{IsUpTo}
use Rattle.naga_wgsl_out.proofs.writer.write_functions.Given as goal

abbrev pub invariant-loop-index : goal.invariant-loop-index
invariant-loop-index g l =
    IsUpTo l.known.shader.now l.known.info.now l.known.flags l.index
    (g.W.TextSink.text l.initial.out) (g.W.TextSink.failures l.initial.out)
    l.namer (g.W.TextSink.text l.out) (g.W.TextSink.failures l.out)

-- where the functions that others may call stand after a text, the entry points stand after them
abbrev pub invariant-loop-index-2 : goal.invariant-loop-index-2
invariant-loop-index-2 g l =
    (content : List ℕ) (failed : ℕ) →
    IsUpTo l.known.shader.now l.known.info.now l.known.flags (length l.known.shader.now.functions) content failed
    l.initial.namer (g.W.TextSink.text l.initial.out) (g.W.TextSink.failures l.initial.out) →
    IsUpTo l.known.shader.now l.known.info.now l.known.flags
    (length l.known.shader.now.functions + l.index) content failed
    l.namer (g.W.TextSink.text l.out) (g.W.TextSink.failures l.out)
