use Rattle.std.proofs.Common.{drop}
use Rattle.naga_words.specs.Output.{output_view}
use Rattle.naga_words.proofs.Writing.{Leaves}
use Rattle.naga_wgsl_out.specs.Structs.{members_text}
use Rattle.naga_wgsl_out.proofs.StructRows.{members_left}
use Rattle.naga_wgsl_out.proofs.structs.StructText.write_members.Given as goal

abbrev pub invariant-loop-index : goal.invariant-loop-index
invariant-loop-index g l =
    Leaves (output_view g.W.TextSink.text g.W.TextSink.failures l.initial.out)
    (output_view g.W.TextSink.text g.W.TextSink.failures l.out)
    (members_text l.self.text.shader.now l.self.handle l.self.members.now)
    (members_left l.self.text.shader.now l.self.handle l.index (drop l.index l.self.members.now))
