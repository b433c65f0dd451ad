use Rattle.std.proofs.Common.{◌++◌, ◌∙◌, ap, subst, sym, string_bytes}
use Rattle.naga_back.specs.Flags.{annotates_types}
use Rattle.naga_wgsl_out.proofs.Positions.{as_told, told_under}
use Rattle.naga_wgsl_out.specs.Headline.{MatchesModule}
use Rattle.naga_wgsl_out.specs.Unwritable.{TellsFirst}
use Rattle.naga_wgsl_out.proofs.writer.write_string.Goals as goal

-- the text is that of the sink, which was empty, and the flags are the writer's
pub returns-clause-matches : goal.returns-clause-matches
returns-clause-matches c =
    let empty = ap string_bytes c.new-writer.ensures.sink ∙ c.new.ensures.bytes in
    λ text is program reads.
    subst (λ f. MatchesModule (annotates_types f) c.args.«module».now c.args.info.now program)
    c.new-writer.ensures.flags
    (c.in_ok-write.ensures.matches text
    (ap string_bytes (sym c.finish.ensures) ∙ is ∙ ap (λ before. before ++ text) (sym empty)) program reads)

-- an error is the writer's, whose flags are these
pub returns-in_err-write-clause-told : goal.returns-in_err-write-clause-told
returns-in_err-write-clause-told c =
    let m = c.args.«module».now in
    let info = c.args.info.now in
    as_told (λ e. TellsFirst (annotates_types c.args.flags) m info e) c.from_residual.result _
    c.from_residual.ensures.1
    (told_under m info _ c.args.flags _ c.new-writer.ensures.flags c.in_err-write.ensures.leaves.told)
