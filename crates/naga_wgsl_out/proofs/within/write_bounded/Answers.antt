use Rattle.std.proofs.Common.{◌∙◌, ap}
use Rattle.naga_wgsl_out.specs.Within.{unfailed}
use Rattle.naga_wgsl_out.proofs.Bounded.{answers_bounded, appends_unfailed, faithful_unfailed}
use Rattle.naga_wgsl_out.proofs.Bounded.{leaves_unfailed, matches_unfailed}
use Rattle.naga_wgsl_out.proofs.within.write_bounded.Goals as goal

pub returns : goal.returns
returns g c =
    let begun = c.new-writer.ensures.sink ∙ c.new-empty.ensures in
    let wrote = c.write-answer.ensures in
    let m = c.args.«module».now in
    let info = c.args.info.now in
    let own = c.new-writer.result.flags in
    let content = c.new-writer.result.sink.text in
    let answer = c.write-answer.result in
    answers_bounded c.args.flags own m info c.args.bound (unfailed answer) content _ _ c.within_limit.result
    c.new-writer.ensures.flags (ap (λ s. s.text) begun) (ap (λ s. s.text) c.finish-sink.ensures)
    (faithful_unfailed own m info content _ _ _ answer wrote.faithful)
    (matches_unfailed own m info content _ answer wrote.matches)
    (appends_unfailed own m info content _ answer wrote.text)
    (leaves_unfailed own m info content _ _ _ answer wrote.leaves) c.within_limit.ensures
