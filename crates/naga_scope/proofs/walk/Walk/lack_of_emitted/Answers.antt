use Rattle.std.proofs.Common.{None, ◌+◌, ◌-◌, ap, refl, sym, ◌∙◌}
use Rattle.std.specs.List.{filter}
use Rattle.std.specs.Prelude.{if◌then◌else◌}
use Rattle.naga_scope.proofs.Emitting.{range_more, range_none}
use Rattle.naga_scope.proofs.Lowest.{lower_kept, lower_none}
use Rattle.naga_scope.specs.FirstLack.{lowest_in}
use Rattle.naga_scope.specs.KnownFunctions.{bound_in}
use Rattle.naga_scope.specs.Lacks.{lower, lowest_of}
use Rattle.naga_scope.specs.Walked.{walked}
use Rattle.shader_runs.specs.Program.{from}
use Rattle.naga_scope.proofs.walk.Walk.lack_of_emitted.Goals as goal

pub loop-index-init : goal.loop-index-init
loop-index-init c = refl

pub loop-index-preserved : goal.loop-index-preserved
loop-index-preserved c =
    let lack = lowest_in (walked c.args.self.now) in
    let bound = bound_in c.args.self.now.known in
    let i = c.loop-index.index in
    let e = c.args.range.end in
    let rest = from (i + 1) (e - (i + 1)) in
    let here = c.lack_if_bound.ensures ∙ ap (λ h. if bound h then lack h else None) c.from_index.ensures in
    ap (λ o. lower o (lowest_of lack (filter bound rest)))
    (c.lower-found.ensures ∙ ap (lower c.loop-index.found) here)
    ∙ lower_kept lack bound c.loop-index.found i _ rest _ (range_more i e c.loop-index-test.true)
    c.loop-index.invariant

pub returns : goal.returns
returns c =
    let lack = lowest_in (walked c.args.self.now) in
    let bound = bound_in c.args.self.now.known in
    sym (lower_none c.loop-index.found)
    ∙ (ap (λ hs. lower c.loop-index.found (lowest_of lack (filter bound hs)))
    (sym (range_none c.loop-index.index c.args.range.end c.loop-index-test.false))
    ∙ c.loop-index.invariant)
