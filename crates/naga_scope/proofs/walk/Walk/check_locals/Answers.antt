use Rattle.std.proofs.Common.{ap, sym, ◌∙◌}
use Rattle.std.specs.Option.{option_or}
use Rattle.naga_scope.proofs.Walking.{all_listed, answered, handed_on, listed_lack}
use Rattle.naga_scope.specs.FirstLack.{local_lack, unless_lack}
use Rattle.naga_scope.specs.Walked.{walked}
use Rattle.naga_scope.proofs.walk.Walk.check_locals.Goals as goal

pub loop-handle-init : goal.loop-handle-init
loop-handle-init c =
    let w = walked c.args.self.now in
    ap (listed_lack w) (c.into_iter-handle-iterator.ensures.into_iter_gives ∙ c.iter-handle-items.ensures)
    ∙ all_listed w 0 c.args.self.now.known.function.now.local_variables

pub loop-handle-preserved : goal.loop-handle-preserved
loop-handle-preserved c =
    let w = walked c.args.self.now in
    let here = local_lack w c.in-Some.handle c.in-Some.local.now in
    let rest = listed_lack w c.next.new.self in
    sym (ap (listed_lack w) c.in-Some.ensures.steps
    ∙ ap (λ o. option_or o rest) (answered tt c.in_default.field-0 here c.in_default.ensures).0)
    ∙ c.loop-handle.invariant

pub returns-in-Err : goal.returns-in-Err
returns-in-Err c =
    let w = walked c.args.self.now in
    handed_on tt tt (local_lack w c.in-Some.handle c.in-Some.local.now) (listed_lack w c.next.new.self) c.in-Err.lack
    c.in-Err.ensures
    ∙ ap (unless_lack tt) (sym (ap (listed_lack w) c.in-Some.ensures.steps) ∙ c.loop-handle.invariant)

pub returns : goal.returns
returns c =
    let w = walked c.args.self.now in
    ap (unless_lack tt) (sym (ap (listed_lack w) c.in-None.ensures.steps.0) ∙ c.loop-handle.invariant)
