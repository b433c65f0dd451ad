use Rattle.std.proofs.Common.{◌-◌, subst}
use Rattle.std.proofs.lemmas.Result.{err_from_is_err_and}
use Rattle.diagnostic_directives.specs.Found.{NoStep, Steps}
use Rattle.diagnostic_directives.proofs.Walking.{all_met, met_below, not_stepped, stepped}
use Rattle.diagnostic_directives.proofs.found.found_directives.Goals as goal

pub returns-in_err-last-clause-err : goal.returns-in_err-last-clause-err
returns-in_err-last-clause-err c =
    let p = err_from_is_err_and c.from_residual.result c.from_residual.ensures.1 in
    let m = c.args.«module».now in
    let l = c.loop-index in
    let is = met_below m l.index l.last l.found c.loop-index-test.true l.invariant in
    rw (p.1, p.2)
    (not_stepped m (l.index - 1) l.last l.found c.in_err-last.field-0.0 is
    (subst (λ h. NoStep m.diagnostic_filters h l.last is.met c.in_err-last.field-0.0) c.from_index.ensures
    (c.in_err-last.ensures.err is.met is.tells)))

pub loop-index-preserved : goal.loop-index-preserved
loop-index-preserved c =
    let m = c.args.«module».now in
    let l = c.loop-index in
    let is = met_below m l.index l.last l.found c.loop-index-test.true l.invariant in
    stepped m (l.index - 1) l.last c.in_ok-last.last l.found c.step.new.self is
    (subst (λ h. Steps m.diagnostic_filters h l.last c.in_ok-last.last is.met c.step.new.self) c.from_index.ensures
    (c.in_ok-last.ensures.ok is.met is.tells))

pub returns-clause-ok : goal.returns-clause-ok
returns-clause-ok c =
    all_met c.args.«module».now c.loop-index.index c.loop-index.last c.loop-index.found c.loop-index-test.false
    c.loop-index.invariant
