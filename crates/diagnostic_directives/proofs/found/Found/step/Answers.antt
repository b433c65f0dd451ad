use Rattle.std.proofs.Common.{◌≡◌, ◌∙◌, true, sym}
use Rattle.std.proofs.lemmas.Result.{err_from_is_err_and}
use Rattle.diagnostic_directives.specs.Filters.{ends_at}
use Rattle.diagnostic_directives.proofs.Walking.{no_step}
use Rattle.diagnostic_directives.proofs.found.Found.step.Goals as goal

-- the filter here was not added
pub returns-in_err-add-clause-err : goal.returns-in_err-add-clause-err
returns-in_err-add-clause-err c =
    let p = err_from_is_err_and c.from_residual.result c.from_residual.ensures.1 in
    let ends : ends_at c.args.last c.args.here ≡ true = sym c.ends_at.ensures ∙ c.if-not-ends_at.false in
    λ met tells. rw (p.1, p.2)
    (no_step c.args.filters.now c.args.here c.args.last met c.index-node.result.now ends c.index-node.ensures
    c.args.self.now c.in_err-add.field-0.0 tells c.in_err-add.ensures.err)
