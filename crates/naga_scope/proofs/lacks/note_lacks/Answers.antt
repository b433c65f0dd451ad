use Rattle.std.proofs.Common.{◌≡◌, ◌<◌, ℕ, None, ap, arith, get_or, length, sym, ◌∙◌}
use Rattle.std.specs.Prelude.{slice_get}
use Rattle.naga_scope.proofs.Lowest.{all_lacks_below, lack_by, no_lack_below, one_lack_below}
use Rattle.naga_scope.specs.KnownFunctions.{expressions_of, has_form_in}
use Rattle.naga_scope.specs.Lacks.{lowest_over}
use Rattle.naga_scope.proofs.lacks.note_lacks.Goals as goal

pub loop-index-init : goal.loop-index-init
loop-index-init c =
    let k = c.args.known.now in no_lack_below (has_form_in k) (expressions_of k) c.args.lacks.now c.requires.size

pub loop-index-preserved : goal.loop-index-preserved
loop-index-preserved c =
    let k = c.args.known.now in
    let es = expressions_of k in
    let formed = has_form_in k in
    let i = c.loop-index.index in
    let e = c.index-expression.result.now in
    let lack = λ (h : ℕ). get_or c.loop-index.lacks h None in
    let end = c.len-index-end.ensures in
    let test = c.loop-index-test.true in
    let within : i < length es = omega (arith, end, test) in
    let at = ap (slice_get es) (sym c.from_index-handle.ensures) ∙ c.index-expression.ensures in
    one_lack_below formed es c.loop-index.lacks i c.lowest_at-lack.result within
    (c.lowest_at-lack.ensures
    ∙ (ap (λ h. lowest_over formed lack h e) c.from_index-handle.ensures
    ∙ lack_by formed es c.requires.ordered lack i e at c.loop-index.invariant.cells))
    c.loop-index.invariant

pub returns : goal.returns
returns c =
    let k = c.args.known.now in
    let end = c.len-index-end.ensures in
    let test = c.loop-index-test.false in
    let last = c.loop-index.auto.index-end in
    let all : c.loop-index.index ≡ length (expressions_of k) = omega (arith, end, test, last) in
    all_lacks_below (has_form_in k) (expressions_of k) c.loop-index.lacks c.loop-index.index all c.loop-index.invariant
