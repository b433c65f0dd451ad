use Rattle.std.proofs.Common.{◌≡◌, ◌<◌, ◌∙◌, ap, arith, false, length, subst, sym}
use Rattle.std.specs.Prelude.{slice_get}
use Rattle.module_semantics.specs.WrittenOut.{is_written_out}
use Rattle.naga_tables.proofs.WrittenConstants.{CellsBelow, all_below, constant_by, none_below}
use Rattle.naga_tables.proofs.WrittenConstants.{not_beyond, one_below}
use Rattle.naga_scope.proofs.lacks.mark_constants.Goals as goal

pub loop-index-init : goal.loop-index-init
loop-index-init c =
    let es = c.args.function.now.expressions in
    none_below false (is_written_out es) (length es) c.args.marks.now c.requires.size

pub loop-index-preserved : goal.loop-index-preserved
loop-index-preserved c =
    let es = c.args.function.now.expressions in
    let end = c.len-index-end.ensures in
    let test = c.loop-index-test.true in
    let within : c.loop-index.index < length es = omega (arith, end, test) in
    let at = ap (slice_get es) (sym c.from_index.ensures) ∙ c.index.ensures in
    one_below false (is_written_out es) (length es) c.loop-index.marks c.loop-index.index
    c.is_constant-is_constant.result within
    (c.is_constant-is_constant.ensures
    ∙ constant_by es c.requires.ordered c.loop-index.index c.index.result.now at
    c.loop-index.marks c.loop-index.invariant)
    c.loop-index.invariant

pub returns : goal.returns
returns c =
    let es = c.args.function.now.expressions in
    let end = c.len-index-end.ensures in
    let test = c.loop-index-test.false in
    let last = c.loop-index.auto.index-end in
    let all : c.loop-index.index ≡ length es = omega (arith, end, test, last) in
    all_below false (is_written_out es) (length es) (not_beyond es) c.loop-index.marks
    (subst (CellsBelow false (is_written_out es) (length es) c.loop-index.marks) all
    c.loop-index.invariant)
