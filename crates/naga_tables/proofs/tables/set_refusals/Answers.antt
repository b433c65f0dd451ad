use Rattle.std.proofs.Common.{◌≡◌, ◌<◌, ap, arith, length, sym, subst, ◌∙◌}
use Rattle.std.specs.Prelude.{slice_get}
use Rattle.naga_tables.proofs.WrittenConstants.{CellsBelow, all_below, no_constant, none_below}
use Rattle.naga_tables.proofs.WrittenConstants.{one_below, refused_beyond, refused_by}
use Rattle.naga_tables.specs.Refusals.{global_refusal}
use Rattle.naga_tables.proofs.tables.set_refusals.Goals as goal

pub loop-index-init : goal.loop-index-init
loop-index-init c =
    let m = c.args.module.now in
    none_below no_constant (global_refusal m) (length m.global_expressions) c.args.cells.now
    c.requires.size

pub loop-index-preserved : goal.loop-index-preserved
loop-index-preserved c =
    let m = c.args.module.now in
    let es = m.global_expressions in
    let end = c.len-index-end.ensures in
    let test = c.loop-index-test.true in
    let within : c.loop-index.index < length es = omega (arith, end, test) in
    let at = ap (slice_get es) (sym c.from_index.ensures) ∙ c.index-expression.ensures in
    one_below no_constant (global_refusal m) (length es) c.loop-index.cells c.loop-index.index
    c.global_refusal_over-refusal.result within
    (c.global_refusal_over-refusal.ensures
    ∙ refused_by m c.requires.ordered.globals c.loop-index.index c.index-expression.result.now at
    c.loop-index.cells c.loop-index.invariant)
    c.loop-index.invariant

pub returns : goal.returns
returns c =
    let m = c.args.module.now in
    let es = m.global_expressions in
    let end = c.len-index-end.ensures in
    let test = c.loop-index-test.false in
    let last = c.loop-index.auto.index-end in
    let all : c.loop-index.index ≡ length es = omega (arith, end, test, last) in
    all_below no_constant (global_refusal m) (length es) (refused_beyond m) c.loop-index.cells
    (subst (CellsBelow no_constant (global_refusal m) (length es) c.loop-index.cells) all
    c.loop-index.invariant)
