use Rattle.std.proofs.Common.{◌≡◌, ap, arith, length, sym, subst, ◌∙◌}
use Rattle.std.specs.Prelude.{slice_get}
use Rattle.naga_tables.proofs.FilledTables.{RepresentativesBelow, all_representatives}
use Rattle.naga_tables.proofs.FilledTables.{no_representatives, one_representative}
use Rattle.naga_tables.specs.Tables.{representative_at, representative_over}
use Rattle.naga_tables.proofs.tables.set_representatives.Goals as goal

pub loop-index-init : goal.loop-index-init
loop-index-init c = no_representatives c.args.module.now c.args.known.now c.requires.size

pub loop-index-preserved : goal.loop-index-preserved
loop-index-preserved c =
    let m = c.args.module.now in
    let e = c.index.result.now in
    let at = ap (slice_get m.global_expressions) (sym c.from_index-handle.ensures) ∙ c.index.ensures in
    one_representative m c.requires.ordered c.loop-index.known c.loop-index.index c.representative_by-found.result e at
    (c.representative_by-found.ensures
    ∙ ap (λ h. representative_over m (representative_at c.loop-index.known) h e) c.from_index-handle.ensures)
    c.loop-index.invariant

pub returns : goal.returns
returns c =
    let m = c.args.module.now in
    let end = c.len-index-end.ensures in
    let test = c.loop-index-test.false in
    let last = c.loop-index.auto.index-end in
    let all : c.loop-index.index ≡ length m.global_expressions = omega (arith, end, test, last) in
    all_representatives m c.loop-index.known
    (subst (RepresentativesBelow m c.loop-index.known) all c.loop-index.invariant)
