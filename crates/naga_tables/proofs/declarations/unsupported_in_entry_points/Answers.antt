use Rattle.std.proofs.Common.{length, refl}
use Rattle.std.proofs.lemmas.Option.{slice_get_read}
use Rattle.naga_tables.proofs.Searching.{all_passed, one_passed}
use Rattle.naga_tables.specs.Declarations.{EntryPointHasForm}
use Rattle.naga_tables.proofs.declarations.unsupported_in_entry_points.Goals as goal

pub returns-in-Some : goal.returns-in-Some
returns-in-Some c =
    let here = slice_get_read c.args.entry_points.now (length c.args.entry_points.now) c.loop-index.index
    c.index-entry_points-index.result refl c.loop-index-test.true c.index-entry_points-index.is in (
      c.loop-index.index,
      c.index-entry_points-index.result,
      here,
      refl,
      c.loop-index.invariant.formed,
      c.in-Some.ensures,
    )

pub loop-index-preserved : goal.loop-index-preserved
loop-index-preserved c =
    let here = slice_get_read c.args.entry_points.now (length c.args.entry_points.now) c.loop-index.index
    c.index-entry_points-index.result refl c.loop-index-test.true c.index-entry_points-index.is in
    one_passed (λ i. EntryPointHasForm) c.args.entry_points.now c.loop-index.index
    c.index-entry_points-index.result here c.in_default.ensures c.loop-index.invariant

pub returns : goal.returns
returns c =
    all_passed (λ i. EntryPointHasForm) c.args.entry_points.now c.loop-index.index c.loop-index-test.false
    c.loop-index.invariant
