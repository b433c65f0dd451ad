use Rattle.naga_tables.proofs.FilledTables.{items_in_order}
use Rattle.naga_wgsl_out.proofs.ItemRows.{can_write_module}
use Rattle.naga_wgsl_out.proofs.Positions.{labels_stand}
use Rattle.naga_wgsl_out.proofs.unwritable.unwritable.Goals as goal

pub of-requires : goal.of-requires
of-requires c = record {
  ordered = items_in_order c.args.«module».now c.args.info.now c.requires.accepted;
}

pub unwritable_function-requires-clause-can : goal.unwritable_function-requires-clause-can
unwritable_function-requires-clause-can c =
    can_write_module _ c.requires.accepted c.in_default.ensures.none c.in_ok-tables.ensures
    c.in-Ok.ensures.ok

pub returns-in-Some-clause-stands : goal.returns-in-Some-clause-stands
returns-in-Some-clause-stands c = c.in-Some.ensures.stands

pub returns-in-Some-clause-first : goal.returns-in-Some-clause-first
returns-in-Some-clause-first c = c.in-Some.ensures.first

pub returns-clause-stands : goal.returns-clause-stands
returns-clause-stands c =
    labels_stand c.args.«module».now c.in-Err.error c.in_ok-construct-in-Err.construct c.in-Err.ensures.err
    c.in_ok-construct-in-Err.ensures.ok
