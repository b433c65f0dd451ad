use Rattle.naga_tables.proofs.FilledTables.{items_in_order}
use Rattle.naga_wgsl_shared.proofs.undeclared.names_undeclared.Goals as goal

pub of-requires : goal.of-requires
of-requires c = record {
  ordered =
      items_in_order c.args.«module».now c.requires.accepted.0 c.requires.accepted.1;
}
