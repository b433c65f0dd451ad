use Rattle.std.proofs.Common.{◌≡◌, drop}
use Rattle.naga_tables.specs.Refusals.{first_refusal}
use Rattle.naga_tables.specs.Tables.{refusal_at}
use Rattle.naga_tables.proofs.tables.first_refusal.Given as goal

abbrev pub invariant-loop-handle : goal.invariant-loop-handle
invariant-loop-handle l =
    first_refusal (refusal_at l.cells) (drop l.handle-index l.handles) ≡
    first_refusal (refusal_at l.cells) l.handles
