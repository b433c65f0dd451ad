-- What an arena ends as, where a reference to one of its items is handed out to be changed.
use Rattle.std.specs.Prelude.{ℕ, List, slice_set}
use Rattle.std.specs.Borrow.{Lends, MutBor, Fml, RattleType}
use Rattle.naga_ir.specs.contracts.arena.Arena.{the_row}

module _ (T : RattleType) where
  -- once the reference's time is over, the item has the last value that was written through it
  abbrev pub LendsItem : MutBor (List T.Denot) → (handle : ℕ) → MutBor T.Denot → Fml
  LendsItem a h r = Lends (the_row T) T a r (slice_set a.now h)
