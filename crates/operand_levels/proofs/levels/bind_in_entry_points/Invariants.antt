use Rattle.std.proofs.Common.{◌≡◌, IsFalse, drop, map}
use Rattle.std.specs.List.{enumerate_from}
use Rattle.operand_levels.specs.Levels.{all_bound_where_deep}
use Rattle.operand_levels.specs.Raised.{AllRaised}
use Rattle.operand_levels.proofs.Raising.{bound_from}
use Rattle.operand_levels.proofs.levels.bind_in_entry_points.Given as goal

abbrev pub invariant-loop-index : goal.invariant-loop-index
invariant-loop-index l =
    (bound_from l.infos (enumerate_from l.index (drop l.index (map (λ p. p.function) l.entry_points)))
    ≡ all_bound_where_deep (map (λ p. p.function) l.entry_points) l.initial.infos)
    × AllRaised l.initial.infos l.infos
    × (IsFalse l.raises → l.infos ≡ l.initial.infos)
