use Rattle.std.proofs.Common.{◌≡◌, IsFalse}
use Rattle.operand_levels.specs.Levels.{bound_after, bound_where_deep}
use Rattle.operand_levels.specs.Raised.{AreRaised}
use Rattle.operand_levels.proofs.levels.bind_in_function.Given as goal

abbrev pub invariant-loop-handle : goal.invariant-loop-handle
invariant-loop-handle l =
    (bound_after l.function l.levels.items l.infos l.handle-iterator ≡ bound_where_deep l.function l.initial.infos)
    × AreRaised l.initial.infos l.infos
    × (IsFalse l.raises → l.infos ≡ l.initial.infos)
