use Rattle.std.proofs.Common.{◌≡◌, IsFalse}
use Rattle.operand_levels.specs.Levels.{all_bound_where_deep}
use Rattle.operand_levels.specs.Raised.{AllRaised}
use Rattle.operand_levels.proofs.Raising.{bound_from}
use Rattle.operand_levels.proofs.levels.bind_in_functions.Given as goal

abbrev pub invariant-loop-handle : goal.invariant-loop-handle
invariant-loop-handle l =
    (bound_from l.infos l.handle-iterator ≡ all_bound_where_deep l.functions l.initial.infos)
    × AllRaised l.initial.infos l.infos
    × (IsFalse l.raises → l.infos ≡ l.initial.infos)
