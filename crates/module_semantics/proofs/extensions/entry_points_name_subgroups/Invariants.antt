use Rattle.std.proofs.Common.{◌≡◌, drop}
use Rattle.std.specs.List.{list_any}
use Rattle.module_semantics.specs.Subgroups.{block_names_subgroups}
use Rattle.module_semantics.proofs.extensions.entry_points_name_subgroups.Given as goal

abbrev pub invariant-loop-point : goal.invariant-loop-point
invariant-loop-point l =
    list_any (λ p. block_names_subgroups p.function.body) (drop l.point-index l.points)
    ≡ list_any (λ p. block_names_subgroups p.function.body) l.points
