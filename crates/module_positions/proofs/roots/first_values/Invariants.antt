use Rattle.std.proofs.Common.{◌≡◌, [], drop}
use Rattle.module_positions.specs.Roots.{with_first}
use Rattle.module_positions.proofs.roots.first_values.Given as goal

abbrev pub invariant-loop-index : goal.invariant-loop-index
invariant-loop-index l =
    with_first l.values.items (drop l.index l.function.expressions) ≡ with_first [] l.function.expressions
