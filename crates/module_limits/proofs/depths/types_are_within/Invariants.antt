use Rattle.std.proofs.Common.{◌≡◌, ◌≤◌, fold, map}
use Rattle.module_limits.specs.Depths.{depths_of, greatest, with_depth}
use Rattle.module_limits.specs.Nesting.{type_parts}
use Rattle.module_limits.proofs.depths.types_are_within.Given as goal

abbrev pub invariant-loop-ty : goal.invariant-loop-ty
invariant-loop-ty l = record {
  left : fold (with_depth (λ t. type_parts t.inner)) l.depths.items (map (λ p. p.1) l.ty-iterator)
      ≡ depths_of (λ t. type_parts t.inner) l.types;
  within : greatest l.depths.items ≤ l.levels;
}
