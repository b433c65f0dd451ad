use Rattle.std.proofs.Common.{◌≡◌, map, drop}
use Rattle.std.specs.Bool.{nat_eq}
use Rattle.std.specs.List.{list_any, starts_with}
use Rattle.naga_names.proofs.namer.label.begins_reserved.Given as goal

abbrev pub invariant-loop-prefix : goal.invariant-loop-prefix
invariant-loop-prefix l = list_any (starts_with nat_eq l.text) (map (λ p. p.now) l.prefixes)
    ≡ list_any (starts_with nat_eq l.text) (map (λ p. p.now) (drop l.prefix-index l.prefixes))
