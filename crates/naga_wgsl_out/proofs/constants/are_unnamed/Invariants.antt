use Rattle.std.proofs.Common.{◌≡◌}
use Rattle.std.specs.List.{list_all}
use Rattle.std.specs.Option.{is_none}
use Rattle.naga_wgsl_out.proofs.constants.are_unnamed.Given as goal

abbrev pub invariant-loop-constant : goal.invariant-loop-constant
invariant-loop-constant l =
    list_all (λ p. is_none p.1.name) l.constant-iterator ≡
    list_all (λ k. is_none k.name) l.constants
