use Rattle.std.proofs.Common.{◌≡◌, drop, false}
use Rattle.std.specs.Option.{option_map_or}
use Rattle.naga_wgsl_out.specs.Enables.{either}
use Rattle.naga_wgsl_out.proofs.FoundEnables.{enables_among}
use Rattle.naga_wgsl_out.proofs.enables.of_arguments.Given as goal

abbrev pub invariant-loop-argument : goal.invariant-loop-argument
invariant-loop-argument l =
    either l.found (enables_among (λ x a. option_map_or x.for_binding a.binding false)
    (drop l.argument-index l.arguments)) ≡
    enables_among (λ x a. option_map_or x.for_binding a.binding false) l.arguments
