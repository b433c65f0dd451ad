use Rattle.std.proofs.Common.{◌≡◌, drop, true}
use Rattle.std.specs.List.{list_all}
use Rattle.std.specs.Option.{option_map_or}
use Rattle.module_semantics.specs.acceptance.Numbers.{binding_fits_32_bits}
use Rattle.naga_acceptance.proofs.ranges.numbers.arguments_fit_32_bits.Given as goal

abbrev pub invariant-loop-argument : goal.invariant-loop-argument
invariant-loop-argument l =
    list_all (λ a. option_map_or binding_fits_32_bits a.binding true) (drop l.argument-index l.arguments)
    ≡ list_all (λ a. option_map_or binding_fits_32_bits a.binding true) l.arguments
