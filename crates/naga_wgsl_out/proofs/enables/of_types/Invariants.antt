use Rattle.std.proofs.Common.{◌≡◌}
use Rattle.module_semantics.specs.Enables.{type_needs}
use Rattle.naga_wgsl_out.specs.Enables.{either}
use Rattle.naga_wgsl_out.proofs.FoundEnables.{enables_among}
use Rattle.naga_wgsl_out.proofs.enables.of_types.Given as goal

abbrev pub invariant-loop-ty : goal.invariant-loop-ty
invariant-loop-ty l =
    either l.found (enables_among (λ x p. type_needs x p.1.inner) l.ty-iterator) ≡
    enables_among (λ x t. type_needs x t.inner) l.types
