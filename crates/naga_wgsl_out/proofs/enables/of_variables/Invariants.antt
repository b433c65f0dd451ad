use Rattle.std.proofs.Common.{◌≡◌}
use Rattle.naga_wgsl_out.specs.Enables.{either}
use Rattle.naga_wgsl_out.proofs.FoundEnables.{enables_among}
use Rattle.naga_wgsl_out.proofs.enables.of_variables.Given as goal

abbrev pub invariant-loop-variable : goal.invariant-loop-variable
invariant-loop-variable l =
    either l.found (enables_among (λ x p. x.for_space p.1.space) l.variable-iterator) ≡
    enables_among (λ x v. x.for_space v.space) l.variables
