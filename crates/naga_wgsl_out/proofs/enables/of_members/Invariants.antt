use Rattle.std.proofs.Common.{◌≡◌, drop, false}
use Rattle.std.specs.Option.{option_map_or}
use Rattle.naga_wgsl_out.specs.Enables.{either}
use Rattle.naga_wgsl_out.proofs.FoundEnables.{enables_among}
use Rattle.naga_wgsl_out.proofs.enables.of_members.Given as goal

abbrev pub invariant-loop-member : goal.invariant-loop-member
invariant-loop-member l =
    either l.found (enables_among (λ x m. option_map_or x.for_binding m.binding false)
    (drop l.member-index l.members)) ≡
    enables_among (λ x m. option_map_or x.for_binding m.binding false) l.members
