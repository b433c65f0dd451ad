use Rattle.std.proofs.Common.{◌≡◌, drop}
use Rattle.std.specs.List.{enumerate_from, zip}
use Rattle.naga_acceptance.specs.Searching.{first_faulty}
use Rattle.naga_acceptance.specs.FirstFaults.{function_sound_fault}
use Rattle.std.specs.Prelude.{map}
use Rattle.naga_acceptance.proofs.soundness.functions_sound_fault.Given as goal

abbrev pub invariant-loop-index : goal.invariant-loop-index
invariant-loop-index l =
    first_faulty (λ _ p. function_sound_fault l.module p.0 (map (λ k. k.ty) p.1))
    (enumerate_from l.index (zip (drop l.index l.functions) (drop l.index l.infos)))
    ≡ first_faulty (λ _ p. function_sound_fault l.module p.0 (map (λ k. k.ty) p.1))
    (enumerate_from 0 (zip l.functions l.infos))
