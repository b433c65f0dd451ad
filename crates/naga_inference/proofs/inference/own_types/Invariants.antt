use Rattle.std.proofs.Common.{◌≡◌, []}
use Rattle.std.specs.List.{enumerate_from}
use Rattle.naga_inference.specs.Inferred.{own_rule}
use Rattle.naga_inference.specs.Passes.{answers_after}
use Rattle.naga_inference.proofs.inference.own_types.Given as goal

abbrev pub invariant-loop-handle : goal.invariant-loop-handle
invariant-loop-handle l =
    answers_after (own_rule l.module) l.types.items l.handle-iterator
    ≡ answers_after (own_rule l.module) [] (enumerate_from 0 l.module.global_expressions)
