use Rattle.std.proofs.Common.{◌≡◌, []}
use Rattle.std.specs.List.{enumerate_from}
use Rattle.naga_inference.specs.Inferred.{function_rule}
use Rattle.naga_inference.specs.Passes.{answers_after}
use Rattle.naga_inference.proofs.inference.function_infos.Given as goal

abbrev pub invariant-loop-handle : goal.invariant-loop-handle
invariant-loop-handle l =
    answers_after (function_rule l.module l.function) l.expressions.items l.handle-iterator
    ≡ answers_after (function_rule l.module l.function) [] (enumerate_from 0 l.function.expressions)
