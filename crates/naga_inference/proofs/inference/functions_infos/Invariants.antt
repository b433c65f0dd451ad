use Rattle.std.proofs.Common.{◌≡◌, []}
use Rattle.std.specs.List.{enumerate_from}
use Rattle.naga_inference.specs.Inferred.{function_of_module}
use Rattle.naga_inference.specs.Passes.{answers_after}
use Rattle.naga_inference.proofs.inference.functions_infos.Given as goal

abbrev pub invariant-loop-here : goal.invariant-loop-here
invariant-loop-here l =
    answers_after (function_of_module l.module) l.infos.items l.here-iterator
    ≡ answers_after (function_of_module l.module) [] (enumerate_from 0 l.module.functions)
