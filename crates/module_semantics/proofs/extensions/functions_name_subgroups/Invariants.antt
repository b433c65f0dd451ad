use Rattle.std.proofs.Common.{◌≡◌}
use Rattle.std.specs.List.{enumerate_from, list_any}
use Rattle.module_semantics.specs.Subgroups.{block_names_subgroups}
use Rattle.module_semantics.proofs.extensions.functions_name_subgroups.Given as goal

abbrev pub invariant-loop-function : goal.invariant-loop-function
invariant-loop-function l =
    list_any (λ p. block_names_subgroups p.1.body) l.function-iterator
    ≡ list_any (λ p. block_names_subgroups p.1.body) (enumerate_from 0 l.functions)
