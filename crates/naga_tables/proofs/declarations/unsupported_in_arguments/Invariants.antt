use Rattle.std.proofs.Common.{◌≡◌, None}
use Rattle.naga_tables.proofs.Searching.{Passed}
use Rattle.naga_tables.specs.Declarations.{binding_refusal}
use Rattle.naga_tables.proofs.declarations.unsupported_in_arguments.Given as goal

abbrev pub invariant-loop-argument : goal.invariant-loop-argument
invariant-loop-argument l =
    Passed (λ i a. binding_refusal a.binding ≡ None) l.arguments l.argument-index
