-- the chain is what is left of it, and what was met
use Rattle.diagnostic_directives.proofs.found.found_directives.Given as goal
use Rattle.diagnostic_directives.proofs.Walking.{IsMet}

abbrev pub invariant-loop-index : goal.invariant-loop-index
invariant-loop-index l = IsMet l.«module» l.index l.last l.found
