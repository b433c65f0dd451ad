use Rattle.std.proofs.Common.{length}
use Rattle.naga_names.specs.Ends.{IsFrontOfDigits}
use Rattle.naga_names.proofs.namer.label.without_last_digits.Given as goal

abbrev pub invariant-loop-front : goal.invariant-loop-front
invariant-loop-front l = IsFrontOfDigits l.text l.front

abbrev pub decreases-loop-front : goal.decreases-loop-front
decreases-loop-front l = length l.front
