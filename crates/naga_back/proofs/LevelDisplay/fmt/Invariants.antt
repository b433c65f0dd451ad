use Rattle.std.specs.Fmt.{HasWritten, IsPlainFormatter}
use Rattle.naga_back.specs.Indentation.{indentation}
use Rattle.naga_back.proofs.LevelDisplay.fmt.Given as goal

abbrev pub invariant-loop-level : goal.invariant-loop-level
invariant-loop-level g l =
    IsPlainFormatter l.initial.f → HasWritten g.W.Write.write_str_gives l.initial.f (indentation l._level) l.f
