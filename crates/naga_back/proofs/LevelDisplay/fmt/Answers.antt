use Rattle.std.proofs.Common.{rules}
use Rattle.std.proofs.Output.{has_written_append, has_written_of_eq}
use Rattle.naga_back.proofs.Indentations.{indentation-deeper}
use Rattle.naga_back.proofs.LevelDisplay.fmt.Goals as goal

pub loop-level-preserved : goal.loop-level-preserved
loop-level-preserved g c =
    λ plain. has_written_of_eq _ _ _ _ _ (indentation-deeper c.loop-level._level)
    (has_written_append _ _ _ _ _ _ (c.loop-level.invariant plain) (search rules))
