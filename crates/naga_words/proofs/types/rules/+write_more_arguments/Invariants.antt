use Rattle.std.proofs.Common.{length}
use Rattle.naga_words.proofs.types.rules.+write_more_arguments.Given as goal

abbrev pub decreases-write_more_arguments : goal.decreases-write_more_arguments
decreases-write_more_arguments g l = length l.arguments.now
