-- the texts from here on, the last first
use Rattle.std.proofs.Common.{◌≡◌, drop, string_bytes}
use Rattle.diagnostic_directives.specs.Found.{joined_backwards}
use Rattle.diagnostic_directives.proofs.found.joined_backwards.Given as goal

abbrev pub invariant-loop-index : goal.invariant-loop-index
invariant-loop-index l = string_bytes l.all ≡ joined_backwards (drop l.index l.texts)
