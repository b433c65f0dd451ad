use Rattle.std.proofs.Common.{◌≡◌, string_bytes}
use Rattle.naga_naming.specs.Label.{ascii_of}
use Rattle.naga_names.proofs.namer.label.spell.Given as goal

abbrev pub invariant-loop-c : goal.invariant-loop-c
invariant-loop-c l = string_bytes l.text ≡ ascii_of l.yielded
