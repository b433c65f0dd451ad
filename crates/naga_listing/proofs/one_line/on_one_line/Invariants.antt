use Rattle.std.proofs.Common.{◌≡◌, flat_map, string_bytes}
use Rattle.naga_listing.specs.OneLine.{shown_char}
use Rattle.naga_listing.proofs.one_line.on_one_line.Given as goal

abbrev pub invariant-loop-c : goal.invariant-loop-c
invariant-loop-c l = string_bytes l.line ≡ flat_map shown_char l.yielded
