use Rattle.std.proofs.Common.{◌≡◌, take}
use Rattle.naga_naming.specs.Label.{ends_separated, StaysSame}
use Rattle.naga_names.proofs.namer.label.stays_same.Given as goal

abbrev pub invariant-loop-byte : goal.invariant-loop-byte
invariant-loop-byte l = record {
  stays : StaysSame (take l.byte-index l.bytes);
  separated : ends_separated (take l.byte-index l.bytes) ≡ l.is_separated;
}
