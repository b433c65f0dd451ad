-- whether all are digits is whether those to come are
use Rattle.std.proofs.Common.{◌≡◌, drop}
use Rattle.naga_json.specs.Numbers.{all_digits}
use Rattle.naga_json.proofs.labels.all_digits.Given as goal

abbrev pub invariant-loop-byte : goal.invariant-loop-byte
invariant-loop-byte l = all_digits (drop l.byte-index l.bytes) ≡ all_digits l.bytes
