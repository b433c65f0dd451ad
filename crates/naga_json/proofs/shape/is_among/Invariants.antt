-- whether the name is among all is whether it is among the rest
use Rattle.std.proofs.Common.{◌≡◌, drop}
use Rattle.naga_json.specs.Said.{texts, among}
use Rattle.naga_json.proofs.shape.is_among.Given as goal

abbrev pub invariant-loop-known : goal.invariant-loop-known
invariant-loop-known l = among (texts (drop l.known-index l.names)) l.name ≡ among (texts l.names) l.name
