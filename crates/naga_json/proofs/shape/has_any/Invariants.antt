-- whether one of all is there is whether one of the rest is
use Rattle.std.proofs.Common.{◌≡◌, drop}
use Rattle.json.specs.Value.{value_view}
use Rattle.naga_json.specs.Said.{texts, any_found}
use Rattle.naga_json.proofs.shape.has_any.Given as goal

abbrev pub invariant-loop-name : goal.invariant-loop-name
invariant-loop-name l = any_found (texts (drop l.name-index l.names)) (value_view l.value)
    ≡ any_found (texts l.names) (value_view l.value)
