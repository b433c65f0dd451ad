use Rattle.json.specs.Value.{value_view}
use Rattle.naga_json.proofs.Numerals.{constant_size_read}
use Rattle.naga_json.proofs.types.constant_size.Goals as goal

pub returns-in-Some : goal.returns-in-Some
returns-in-Some c =
    constant_size_read (value_view c.args.payload.now) c.in_ok-from_json.field-0 c.in-Some.count
    c.in_ok-from_json.ensures c.in-Some.ensures
