use Rattle.json.specs.Find.{as_number}
use Rattle.json.specs.Value.{value_view}
use Rattle.naga_json.proofs.Numerals.{whole_read}
use Rattle.naga_json.proofs.shape.whole.Goals as goal

pub returns : goal.returns
returns c = whole_read (as_number (value_view c.args.value.now)) c.as_u64.result c.as_u64.ensures
