use Rattle.std.proofs.Common.{ap, string_bytes}
use Rattle.std.specs.Option.{option_map}
use Rattle.naga_names.proofs.namer.items.make_room.Goals as goal

pub returns : goal.returns
returns c = λ i q. ap (option_map string_bytes) (c.reserve.ensures.entries.2 q) i
