use Rattle.name_maps.proofs.DeclaredIdentifiers.{maps_tell_texts}
use Rattle.name_maps.proofs.laws.maps_tell_texts.Goals as goal

pub returns : goal.returns
returns c = maps_tell_texts
