use Rattle.module_semantics.specs.Names.{wgsl_names}
use Rattle.name_maps.proofs.SameMaps.{few_keys}
use Rattle.module_answers.proofs.names.names_text.Goals as goal

-- each item has a name, so no list of them is too long
pub map_text-requires : goal.map_text-requires
map_text-requires c =
    let m = c.args.«module».now in
    record { counted = few_keys (wgsl_names m) m c.in_ok-names.ensures.ok.keys }
