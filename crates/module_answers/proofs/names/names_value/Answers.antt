use Rattle.module_semantics.specs.Names.{wgsl_names}
use Rattle.name_maps.proofs.SameMaps.{few_keys}
use Rattle.module_answers.proofs.names.names_value.Goals as goal

-- each item has a name, so no list of them is too long
pub name_map-requires : goal.name_map-requires
name_map-requires c =
    let m = c.args.«module».now in
    record { counted = few_keys (wgsl_names m) m c.in_ok-names.ensures.ok.keys }
