use Rattle.naga_words.proofs.Writing.{writes_as, writes_then}
use Rattle.module_semantics.specs.Names.{module_names}
use Rattle.naga_wgsl_shared.proofs.StageRows.{sizes_row}
use Rattle.naga_wgsl_shared.proofs.module_text.ModuleText.write_sizes.Goals as goal

pub returns : goal.returns
returns g c =
    let p = c.args.entry_point.now in
    let there = c.requires.there in
    writes_as
    (sizes_row (module_names c.args.self.now.shader.now) p.workgroup_size p.workgroup_size_overrides 0
    c.index-entry_point-0.result c.index-entry_point-1.result c.index-entry_point-2.result there.axes there.override_axes)
    (writes_then c.put.ensures
    (writes_then c.write_size.ensures (writes_then c.write_size-2.ensures c.write_size-3.ensures)))
