use Rattle.naga_words.proofs.Writing.{writes_as, writes_then}
use Rattle.naga_wgsl_shared.proofs.StageRows.{compute_row}
use Rattle.naga_wgsl_shared.proofs.module_text.ModuleText.write_compute.Goals as goal

pub returns : goal.returns
returns g c =
    writes_as (compute_row c.args.self.now.shader.now c.args.entry_point.now)
    (writes_then c.put.ensures c.write_sizes.ensures)
