use Rattle.std.proofs.Common.{sym}
use Rattle.naga_words.proofs.Writing.{writes_as, writes_then}
use Rattle.naga_wgsl_shared.proofs.StageRows.{mesh_row}
use Rattle.naga_wgsl_shared.proofs.module_text.ModuleText.write_mesh.Goals as goal

pub returns : goal.returns
returns g c =
    writes_as (sym (mesh_row c.args.self.now.shader.now c.args.entry_point.now))
    (writes_then c.write_output.ensures
    (writes_then c.write_sizes.ensures c.write_payload.ensures))
