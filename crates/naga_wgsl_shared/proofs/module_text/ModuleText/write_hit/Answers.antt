use Rattle.std.proofs.Common.{sym}
use Rattle.naga_words.proofs.Writing.{writes_as, writes_then}
use Rattle.naga_wgsl_shared.proofs.StageRows.{hit_row}
use Rattle.naga_wgsl_shared.proofs.module_text.ModuleText.write_hit.Goals as goal

pub returns : goal.returns
returns g c =
    writes_as (sym (hit_row c.args.self.now.shader.now c.args.stage.now c.args.payload))
    (writes_then c.put.ensures c.write_needed.ensures)
