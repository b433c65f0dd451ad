use Rattle.std.proofs.Common.{sym}
use Rattle.naga_words.proofs.Writing.{writes_as, writes_then}
use Rattle.naga_wgsl_shared.proofs.StageRows.{task_row}
use Rattle.naga_wgsl_shared.proofs.module_text.ModuleText.write_task.Goals as goal

pub returns : goal.returns
returns g c =
    writes_as (sym (task_row c.args.self.now.shader.now c.args.entry_point.now))
    (writes_then c.put.ensures (writes_then c.write_needed.ensures c.write_sizes.ensures))
