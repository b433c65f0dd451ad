use Rattle.std.proofs.Common.{sym}
use Rattle.naga_words.proofs.Writing.{writes_as, writes_then}
use Rattle.naga_wgsl_out.proofs.StructRows.{struct_row}
use Rattle.naga_wgsl_out.proofs.structs.StructText.write.Goals as goal

pub returns : goal.returns
returns g c =
    writes_as (sym (struct_row c.args.self.now.text.shader.now c.args.self.now.handle c.args.self.now.members.now))
    (writes_then c.put.ensures
    (writes_then c.write_name.ensures
    (writes_then c.put-2.ensures (writes_then c.write_members.ensures c.put-3.ensures))))
