use Rattle.std.proofs.Common.{sym}
use Rattle.naga_words.proofs.Writing.{writes_as, writes_then}
use Rattle.naga_wgsl_out.proofs.VariableRows.{access_row}
use Rattle.naga_wgsl_out.proofs.variables.write_space_and_access.Goals as goal

pub returns : goal.returns
returns g c =
    writes_as (sym (access_row c.args.space.now c.args.access.now))
    (writes_then c.put.ensures
    (writes_then c.put-2.ensures
    (writes_then c.put-3.ensures (writes_then c.put-4.ensures c.put-5.ensures))))
