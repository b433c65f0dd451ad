use Rattle.std.proofs.Common.{sym}
use Rattle.naga_words.proofs.Writing.{writes_as, writes_then}
use Rattle.naga_wgsl_fns.proofs.StatementRows.{assignment_row}
use Rattle.naga_wgsl_fns.proofs.functions.FunctionText.write_assignment.Goals as goal

pub returns : goal.returns
returns g c =
    writes_as (sym (assignment_row c.args.self.now c.args.at.now.scope.table c.args.at.now.indent c.args.pointer
    c.args.value))
    (writes_then (writes_as c.as_str.ensures c.put.ensures)
    (writes_then c.write_reference.ensures
    (writes_then c.put-2.ensures (writes_then c.write_value.ensures c.put-3.ensures))))
