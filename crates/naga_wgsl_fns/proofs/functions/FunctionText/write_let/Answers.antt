use Rattle.std.proofs.Common.{sym}
use Rattle.naga_words.proofs.Writing.{writes_as, writes_then}
use Rattle.naga_wgsl_fns.proofs.StatementRows.{let_row}
use Rattle.naga_wgsl_fns.proofs.functions.FunctionText.write_let.Goals as goal

pub returns : goal.returns
returns g c =
    writes_as (sym (let_row c.args.self.now c.args.at.now.scope.named c.args.at.now.scope.table
    c.args.at.now.indent c.args.handle))
    (writes_then c.write_start.ensures
    (writes_then c.write_next_name.ensures
    (writes_then c.write_let_annotation.ensures
    (writes_then c.put.ensures (writes_then c.write_own.ensures c.put-2.ensures)))))
