use Rattle.std.proofs.Common.{sym}
use Rattle.naga_words.proofs.Writing.{writes_as, writes_then}
use Rattle.naga_wgsl_fns.proofs.StatementRows.{around_row}
use Rattle.naga_wgsl_fns.proofs.functions.FunctionText.write_around.Goals as goal

pub returns : goal.returns
returns g c =
    writes_as (sym (around_row c.args.self.now c.args.at.now.scope.table c.args.at.now.indent c.args.start.now
    c.args.value c.args.end.now))
    (writes_then c.write_start.ensures (writes_then c.write_value.ensures c.put.ensures))
