use Rattle.naga_words.proofs.Writing.{writes_as, writes_then}
use Rattle.naga_wgsl_fns.proofs.FunctionRows.{first_value_row}
use Rattle.naga_wgsl_fns.proofs.functions.FunctionText.write_first.Goals as goal

pub returns : goal.returns
returns g c =
    writes_as (first_value_row c.args.self.now c.args.scope.now.table c.args.value c.requires.start)
    (writes_then c.put.ensures (writes_then c.write_value.ensures c.put-2.ensures))
