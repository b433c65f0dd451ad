use Rattle.std.proofs.Common.{sym}
use Rattle.naga_words.proofs.Writing.{writes_as, writes_then}
use Rattle.naga_wgsl_fns.proofs.FunctionRows.{local_row}
use Rattle.naga_wgsl_fns.proofs.TextHandles.{first_in_range}
use Rattle.naga_wgsl_fns.proofs.Preconditions.{local_is_formed}
use Rattle.naga_wgsl_fns.proofs.functions.FunctionText.write_local.Goals as goal

pub write_type-requires-clause-formed : goal.write_type-requires-clause-formed
write_type-requires-clause-formed g c =
    local_is_formed c.args.self.now c.requires.can c.args.handle c.index-local.result.now c.index-local.ensures

pub write_first_value-requires-clause-value : goal.write_first_value-requires-clause-value
write_first_value-requires-clause-value g c =
    first_in_range c.args.self.now c.requires.can c.args.handle c.index-local.result.now c.index-local.ensures

pub returns : goal.returns
returns g c =
    writes_as (sym (local_row c.args.self.now c.args.handle c.index-local.result.now c.index-local.ensures))
    (writes_then c.put.ensures (writes_then c.write_local_name.ensures
    (writes_then c.put-2.ensures (writes_then c.write_type.ensures c.write_first_value.ensures))))
