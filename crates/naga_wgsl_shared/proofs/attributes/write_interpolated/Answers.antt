use Rattle.std.proofs.Common.{sym}
use Rattle.naga_words.proofs.Writing.{writes_as, writes_then}
use Rattle.naga_wgsl_shared.proofs.AttributeRows.{interpolated_parts}
use Rattle.naga_wgsl_shared.proofs.attributes.write_interpolated.Goals as goal

pub returns : goal.returns
returns g c =
    writes_as (sym (interpolated_parts c.args.interpolation.now c.args.sampling.now))
    (writes_then c.put.ensures
    (writes_then c.put-2.ensures
    (writes_then c.put-3.ensures (writes_then c.put-4.ensures c.put-5.ensures))))
