use Rattle.naga_words.proofs.Writing.{writes_as}
use Rattle.naga_wgsl_fns.proofs.ConversionRows.{cast_else, cast_then}
use Rattle.naga_wgsl_fns.proofs.functions.FunctionText.write_cast.Goals as goal

pub returns-then-keeps_bits : goal.returns-then-keeps_bits
returns-then-keeps_bits g c =
    writes_as (cast_then c.args.self.now c.args.keeps_bits c.args.target.now c.if-keeps_bits.true)
    c.write_bitcast.ensures

pub returns-else-keeps_bits : goal.returns-else-keeps_bits
returns-else-keeps_bits g c =
    writes_as (cast_else c.args.self.now c.args.keeps_bits c.args.target.now c.if-keeps_bits.false)
    c.write_type_of.ensures
