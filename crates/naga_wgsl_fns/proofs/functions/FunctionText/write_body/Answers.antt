use Rattle.naga_words.proofs.Writing.{writes_as, writes_then}
use Rattle.naga_wgsl_fns.proofs.FunctionRows.{body_row}
use Rattle.naga_wgsl_fns.proofs.functions.FunctionText.write_body.Goals as goal

pub returns : goal.returns
returns g c =
    writes_as (body_row c.args.self.now c.args.at.now.scope c.requires.start.start c.requires.start.named)
    (writes_then c.write_locals.ensures (writes_then c.write_statements.ensures c.put.ensures))
