use Rattle.std.proofs.Common.{ap, suc}
use Rattle.naga_words.proofs.Writing.{writes_as}
use Rattle.naga_wgsl_fns.specs.FunctionText.{handles_in}
use Rattle.naga_wgsl_fns.specs.Statements.{block_text}
use Rattle.naga_wgsl_fns.proofs.TextHandles.{body_of}
use Rattle.naga_wgsl_fns.proofs.functions.FunctionText.write_statements.Goals as goal

pub write_here-requires-clause-body : goal.write_here-requires-clause-body
write_here-requires-clause-body g c = body_of c.args.self.now c.requires.can

pub returns : goal.returns
returns g c =
    let self = c.args.self.now in
    let k = c.args.at.now.scope.named in
    let s = handles_in self c.args.at.now.scope.table in
    let b = self.function.now.body in
    writes_as (ap (λ i. block_text self k s (suc i) b) c.requires.level)
    (c.deepen.ensures.text (λ i. block_text self k s i b) _ c.write_here.ensures.text)
