use Rattle.std.proofs.Common.{Bool, [], ap, sym, ◌∙◌}
use Rattle.std.specs.Prelude.{cond}
use Rattle.naga_words.proofs.Writing.{writes_as, writes_nothing}
use Rattle.naga_wgsl_fns.specs.FunctionText.{handles_in}
use Rattle.naga_wgsl_fns.specs.Statements.{emitted_text, let_text}
use Rattle.naga_wgsl_fns.proofs.functions.FunctionText.write_emitted.Goals as goal

pub returns-then-is_bound : goal.returns-then-is_bound
unfolding emitted_text
returns-then-is_bound g c =
    let self = c.args.self.now in
    writes_as (ap
    (λ (b : Bool). cond b (let_text self c.args.at.now.scope.named (handles_in self c.args.at.now.scope.table)
    c.args.at.now.indent c.args.handle) [])
    (sym c.if-is_bound.true ∙ c.requires.bound))
    c.write_let.ensures

pub returns-else-is_bound : goal.returns-else-is_bound
unfolding emitted_text
returns-else-is_bound g c =
    let self = c.args.self.now in
    writes_as (ap
    (λ (b : Bool). cond b (let_text self c.args.at.now.scope.named (handles_in self c.args.at.now.scope.table)
    c.args.at.now.indent c.args.handle) [])
    (sym c.if-is_bound.false ∙ c.requires.bound))
    (writes_nothing _)

pub write_let-requires-clause-handle : goal.write_let-requires-clause-handle
write_let-requires-clause-handle g c =
    c.requires.in_text (sym c.requires.bound ∙ c.if-is_bound.true)

pub write_let-requires-clause-named : goal.write_let-requires-clause-named
write_let-requires-clause-named g c =
    c.requires.named (sym c.requires.bound ∙ c.if-is_bound.true)
