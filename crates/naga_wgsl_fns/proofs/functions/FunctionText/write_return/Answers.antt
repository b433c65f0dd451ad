use Rattle.std.proofs.Common.{None, ap, refl, ◌∙◌, subst, sym}
use Rattle.std.specs.Option.{option_to_list}
use Rattle.naga_ir.specs.StatementTree.{return, simple}
use Rattle.naga_words.proofs.Writing.{writes_as}
use Rattle.naga_wgsl_fns.proofs.StatementRows.{jump_row, return_value_row}
use Rattle.naga_wgsl_fns.specs.FunctionText.{AreInText, handles_in}
use Rattle.naga_wgsl_fns.specs.Statements.{statement_text}
use Rattle.naga_wgsl_fns.proofs.functions.FunctionText.write_return.Goals as goal

pub write_around-requires-clause-value : goal.write_around-requires-clause-value
write_around-requires-clause-value g c =
    (subst (λ o. AreInText c.args.self.now (option_to_list o)) c.in-Some.is c.requires.value).0

pub returns-in-Some : goal.returns-in-Some
returns-in-Some g c =
    let self = c.args.self.now in
    let k = c.args.at.now.scope.named in
    let s = handles_in self c.args.at.now.scope.table in
    let i = c.args.at.now.indent in
    writes_as (sym (return_value_row self k s i c.in-Some.value)
    ∙ ap (λ o. statement_text self k s i (simple (return o))) (sym c.in-Some.is))
    c.write_around.ensures

pub returns-in-None : goal.returns-in-None
returns-in-None g c =
    let self = c.args.self.now in
    let k = c.args.at.now.scope.named in
    let s = handles_in self c.args.at.now.scope.table in
    let i = c.args.at.now.indent in
    writes_as (sym (jump_row self k s i (return None) refl)
    ∙ ap (λ o. statement_text self k s i (simple (return o))) (sym c.in-None.is))
    c.write_start.ensures
