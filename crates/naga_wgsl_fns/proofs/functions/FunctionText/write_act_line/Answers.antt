use Rattle.std.proofs.Common.{◌∙◌, ap, sym}
use Rattle.naga_ir.specs.Operands.{own_operands, own_result}
use Rattle.naga_ir.specs.StatementViews.{tree_of}
use Rattle.naga_words.proofs.Writing.{writes_as, writes_then}
use Rattle.naga_wgsl_fns.proofs.ActRows.{act_row}
use Rattle.naga_wgsl_fns.proofs.TextHandles.{outcome_inside}
use Rattle.naga_wgsl_fns.specs.Statements.{outcome_text}
use Rattle.naga_wgsl_fns.proofs.functions.FunctionText.write_act_line.Goals as goal

pub write_outcome-requires-clause-outcome : goal.write_outcome-requires-clause-outcome
write_outcome-requires-clause-outcome g c h is =
    outcome_inside c.args.self.now (tree_of c.args.statement.now) h c.requires.statement (sym c.result.ensures ∙ is)

pub returns : goal.returns
returns g c =
    let st = tree_of c.args.statement.now in
    writes_as (sym (act_row c.args.self.now c.args.at.now.scope.table c.args.at.now.indent c.args.word.now
    (own_operands st) (own_result st)))
    (writes_then (writes_as c.as_str.ensures c.put.ensures)
    (writes_then (writes_as (ap (outcome_text c.args.self.now) c.result.ensures) c.write_outcome.ensures)
    (writes_then c.put-2.ensures (writes_then c.put-3.ensures
    (writes_then c.write_act_operands.ensures c.put-4.ensures)))))
