use Rattle.std.proofs.Common.{◌∙◌, sym}
use Rattle.naga_ir.specs.Operands.{own_operands}
use Rattle.naga_ir.specs.StatementViews.{tree_of}
use Rattle.naga_ir.proofs.Remaining.{none_following}
use Rattle.naga_ir.proofs.statement_operands.StatementOperandsIterator.next.Goals as goal

-- after the last operand there is none
pub returns-in-None-clause-steps : goal.returns-in-None-clause-steps
returns-in-None-clause-steps c =
    let none =
    sym c.self.view_is ∙ none_following (own_operands (tree_of c.self.inside.statement.now))
    c.self.inside.number (sym c.in-None.ensures.item) in
    (none, none)
