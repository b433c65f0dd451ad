use Rattle.std.proofs.Common.{◌≡◌, ◌+◌, ◌*◌, ◌≤◌, [], drop, length}
use Rattle.naga_ir.specs.StatementTree.{block_size, cases_size, statement_size}
use Rattle.naga_ir.specs.StatementViews.{block_of, cases_of, tree_of}
use Rattle.naga_scope.specs.Changes.{block_changes, cases_changes}
use Rattle.naga_scope.specs.Log.{Extends, Same}
use Rattle.naga_words.specs.Output.{output_view}
use Rattle.naga_words.proofs.Writing.{Leaves}
use Rattle.naga_wgsl_fns.specs.FunctionText.{CanWriteBlock, CanWriteCases, handles_in}
use Rattle.naga_wgsl_fns.specs.Statements.{after_statements, block_text, cases_text}
use Rattle.naga_wgsl_fns.specs.Statements.{named_following, named_after_cases}
use Rattle.naga_wgsl_fns.proofs.SwitchRows.{case_values_between}
use Rattle.naga_wgsl_fns.proofs.functions.FunctionText.+statement.Given as goal

-- Each call is of fewer statements and cases, or of as many and further down.
abbrev pub decreases-write_lines : goal.decreases-write_lines
decreases-write_lines g l = 16 * block_size (block_of l.statements.now) + 1

abbrev pub decreases-write_here : goal.decreases-write_here
decreases-write_here g l = 16 * block_size l.body.now + 2

abbrev pub decreases-write_inner : goal.decreases-write_inner
decreases-write_inner g l = 16 * block_size l.body.now + 3

abbrev pub decreases-write_braces : goal.decreases-write_braces
decreases-write_braces g l = 16 * block_size l.body.now + 4

abbrev pub decreases-write_group : goal.decreases-write_group
decreases-write_group g l = 16 * block_size l.body.now + 4

abbrev pub decreases-write_case : goal.decreases-write_case
decreases-write_case g l = 16 * block_size l.case.now.body + 5

abbrev pub decreases-write_nested : goal.decreases-write_nested
decreases-write_nested g l = 16 * block_size l.nested.now + 5

abbrev pub decreases-write_else : goal.decreases-write_else
decreases-write_else g l = 16 * block_size l.reject.now + 4

abbrev pub decreases-write_if : goal.decreases-write_if
decreases-write_if g l = 16 * (block_size l.accept.now + block_size l.reject.now) + 8

abbrev pub decreases-write_loop_body : goal.decreases-write_loop_body
decreases-write_loop_body g l = 16 * block_size l.body.now + 3

abbrev pub decreases-write_last : goal.decreases-write_last
decreases-write_last g l = 16 * block_size l.continuing.now + 4

abbrev pub decreases-write_break_if : goal.decreases-write_break_if
decreases-write_break_if g l = 16 * block_size l.continuing.now + 6

abbrev pub decreases-write_plain_continuing : goal.decreases-write_plain_continuing
decreases-write_plain_continuing g l = 16 * block_size l.continuing.now + 5

abbrev pub decreases-write_continuing : goal.decreases-write_continuing
decreases-write_continuing g l = 16 * block_size l.continuing.now + 7

abbrev pub decreases-write_turn_here : goal.decreases-write_turn_here
decreases-write_turn_here g l = 16 * (block_size l.body.now + block_size l.continuing.now) + 8

abbrev pub decreases-write_turn : goal.decreases-write_turn
decreases-write_turn g l = 16 * (block_size l.body.now + block_size l.continuing.now) + 9

abbrev pub decreases-write_loop : goal.decreases-write_loop
decreases-write_loop g l = 16 * (block_size l.body.now + block_size l.continuing.now) + 10

abbrev pub decreases-write_cases : goal.decreases-write_cases
decreases-write_cases g l = 16 * cases_size (cases_of l.cases.now) + 1

abbrev pub decreases-write_switch : goal.decreases-write_switch
decreases-write_switch g l = 16 * cases_size (cases_of l.cases.now) + 3

abbrev pub decreases-write_statement : goal.decreases-write_statement
decreases-write_statement g l = 16 * statement_size (tree_of l.statement.now)

abbrev pub invariant-write_lines-loop-statement : goal.invariant-write_lines-loop-statement
invariant-write_lines-loop-statement g l = record {
  leaves : Leaves (output_view g.W.TextSink.text g.W.TextSink.failures l.initial.out)
      (output_view g.W.TextSink.text g.W.TextSink.failures l.out)
      (block_text l.self l.initial.at.scope.named (handles_in l.self l.initial.at.scope.table)
      l.initial.at.indent (block_of l.statements))
      (block_text l.self l.at.scope.named (handles_in l.self l.at.scope.table) l.initial.at.indent
      (block_of (drop l.statement-index l.statements)));
  block : CanWriteBlock l.self (block_of (drop l.statement-index l.statements));
  following : after_statements l.self l.at.scope.named (block_of (drop l.statement-index l.statements))
      (handles_in l.self l.at.scope.table)
      ≡ after_statements l.self l.initial.at.scope.named (block_of l.statements)
      (handles_in l.self l.initial.at.scope.table);
  named : named_following l.self (block_of (drop l.statement-index l.statements)) l.at.scope.named
      ≡ named_following l.self (block_of l.statements) l.initial.at.scope.named;
  kept : Extends l.initial.at.scope l.at.scope;
  counted : length l.at.scope.log + block_changes (block_of (drop l.statement-index l.statements))
      ≤ length l.initial.at.scope.log + block_changes (block_of l.statements);
  names : l.at.scope.named + block_changes (block_of (drop l.statement-index l.statements))
      ≤ l.initial.at.scope.named + block_changes (block_of l.statements);
  smaller : block_size (block_of (drop l.statement-index l.statements)) ≤ block_size (block_of l.statements);
  indent : l.at.indent ≡ l.initial.at.indent;
}

-- the case_values of the cases from the first on wait for the next case that doesn't fall through
abbrev pub invariant-write_cases-loop-index : goal.invariant-write_cases-loop-index
invariant-write_cases-loop-index g l = record {
  leaves : Leaves (output_view g.W.TextSink.text g.W.TextSink.failures l.initial.out)
      (output_view g.W.TextSink.text g.W.TextSink.failures l.out)
      (cases_text l.self l.initial.at.scope.named (handles_in l.self l.initial.at.scope.table)
      l.initial.at.indent [] (cases_of l.cases))
      (cases_text l.self l.at.scope.named (handles_in l.self l.initial.at.scope.table) l.initial.at.indent
      (case_values_between l.first l.index l.cases) (cases_of (drop l.index l.cases)));
  cases : CanWriteCases l.self (cases_of (drop l.index l.cases));
  first : l.first ≤ l.index;
  named : named_after_cases l.self (cases_of (drop l.index l.cases)) l.at.scope.named
      ≡ named_after_cases l.self (cases_of l.cases) l.initial.at.scope.named;
  same : Same l.initial.at.scope l.at.scope;
  names : l.at.scope.named + cases_changes (cases_of (drop l.index l.cases)) ≤ l.initial.at.scope.named
      + cases_changes (cases_of l.cases);
  fewer : cases_changes (cases_of (drop l.index l.cases)) ≤ cases_changes (cases_of l.cases);
  smaller : cases_size (cases_of (drop l.index l.cases)) ≤ cases_size (cases_of l.cases);
  indent : l.at.indent ≡ l.initial.at.indent;
}
