use Rattle.wgsl_text.proofs.Examples.{type_rows, operator_rows, access_rows, line_rows}
use Rattle.wgsl_text.proofs.row_texts.Goals as goal

pub returns-clause-types : goal.returns-clause-types
returns-clause-types c = type_rows

pub returns-clause-operators : goal.returns-clause-operators
returns-clause-operators c = operator_rows

pub returns-clause-accesses : goal.returns-clause-accesses
returns-clause-accesses c = access_rows

pub returns-clause-lines : goal.returns-clause-lines
returns-clause-lines c = line_rows
