use Rattle.naga_naming.proofs.NameShapes as shapes
use Rattle.naga_naming.proofs.laws.names_differ.Goals as goal

pub returns-clause-labels : goal.returns-clause-labels
returns-clause-labels c = shapes.names_differ

pub returns-clause-settings : goal.returns-clause-settings
returns-clause-settings c = shapes.names_differ_by
