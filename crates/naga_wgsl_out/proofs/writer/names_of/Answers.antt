use Rattle.std.proofs.Common.{[]}
use Rattle.naga_wgsl_out.proofs.writer.names_of.Goals as goal

pub returns-in-Ok-clause-names : goal.returns-in-Ok-clause-names
returns-in-Ok-clause-names c = c.in-Ok.ensures.ok.named

pub returns-in-Ok-clause-items : goal.returns-in-Ok-clause-items
returns-in-Ok-clause-items c = record { later = []; named = c.in-Ok.ensures.namer }
