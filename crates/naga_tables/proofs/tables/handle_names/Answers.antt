use Rattle.std.proofs.Common.{◌∙◌}
use Rattle.naga_tables.proofs.tables.handle_names.Goals as goal

pub returns : goal.returns
returns c = c.is_marked.ensures ∙ c.requires.naming c.args.ty
