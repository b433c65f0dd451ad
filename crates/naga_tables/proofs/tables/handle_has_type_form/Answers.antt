use Rattle.std.proofs.Common.{◌∙◌}
use Rattle.naga_tables.proofs.tables.handle_has_type_form.Goals as goal

pub returns : goal.returns
returns c = c.is_marked.ensures ∙ c.requires.type_forms c.args.ty
