use Rattle.std.proofs.Common.{ap, ◌∙◌}
use Rattle.naga_tables.proofs.FilledTables.{type_marked}
use Rattle.naga_tables.specs.Tables.{Tables, is_marked_type}
use Rattle.naga_tables.proofs.tables.ModuleTables.names_undeclared.Goals as goal

pub returns : goal.returns
returns c =
    let m = c.args.module.now in
    c.is_marked_type.ensures
    ∙ (ap (λ marks. is_marked_type marks c.args.ty.now)
    (c.deref.ensures.value ∙ ap (λ (t : Tables). t.naming) c.self.view_is)
    ∙ type_marked m c.args.self.now.naming c.requires.tables.naming c.args.ty.now)
