use Rattle.std.proofs.Common.{ap, ◌∙◌}
use Rattle.naga_tables.proofs.FilledTables.{type_form_marked}
use Rattle.naga_tables.specs.Tables.{Tables, type_has_form_by_marks}
use Rattle.naga_tables.proofs.tables.ModuleTables.has_type_form.Goals as goal

pub returns : goal.returns
returns c =
    let m = c.args.module.now in
    c.type_has_form_by_marks.ensures
    ∙ (ap (λ marks. type_has_form_by_marks marks c.args.ty.now)
    (c.deref.ensures.value ∙ ap (λ (t : Tables). t.type_forms) c.self.view_is)
    ∙ type_form_marked m c.args.self.now.type_forms c.requires.tables.type_forms c.args.ty.now)
