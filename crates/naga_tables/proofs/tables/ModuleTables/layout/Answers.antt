use Rattle.std.proofs.Common.{◌∙◌, ap}
use Rattle.module_semantics.specs.Layouts.{module_rule}
use Rattle.naga_layout.proofs.Left.{cell_aligned}
use Rattle.naga_layout.specs.Tables.{cell_at}
use Rattle.naga_tables.specs.Tables.{Tables}
use Rattle.naga_tables.proofs.tables.ModuleTables.layout.Goals as goal

pub returns-clause-layout : goal.returns-clause-layout
returns-clause-layout c =
    c.layout_cell.ensures
    ∙ (ap (λ cells. cell_at cells c.args.handle)
    (c.deref.ensures.value ∙ ap (λ (t : Tables). t.layouts) c.self.view_is)
    ∙ c.requires.tables.layouts c.args.handle)

pub returns-clause-aligned : goal.returns-clause-aligned
returns-clause-aligned c =
    cell_aligned (module_rule c.args.module.now) c.args.module.now.types c.args.handle c.layout_cell.result
    (c.layout_cell.ensures
    ∙ (ap (λ cells. cell_at cells c.args.handle)
    (c.deref.ensures.value ∙ ap (λ (t : Tables). t.layouts) c.self.view_is)
    ∙ c.requires.tables.layouts c.args.handle))
