use Rattle.std.proofs.Common.{ap, ◌∙◌}
use Rattle.naga_tables.specs.Marks.{is_marked}
use Rattle.naga_tables.specs.Tables.{Tables}
use Rattle.naga_tables.proofs.tables.ModuleTables.is_undeclared.Goals as goal

pub returns : goal.returns
returns c =
    c.is_marked.ensures
    ∙ (ap (λ marks. is_marked marks c.args.handle)
    (c.deref.ensures.value ∙ ap (λ (t : Tables). t.undeclared) c.self.view_is)
    ∙ c.requires.tables.undeclared c.args.handle)
