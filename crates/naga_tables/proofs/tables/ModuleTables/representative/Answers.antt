use Rattle.std.proofs.Common.{ap, ◌∙◌}
use Rattle.naga_tables.specs.Tables.{Tables, representative_at}
use Rattle.naga_tables.proofs.tables.ModuleTables.representative.Goals as goal

pub returns : goal.returns
returns c =
    c.representative_in.ensures
    ∙ ap (λ representatives. representative_at representatives c.args.handle)
    (c.deref.ensures.value ∙ ap (λ (t : Tables). t.representatives) c.self.view_is)
