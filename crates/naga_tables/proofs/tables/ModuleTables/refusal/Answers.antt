use Rattle.std.proofs.Common.{ap, ◌∙◌}
use Rattle.naga_tables.specs.Tables.{Tables, refusal_at}
use Rattle.naga_tables.proofs.tables.ModuleTables.refusal.Goals as goal

pub returns : goal.returns
returns c =
    c.refusal_at.ensures
    ∙ (ap (λ cells. refusal_at cells c.args.handle)
    (c.deref.ensures.value ∙ ap (λ (t : Tables). t.global_refusals) c.self.view_is)
    ∙ c.requires.tables.global_refusals c.args.handle)
