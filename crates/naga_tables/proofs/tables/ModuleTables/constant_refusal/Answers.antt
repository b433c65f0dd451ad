use Rattle.std.proofs.Common.{ap, subst, sym, ◌∙◌}
use Rattle.naga_tables.proofs.WrittenConstants.{constant_told}
use Rattle.naga_tables.specs.Tables.{Tables, TellsRefusals}
use Rattle.naga_tables.proofs.tables.ModuleTables.constant_refusal.Goals as goal

pub returns : goal.returns
returns c =
    let m = c.args.module.now in
    let same = c.deref.ensures.value ∙ ap (λ (t : Tables). t.global_refusals) c.self.view_is in
    c.constant_refusal_over.ensures
    ∙ constant_told m c.deref.result.now
    (subst (TellsRefusals m) (sym same) c.requires.tables.global_refusals) c.args.constant
