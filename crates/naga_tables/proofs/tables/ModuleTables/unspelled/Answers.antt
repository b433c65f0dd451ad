use Rattle.std.proofs.Common.{ap, subst, sym, ◌∙◌}
use Rattle.naga_tables.specs.Tables.{MarksNaming, Tables}
use Rattle.naga_tables.proofs.tables.ModuleTables.unspelled.Goals as goal

pub unspelled-requires : goal.unspelled-requires
unspelled-requires c = record {
  naming =
      subst (MarksNaming c.args.module.now)
      (sym (c.deref.ensures.value ∙ ap (λ (t : Tables). t.naming) c.self.view_is))
      c.requires.tables.naming;
}
