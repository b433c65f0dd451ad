use Rattle.std.proofs.Common.{ap, subst, sym, ◌∙◌}
use Rattle.naga_tables.specs.Tables.{MarksNaming, MarksTypeForms, Tables}
use Rattle.naga_tables.proofs.tables.ModuleTables.is_spellable.Goals as goal

pub is_spellable_by-requires : goal.is_spellable_by-requires
is_spellable_by-requires c = record {
  naming =
      subst (MarksNaming c.args.module.now)
      (sym (c.deref.ensures.value ∙ ap (λ (t : Tables). t.naming) c.self.view_is))
      c.requires.tables.naming;
  type_forms =
      subst (MarksTypeForms c.args.module.now)
      (sym (c.deref-2.ensures.value ∙ ap (λ (t : Tables). t.type_forms) c.self.view_is))
      c.requires.tables.type_forms;
}
