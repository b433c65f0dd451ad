use Rattle.std.proofs.Common.{ap, subst, sym, ◌∙◌}
use Rattle.naga_tables.specs.Tables.{MarksNaming, MarksTypeForms, Tables}
use Rattle.naga_tables.proofs.tables.ModuleTables.type_refusal.Goals as goal

pub handle_refusal-requires : goal.handle_refusal-requires
handle_refusal-requires c = record {
  naming =
      subst (MarksNaming c.args.module.now)
      (sym (c.deref.ensures.value ∙ ap (λ (t : Tables). t.naming) c.self.view_is))
      c.requires.tables.naming;
  type_forms =
      subst (MarksTypeForms c.args.module.now)
      (sym (c.deref-2.ensures.value ∙ ap (λ (t : Tables). t.type_forms) c.self.view_is))
      c.requires.tables.type_forms;
}
