use Rattle.std.proofs.Common.{◌∙◌, ap, is_none, subst, true, sym}
use Rattle.std.specs.Prelude.{IsTrue}
use Rattle.module_semantics.specs.acceptance.Accepted.{is_accepted}
use Rattle.module_answers.proofs.StandardNames.{named_is_accepted}
use Rattle.yorwethul_answers.proofs.answer.of_layouts.Goals as goal

pub layout_table-requires : goal.layout_table-requires
layout_table-requires c =
    let s = c.args.shader.now in
    let is = sym c.unaccepted.ensures.accepted ∙ ap is_none c.in-None.is in
    record {
      accepted = subst (λ m. IsTrue (is_accepted m s.info)) (sym c.name_as_standard.ensures)
          (named_is_accepted true s.module s.info is);
    }
