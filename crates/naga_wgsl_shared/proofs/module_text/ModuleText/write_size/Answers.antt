use Rattle.std.proofs.Common.{◌∙◌, ◌++◌, ap, sym}
use Rattle.naga_words.proofs.Writing.{writes_as, writes_then}
use Rattle.module_semantics.specs.Names.{module_names}
use Rattle.module_semantics.specs.WorkgroupSizes.{size_part}
use Rattle.naga_wgsl_shared.specs.Stages.{part_text}
use Rattle.naga_wgsl_shared.proofs.StageRows.{fixed_is, named_is}
use Rattle.naga_wgsl_shared.proofs.module_text.ModuleText.write_size.Goals as goal

pub returns-in-Some : goal.returns-in-Some
returns-in-Some g c =
    let m = c.args.self.now.shader.now in
    writes_as
    (sym (named_is m c.in-Some.handle c.args.suffix.now)
    ∙ ap (λ o. part_text (size_part (module_names m) c.args.number o) ++ c.args.suffix.now) (sym c.in-Some.is))
    (writes_then c.write_override_name.ensures c.put.ensures)

pub returns-in-None : goal.returns-in-None
returns-in-None g c =
    writes_as
    (sym (fixed_is c.args.number c.args.suffix.now)
    ∙ ap (λ o. part_text (size_part (module_names c.args.self.now.shader.now) c.args.number o) ++ c.args.suffix.now)
    (sym c.in-None.is))
    c.write_number.ensures
