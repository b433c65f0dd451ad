use Rattle.std.proofs.Common.{ap, subst, sym, ◌∙◌}
use Rattle.naga_wgsl_shared.specs.Stages.{StageIsThere, stage_text}
use Rattle.naga_words.proofs.Writing.{writes_as}
use Rattle.naga_wgsl_fns.proofs.FunctionRows.{own_entry_point, entry_point_there, stage_row}
use Rattle.naga_wgsl_fns.proofs.ModuleTexts.{can_in}
use Rattle.naga_wgsl_shared.proofs.StageRows.{stage_is_there}
use Rattle.naga_wgsl_fns.proofs.functions.FunctionText.write_own_stage.Goals as goal

pub write_stage-requires-clause-can : goal.write_stage-requires-clause-can
write_stage-requires-clause-can g c =
    can_in c.args.self.now c.requires c.of_module.result c.of_module.ensures.shader
    c.of_module.ensures.tables c.of_module.ensures.names

pub write_stage-requires-clause-there : goal.write_stage-requires-clause-there
write_stage-requires-clause-there g c =
    let f = c.args.self.now in
    subst (λ m. StageIsThere m c.index-point.result.now) (sym c.of_module.ensures.shader)
    (stage_is_there f.known.shader.now f.known.info.now c.requires.known.accepted c.in-EntryPoint.index
    c.index-point.result.now (own_entry_point c.args.self.now c.requires c.in-EntryPoint.index c.in-EntryPoint.is
    c.index-point.result.now c.index-point.ensures))

pub write_stage-requires-clause-formed : goal.write_stage-requires-clause-formed
write_stage-requires-clause-formed g c =
    c.requires.head.stage c.index-point.result.now
    (entry_point_there c.args.self.now c.requires c.in-EntryPoint.index c.in-EntryPoint.is
    c.index-point.result.now (own_entry_point c.args.self.now c.requires c.in-EntryPoint.index c.in-EntryPoint.is
    c.index-point.result.now c.index-point.ensures))

pub returns-in-EntryPoint : goal.returns-in-EntryPoint
returns-in-EntryPoint g c =
    writes_as
    (ap (λ m. stage_text m c.index-point.result.now) c.of_module.ensures.shader
    ∙ sym (stage_row c.args.self.now c.requires c.in-EntryPoint.index c.in-EntryPoint.is
    c.index-point.result.now (own_entry_point c.args.self.now c.requires c.in-EntryPoint.index c.in-EntryPoint.is
    c.index-point.result.now c.index-point.ensures)))
    c.write_stage.ensures
