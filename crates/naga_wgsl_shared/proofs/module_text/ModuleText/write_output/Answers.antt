use Rattle.std.proofs.Common.{◌∙◌, ap, sym}
use Rattle.naga_words.proofs.Writing.{writes_as}
use Rattle.naga_wgsl_shared.proofs.StageRows.{output_is}
use Rattle.naga_wgsl_shared.specs.Stages.{output_text}
use Rattle.naga_wgsl_shared.proofs.module_text.ModuleText.write_output.Goals as goal

pub returns : goal.returns
returns g c =
    let m = c.args.self.now.shader.now in
    writes_as (output_is m c.in-Some.output ∙ sym (ap (output_text m) c.in-Some.is))
    c.write_variable.ensures
