use Rattle.std.proofs.Common.{ap, codes, sym, ◌∙◌}
use Rattle.naga_wgsl_fns.proofs.ImageRows.{head_row}
use Rattle.naga_wgsl_fns.specs.Images.{component_text}
use Rattle.naga_words.proofs.Writing.{writes_as, writes_then}
use Rattle.naga_words.specs.Output.{joined_texts}
use Rattle.naga_wgsl_fns.proofs.functions.FunctionText.write_sampling_head.Goals as goal

pub returns : goal.returns
returns g c =
    let word = c.args.word.now in
    writes_as
    (ap (λ v. joined_texts word (joined_texts (codes "(") v))
    (c.component_str.ensures ∙ ap (λ d. component_text d c.args.gather) c.has_depths.ensures)
    ∙ sym (head_row c.args.self.now word c.args.image c.args.gather))
    (writes_then c.put.ensures (writes_then c.put-2.ensures c.put-3.ensures))
