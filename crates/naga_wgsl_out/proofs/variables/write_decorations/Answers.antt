use Rattle.std.proofs.Common.{ap, codes, sym}
use Rattle.naga_words.proofs.Writing.{writes_as, writes_then}
use Rattle.naga_wgsl_shared.specs.Attributes.{text_if}
use Rattle.naga_wgsl_out.proofs.VariableRows.{decorations_row}
use Rattle.naga_wgsl_out.proofs.variables.write_decorations.Goals as goal

pub returns : goal.returns
returns g c =
    writes_as (sym (decorations_row c.args.decorations))
    (writes_then
    (writes_as (ap (λ b. text_if b (codes "@coherent ")) (c.contains.ensures tt)) c.write_optional_chunk.ensures)
    (writes_as (ap (λ b. text_if b (codes "@volatile ")) (c.contains-2.ensures tt))
    c.write_optional_chunk-2.ensures))
