use Rattle.std.proofs.Common.{ap, codes, sym}
use Rattle.naga_words.proofs.Writing.{writes_as, writes_then}
use Rattle.naga_wgsl_shared.proofs.AttributeRows.{builtin_row}
use Rattle.naga_wgsl_shared.specs.Attributes.{text_if}
use Rattle.naga_wgsl_shared.proofs.bindings.write_builtin.Goals as goal

pub returns : goal.returns
returns g c =
    writes_as (sym (builtin_row c.args.value c.in-Some.word.now (sym c.in-Some.ensures)))
    (writes_then c.write_worded.ensures
    (writes_as (ap (λ b. text_if b (codes "@invariant ")) c.is_invariant.ensures)
    c.write_optional_chunk.ensures))
