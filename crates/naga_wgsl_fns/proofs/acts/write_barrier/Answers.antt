use Rattle.std.proofs.Common.{ap, codes, sym}
use Rattle.naga_words.proofs.Writing.{writes_as, writes_then}
use Rattle.naga_wgsl_fns.proofs.ActRows.{barriers_row}
use Rattle.naga_wgsl_fns.specs.Statements.{barrier_text}
use Rattle.naga_wgsl_fns.proofs.acts.write_barrier.Goals as goal

pub returns : goal.returns
returns g c =
    let i = c.args.at.now.indent in
    writes_as (sym (barriers_row i c.args.barrier))
    (writes_then (writes_as (ap (λ b. barrier_text i b (codes "storageBarrier();\n")) (c.contains.ensures tt))
    c.write_barrier_if.ensures)
    (writes_then (writes_as (ap (λ b. barrier_text i b (codes "workgroupBarrier();\n"))
    (c.contains-2.ensures tt)) c.write_barrier_if-2.ensures)
    (writes_then (writes_as (ap (λ b. barrier_text i b (codes "subgroupBarrier();\n"))
    (c.contains-3.ensures tt)) c.write_barrier_if-3.ensures)
    (writes_as (ap (λ b. barrier_text i b (codes "textureBarrier();\n")) (c.contains-4.ensures tt))
    c.write_barrier_if-4.ensures))))
