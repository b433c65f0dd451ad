use Rattle.std.proofs.Common.{ap, sym}
use Rattle.naga_words.proofs.Writing.{writes_as, writes_then}
use Rattle.naga_wgsl_out.proofs.EnableRows.{enables_row}
use Rattle.naga_wgsl_out.specs.Enables.{end_text}
use Rattle.naga_wgsl_out.proofs.enables.Enables.write.Goals as goal

pub returns : goal.returns
returns g c =
    writes_as (sym (enables_row c.args.self))
    (writes_then c.write_line.ensures
    (writes_then c.write_line-2.ensures
    (writes_then c.write_line-3.ensures
    (writes_then c.write_line-4.ensures
    (writes_then c.write_line-5.ensures
    (writes_then c.write_line-6.ensures
    (writes_then c.write_line-7.ensures
    (writes_then c.write_line-8.ensures
    (writes_then c.write_line-9.ensures
    (writes_then c.write_line-10.ensures
    (writes_then c.write_line-11.ensures
    (writes_then c.write_line-12.ensures
    (writes_as (ap end_text c.is_any.ensures) c.write_end.ensures)))))))))))))
