use Rattle.naga_wgsl_shared.proofs.Appending.{appends_stopped, appends_then, stopped_first}
use Rattle.naga_wgsl_out.proofs.writer.write_front.Goals as goal

pub returns-in_err-write_enables : goal.returns-in_err-write_enables
returns-in_err-write_enables g c =
    appends_stopped c.from_residual.result c.from_residual.ensures.1
    (stopped_first _ c.in_err-write_enables.ensures)

pub returns : goal.returns
returns g c =
    appends_then c.write_declarations.result _ _ _ c.in_ok-write_enables.ensures
    c.write_declarations.ensures
