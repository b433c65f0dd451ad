use Rattle.naga_wgsl_shared.proofs.SingleBindings.{binding_refused, binding_writes}
use Rattle.naga_wgsl_shared.proofs.bindings.write_binding.Goals as goal

pub returns-in-Ok : goal.returns-in-Ok
returns-in-Ok g c =
    binding_writes c.args.binding.now (g.W.TextSink.text c.args.out.now)
    (g.W.TextSink.failures c.args.out.now) (g.W.TextSink.text c.write_formed.new.out)
    (g.W.TextSink.failures c.write_formed.new.out) c.write_formed.result c.in-Ok.ensures.formed
    c.write_formed.ensures.text_ok c.write_formed.ensures.text_err
    c.write_formed.ensures.failures_ok c.write_formed.ensures.reason

pub returns-in-Err : goal.returns-in-Err
returns-in-Err g c =
    binding_refused c.args.binding.now (g.W.TextSink.text c.args.out.now)
    (g.W.TextSink.failures c.args.out.now) c.in-Err.error c.in-Err.ensures.unsupported
    c.in-Err.ensures.named
