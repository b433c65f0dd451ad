use Rattle.std.proofs.Common.{refl}
use Rattle.naga_tables.proofs.Searching.{before_left, here_left, next_left, none_left}
use Rattle.naga_tables.specs.Declarations.{IoHasForm}
use Rattle.naga_tables.proofs.declarations.unsupported_in_functions.Goals as goal

pub returns-in-Some-unsupported_io : goal.returns-in-Some-unsupported_io
returns-in-Some-unsupported_io c =
    let here =
    here_left (λ i. IoHasForm) c.args.module.now.functions c.loop-handle.handle-iterator c.next.new.self
    c.in-Some.handle c.in-Some.function.now c.in-Some.ensures.steps
    c.loop-handle.invariant in
    let earlier =
    before_left (λ i. IoHasForm) c.args.module.now.functions c.loop-handle.handle-iterator c.next.new.self
    c.in-Some.handle c.in-Some.function.now c.in-Some.ensures.steps
    c.loop-handle.invariant in
    (c.in-Some.handle, c.in-Some.function.now, here, refl, earlier, c.in-Some-unsupported_io.ensures)

pub loop-handle-preserved : goal.loop-handle-preserved
loop-handle-preserved c =
    next_left (λ i. IoHasForm) c.args.module.now.functions c.loop-handle.handle-iterator c.next.new.self
    c.in-Some.handle c.in-Some.function.now c.in-Some.ensures.steps
    c.in_default.ensures c.loop-handle.invariant

pub returns : goal.returns
returns c =
    none_left (λ i. IoHasForm) c.args.module.now.functions c.loop-handle.handle-iterator
    c.in-None.ensures.steps.0 c.loop-handle.invariant
