use Rattle.std.proofs.Common.{refl, sym}
use Rattle.naga_tables.proofs.Searching.{before_left, here_left, next_left, none_left}
use Rattle.naga_tables.specs.Declarations.{ValueHasForm}
use Rattle.naga_ir.specs.declared.module.Override.{Override}
use Rattle.naga_tables.proofs.declarations.unsupported_in_overrides.Goals as goal

pub returns-in-Some-unsupported_value : goal.returns-in-Some-unsupported_value
returns-in-Some-unsupported_value c =
    let m = c.args.module.now in
    let here =
    here_left (λ i (o : Override). ValueHasForm m o.ty o.init) m.overrides c.loop-handle.handle-iterator
    c.next.new.self c.in-Some.handle c.in-Some.item.now c.in-Some.ensures.steps
    c.loop-handle.invariant in
    let earlier =
    before_left (λ i (o : Override). ValueHasForm m o.ty o.init) m.overrides c.loop-handle.handle-iterator
    c.next.new.self c.in-Some.handle c.in-Some.item.now c.in-Some.ensures.steps
    c.loop-handle.invariant in
    (c.in-Some.handle, c.in-Some.item.now, here, refl, earlier, sym c.in-Some-unsupported_value.ensures)

pub loop-handle-preserved : goal.loop-handle-preserved
loop-handle-preserved c =
    let m = c.args.module.now in
    next_left (λ i (o : Override). ValueHasForm m o.ty o.init) m.overrides c.loop-handle.handle-iterator
    c.next.new.self c.in-Some.handle c.in-Some.item.now c.in-Some.ensures.steps
    (sym c.in_default.ensures) c.loop-handle.invariant

pub returns : goal.returns
returns c =
    let m = c.args.module.now in
    none_left (λ i (o : Override). ValueHasForm m o.ty o.init) m.overrides c.loop-handle.handle-iterator
    c.in-None.ensures.steps.0 c.loop-handle.invariant
