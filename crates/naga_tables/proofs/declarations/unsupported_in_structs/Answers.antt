use Rattle.std.proofs.Common.{refl}
use Rattle.naga_tables.proofs.Searching.{before_left, here_left, next_left, none_left}
use Rattle.naga_tables.specs.Declarations.{TypeHasForm}
use Rattle.naga_tables.proofs.declarations.unsupported_in_structs.Goals as goal

pub returns-in-Some-unsupported_in_type : goal.returns-in-Some-unsupported_in_type
returns-in-Some-unsupported_in_type c =
    let m = c.args.module.now in
    let here =
    here_left (TypeHasForm m) m.types c.loop-handle.handle-iterator c.next.new.self c.in-Some.handle
    c.in-Some.ty.now c.in-Some.ensures.steps
    c.loop-handle.invariant in
    let earlier =
    before_left (TypeHasForm m) m.types c.loop-handle.handle-iterator c.next.new.self c.in-Some.handle
    c.in-Some.ty.now c.in-Some.ensures.steps
    c.loop-handle.invariant in
    (c.in-Some.handle, c.in-Some.ty.now, here, refl, earlier, c.in-Some-unsupported_in_type.ensures)

pub loop-handle-preserved : goal.loop-handle-preserved
loop-handle-preserved c =
    let m = c.args.module.now in
    next_left (TypeHasForm m) m.types c.loop-handle.handle-iterator c.next.new.self c.in-Some.handle
    c.in-Some.ty.now c.in-Some.ensures.steps
    c.in_default.ensures c.loop-handle.invariant

pub returns : goal.returns
returns c =
    let m = c.args.module.now in
    none_left (TypeHasForm m) m.types c.loop-handle.handle-iterator c.in-None.ensures.steps.0 c.loop-handle.invariant
