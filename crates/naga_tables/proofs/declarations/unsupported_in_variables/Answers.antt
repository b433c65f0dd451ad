use Rattle.std.proofs.Common.{refl, sym}
use Rattle.naga_tables.proofs.Searching.{before_left, here_left, next_left, none_left}
use Rattle.naga_tables.specs.Declarations.{ValueHasForm}
use Rattle.naga_ir.specs.declared.module.GlobalVariable.{GlobalVariable}
use Rattle.naga_tables.proofs.declarations.unsupported_in_variables.Goals as goal

pub returns-in-Some-unsupported_value : goal.returns-in-Some-unsupported_value
returns-in-Some-unsupported_value c =
    let m = c.args.module.now in
    let here =
    here_left (λ i (g : GlobalVariable). ValueHasForm m g.ty g.init) m.global_variables
    c.loop-handle.handle-iterator c.next.new.self c.in-Some.handle c.in-Some.variable.now c.in-Some.ensures.steps
    c.loop-handle.invariant in
    let earlier =
    before_left (λ i (g : GlobalVariable). ValueHasForm m g.ty g.init) m.global_variables
    c.loop-handle.handle-iterator c.next.new.self c.in-Some.handle c.in-Some.variable.now c.in-Some.ensures.steps
    c.loop-handle.invariant in
    (c.in-Some.handle, c.in-Some.variable.now, here, refl, earlier, sym c.in-Some-unsupported_value.ensures)

pub loop-handle-preserved : goal.loop-handle-preserved
loop-handle-preserved c =
    let m = c.args.module.now in
    next_left (λ i (g : GlobalVariable). ValueHasForm m g.ty g.init) m.global_variables
    c.loop-handle.handle-iterator c.next.new.self c.in-Some.handle c.in-Some.variable.now c.in-Some.ensures.steps
    (sym c.in_default.ensures) c.loop-handle.invariant

pub returns : goal.returns
returns c =
    let m = c.args.module.now in
    none_left (λ i (g : GlobalVariable). ValueHasForm m g.ty g.init) m.global_variables
    c.loop-handle.handle-iterator c.in-None.ensures.steps.0 c.loop-handle.invariant
