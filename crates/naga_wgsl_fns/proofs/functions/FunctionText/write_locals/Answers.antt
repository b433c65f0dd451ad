use Rattle.std.proofs.Common.{◌<◌, ◌≤◌, length, subst, sym, ap}
use Rattle.naga_words.proofs.Writing.{leaves_more, leaves_none, leaves_start, writes_as}
use Rattle.naga_words.proofs.Writing.{writes_then}
use Rattle.naga_wgsl_fns.specs.Functions.{group_end_text}
use Rattle.naga_wgsl_fns.proofs.FunctionRows.{locals_left, locals_more, locals_none, locals_row}
use Rattle.naga_wgsl_fns.proofs.functions.FunctionText.write_locals.Goals as goal

pub loop-index-init : goal.loop-index-init
loop-index-init g c = leaves_start _ (locals_left c.args.self.now 0 c.args.self.now.function.now.local_variables)

pub write_local-requires-clause-local : goal.write_local-requires-clause-local
write_local-requires-clause-local g c =
    let locals = c.args.self.now.function.now.local_variables in
    subst (λ h. h < length locals) (sym c.from_index.ensures)
    (subst (λ n. c.loop-index.index < n) c.len-index-end.ensures c.loop-index-test.true)

pub loop-index-preserved : goal.loop-index-preserved
loop-index-preserved g c =
    let self = c.args.self.now in
    let lt : c.loop-index.index < length self.function.now.local_variables =
    subst (λ n. c.loop-index.index < n) c.len-index-end.ensures c.loop-index-test.true in
    leaves_more _ _ _ _ _ _ _ c.loop-index.invariant
    (locals_more self c.loop-index.index c.from_index.result lt c.from_index.ensures) c.write_local.ensures

pub returns : goal.returns
returns g c =
    let self = c.args.self.now in
    let past : length self.function.now.local_variables ≤ c.loop-index.index =
    subst (λ n. n ≤ c.loop-index.index) c.len-index-end.ensures c.loop-index-test.false in
    writes_as (sym (locals_row self))
    (writes_then (leaves_none _ _ _ _ c.loop-index.invariant (locals_none self c.loop-index.index past))
    (writes_as (ap group_end_text c.is_empty.ensures) c.write_group_end.ensures))
