use Rattle.std.proofs.Common.{length, refl, sym, ap, ◌∙◌, slice_get}
use Rattle.std.proofs.lemmas.Option.{slice_get_read}
use Rattle.naga_words.proofs.Writing.{leaves_as, leaves_last, leaves_more, leaves_start, writes_as}
use Rattle.naga_wgsl_fns.specs.Functions.{arguments_text}
use Rattle.naga_wgsl_fns.proofs.FunctionRows.{arguments_left, arguments_more, arguments_none}
use Rattle.naga_wgsl_fns.proofs.FunctionRows.{arguments_start}
use Rattle.naga_wgsl_fns.proofs.functions.FunctionText.write_arguments.Goals as goal

pub loop-number-init : goal.loop-number-init
loop-number-init g c =
    let self = c.args.self.now in
    leaves_as (arguments_start self ∙ ap (arguments_left self 0) (sym c.deref-argument-items.ensures.value))
    (leaves_start _ (arguments_text self))

pub write_next_argument-requires-clause-argument : goal.write_next_argument-requires-clause-argument
write_next_argument-requires-clause-argument g c =
    ap (λ xs. slice_get xs c.loop-number.number) (sym c.deref-argument-items.ensures.value)
    ∙ slice_get_read c.deref-argument-items.result.now (length c.deref-argument-items.result.now)
    c.loop-number.number c.argument-item.result refl c.loop-number-test.true c.argument-item.is

pub loop-number-preserved : goal.loop-number-preserved
loop-number-preserved g c =
    leaves_more _ _ _ _ _ _ _ c.loop-number.invariant
    (arguments_more c.args.self.now c.loop-number.number c.deref-argument-items.result.now
    c.argument-item.result c.loop-number-test.true c.argument-item.is)
    c.write_next_argument.ensures

pub returns : goal.returns
returns g c =
    leaves_last _ _ _ _ _ c.loop-number.invariant
    (writes_as (sym (arguments_none c.args.self.now c.loop-number.number c.deref-argument-items.result.now
    c.loop-number-test.false)) c.put.ensures)
