use Rattle.std.proofs.Common.{◌+◌, ◌-◌, ◌&&◌, Some, ap, refl, sym, ◌∙◌}
use Rattle.std.specs.List.{filter, find}
use Rattle.naga_scope.proofs.Emitting.{range_more, range_none}
use Rattle.naga_scope.proofs.SpelledTypes.{kept_found, kept_not_found}
use Rattle.naga_scope.specs.KnownFunctions.{bound_in}
use Rattle.naga_scope.specs.SpelledTypes.{is_unsupported_let}
use Rattle.shader_runs.specs.Program.{from}
use Rattle.naga_scope.proofs.spelled.emitted_without_form.Goals as goal

pub loop-index-init : goal.loop-index-init
loop-index-init c = refl

pub returns-then-is_bound_unsupported : goal.returns-then-is_bound_unsupported
returns-then-is_bound_unsupported c =
    let p = is_unsupported_let c.args.known.now.whole.shader.now c.args.known.now.info.now in
    let bound = bound_in c.args.known.now in
    let i = c.loop-index.index in
    let e = c.args.range.end in
    let passes = sym (c.is_bound_unsupported.ensures ∙ ap (λ h. bound h && p h) c.from_index-handle.ensures)
    ∙ c.if-is_bound_unsupported.true in
    ap Some c.from_index-handle.ensures
    ∙ (sym (ap (λ hs. find p (filter bound hs)) (range_more i e c.loop-index-test.true)
    ∙ kept_found p bound i (from (i + 1) (e - (i + 1))) passes)
    ∙ c.loop-index.invariant)

pub loop-index-preserved : goal.loop-index-preserved
loop-index-preserved c =
    let p = is_unsupported_let c.args.known.now.whole.shader.now c.args.known.now.info.now in
    let bound = bound_in c.args.known.now in
    let i = c.loop-index.index in
    let e = c.args.range.end in
    let fails = sym (c.is_bound_unsupported.ensures ∙ ap (λ h. bound h && p h) c.from_index-handle.ensures)
    ∙ c.if-is_bound_unsupported.false in
    sym (ap (λ hs. find p (filter bound hs)) (range_more i e c.loop-index-test.true)
    ∙ kept_not_found p bound i (from (i + 1) (e - (i + 1))) fails)
    ∙ c.loop-index.invariant

pub returns : goal.returns
returns c =
    let p = is_unsupported_let c.args.known.now.whole.shader.now c.args.known.now.info.now in
    let bound = bound_in c.args.known.now in
    sym (ap (λ hs. find p (filter bound hs))
    (range_none c.loop-index.index c.args.range.end c.loop-index-test.false)) ∙ c.loop-index.invariant
