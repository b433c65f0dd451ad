use Rattle.std.proofs.Common.{[], ℕ, ◌≡◌, ◌∙◌, List, Some, arith, ap, length, slice_get}
use Rattle.std.proofs.Common.{string_bytes, subst, sym}
use Rattle.std.specs.Option.{option_map_or}
use Rattle.naga_scope.specs.Availabilities.{TextPoint, handles_of}
use Rattle.naga_scope.specs.Changes.{block_changes}
use Rattle.naga_scope.specs.Log.{HasRoom}
use Rattle.naga_words.proofs.Writing.{content_begun_as, content_whole_as, never_unsupported}
use Rattle.naga_words.proofs.Writing.{reason_known, same_sink, writes_as}
use Rattle.naga_scope.proofs.Planned.{plan_found}
use Rattle.naga_refusals.specs.Errors.{IsWant}
use Rattle.naga_scope.specs.KnownModules.{explicit_in, number_in}
use Rattle.naga_wgsl_fns.proofs.FunctionRows.{can_write, names_same}
use Rattle.naga_wgsl_shared.proofs.Wants.{reason_reported}
use Rattle.naga_wgsl_fns.proofs.FunctionRows.{text_under_names}
use Rattle.naga_wgsl_fns.specs.Functions.{text_under}
use Rattle.naga_wgsl_fns.proofs.functions.write_planned.Goals as goal

pub write_item-requires-clause-can : goal.write_item-requires-clause-can
write_item-requires-clause-can g c =
    let k = c.args.known.now in
    let plan = plan_found (explicit_in k) k.shader.now k.info.now (number_in k c.args.ty.now)
    c.function_of.result.0.now c.function_of.result.1.now c.args.plan c.function_of.ensures.function
    c.function_of.ensures.known c.requires.planned in
    can_write _ c.requires.known c.requires.there
    c.function_of.ensures.function c.function_of.ensures.known plan.formed c.requires.head plan.room

pub write_item-requires-clause-start : goal.write_item-requires-clause-start
write_item-requires-clause-start g c =
    let k = c.args.known.now in
    let plan = plan_found (explicit_in k) k.shader.now k.info.now (number_in k c.args.ty.now)
    c.function_of.result.0.now c.function_of.result.1.now c.args.plan c.function_of.ensures.function
    c.function_of.ensures.known c.requires.planned in
    let named : ℕ → List ℕ = λ number.
    option_map_or string_bytes (slice_get c.as_slice.result.now number) [] in
    let point = c.into_parts-scope.ensures.scope in
    record {
      start = ap (λ (p : TextPoint). handles_of named p.table) point ∙ plan.starts named;
      named = ap (λ (p : TextPoint). p.named) point ∙ plan.no_name;
      scope = record {
        size = ap (λ (p : TextPoint). length p.table) point ∙ plan.size;
        room = subst (λ (p : TextPoint). HasRoom p (block_changes c.function_of.result.0.now.body))
            (sym point) plan.changes;
      };
    }

pub returns-in-Ok-clause-text_ok : goal.returns-in-Ok-clause-text_ok
returns-in-Ok-clause-text_ok g c =
    let k = c.args.known.now in
    let same : c.write_item.new.out.sink.ghost_name ≡ c.new-written.result.sink.ghost_name =
    same_sink _ _ _ c.write_item.ensures in
    content_whole_as _ _ _ _ _ (grind arith) (grind arith)
    (writes_as
    (sym
    (ap (λ named. text_under k.shader.now k.info.now k.flags named (number_in k c.args.ty.now))
    (λ i number. sym (names_same c.as_slice.result.now c.into_parts-scope.result.1.items
    c.args.plan.named c.as_slice.ensures.value c.into_parts-scope.ensures.named number) i)
    ∙ text_under_names _ c.function_of.ensures.function c.function_of.ensures.known))
    c.write_item.ensures)
    c.new-written.ensures.want c.in-Ok.ensures.whole

pub returns-clause-text_err : goal.returns-clause-text_err
returns-clause-text_err g c =
    let k = c.args.known.now in
    let same : c.write_item.new.out.sink.ghost_name ≡ c.new-written.result.sink.ghost_name =
    same_sink _ _ _ c.write_item.ensures in
    content_begun_as _ _ _ _ _ _ (grind arith) (grind arith)
    (writes_as
    (sym
    (ap (λ named. text_under k.shader.now k.info.now k.flags named (number_in k c.args.ty.now))
    (λ i number. sym (names_same c.as_slice.result.now c.into_parts-scope.result.1.items
    c.args.plan.named c.as_slice.ensures.value c.into_parts-scope.ensures.named number) i)
    ∙ text_under_names _ c.function_of.ensures.function c.function_of.ensures.known))
    c.write_item.ensures)
    c.new-written.ensures.want c.in-Err.ensures.wanting

pub returns-clause-reason : goal.returns-clause-reason
returns-clause-reason g c =
    let same : c.write_item.new.out.sink.ghost_name ≡ c.new-written.result.sink.ghost_name =
    same_sink _ _ _ c.write_item.ensures in
    let reason = reason_known _ _ _ c.in-Err.want c.write_item.ensures c.new-written.ensures.want
    c.in-Err.ensures.wanting in
    let reported = reason_reported (g.W.TextSink.failures c.new-written.result.sink.now)
    (g.W.TextSink.failures c.write_item.new.out.sink.now) c.in-Err.want
    c.error_of_want.result reason c.error_of_want.ensures in
    let before = ap (λ s. g.W.TextSink.failures s) c.new-written.ensures.content in
    subst (λ n. IsWant (g.W.TextSink.failures c.args.out.now) n c.error_of_want.result) (grind arith)
    (subst (λ n. IsWant n (g.W.TextSink.failures c.write_item.new.out.sink.now) c.error_of_want.result) before reported)

pub error_of_want-requires : goal.error_of_want-requires
error_of_want-requires g c is =
    never_unsupported _ _ _ c.write_item.ensures c.new-written.ensures.want
    (c.in-Err.ensures.wanting ∙ ap Some is)
