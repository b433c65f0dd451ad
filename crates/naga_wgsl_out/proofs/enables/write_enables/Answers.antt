use Rattle.std.proofs.Common.{◌≡◌, ◌∙◌, Some, ap, arith, subst}
use Rattle.module_semantics.specs.Enables.{is_enabled}
use Rattle.naga_back.specs.Flags.{is_portable}
use Rattle.naga_words.proofs.Writing.{content_begun_as, content_whole_as, never_failed}
use Rattle.naga_words.proofs.Writing.{never_unsupported, reason_known, same_sink, writes_as}
use Rattle.naga_refusals.specs.Errors.{IsWant}
use Rattle.naga_wgsl_shared.proofs.Wants.{reason_reported}
use Rattle.naga_wgsl_out.specs.Enables.{enables_text, words_among, words_found}
use Rattle.naga_wgsl_out.proofs.EnableRows.{words_needed}
use Rattle.naga_wgsl_out.proofs.enables.write_enables.Goals as goal

pub returns-in-Ok : goal.returns-in-Ok
returns-in-Ok g c =
    let same : c.write.new.out.sink.ghost_name ≡ c.new-written.result.sink.ghost_name =
    same_sink _ _ _ c.write.ensures in
    let text_is = ap (λ e. enables_text (words_among (words_found e))) c.enabled.ensures
    ∙ ap enables_text
    (words_needed (is_enabled (is_portable c.args.flags) c.args.«module».now c.args.info.now)) in
    let kept : g.W.TextSink.failures c.write.new.out.sink.now ≡ g.W.TextSink.failures c.new-written.result.sink.now =
    never_failed _ _ _ c.write.ensures c.new-written.ensures.want c.in-Ok.ensures.whole in
    record {
      appended =
          content_whole_as _ _ _ _ _ (grind arith) (grind arith) (writes_as text_is c.write.ensures)
          c.new-written.ensures.want c.in-Ok.ensures.whole;
      kept = grind arith;
    }

pub returns-in-Err : goal.returns-in-Err
returns-in-Err g c =
    let same : c.write.new.out.sink.ghost_name ≡ c.new-written.result.sink.ghost_name =
    same_sink _ _ _ c.write.ensures in
    let text_is = ap (λ e. enables_text (words_among (words_found e))) c.enabled.ensures
    ∙ ap enables_text
    (words_needed (is_enabled (is_portable c.args.flags) c.args.«module».now c.args.info.now)) in
    let reason = reason_known _ _ _ c.in-Err.want c.write.ensures c.new-written.ensures.want c.in-Err.ensures.wanting in
    let reported = reason_reported (g.W.TextSink.failures c.new-written.result.sink.now)
    (g.W.TextSink.failures c.write.new.out.sink.now) c.in-Err.want
    c.error_of_want.result reason c.error_of_want.ensures in
    let before = ap (λ s. g.W.TextSink.failures s) c.new-written.ensures.content in
    record {
      following =
          content_begun_as _ _ _ _ _ _ (grind arith) (grind arith) (writes_as text_is c.write.ensures)
          c.new-written.ensures.want c.in-Err.ensures.wanting;
      reason = subst (λ n. IsWant (g.W.TextSink.failures c.args.out.now) n c.error_of_want.result) (grind arith)
          (subst (λ n. IsWant n (g.W.TextSink.failures c.write.new.out.sink.now) c.error_of_want.result)
          before reported);
    }

pub error_of_want-requires : goal.error_of_want-requires
error_of_want-requires g c is =
    never_unsupported _ _ _ c.write.ensures c.new-written.ensures.want
    (c.in-Err.ensures.wanting ∙ ap Some is)
