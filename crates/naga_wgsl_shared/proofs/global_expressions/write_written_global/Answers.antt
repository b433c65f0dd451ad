use Rattle.std.proofs.Common.{◌≡◌, ◌∙◌, Some, arith, ap, subst}
use Rattle.naga_words.proofs.Writing.{content_begun_as, content_whole_as, never_unsupported}
use Rattle.naga_words.proofs.Writing.{reason_known, same_sink}
use Rattle.naga_refusals.specs.Errors.{IsWant}
use Rattle.naga_wgsl_shared.proofs.Wants.{reason_reported}
use Rattle.naga_wgsl_shared.proofs.global_expressions.write_written_global.Goals as goal

pub returns-in-Ok-clause-text_ok : goal.returns-in-Ok-clause-text_ok
returns-in-Ok-clause-text_ok g c =
    let same : c.write_global.new.out.sink.ghost_name ≡ c.new-written.result.sink.ghost_name =
    same_sink _ _ _ c.write_global.ensures in
    content_whole_as _ _ _ _ _ (grind arith) (grind arith) c.write_global.ensures
    c.new-written.ensures.want c.in-Ok.ensures.whole

pub returns-in-Err-clause-text_err : goal.returns-in-Err-clause-text_err
returns-in-Err-clause-text_err g c =
    let same : c.write_global.new.out.sink.ghost_name ≡ c.new-written.result.sink.ghost_name =
    same_sink _ _ _ c.write_global.ensures in
    content_begun_as _ _ _ _ _ _ (grind arith) (grind arith) c.write_global.ensures
    c.new-written.ensures.want c.in-Err.ensures.wanting

pub returns-in-Err-clause-reason : goal.returns-in-Err-clause-reason
returns-in-Err-clause-reason g c =
    let same : c.write_global.new.out.sink.ghost_name ≡ c.new-written.result.sink.ghost_name =
    same_sink _ _ _ c.write_global.ensures in
    let reason = reason_known _ _ _ c.in-Err.want c.write_global.ensures c.new-written.ensures.want
    c.in-Err.ensures.wanting in
    let reported = reason_reported (g.W.TextSink.failures c.new-written.result.sink.now)
    (g.W.TextSink.failures c.write_global.new.out.sink.now) c.in-Err.want c.error_of_want.result
    reason c.error_of_want.ensures in
    let before = ap (λ s. g.W.TextSink.failures s) c.new-written.ensures.content in
    subst (λ n. IsWant (g.W.TextSink.failures c.args.out.now) n c.error_of_want.result) (grind arith)
    (subst (λ n. IsWant n (g.W.TextSink.failures c.write_global.new.out.sink.now) c.error_of_want.result) before
    reported)

pub error_of_want-requires : goal.error_of_want-requires
error_of_want-requires g c is =
    never_unsupported _ _ _ c.write_global.ensures c.new-written.ensures.want
    (c.in-Err.ensures.wanting ∙ ap Some is)
