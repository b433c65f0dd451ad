use Rattle.std.proofs.Common.{◌≡◌, ◌∙◌, Some, ap, arith, subst}
use Rattle.naga_words.proofs.Writing.{content_begun_as, content_whole_as, never_failed}
use Rattle.naga_words.proofs.Writing.{never_unsupported, reason_known, same_sink}
use Rattle.naga_refusals.specs.Errors.{IsWant}
use Rattle.naga_wgsl_shared.proofs.Wants.{reason_reported}
use Rattle.naga_wgsl_out.proofs.declarations.write_declarations.Goals as goal

pub returns-in-Ok : goal.returns-in-Ok
returns-in-Ok g c =
    let same : c.write_all.new.out.sink.ghost_name ≡ c.new-written.result.sink.ghost_name =
    same_sink _ _ _ c.write_all.ensures in
    let kept : g.W.TextSink.failures c.write_all.new.out.sink.now
    ≡ g.W.TextSink.failures c.new-written.result.sink.now =
    never_failed _ _ _ c.write_all.ensures c.new-written.ensures.want c.in-Ok.ensures.whole in
    record {
      appended =
          content_whole_as _ _ _ _ _ (grind arith) (grind arith) c.write_all.ensures
          c.new-written.ensures.want c.in-Ok.ensures.whole;
      kept = grind arith;
    }

pub returns-in-Err : goal.returns-in-Err
returns-in-Err g c =
    let same : c.write_all.new.out.sink.ghost_name ≡ c.new-written.result.sink.ghost_name =
    same_sink _ _ _ c.write_all.ensures in
    let reason = reason_known _ _ _ c.in-Err.want c.write_all.ensures c.new-written.ensures.want
    c.in-Err.ensures.wanting in
    let reported = reason_reported (g.W.TextSink.failures c.new-written.result.sink.now)
    (g.W.TextSink.failures c.write_all.new.out.sink.now) c.in-Err.want
    c.error_of_want.result reason c.error_of_want.ensures in
    let before = ap (λ s. g.W.TextSink.failures s) c.new-written.ensures.content in
    record {
      following =
          content_begun_as _ _ _ _ _ _ (grind arith) (grind arith) c.write_all.ensures
          c.new-written.ensures.want c.in-Err.ensures.wanting;
      reason = subst (λ n. IsWant (g.W.TextSink.failures c.args.out.now) n c.error_of_want.result) (grind arith)
          (subst (λ n. IsWant n (g.W.TextSink.failures c.write_all.new.out.sink.now) c.error_of_want.result)
          before reported);
    }

pub error_of_want-requires : goal.error_of_want-requires
error_of_want-requires g c is =
    never_unsupported _ _ _ c.write_all.ensures c.new-written.ensures.want
    (c.in-Err.ensures.wanting ∙ ap Some is)

pub write_all-requires : goal.write_all-requires
write_all-requires g c = record {
  can = record {
    of_module = record {
      info = c.args.known.now.info.now;
      accepted = c.requires.can.known.accepted;
    };
    named = c.requires.can.known.named;
    tables = c.requires.can.known.tables;
  };
  forms = c.requires.can.declared;
  keys = c.requires.can.names.keys;
}
