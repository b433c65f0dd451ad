use Rattle.std.proofs.Common.{◌+◌, ◌-◌, ap, arith, refl, sym, ◌∙◌}
use Rattle.std.specs.Result.{result_and}
use Rattle.shader_runs.specs.Program.{from}
use Rattle.shader_runs.specs.Scope.{after_emit, after_one, named_after, named_after_all}
use Rattle.naga_scope.specs.KnownFunctions.{handles_at, naming_of}
use Rattle.naga_scope.specs.ScopeChecks.{check_emit, check_emitted}
use Rattle.naga_scope.proofs.Emitting.{range_more}
use Rattle.naga_scope.proofs.KeptPoints.{point_kept}
use Rattle.naga_scope.proofs.Logs.{extends_refl, extends_then}
use Rattle.naga_scope.proofs.ScopeChecks.{given_back, not_ok}
use Rattle.naga_scope.proofs.check.check_emit.Goals as goal

pub loop-index-init : goal.loop-index-init
loop-index-init c = record {
  check = refl;
  following = refl;
  named = refl;
  at = c.requires.at;
  kept = extends_refl _;
  counted = omega arith;
  names = omega arith;
}

pub returns-in_err-check_one-clause-check : goal.returns-in_err-check_one-clause-check
returns-in_err-check_one-clause-check c =
    let n = naming_of c.args.known.now in
    let number = c.args.number in
    let i = c.loop-index.index in
    let e = c.args.range.end in
    let k = c.loop-index.scope.named in
    let s = handles_at c.loop-index.scope in
    let rest = from (i + 1) (e - (i + 1)) in
    let fault = sym (c.in_err-check_one.ensures.check
    ∙ ap (λ h. check_emitted n.function s number h) c.from_index.ensures) in
    given_back c.from_residual.result c.in_err-check_one.field-0.0 c.from_residual.ensures.1
    ∙ sym (ap (λ hs. check_emit n k number hs s) (range_more i e c.loop-index-test.true)
    ∙ ap (λ r. result_and r (check_emit n (named_after n.function i k) number rest (after_one n k i s))) fault)
    ∙ c.loop-index.invariant.check

pub returns-in_err-check_one-clause-after : goal.returns-in_err-check_one-clause-after
returns-in_err-check_one-clause-after c holds =
    not_ok c.from_residual.result c.in_err-check_one.field-0.0 c.from_residual.ensures.1 holds

pub returns-in_err-check_one-clause-named : goal.returns-in_err-check_one-clause-named
returns-in_err-check_one-clause-named c holds =
    not_ok c.from_residual.result c.in_err-check_one.field-0.0 c.from_residual.ensures.1 holds

pub returns-in_err-check_one-clause-kept : goal.returns-in_err-check_one-clause-kept
returns-in_err-check_one-clause-kept c = extends_then c.loop-index.invariant.kept c.check_one.ensures.kept

pub loop-index-preserved : goal.loop-index-preserved
loop-index-preserved c =
    let n = naming_of c.args.known.now in
    let number = c.args.number in
    let i = c.loop-index.index in
    let e = c.args.range.end in
    let k = c.loop-index.scope.named in
    let s = handles_at c.loop-index.scope in
    let rest = from (i + 1) (e - (i + 1)) in
    let more = range_more i e c.loop-index-test.true in
    let may = sym (c.in_ok-check_one.ensures.check
    ∙ ap (λ h. check_emitted n.function s number h) c.from_index.ensures) in
    let following = c.in_ok-check_one.ensures.after refl ∙ ap (λ h. after_one n k h s) c.from_index.ensures in
    let named = c.in_ok-check_one.ensures.named refl ∙ ap (λ h. named_after n.function h k) c.from_index.ensures in
    record {
      check = (λ j. check_emit n (named j) number rest (following j))
          ∙ sym (ap (λ hs. check_emit n k number hs s) more
          ∙ ap (λ r. result_and r (check_emit n (named_after n.function i k) number rest (after_one n k i s))) may)
          ∙ c.loop-index.invariant.check;
      following = (λ j. after_emit n (named j) rest (following j)) ∙ sym (ap (λ hs. after_emit n k hs s) more)
          ∙ c.loop-index.invariant.following;
      named = (λ j. named_after_all n.function rest (named j))
          ∙ sym (ap (λ hs. named_after_all n.function hs k) more) ∙ c.loop-index.invariant.named;
      at = point_kept c.loop-index.invariant.at c.check_one.ensures.kept;
      kept = extends_then c.loop-index.invariant.kept c.check_one.ensures.kept;
      counted = omega (arith, c.loop-index-test.true, c.check_one.ensures.counted.log, c.loop-index.invariant.counted);
      names = omega (arith, c.loop-index-test.true, c.check_one.ensures.counted.names, c.loop-index.invariant.names);
    }
