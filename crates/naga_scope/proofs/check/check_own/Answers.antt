use Rattle.std.proofs.Common.{◌≡◌, length, subst, sym, ◌∙◌}
use Rattle.std.specs.Option.{option_to_list}
use Rattle.std.specs.Result.{result_and}
use Rattle.naga_ir.specs.Operands.{own_operands, own_result}
use Rattle.naga_scope.proofs.Holding.{act_after, act_changes, act_checks, act_named, act_of}
use Rattle.naga_scope.proofs.Logs.{extends_refl}
use Rattle.naga_scope.specs.InOrder.{own_changes}
use Rattle.naga_scope.specs.KnownFunctions.{context_of, handles_at, naming_of, statement_in}
use Rattle.naga_scope.specs.Log.{Counted}
use Rattle.naga_scope.specs.ScopeChecks.{check_own, check_result, check_uses, own_named}
use Rattle.shader_runs.specs.Scope.{after, after_result}
use Rattle.naga_scope.proofs.check.check_own.Goals as goal

pub returns-in-If-clause-kept : goal.returns-in-If-clause-kept
returns-in-If-clause-kept c = extends_refl _

pub returns-in-Switch-clause-kept : goal.returns-in-Switch-clause-kept
returns-in-Switch-clause-kept c = extends_refl _

pub returns-in-Block-clause-kept : goal.returns-in-Block-clause-kept
returns-in-Block-clause-kept c = extends_refl _

pub returns-in_default : goal.returns-in_default
returns-in_default c =
    let known = c.args.known.now in
    let n = naming_of known in
    let k = c.args.scope.now.named in
    let s = handles_at c.args.scope.now in
    let number = c.args.number in
    let one = act_of c.args.statement.now c.in_default.not-Emit c.in_default.not-Block c.in_default.not-If
    c.in_default.not-Switch c.in_default.not-Loop in
    let is = sym one.is in
    record {
      check = c.check_act.ensures.check
          ∙ subst (λ tree. result_and (check_uses n.function s number (own_operands tree))
          (check_result number (own_result tree) s)
          ≡ check_own n k number (statement_in known tree) s) is
          (sym (act_checks n (context_of known) one.act one.other k number s));
      after = λ holds. c.check_act.ensures.after holds
          ∙ subst (λ tree. after_result n.names (own_result tree) s ≡ after n k (statement_in known tree) s) is
          (sym (act_after n (context_of known) one.act one.other k s));
      kept = c.check_act.ensures.kept;
      named = λ holds. c.check_act.ensures.named
          ∙ subst (λ tree. k ≡ own_named n.function (statement_in known tree) k) is
          (sym (act_named n (context_of known) one.act one.other k));
      counted = subst (Counted c.args.scope.now c.check_act.new.scope)
          (subst (λ tree. length (option_to_list (own_result tree)) ≡ own_changes tree) is
          (sym (act_changes one.act one.other))) c.check_act.ensures.counted;
    }
