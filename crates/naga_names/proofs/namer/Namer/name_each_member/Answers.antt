use Rattle.std.proofs.Common.{ap, ◌∙◌}
use Rattle.naga_naming.specs.Naming.{Names}
use Rattle.naga_naming.specs.Keys.{names_in}
use Rattle.naga_naming.specs.Members.{RefusesMembers}
use Rattle.naga_naming.proofs.Reset.{if_err}
use Rattle.naga_naming.proofs.Members.{member_more_at, member_refused, member_key_refused}
use Rattle.naga_names.proofs.namer.Namer.name_each_member.Goals as goal

pub returns-in_default-clause-err : goal.returns-in_default-clause-err
returns-in_default-clause-err c =
    member_key_refused c.args.self.now (names_in c.args.output.now) c.args.ty c.args.members.now
    c.loop-index.index c.loop-index.self (names_in c.loop-index.output) c.index-members-index.result
    c.loop-index-test.true c.index-members-index.is c.in_default.ensures c.loop-index.invariant.named

pub returns-in_err-put_name-clause-err : goal.returns-in_err-put_name-clause-err
returns-in_err-put_name-clause-err c =
    if_err c.from_residual.result c.in_err-put_name.field-0.0
    (RefusesMembers c.args.self.now (names_in c.args.output.now) c.args.ty c.args.members.now
    (names_in c.put_name.new.output)) c.from_residual.ensures.1
    (member_refused c.args.self.now (names_in c.args.output.now) c.args.ty c.args.members.now
    c.loop-index.index c.loop-index.self (names_in c.loop-index.output)
    (names_in c.put_name.new.output) c.label_or.result.now c.in_err-put_name.field-0.0
    c.loop-index-test.true c.in-Ok.ensures.0 c.loop-index.invariant.named c.in_err-put_name.ensures.err)

pub loop-index-preserved : goal.loop-index-preserved
loop-index-preserved c = record {
  words = c.put_name.ensures.words
      ∙ ap (λ (names : Names). record names { uses = c.put_name.new.self.uses }) c.loop-index.invariant.words;
  named =
      member_more_at c.args.self.now (names_in c.args.output.now) c.args.ty c.args.members.now
      c.loop-index.index c.loop-index.self c.put_name.new.self (names_in c.loop-index.output)
      (names_in c.put_name.new.output) c.index-members-index.result
      c.loop-index-test.true c.index-members-index.is c.loop-index.invariant.words c.in-Ok.ensures.0
      c.loop-index.invariant.named c.in-Ok.index c.label_or.result.now c.in-Ok.ensures.1
      c.label_or.ensures c.in_ok-put_name.ensures.ok;
}
