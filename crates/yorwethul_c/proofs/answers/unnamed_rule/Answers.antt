use Rattle.std.proofs.Common.{string_bytes}
use Rattle.module_answers.specs.Opening.{TellsRuleAt}
use Rattle.yorwethul_c.specs.declared.status.Status.TheVariants as status
use Rattle.yorwethul_c.proofs.Told.{settled_that}
use Rattle.yorwethul_c.proofs.answers.unnamed_rule.Goals as goal

pub returns : goal.returns
returns c =
    settled_that string_bytes (TellsRuleAt c.args.shader.now.holder c.args.filter) c.rule_name_line-text.result
    status.Refused _ _ c.rule_name_line-text.ensures c.settled.ensures.text c.settled.ensures.memory
