use Rattle.std.proofs.Common.{rules, ◌≤◌, length}
use Rattle.word_tests.specs.Numbered.{numbered_context}
use Rattle.word_tests.proofs.rules.handle_rule_holds.Goals as goal

pub rule_holds-requires-clause-fits : goal.rule_holds-requires-clause-fits
rule_holds-requires-clause-fits g c =
    let enough : 2 ≤ length c.args.context.now.types.now = search rules in
    (c.count_rule-rule.ensures (numbered_context c.args.context.now.types.now) enough).0

pub rule_holds-requires-clause-gives : goal.rule_holds-requires-clause-gives
rule_holds-requires-clause-gives g c =
    let enough : 2 ≤ length c.args.context.now.types.now = search rules in
    (c.count_rule-rule.ensures (numbered_context c.args.context.now.types.now) enough).1
