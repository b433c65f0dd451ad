use Rattle.word_tests.proofs.types.rules_hold.Goals as goal

pub write_type_rule-requires-clause-fits : goal.write_type_rule-requires-clause-fits
write_type_rule-requires-clause-fits g c = (c.modf_rule-rule.ensures (g.C.TypeContext.context c.args.context.now)).0

pub write_type_rule-requires-clause-gives : goal.write_type_rule-requires-clause-gives
write_type_rule-requires-clause-gives g c = (c.modf_rule-rule.ensures (g.C.TypeContext.context c.args.context.now)).1

pub type_rule_to_string-spelled-requires-clause-fits : goal.type_rule_to_string-spelled-requires-clause-fits
type_rule_to_string-spelled-requires-clause-fits g c =
    (c.modf_rule-rule.ensures (g.C.TypeContext.context c.args.context.now)).0

pub type_rule_to_string-spelled-requires-clause-gives : goal.type_rule_to_string-spelled-requires-clause-gives
type_rule_to_string-spelled-requires-clause-gives g c =
    (c.modf_rule-rule.ensures (g.C.TypeContext.context c.args.context.now)).1
