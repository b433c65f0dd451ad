use Rattle.wgsl_tests.proofs.initialisers.text_of.Goals as goal

pub write_global_expression-requires-clause-accepted : goal.write_global_expression-requires-clause-accepted
write_global_expression-requires-clause-accepted c = (c.args.info.now, c.requires.accepted)
