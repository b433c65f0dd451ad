use Rattle.std.proofs.Common.{◌∙◌, ap, sym}
use Rattle.naga_words.proofs.Writing.{writes_as, writes_nothing}
use Rattle.naga_wgsl_fns.proofs.ActRows.{no_outcome}
use Rattle.naga_wgsl_fns.specs.Statements.{outcome_text}
use Rattle.naga_wgsl_fns.proofs.functions.FunctionText.write_outcome.Goals as goal

pub write_outcome_start-requires-clause-outcome : goal.write_outcome_start-requires-clause-outcome
write_outcome_start-requires-clause-outcome g c = (c.requires.outcome c.in-Some.outcome c.in-Some.is).0

pub write_outcome_start-requires-clause-named : goal.write_outcome_start-requires-clause-named
write_outcome_start-requires-clause-named g c = (c.requires.outcome c.in-Some.outcome c.in-Some.is).1

pub returns-in-Some : goal.returns-in-Some
returns-in-Some g c = writes_as (ap (outcome_text c.args.self.now) (sym c.in-Some.is)) c.write_outcome_start.ensures

pub returns-in-None : goal.returns-in-None
returns-in-None g c =
    writes_as (sym (no_outcome c.args.self.now) ∙ ap (outcome_text c.args.self.now) (sym c.in-None.is))
    (writes_nothing _)
