use Rattle.std.proofs.Common.{rules, tests}
use Rattle.std.proofs.lemmas.Iterator.{YieldsList-from_slice}
use Rattle.std.proofs.lemmas.Iterator.Search.{all_from_yields_List}
use Rattle.module_semantics.specs.acceptance.Ranges.{is_below}
use Rattle.naga_acceptance.proofs.ranges.size_overrides_fit.Goals as goal

pub returns : goal.returns
returns c = all_from_yields_List (is_below c.args.bound) _ _ _ c.all.ensures.ran
    (YieldsList-from_slice c.args.overrides.now cc) (λ x b q k. search (rules, tests))
