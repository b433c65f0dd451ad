use Rattle.std.proofs.Common.{rules, tests, nat_lt}
use Rattle.std.proofs.lemmas.Iterator.{YieldsList-from_slice}
use Rattle.std.proofs.lemmas.Iterator.Search.{all_from_yields_List}
use Rattle.naga_acceptance.proofs.ranges.arguments_fit.Goals as goal

pub returns : goal.returns
returns c = all_from_yields_List (λ a. nat_lt a.ty c.args.type_count) _ _ _ c.all.ensures.ran
    (YieldsList-from_slice c.args.arguments.now cc) (λ x b q k. search (rules, tests))
