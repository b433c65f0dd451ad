use Rattle.std.proofs.Common.{ap, rules, tests, ◌==◌}
use Rattle.std.proofs.lemmas.Iterator.{YieldsList-from_slice}
use Rattle.std.proofs.lemmas.Iterator.Search.{position_from_yields_List}
use Rattle.std.specs.Option.{option_map}
use Rattle.std.specs.Prelude.{Some}
use Rattle.module_positions.proofs.roles.list_role.Goals as goal

pub returns-in-Some : goal.returns-in-Some
returns-in-Some c =
    ap (option_map (λ number. (c.args.name.now, Some number)))
    (position_from_yields_List (λ x. x == c.args.operand) _ _ _ c.in-Some.ensures.ran
    (YieldsList-from_slice c.args.items.now cc) (λ x b q k. search (rules, tests)))

pub returns-in-None : goal.returns-in-None
returns-in-None c =
    ap (option_map (λ number. (c.args.name.now, Some number)))
    (position_from_yields_List (λ x. x == c.args.operand) _ _ _ c.in-None.ensures.ran
    (YieldsList-from_slice c.args.items.now cc) (λ x b q k. search (rules, tests)))
