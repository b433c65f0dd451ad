use Rattle.std.proofs.Common.{ap, rules, tests, ◌∙◌}
use Rattle.std.proofs.lemmas.Iterator.{YieldsList-from_slice}
use Rattle.std.proofs.lemmas.Iterator.Search.{position_from_yields_List}
use Rattle.std.specs.Prelude.{unwrap_or}
use Rattle.naga_listing.specs.Choice.{is_about}
use Rattle.naga_listing.proofs.choice.marked_line.Goals as goal

pub returns : goal.returns
returns c =
    c.unwrap_or.ensures
    ∙ ap (λ r. unwrap_or r 0) (position_from_yields_List (λ l. is_about c.args.spot.now l.kind) _ _ _
    c.position.ensures.ran (YieldsList-from_slice c.args.lines.now cc)
    (λ x b q k. search (rules, tests)))
