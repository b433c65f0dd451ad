use Rattle.std.proofs.Common.{rules, tests}
use Rattle.std.proofs.lemmas.Iterator.{YieldsList-from_map, YieldsList-from_slice}
use Rattle.std.proofs.lemmas.Iterator.{YieldsList-from_take, items_from_collect}
use Rattle.std.proofs.lemmas.Iterator.Consumers.{YieldsList-at}
use Rattle.naga_listing.specs.Named.{most_named}
use Rattle.naga_listing.specs.declared.positions.Spot.TheVariants as spot
use Rattle.naga_listing.proofs.named.member_spots.Goals as goal

pub returns : goal.returns
returns c =
    items_from_collect _ c.collect.ensures.ran (YieldsList-from_map _ (λ member. spot.Type_ member.ty)
    (YieldsList-at c.map.ensures.source (YieldsList-from_take most_named
    (YieldsList-at c.take.ensures.source (YieldsList-from_slice c.args.members.now
    c.iter.ensures.rest)) c.take.ensures.count))
    c.map.ensures.closure (λ x r q k. search (rules, tests)))
