use Rattle.std.proofs.Common.{rules, tests}
use Rattle.std.proofs.lemmas.Iterator.{YieldsList-from_map, YieldsList-from_take}
use Rattle.std.proofs.lemmas.Iterator.{items_from_collect}
use Rattle.std.proofs.lemmas.Iterator.Consumers.{YieldsList-at, YieldsList-from_first}
use Rattle.naga_ir.specs.Operands.{own_operands}
use Rattle.naga_ir.specs.StatementViews.{tree_of}
use Rattle.naga_listing.specs.Named.{most_named}
use Rattle.naga_listing.specs.declared.positions.Spot.TheVariants as spot
use Rattle.naga_listing.proofs.named.statement_operand_spots.Goals as goal

pub returns : goal.returns
returns c =
    items_from_collect _ c.collect.ensures.ran (YieldsList-from_map _ spot.Expression
    (YieldsList-at c.map.ensures.source (YieldsList-from_take most_named
    (YieldsList-at c.take.ensures.source (YieldsList-from_first (λ x. x) (λ s. s)
    (own_operands (tree_of c.args.statement.now)) c.operands.ensures)) c.take.ensures.count))
    c.map.ensures.closure (λ x r q k. search (rules, tests)))
