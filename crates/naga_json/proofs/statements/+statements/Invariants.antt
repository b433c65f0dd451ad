-- The levels that are left, and the order of the functions that pass them on.
use Rattle.std.proofs.Common.{◌≡◌, ◌+◌, ◌-◌, ◌*◌, ◌++◌, drop, map, Some}
use Rattle.json.specs.Value.{items_view}
use Rattle.naga_ir.specs.StatementViews.{tree_of}
use Rattle.naga_json.specs.Said.{◌>>=◌, items_said}
use Rattle.naga_json.specs.Statements.{block_said, statement_said, case_said, seen_case}
use Rattle.naga_json.proofs.statements.+statements.Given as goal

abbrev pub decreases-block : goal.decreases-block
decreases-block l = 9 * l.levels

abbrev pub decreases-statement : goal.decreases-statement
decreases-statement l = 9 * l.levels + 8

abbrev pub decreases-named_statement : goal.decreases-named_statement
decreases-named_statement l = 9 * l.levels + 7

abbrev pub decreases-switch : goal.decreases-switch
decreases-switch l = 9 * l.levels + 6

abbrev pub decreases-cases_of : goal.decreases-cases_of
decreases-cases_of l = 9 * l.levels + 5

abbrev pub decreases-case_of : goal.decreases-case_of
decreases-case_of l = 9 * l.levels + 4

abbrev pub decreases-if_else : goal.decreases-if_else
decreases-if_else l = 9 * l.levels + 3

abbrev pub decreases-loop_of : goal.decreases-loop_of
decreases-loop_of l = 9 * l.levels + 2

abbrev pub decreases-member_block : goal.decreases-member_block
decreases-member_block l = 9 * l.levels + 1

abbrev pub decreases-block_if_told : goal.decreases-block_if_told
decreases-block_if_told l = 9 * l.levels + 1

-- what was read, and what the rest says, is what all say
abbrev pub invariant-block-loop-index : goal.invariant-block-loop-index
invariant-block-loop-index l =
    let said = statement_said (block_said (l.levels - 1)) in
    (items_said said (items_view (drop l.index l.item-items)) >>= λ xs. Some (map tree_of l.read.items ++ xs))
    ≡ items_said said (items_view l.item-items)

abbrev pub invariant-cases_of-loop-index : goal.invariant-cases_of-loop-index
invariant-cases_of-loop-index l =
    let said = case_said (block_said l.levels) in
    (items_said said (items_view (drop l.index l.item-items)) >>= λ xs. Some (map seen_case l.read.items ++ xs))
    ≡ items_said said (items_view l.item-items)
