use Rattle.std.proofs.Common.{◌≡◌, ◌+◌, ◌-◌, ◌∷◌, ◌++◌, drop, map, Some, None, sym, ap, ◌∙◌, arith, rules}
use Rattle.std.proofs.lemmas.List.{drop_all, drop_more}
use Rattle.json.specs.Value.{value_view, items_view}
use Rattle.naga_ir.specs.StatementTree as tree
use Rattle.naga_ir.specs.StatementViews.{tree_of}
use Rattle.naga_json.specs.Said.{◌>>=◌, IsRefusal, items_said}
use Rattle.naga_json.specs.Statements.{block_said, statement_said, case_said, case_trees, seen_case, switch_said}
use Rattle.naga_json.proofs.Blocks.{all_from, block_by, block_seen, cases_seen, no_block, no_levels}
use Rattle.naga_json.proofs.Blocks.{none_from, step_none, step_some}
use Rattle.naga_json.proofs.Lists.{step_said}
use Rattle.naga_json.proofs.statements.+statements.Goals as goal

pub block-returns-in_err-items : goal.block-returns-in_err-items
block-returns-in_err-items t c =
    let without : IsRefusal c.in_err-items.field-0.0 → block_said c.args.levels (value_view c.args.value.now) ≡ None =
    λ refusal. no_block c.args.levels (value_view c.args.value.now) (c.in_err-items.ensures refusal) in
    search (rules, without)

pub block-returns-then-levels-eq0 : goal.block-returns-then-levels-eq0
block-returns-then-levels-eq0 t c refusal =
    no_levels c.args.levels (value_view c.args.value.now) c.if-levels-eq0.true

pub block-returns-in_err-in_item : goal.block-returns-in_err-in_item
block-returns-in_err-in_item t c =
    let l = c.loop-index in
    let xs = c.deref-item-items.result.now in
    let x = c.item-item.result in
    let here : drop l.index xs ≡ x ∷ drop (l.index + 1) xs = drop_more xs l.index x (omega arith)
    ∙ ap (λ y. y ∷ drop (l.index + 1) xs) (sym c.item-item.is) in
    let said = statement_said (block_said (c.args.levels - 1)) in
    let without : IsRefusal c.in_err-in_item.field-0.0 → block_said c.args.levels (value_view c.args.value.now) ≡ None =
    λ refusal. block_by c.args.levels (value_view c.args.value.now) (items_view xs) None (search rules) (search rules)
    (none_from said tree_of l.read.items xs l.index x here
    (step_none tree_of c.statement.result c.in_err-in_item.field-0.0 (said (value_view x)) c.statement.ensures
    c.in_err-in_item.ensures refusal) l.invariant) in
    search (rules, without)

pub block-loop-index-preserved : goal.block-loop-index-preserved
block-loop-index-preserved t c =
    let l = c.loop-index in
    let xs = c.deref-item-items.result.now in
    let x = c.item-item.result in
    let here : drop l.index xs ≡ x ∷ drop (l.index + 1) xs = drop_more xs l.index x (omega arith)
    ∙ ap (λ y. y ∷ drop (l.index + 1) xs) (sym c.item-item.is) in
    let said = statement_said (block_said (c.args.levels - 1)) in
    let some : said (value_view x) ≡ Some (tree_of c.in_ok-in_item.field-0) =
    step_some tree_of c.statement.result c.in_ok-in_item.field-0 (said (value_view x)) c.statement.ensures
    c.in_ok-in_item.ensures in
    step_said said tree_of l.read.items c.push.new.self.items (value_view x) (items_view (drop (l.index + 1) xs))
    c.in_ok-in_item.field-0 some c.in_ok-push.ensures.items
    ∙ (ap (λ ys. items_said said (items_view ys) >>= λ zs. Some (map tree_of l.read.items ++ zs)) (sym here)
    ∙ l.invariant)

pub block-returns : goal.block-returns
block-returns t c =
    let l = c.loop-index in
    let xs = c.deref-item-items.result.now in
    let said = statement_said (block_said (c.args.levels - 1)) in
    let all : items_said said (items_view xs) ≡ Some (map tree_of l.read.items) =
    all_from said tree_of l.read.items xs l.index (drop_all l.index xs (omega arith)) l.invariant in
    block_by c.args.levels (value_view c.args.value.now) (items_view xs) (Some (map tree_of l.read.items))
    (search rules) (search rules) all
    ∙ ap (λ b. Some b) (block_seen l.read.items ∙ sym c.from_vec.ensures)

pub cases_of-loop-index-preserved : goal.cases_of-loop-index-preserved
cases_of-loop-index-preserved t c =
    let l = c.loop-index in
    let xs = c.deref-item-items.result.now in
    let x = c.item-item.result in
    let here : drop l.index xs ≡ x ∷ drop (l.index + 1) xs = drop_more xs l.index x (omega arith)
    ∙ ap (λ y. y ∷ drop (l.index + 1) xs) (sym c.item-item.is) in
    let said = case_said (block_said c.args.levels) in
    let some : said (value_view x) ≡ Some (seen_case c.in_ok-in_item.field-0) =
    step_some seen_case c.case_of.result c.in_ok-in_item.field-0 (said (value_view x)) c.case_of.ensures
    c.in_ok-in_item.ensures in
    step_said said seen_case l.read.items c.push.new.self.items (value_view x) (items_view (drop (l.index + 1) xs))
    c.in_ok-in_item.field-0 some c.in_ok-push.ensures.items
    ∙ (ap (λ ys. items_said said (items_view ys) >>= λ zs. Some (map seen_case l.read.items ++ zs)) (sym here)
    ∙ l.invariant)

pub switch-returns : goal.switch-returns
switch-returns t c =
    let items = c.in_ok-in_member.field-0.items in
    let seen : switch_said (block_said c.args.levels) (value_view c.args.payload.now)
    ≡ Some (tree.switch c.in_ok-selector.selector (case_trees (map seen_case items))) = search rules in
    seen ∙ ap (λ cs. Some (tree.switch c.in_ok-selector.selector cs)) (cases_seen items)
