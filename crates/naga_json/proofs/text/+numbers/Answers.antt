use Rattle.std.proofs.Common.{◌≡◌, ◌+◌, ◌<◌, ◌&&◌, ◌∷◌, length, drop, sym, ap, ◌∙◌, subst, arith, rules}
use Rattle.std.proofs.lemmas.List.{drop_more}
use Rattle.json.specs.Tree.{json_tokens, items_tokens, members_tokens}
use Rattle.json.specs.Value.{value_view, items_view, members_view}
use Rattle.json.proofs.Trees.{item_smaller, member_smaller}
use Rattle.naga_json.specs.Text.{numbers_fit, items_fit, members_fit}
use Rattle.naga_json.proofs.text.+numbers.Goals as goal

pub items_fit-numbers_fit-requires : goal.items_fit-numbers_fit-requires
items_fit-numbers_fit-requires t c =
    let xs = c.deref-item-items.result.now in
    let x = c.item-item.result in
    let smaller : length (json_tokens (value_view x)) < length (items_tokens (items_view c.args.items.now.items)) =
    subst (λ ys. length (json_tokens (value_view x)) < length (items_tokens (items_view ys)))
    c.deref-item-items.ensures.value
    (subst (λ y. length (json_tokens (value_view y)) < length (items_tokens (items_view xs)))
    (sym c.item-item.is) (item_smaller xs c.loop-item.item-index x (omega arith))) in
    search rules

pub items_fit-returns-then-not-numbers_fit : goal.items_fit-returns-then-not-numbers_fit
items_fit-returns-then-not-numbers_fit t c =
    let l = c.loop-item in
    let xs = c.deref-item-items.result.now in
    let x = c.item-item.result in
    let here : drop l.item-index xs ≡ x ∷ drop (l.item-index + 1) xs = drop_more xs l.item-index x (omega arith)
    ∙ ap (λ y. y ∷ drop (l.item-index + 1) xs) (sym c.item-item.is) in
    let step : items_fit (items_view (drop l.item-index xs))
    ≡ (numbers_fit (value_view x) && items_fit (items_view (drop (l.item-index + 1) xs))) =
    ap (λ ys. items_fit (items_view ys)) here in
    let same : items_fit (items_view xs) ≡ items_fit (items_view c.args.items.now.items) =
    ap (λ ys. items_fit (items_view ys)) c.deref-item-items.ensures.value in
    grind (arith, step, same, l.invariant)

pub items_fit-loop-item-preserved : goal.items_fit-loop-item-preserved
items_fit-loop-item-preserved t c =
    let l = c.loop-item in
    let xs = c.deref-item-items.result.now in
    let x = c.item-item.result in
    let here : drop l.item-index xs ≡ x ∷ drop (l.item-index + 1) xs = drop_more xs l.item-index x (omega arith)
    ∙ ap (λ y. y ∷ drop (l.item-index + 1) xs) (sym c.item-item.is) in
    let step : items_fit (items_view (drop l.item-index xs))
    ≡ (numbers_fit (value_view x) && items_fit (items_view (drop (l.item-index + 1) xs))) =
    ap (λ ys. items_fit (items_view ys)) here in
    grind (arith, step, l.invariant)

pub members_fit-numbers_fit-requires : goal.members_fit-numbers_fit-requires
members_fit-numbers_fit-requires t c =
    let xs = c.deref-member-items.result.now in
    let x = c.member-item.result in
    let smaller : length (json_tokens (value_view x.1))
    < length (members_tokens (members_view c.args.members.now.items)) =
    subst (λ ys. length (json_tokens (value_view x.1)) < length (members_tokens (members_view ys)))
    c.deref-member-items.ensures.value
    (subst (λ y. length (json_tokens (value_view y.1)) < length (members_tokens (members_view xs)))
    (sym c.member-item.is) (member_smaller xs c.loop-member.member-index x (omega arith))) in
    search rules

pub members_fit-returns-then-not-numbers_fit : goal.members_fit-returns-then-not-numbers_fit
members_fit-returns-then-not-numbers_fit t c =
    let l = c.loop-member in
    let xs = c.deref-member-items.result.now in
    let x = c.member-item.result in
    let here : drop l.member-index xs ≡ x ∷ drop (l.member-index + 1) xs =
    drop_more xs l.member-index x (omega arith) ∙ ap (λ y. y ∷ drop (l.member-index + 1) xs)
    (sym c.member-item.is) in
    let step : members_fit (members_view (drop l.member-index xs))
    ≡ (numbers_fit (value_view x.1) && members_fit (members_view (drop (l.member-index + 1) xs))) =
    ap (λ ys. members_fit (members_view ys)) here in
    let same : members_fit (members_view xs) ≡ members_fit (members_view c.args.members.now.items) =
    ap (λ ys. members_fit (members_view ys)) c.deref-member-items.ensures.value in
    grind (arith, step, same, l.invariant)

pub members_fit-loop-member-preserved : goal.members_fit-loop-member-preserved
members_fit-loop-member-preserved t c =
    let l = c.loop-member in
    let xs = c.deref-member-items.result.now in
    let x = c.member-item.result in
    let here : drop l.member-index xs ≡ x ∷ drop (l.member-index + 1) xs =
    drop_more xs l.member-index x (omega arith) ∙ ap (λ y. y ∷ drop (l.member-index + 1) xs)
    (sym c.member-item.is) in
    let step : members_fit (members_view (drop l.member-index xs))
    ≡ (numbers_fit (value_view x.1) && members_fit (members_view (drop (l.member-index + 1) xs))) =
    ap (λ ys. members_fit (members_view ys)) here in
    grind (arith, step, l.invariant)
