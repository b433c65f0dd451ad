use Rattle.std.proofs.Common.{◌≡◌, ◌+◌, ◌∷◌, ◌++◌, drop, map, Some, sym, ap, ◌∙◌, arith}
use Rattle.std.proofs.lemmas.List.{drop_more}
use Rattle.json.specs.Value.{value_view, items_view}
use Rattle.naga_json.specs.Said.{◌>>=◌, items_said}
use Rattle.naga_json.proofs.Lists.{step_said}
use Rattle.naga_json.proofs.shape.ArenaFromJson.from_json.Goals as goal

pub loop-index-preserved : goal.loop-index-preserved
loop-index-preserved g c =
    let l = c.loop-index in
    let xs = c.deref-item-items.result.now in
    let x = c.item-item.result in
    let here : drop l.index xs ≡ x ∷ drop (l.index + 1) xs = drop_more xs l.index x (omega arith)
    ∙ ap (λ y. y ∷ drop (l.index + 1) xs) (sym c.item-item.is) in
    step_said g.T.FromJson.said g.T.FromJson.seen l.read c.append.new.self (value_view x)
    (items_view (drop (l.index + 1) xs)) c.in_ok-item_of.field-0 c.in_ok-item_of.ensures c.in_ok-append.ensures.items
    ∙ (ap (λ ys. items_said g.T.FromJson.said (items_view ys) >>= λ zs. Some (map g.T.FromJson.seen l.read ++ zs)) (sym here)
    ∙ l.invariant)
