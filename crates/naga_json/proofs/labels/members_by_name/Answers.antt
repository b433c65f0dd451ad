use Rattle.std.proofs.Common.{◌≡◌, ◌+◌, ◌∷◌, drop, sym, ap, ◌∙◌, arith}
use Rattle.std.proofs.lemmas.List.{drop_more}
use Rattle.json.specs.Value.{members_view}
use Rattle.naga_json.specs.Labels.{by_name, seen_by_name}
use Rattle.naga_json.proofs.LabelMaps.{member_put}
use Rattle.naga_json.proofs.labels.members_by_name.Goals as goal

pub loop-member-preserved : goal.loop-member-preserved
loop-member-preserved c =
    let l = c.loop-member in
    let xs = c.deref-member-items.result.now in
    let x = c.member-item.result in
    let here : drop l.member-index xs ≡ x ∷ drop (l.member-index + 1) xs =
    drop_more xs l.member-index x (omega arith) ∙ ap (λ y. y ∷ drop (l.member-index + 1) xs)
    (sym c.member-item.is) in
    ap (λ es. by_name es (members_view (drop (l.member-index + 1) xs)))
    (member_put l.found.entries c.insert.new.self.entries _ _ c.in_ok-insert.ensures.entries)
    ∙ (ap (λ ms. by_name (seen_by_name l.found.entries) (members_view ms)) (sym here) ∙ l.invariant)
