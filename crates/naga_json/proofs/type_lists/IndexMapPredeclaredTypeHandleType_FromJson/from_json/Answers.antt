use Rattle.std.proofs.Common.{◌≡◌, ◌+◌, [], ◌∷◌, ◌++◌, drop, None, Some, true, false, sym, ap, ◌∙◌, arith, rules}
use Rattle.std.proofs.lemmas.List.{drop_more}
use Rattle.std.specs.Option.{is_some}
use Rattle.json.specs.Value.{value_view, items_view}
use Rattle.naga_ir.specs.contracts.types.PredeclaredTypePartialEq.TheImpl as key_eq
use Rattle.naga_json.specs.TypeLists.{has_key, pair_said, pairs_after, predeclared_types_said}
use Rattle.naga_json.proofs.TypeLists.{key_added, key_found, no_pairs, pair_doubled, pair_read, refused}
use Rattle.naga_json.proofs.type_lists.IndexMapPredeclaredTypeHandleType_FromJson.from_json.Goals as goal

pub returns-then-is_some : goal.returns-then-is_some
returns-then-is_some c =
    let l = c.loop-index in
    let xs = c.deref-pair-items.result.now in
    let x = c.pair-item.result in
    let p = c.in_ok-pair.pair in
    let here : drop l.index xs ≡ x ∷ drop (l.index + 1) xs = drop_more xs l.index x (omega arith)
    ∙ ap (λ y. y ∷ drop (l.index + 1) xs) (sym c.pair-item.is) in
    let said : pair_said (value_view x) ≡ Some (p.key, p.ty) = search rules in
    let found : has_key p.key l.read.entries ≡ true =
    sym (key_found key_eq.eq-value.it p.key l.read.entries)
    ∙ (sym (ap is_some c.in_ok-insert.ensures.old) ∙ (sym c.is_some.ensures ∙ c.if-is_some.true)) in
    let stops : pairs_after [] (items_view xs) ≡ None =
    sym l.invariant ∙ (ap (λ ys. pairs_after l.read.entries (items_view ys)) here
    ∙ pair_doubled l.read.entries (value_view x) (items_view (drop (l.index + 1) xs)) p.key p.ty said found) in
    let without : predeclared_types_said (value_view c.args.value.now) ≡ None =
    no_pairs (value_view c.args.value.now) (items_view xs) (sym c.is_empty_object.ensures ∙ c.if-is_empty_object.false)
    (search rules) stops in
    refused _ (predeclared_types_said (value_view c.args.value.now)) c.at.result c.in_item-then-is_some.result without
    c.in_item-then-is_some.ensures

pub loop-index-preserved : goal.loop-index-preserved
loop-index-preserved c =
    let l = c.loop-index in
    let xs = c.deref-pair-items.result.now in
    let x = c.pair-item.result in
    let p = c.in_ok-pair.pair in
    let here : drop l.index xs ≡ x ∷ drop (l.index + 1) xs = drop_more xs l.index x (omega arith)
    ∙ ap (λ y. y ∷ drop (l.index + 1) xs) (sym c.pair-item.is) in
    let said : pair_said (value_view x) ≡ Some (p.key, p.ty) = search rules in
    let none : has_key p.key l.read.entries ≡ false =
    sym (key_found key_eq.eq-value.it p.key l.read.entries)
    ∙ (sym (ap is_some c.in_ok-insert.ensures.old) ∙ (sym c.is_some.ensures ∙ c.if-is_some.false)) in
    let grown : c.insert.new.self.entries ≡ l.read.entries ++ (p.key, p.ty) ∷ [] =
    c.in_ok-insert.ensures.entries ∙ key_added key_eq.eq-value.it p.key p.ty l.read.entries none in
    pair_read l.read.entries (value_view x) (items_view (drop (l.index + 1) xs)) p.key p.ty said
    c.insert.new.self.entries none grown
    ∙ (ap (λ ys. pairs_after l.read.entries (items_view ys)) (sym here) ∙ l.invariant)
