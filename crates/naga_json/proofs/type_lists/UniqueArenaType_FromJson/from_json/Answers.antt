use Rattle.std.proofs.Common.{◌≡◌, ◌≢◌, ◌+◌, [], ◌∷◌, ◌++◌, drop, length, map, None, false, sym, ap, ◌∙◌, arith, rules}
use Rattle.std.proofs.lemmas.List.{drop_more}
use Rattle.std.specs.List.{list_any, position_or_len}
use Rattle.json.specs.Value.{value_view, items_view}
use Rattle.naga_ir.specs.contracts.types.Type_PartialEq.TheImpl as type_eq
use Rattle.naga_json.specs.Seen.{seen_type}
use Rattle.naga_json.specs.TypeLists.{types_after, types_said}
use Rattle.naga_json.proofs.TypeLists.{elsewhere, key_new, no_types, past_end, pushed, refused, type_doubled, type_read}
use Rattle.naga_json.proofs.type_lists.UniqueArenaType_FromJson.from_json.Goals as goal

pub returns-then-index : goal.returns-then-index
returns-then-index c =
    let l = c.loop-index in
    let xs = c.deref-item-items.result.now in
    let x = c.item-item.result in
    let t = c.in_ok-item_of.field-0 in
    let here : drop l.index xs ≡ x ∷ drop (l.index + 1) xs = drop_more xs l.index x (omega arith)
    ∙ ap (λ y. y ∷ drop (l.index + 1) xs) (sym c.item-item.is) in
    let apart : position_or_len (type_eq.eq-value.it t) l.read ≢ length l.read =
    λ e. c.if-index.true (c.index.ensures ∙ (c.in_ok-handle.ensures.handle ∙ (e ∙ l.invariant.0))) in
    let stops : types_after [] (items_view xs) ≡ None =
    sym l.invariant.1 ∙ (ap (λ ys. types_after (map seen_type l.read) (items_view ys)) here
    ∙ type_doubled l.read (value_view x) (items_view (drop (l.index + 1) xs)) t c.in_ok-item_of.ensures
    (elsewhere (type_eq.eq-value.it t) l.read apart)) in
    refused (map seen_type) (types_said (value_view c.args.value.now)) c.at.result c.in_item.result
    (no_types (value_view c.args.value.now) (items_view xs) (search rules) stops) c.in_item.ensures

pub loop-index-preserved : goal.loop-index-preserved
loop-index-preserved c =
    let l = c.loop-index in
    let xs = c.deref-item-items.result.now in
    let x = c.item-item.result in
    let t = c.in_ok-item_of.field-0 in
    let here : drop l.index xs ≡ x ∷ drop (l.index + 1) xs = drop_more xs l.index x (omega arith)
    ∙ ap (λ y. y ∷ drop (l.index + 1) xs) (sym c.item-item.is) in
    let last : position_or_len (type_eq.eq-value.it t) l.read ≡ length l.read =
    sym c.in_ok-handle.ensures.handle ∙ (sym c.index.ensures ∙ (c.if-index.false ∙ sym l.invariant.0)) in
    let none : list_any (type_eq.eq-value.it t) l.read ≡ false = past_end (type_eq.eq-value.it t) l.read last in
    let grown : c.insert.new.self ≡ l.read ++ t ∷ [] =
    c.in_ok-handle.ensures.items ∙ key_new (type_eq.eq-value.it) l.read t none in
    let longer : length c.insert.new.self ≡ l.index + 1 =
    ap length grown ∙ (pushed l.read t ∙ ap (λ n. n + 1) l.invariant.0) in (
      longer,
      type_read l.read (value_view x) (items_view (drop (l.index + 1) xs)) t c.in_ok-item_of.ensures
          c.insert.new.self none grown
          ∙ (ap (λ ys. types_after (map seen_type l.read) (items_view ys)) (sym here) ∙ l.invariant.1),
    )
