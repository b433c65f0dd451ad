use Rattle.std.proofs.Common.{◌≡◌, Some, string_bytes, sym, ap, ◌∙◌, rules}
use Rattle.json.specs.Value.{value_view}
use Rattle.naga_json.specs.Labels.{label_said, labels_from, seen_by_name, seen_labels}
use Rattle.naga_json.proofs.LabelMaps.{label_step}
use Rattle.naga_json.proofs.labels.labels_by_index.Goals as goal

pub loop-name-preserved-in_ok-insert : goal.loop-name-preserved-in_ok-insert
loop-name-preserved-in_ok-insert c =
    let l = c.loop-name in
    let k = c.in-Some.name.now in
    let v = c.in-Some.label.now in
    let t = c.in_ok-label.label in
    let said : label_said k.now (value_view v.now) ≡ Some (t.index, string_bytes t.label) = search rules in
    label_step l.labels.entries c.insert.new.self.entries k v c.next.new.self t.index t.label said
    c.in_ok-insert.ensures.entries
    ∙ (ap (λ es. labels_from (seen_labels l.labels.entries) (seen_by_name es)) (sym c.in-Some.ensures.steps)
    ∙ l.invariant)

pub loop-name-preserved : goal.loop-name-preserved
loop-name-preserved c =
    let l = c.loop-name in
    let k = c.in-Some.name.now in
    let v = c.in-Some.label.now in
    let t = c.in_ok-label.label in
    let said : label_said k.now (value_view v.now) ≡ Some (t.index, string_bytes t.label) = search rules in
    label_step l.labels.entries c.insert.new.self.entries k v c.next.new.self t.index t.label said
    c.in_ok-insert.ensures.entries
    ∙ (ap (λ es. labels_from (seen_labels l.labels.entries) (seen_by_name es)) (sym c.in-Some.ensures.steps)
    ∙ l.invariant)
