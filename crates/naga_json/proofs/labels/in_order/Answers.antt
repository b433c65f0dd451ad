use Rattle.std.proofs.Common.{◌≡◌, ◌==◌, ◌&&◌, true, [], ◌∷◌, ◌++◌, sym, ap, subst, ◌∙◌, append_assoc}
use Rattle.std.specs.Ordering.{nat_cmp}
use Rattle.std.specs.List.Sorted.{IsStrictlySortedBy}
use Rattle.std.specs.Map.{keys_of}
use Rattle.indexmap.specs.IndexMap.{insert_entry}
use Rattle.naga_json.proofs.LabelMaps.{put_last}
use Rattle.naga_json.proofs.labels.in_order.Goals as goal

pub loop-index-preserved-in_ok-insert : goal.loop-index-preserved-in_ok-insert
loop-index-preserved-in_ok-insert c =
    let l = c.loop-index in
    let i = c.in-Some.index in
    let t = c.in-Some.label in
    let all : l.read.entries ++ (i, t) ∷ c.next.new.self ≡ c.args.labels.entries =
    ap (λ ps. l.read.entries ++ ps) (sym c.in-Some.ensures.steps) ∙ l.invariant.0 in
    let sorted : IsStrictlySortedBy nat_cmp (keys_of (l.read.entries ++ (i, t) ∷ c.next.new.self)) =
    subst (λ es. IsStrictlySortedBy nat_cmp (keys_of es)) (sym all) l.invariant.1 in
    let grown : c.insert.new.self.entries ≡ l.read.entries ++ (i, t) ∷ [] =
    c.in_ok-insert.ensures.entries
    ∙ (ap (λ k. insert_entry (λ a b. (a == b) && true) l.read.entries k t) c.from_index.ensures
    ∙ put_last l.read.entries c.next.new.self i t sorted) in (
      ap (λ es. es ++ c.next.new.self) grown
          ∙ (append_assoc l.read.entries ((i, t) ∷ []) c.next.new.self ∙ all),
      l.invariant.1,
    )

pub loop-index-preserved : goal.loop-index-preserved
loop-index-preserved c =
    let l = c.loop-index in
    let i = c.in-Some.index in
    let t = c.in-Some.label in
    let all : l.read.entries ++ (i, t) ∷ c.next.new.self ≡ c.args.labels.entries =
    ap (λ ps. l.read.entries ++ ps) (sym c.in-Some.ensures.steps) ∙ l.invariant.0 in
    let sorted : IsStrictlySortedBy nat_cmp (keys_of (l.read.entries ++ (i, t) ∷ c.next.new.self)) =
    subst (λ es. IsStrictlySortedBy nat_cmp (keys_of es)) (sym all) l.invariant.1 in
    let grown : c.insert.new.self.entries ≡ l.read.entries ++ (i, t) ∷ [] =
    c.in_ok-insert.ensures.entries
    ∙ (ap (λ k. insert_entry (λ a b. (a == b) && true) l.read.entries k t) c.from_index.ensures
    ∙ put_last l.read.entries c.next.new.self i t sorted) in (
      ap (λ es. es ++ c.next.new.self) grown
          ∙ (append_assoc l.read.entries ((i, t) ∷ []) c.next.new.self ∙ all),
      l.invariant.1,
    )
