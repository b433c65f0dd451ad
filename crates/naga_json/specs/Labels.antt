-- Which labels of expressions a JSON value says: an object's members, each with the index of an expression for its name
-- (docs/JSON.md, "Forms").
--
-- Throughout, es are members of an object by their names, and ls labels by the indices that they are for.
use Rattle.std.specs.Prelude.{ℕ, List, [], ◌∷◌, map, Bool, true, false, not, ◌&&◌, ◌==◌, if◌then◌else◌}
use Rattle.std.specs.Prelude.{Option, Some, None, String, string_bytes}
use Rattle.std.specs.Ordering.{nat_cmp}
use Rattle.std.specs.Cmp.Lexicographic.{slice_cmp}
use Rattle.std.specs.BTreeMap.{insert_entry}
use Rattle.std.specs.Borrow.{Bor}
use Rattle.json.specs.Json.{Json, Members, no_members, member}
use Rattle.json.specs.Find.{as_object, as_str}
use Rattle.json.specs.Value.{value_view}
use Rattle.json.specs.declared.value.Value.{Value}
use Rattle.naga_json.specs.Said.{◌>>=◌}
use Rattle.naga_json.specs.Numbers.{all_digits, whole_of}

-- the members in the order of their names as texts; of a name that comes twice, the last
abbrev pub by_name : List (List ℕ × Json) → Members → List (List ℕ × Json)
by_name es no_members = es
by_name es (member k j ms) = by_name (insert_entry (slice_cmp nat_cmp) es k j) ms

-- one digit or more, and none before the number that it does not need
abbrev pub is_short : List ℕ → Bool
is_short [] = false
is_short (c ∷ []) = true
is_short (c ∷ d ∷ cs) = not (c == 48)

abbrev pub is_shortest : List ℕ → Bool
is_shortest name = all_digits name && is_short name

-- the index that a name is, which is below 2 ^ 64
abbrev pub index_named : List ℕ → Option ℕ
index_named name = if is_shortest name then whole_of name else None

abbrev pub label_said : List ℕ → Json → Option (ℕ × List ℕ)
label_said name j = index_named name >>= λ index. as_str j >>= λ label. Some (index, label)

-- the labels with those of more members, in the order of their indices
abbrev pub labels_from : List (ℕ × List ℕ) → List (List ℕ × Json) → Option (List (ℕ × List ℕ))
labels_from ls [] = Some ls
labels_from ls (e ∷ es) = label_said e.0 e.1 >>= λ l. labels_from (insert_entry nat_cmp ls l.0 l.1) es

unfoldable pub labels_said : Json → Option (List (ℕ × List ℕ))
labels_said j = as_object j >>= λ ms. labels_from [] (by_name [] ms)

-- ---- what contracts see

abbrev pub seen_by_name : {A : Type 0} → List (Bor (List ℕ) × Bor (Value A)) → List (List ℕ × Json)
seen_by_name es = map (λ e. (e.0.now, value_view e.1.now)) es

abbrev pub seen_labels : {A : Type 0} → List (ℕ × String A) → List (ℕ × List ℕ)
seen_labels es = map (λ e. (e.0, string_bytes e.1)) es
