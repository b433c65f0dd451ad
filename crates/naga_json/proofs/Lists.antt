-- Items of a list: one more that was read, and how many there are.
use Rattle.std.proofs.Common.{◌≡◌, ℕ, List, [], ◌∷◌, ◌++◌, map, length, nat_eq, false, Option, Some, None, refl, ap, rules}
use Rattle.json.specs.Json.{Json, Items, item}
use Rattle.json.specs.Find.{as_array}
use Rattle.json.specs.Value.{items_view}
use Rattle.json.specs.declared.value.Value.{Value}
use Rattle.naga_json.specs.Said.{◌>>=◌, items_said, items_count, tuple_said}

module _ {T Y : Type 0} (said : Json → Option Y) (seen : T → Y) where
  grown : (read : List T) (t : T) (ys : List Y) →
      map seen (read ++ t ∷ []) ++ ys ≡ map seen read ++ seen t ∷ ys
  grown [] t ys = refl
  grown (x ∷ xs) t ys = ap (λ zs. seen x ∷ zs) (grown xs t ys)

  then_rest : (read : List T) (t : T) (o : Option (List Y)) →
      (o >>= λ xs. Some (map seen (read ++ t ∷ []) ++ xs))
      ≡ ((o >>= λ xs. Some (seen t ∷ xs)) >>= λ xs. Some (map seen read ++ xs))
  then_rest read t None = refl
  then_rest read t (Some xs) = ap (λ zs. Some zs) (grown read t xs)

  pub step_said : (read new : List T) (j : Json) (js : Items) (t : T) →
      said j ≡ Some (seen t) → new ≡ read ++ t ∷ [] →
      (items_said said js >>= λ xs. Some (map seen new ++ xs))
      ≡ (items_said said (item j js) >>= λ xs. Some (map seen read ++ xs))
  step_said read new j js t e f = rw (f, e) (then_rest read t (items_said said js))

items_counted : {A : Type 0} (vs : List (Value A)) → items_count (items_view vs) ≡ length vs
items_counted [] = refl
items_counted (v ∷ vs) = search (rules, items_counted vs)

-- a list of another length is no such tuple
pub other_length : {A Y : Type 0} (n : ℕ) (said : Json → Option Y) (j : Json) (vs : List (Value A))
    → as_array j ≡ Some (items_view vs) → nat_eq (length vs) n ≡ false → tuple_said n said j ≡ None
other_length n said j vs e f = rw (e, items_counted vs, f) refl
