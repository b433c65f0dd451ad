-- Members by their names, and labels by their indices.
use Rattle.std.proofs.Common.{Bor, Some, None, string_bytes, ◌∙◌}
use Rattle.std.specs.Prelude.{Result, Ok, Err, String}
use Rattle.std.specs.Cmp.Lexicographic.{slice_cmp}
use Rattle.std.specs.Str.Parse.{ParsesUnsigned}
use Rattle.json.specs.Value.{value_view}
use Rattle.json.specs.declared.value.Value.{Value}
use Rattle.naga_json.specs.Flags.{ok_of}
use Rattle.naga_json.specs.Labels.{label_said, labels_from, seen_by_name, seen_labels}
use Rattle.naga_json.specs.Numbers.{whole_of}
use Rattle.naga_json.proofs.Numerals.{whole_read}
use Rattle.std.proofs.Common.{◌≡◌, ℕ, true, false, ◌&&◌, ◌==◌, List, [], ◌∷◌, ◌++◌, map, refl, ap, sym, ◌<◌, rules}
use Rattle.std.specs.Ordering.{nat_cmp, match_ordering}
use Rattle.std.specs.declared.cmp.Ordering.{Ordering}
use Rattle.std.specs.declared.cmp.Ordering.TheVariants.{Less, Equal, Greater}
use Rattle.std.specs.BTreeMap.{insert_entry}
use Rattle.std.proofs.lemmas.Cmp.{ranked}
use Rattle.std.specs.List.{AllByRecursion}
use Rattle.std.specs.List.Sorted.{IsStrictlySortedBy}
use Rattle.std.specs.Map.{keys_of}
use Rattle.indexmap.specs.IndexMap.{insert_entry as insert_last}

by_order : {A B : Type 0} (f : A → B) (o : Ordering) (x y z : A) →
    f (match_ordering o x y z) ≡ match_ordering o (f x) (f y) (f z)
by_order f Less x y z = refl
by_order f Equal x y z = refl
by_order f Greater x y z = refl

-- What is put among entries is put among what is seen of them.
module _ {K L X Y : Type 0} (before : K → K → Ordering) (seen_before : L → L → Ordering)
    (key : K → L) (seen : X → Y) (same : (a b : K) → seen_before (key a) (key b) ≡ before a b) where
  pub put_seen : (es : List (K × X)) (k : K) (v : X) →
      map (λ e. (key e.0, seen e.1)) (insert_entry before es k v)
      ≡ insert_entry seen_before (map (λ e. (key e.0, seen e.1)) es) (key k) (seen v)
  put_seen [] k v = refl
  put_seen (e ∷ es) k v =
      rw (
        by_order (map {B = L × Y} (λ (e : K × X). (key e.0, seen e.1))) (before k e.0) ((k, v) ∷ e ∷ es) ((e.0, v) ∷ es) (e ∷ insert_entry before es k v),
        put_seen es k v,
        same k e.0,
      ) refl

-- one more member
pub member_put : {A : Type 0} (es new : List (Bor (List ℕ) × Bor (Value A))) (k : Bor (List ℕ)) (v : Bor (Value A)) →
    new ≡ insert_entry (λ a b. slice_cmp nat_cmp a.now b.now) es k v →
    seen_by_name new ≡ insert_entry (slice_cmp nat_cmp) (seen_by_name es) k.now (value_view v.now)
member_put es new k v e =
    ap seen_by_name e
    ∙ put_seen (λ a b. slice_cmp nat_cmp a.now b.now) (slice_cmp nat_cmp) (λ b. b.now) (λ w. value_view w.now)
    (λ a b. refl) es k v

-- one more label
pub label_put : {A : Type 0} (ls new : List (ℕ × String A)) (k : ℕ) (v : String A) →
    new ≡ insert_entry nat_cmp ls k v →
    seen_labels new ≡ insert_entry nat_cmp (seen_labels ls) k (string_bytes v)
label_put ls new k v e =
    ap seen_labels e ∙ put_seen nat_cmp nat_cmp (λ n. n) (λ t. string_bytes t) (λ a b. refl) ls k v

pub label_step : {A B : Type 0} (ls new : List (ℕ × String A)) (k : Bor (List ℕ)) (v : Bor (Value B))
    (rest : List (Bor (List ℕ) × Bor (Value B))) (i : ℕ) (t : String A) →
    label_said k.now (value_view v.now) ≡ Some (i, string_bytes t) → new ≡ insert_entry nat_cmp ls i t →
    labels_from (seen_labels new) (seen_by_name rest)
    ≡ labels_from (seen_labels ls) (seen_by_name ((k, v) ∷ rest))
label_step ls new k v rest i t is put =
    let back : labels_from (seen_labels ls) (seen_by_name ((k, v) ∷ rest))
    ≡ labels_from (insert_entry nat_cmp (seen_labels ls) i (string_bytes t)) (seen_by_name rest) = rw is refl in
    ap (λ es. labels_from es (seen_by_name rest)) (label_put ls new i t put) ∙ sym back

-- ---- numbers

pub index_read : {E : Type 0} (s : List ℕ) (r : Result ℕ E) → ParsesUnsigned 64 10 s r → ok_of r ≡ whole_of s
index_read s (Ok x) h = whole_read (Some s) (Some x) h
index_read s (Err e) h = whole_read (Some s) None h

-- ---- in order

at_end : {X : Type 0} (P : ℕ → Type 0) (xs ys : List (ℕ × X)) (k : ℕ) (v : X) →
    AllByRecursion P (keys_of (xs ++ (k, v) ∷ ys)) → P k
at_end P [] ys k v a = a.0
at_end P (x ∷ xs) ys k v a = at_end P xs ys k v a.1

greater_is_other : (a b : ℕ) → nat_cmp a b ≡ Less → ((b == a) && true) ≡ false
greater_is_other a b e =
    let below : a < b = ranked a b Less (sym e) in
    let other : (b == a) ≡ false = search rules in
    rw other refl

-- a key that all others are below goes last
pub put_last : {X : Type 0} (xs ys : List (ℕ × X)) (k : ℕ) (v : X) →
    IsStrictlySortedBy nat_cmp (keys_of (xs ++ (k, v) ∷ ys)) →
    insert_last (λ a b. (a == b) && true) xs k v ≡ xs ++ (k, v) ∷ []
unfolding IsStrictlySortedBy
put_last [] ys k v s = refl
put_last (x ∷ xs) ys k v s =
    let other = greater_is_other x.0 k (at_end (λ q. nat_cmp x.0 q ≡ Less) xs ys k v s.0) in
    rw other (ap (λ zs. x ∷ zs) (put_last xs ys k v s.1))
