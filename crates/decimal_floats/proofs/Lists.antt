-- Lists side by side, whose items are related one by one.
use Rattle.std.proofs.Common.{◌≡◌, ℕ, suc, zero, ◌+◌, ◌<◌, Bool, true, false, ◌&&◌, ◌==◌}
use Rattle.std.proofs.Common.{List, [], ◌∷◌, length, get_or, set, take, refl, sym, ap, subst, ◌∙◌, arith}
use Rattle.std.proofs.Common.{◌≤◌, add-one}
use Rattle.std.proofs.lemmas.Bool.{true≢false}
use Rattle.std.proofs.lemmas.List.{take_all}
use Rattle.std.specs.Prelude.{Option, Some, None, slice_get}
use Rattle.std.specs.List.{AllZip, enumerate_from, list_all, zip}
use Rattle.std.proofs.lemmas.Slice.Zip.{AllZip-long}
use Rattle.module_semantics.specs.acceptance.InfoSizes.{all_paired}

-- ---- relations
module _ {X : Type 0} (R : X → X → Type 0) where
  pub AllZip-same : ((x : X) → R x x) → (xs : List X) → AllZip R xs xs
  AllZip-same each [] = tt
  AllZip-same each (x ∷ xs) = (each x, AllZip-same each xs)

  module _ (join : (x y z : X) → R x y → R y z → R x z) where
    -- an item is changed to one that it is related to
    pub AllZip-set : (xs ys : List X) (i : ℕ) (y z : X) → AllZip R xs ys → i < length ys →
        y ≡ get_or ys i y → R y z → AllZip R xs (set ys i z)
    AllZip-set [] [] i y z h lt is r = h
    AllZip-set [] (w ∷ ys) i y z h lt is r = absurd h
    AllZip-set (x ∷ xs) [] i y z h lt is r = absurd h
    AllZip-set (x ∷ xs) (w ∷ ys) zero y z h lt is r = (join x w z h.0 (subst (λ v. R v z) is r), h.1)
    AllZip-set (x ∷ xs) (w ∷ ys) (suc i) y z h lt is r =
        (h.0, AllZip-set xs ys i y z h.1 (omega arith) is r)

    -- related twice
    pub AllZip-join : (xs ys zs : List X) → AllZip R xs ys → AllZip R ys zs → AllZip R xs zs
    AllZip-join [] [] zs h k = k
    AllZip-join [] (y ∷ ys) zs h k = absurd h
    AllZip-join (x ∷ xs) [] zs h k = absurd h
    AllZip-join (x ∷ xs) (y ∷ ys) [] h k = absurd k
    AllZip-join (x ∷ xs) (y ∷ ys) (z ∷ zs) h k =
        (join x y z h.0 k.0, AllZip-join xs ys zs h.1 k.1)

-- ---- tests
-- what is asked at last stands in for what was asked first
pub and_kept : (a b c d : Bool) → (a ≡ true → c ≡ true) → (b ≡ true → d ≡ true) →
    (a && b) ≡ true → (c && d) ≡ true
and_kept true b c d f g h = ap (λ x. x && d) (f refl) ∙ g h
and_kept false b c d f g h = cc

module _ {X Y : Type 0} (R : X → Y → Type 0) where
  -- a test of each item that is met is met still
  pub all_kept : (p : X → Bool) (q : Y → Bool) →
      ((x : X) (y : Y) → R x y → p x ≡ true → q y ≡ true) → (xs : List X) (ys : List Y) →
      AllZip R xs ys → list_all p xs ≡ true → list_all q ys ≡ true
  all_kept p q each [] [] h e = refl
  all_kept p q each [] (y ∷ ys) h e = absurd h
  all_kept p q each (x ∷ xs) [] h e = absurd h
  all_kept p q each (x ∷ xs) (y ∷ ys) h e =
      and_kept (p x) (list_all p xs) (q y) (list_all q ys) (each x y h.0)
      (all_kept p q each xs ys h.1) e

  -- the same of each item with its index
  pub numbered_kept : (p : ℕ → X → Bool) (q : ℕ → Y → Bool) →
      ((k : ℕ) (x : X) (y : Y) → R x y → p k x ≡ true → q k y ≡ true) →
      (n : ℕ) (xs : List X) (ys : List Y) → AllZip R xs ys →
      list_all (λ k. p k.0 k.1) (enumerate_from n xs) ≡ true →
      list_all (λ k. q k.0 k.1) (enumerate_from n ys) ≡ true
  numbered_kept p q each n [] [] h e = refl
  numbered_kept p q each n [] (y ∷ ys) h e = absurd h
  numbered_kept p q each n (x ∷ xs) [] h e = absurd h
  numbered_kept p q each n (x ∷ xs) (y ∷ ys) h e =
      and_kept (p n x) (list_all (λ k. p k.0 k.1) (enumerate_from (n + 1) xs)) (q n y)
      (list_all (λ k. q k.0 k.1) (enumerate_from (n + 1) ys)) (each n x y h.0)
      (numbered_kept p q each (n + 1) xs ys h.1) e

  -- a test that answers the same of related items
  pub all_same : (p : X → Bool) (q : Y → Bool) → ((x : X) (y : Y) → R x y → q y ≡ p x) →
      (xs : List X) (ys : List Y) → AllZip R xs ys → list_all q ys ≡ list_all p xs
  all_same p q each [] [] h = refl
  all_same p q each [] (y ∷ ys) h = absurd h
  all_same p q each (x ∷ xs) [] h = absurd h
  all_same p q each (x ∷ xs) (y ∷ ys) h =
      λ i. each x y h.0 i && all_same p q each xs ys h.1 i

  pub numbered_same : (p : ℕ → X → Bool) (q : ℕ → Y → Bool) →
      ((k : ℕ) (x : X) (y : Y) → R x y → q k y ≡ p k x) →
      (n : ℕ) (xs : List X) (ys : List Y) → AllZip R xs ys →
      list_all (λ k. q k.0 k.1) (enumerate_from n ys)
      ≡ list_all (λ k. p k.0 k.1) (enumerate_from n xs)
  numbered_same p q each n [] [] h = refl
  numbered_same p q each n [] (y ∷ ys) h = absurd h
  numbered_same p q each n (x ∷ xs) [] h = absurd h
  numbered_same p q each n (x ∷ xs) (y ∷ ys) h =
      λ i. each n x y h.0 i && numbered_same p q each (n + 1) xs ys h.1 i

  -- of items side by side with others
  pub zipped_same : {K : Type 0} (p : X → K → Bool) (q : Y → K → Bool) →
      ((x : X) (y : Y) (k : K) → R x y → q y k ≡ p x k) → (xs : List X) (ys : List Y)
      (ks : List K) → AllZip R xs ys →
      list_all (λ k. q k.0 k.1) (zip ys ks) ≡ list_all (λ k. p k.0 k.1) (zip xs ks)
  zipped_same p q each [] [] ks h = refl
  zipped_same p q each [] (y ∷ ys) ks h = absurd h
  zipped_same p q each (x ∷ xs) [] ks h = absurd h
  zipped_same p q each (x ∷ xs) (y ∷ ys) [] h = refl
  zipped_same p q each (x ∷ xs) (y ∷ ys) (k ∷ ks) h =
      λ i. each x y k h.0 i && zipped_same p q each xs ys ks h.1 i

  pub paired_same : {K : Type 0} (p : X → K → Bool) (q : Y → K → Bool) →
      ((x : X) (y : Y) (k : K) → R x y → q y k ≡ p x k) → (xs : List X) (ys : List Y)
      (ks : List K) → AllZip R xs ys → all_paired q ys ks ≡ all_paired p xs ks
  paired_same p q each xs ys ks h =
      λ i. (AllZip-long R xs ys h i == length ks) && zipped_same p q each xs ys ks h i

  -- what is seen at an index
  pub seen_same : {Z : Type 0} (p : Option X → Z) (q : Option Y → Z) → q None ≡ p None →
      ((x : X) (y : Y) → R x y → q (Some y) ≡ p (Some x)) → (xs : List X) (ys : List Y) →
      AllZip R xs ys → (k : ℕ) → q (slice_get ys k) ≡ p (slice_get xs k)
  seen_same p q none some [] [] h k = none
  seen_same p q none some [] (y ∷ ys) h k = absurd h
  seen_same p q none some (x ∷ xs) [] h k = absurd h
  seen_same p q none some (x ∷ xs) (y ∷ ys) h zero = some x y h.0
  seen_same p q none some (x ∷ xs) (y ∷ ys) h (suc k) =
      seen_same p q none some xs ys h.1 k

-- ---- the items up to an index
module _ {X : Type 0} (p : X → Bool) where
  both : (a b : Bool) → a ≡ true → b ≡ true → (a && b) ≡ true
  both a b x y = λ i. x i && y i

  first : (a b : Bool) → (a && b) ≡ true → a ≡ true
  first true b h = refl
  first false b h = h

  second : (a b : Bool) → (a && b) ≡ true → b ≡ true
  second true b h = h
  second false b h = absurd (true≢false (sym h))

  pub all_more : (xs : List X) (i : ℕ) (y : X) → i < length xs → list_all p (take i xs) ≡ true → p y ≡ true →
      list_all p (take (i + 1) (set xs i y)) ≡ true
  all_more xs i y lt h k = rw add-one (by xs i lt h)
    where
      by : (xs : List X) (i : ℕ) → i < length xs → list_all p (take i xs) ≡ true →
          list_all p (take (suc i) (set xs i y)) ≡ true
      by [] i lt h = absurd (omega (arith, lt))
      by (x ∷ xs) zero lt h = both (p y) true k refl
      by (x ∷ xs) (suc i) lt h =
          both (p x) (list_all p (take (suc i) (set xs i y))) (first (p x) (list_all p (take i xs)) h)
          (by xs i (omega (arith, lt)) (second (p x) (list_all p (take i xs)) h))

  pub all_done : (xs : List X) (i : ℕ) → length xs ≤ i → list_all p (take i xs) ≡ true → list_all p xs ≡ true
  all_done xs i le h = ap (list_all p) (sym (take_all i xs le)) ∙ h
