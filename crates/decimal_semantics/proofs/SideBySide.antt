-- Lists side by side, whose items are related one by one: what is made of their items is the
-- same, where it is of related ones.
use Rattle.std.proofs.Common.{◌≡◌, ℕ, ◌+◌, Bool, ◌||◌, List, [], ◌∷◌, ◌++◌, map, refl}
use Rattle.std.specs.List.{AllZip, enumerate_from, flat_map, list_any, zip}

module _ {X Y : Type 0} (R : X → Y → Type 0) where
  -- of each with its index
  pub numbered_mapped_same : {Z : Type 0} (p : ℕ → X → Z) (q : ℕ → Y → Z) →
      ((k : ℕ) (x : X) (y : Y) → R x y → q k y ≡ p k x) →
      (n : ℕ) (xs : List X) (ys : List Y) → AllZip R xs ys →
      map (λ k. q k.0 k.1) (enumerate_from n ys) ≡ map (λ k. p k.0 k.1) (enumerate_from n xs)
  numbered_mapped_same p q each n [] [] h = refl
  numbered_mapped_same p q each n [] (y ∷ ys) h = absurd h
  numbered_mapped_same p q each n (x ∷ xs) [] h = absurd h
  numbered_mapped_same p q each n (x ∷ xs) (y ∷ ys) h =
      λ i. each n x y h.0 i ∷ numbered_mapped_same p q each (n + 1) xs ys h.1 i

  pub numbered_joined_same : {Z : Type 0} (p : ℕ → X → List Z) (q : ℕ → Y → List Z) →
      ((k : ℕ) (x : X) (y : Y) → R x y → q k y ≡ p k x) →
      (n : ℕ) (xs : List X) (ys : List Y) → AllZip R xs ys →
      flat_map (λ k. q k.0 k.1) (enumerate_from n ys)
      ≡ flat_map (λ k. p k.0 k.1) (enumerate_from n xs)
  numbered_joined_same p q each n [] [] h = refl
  numbered_joined_same p q each n [] (y ∷ ys) h = absurd h
  numbered_joined_same p q each n (x ∷ xs) [] h = absurd h
  numbered_joined_same p q each n (x ∷ xs) (y ∷ ys) h =
      λ i. each n x y h.0 i ++ numbered_joined_same p q each (n + 1) xs ys h.1 i

  -- of items side by side with others
  pub zipped_mapped_same : {K Z : Type 0} (p : X → K → Z) (q : Y → K → Z) →
      ((x : X) (y : Y) (k : K) → R x y → q y k ≡ p x k) → (xs : List X) (ys : List Y)
      (ks : List K) → AllZip R xs ys →
      map (λ k. q k.0 k.1) (zip ys ks) ≡ map (λ k. p k.0 k.1) (zip xs ks)
  zipped_mapped_same p q each [] [] ks h = refl
  zipped_mapped_same p q each [] (y ∷ ys) ks h = absurd h
  zipped_mapped_same p q each (x ∷ xs) [] ks h = absurd h
  zipped_mapped_same p q each (x ∷ xs) (y ∷ ys) [] h = refl
  zipped_mapped_same p q each (x ∷ xs) (y ∷ ys) (k ∷ ks) h =
      λ i. each x y k h.0 i ∷ zipped_mapped_same p q each xs ys ks h.1 i

  pub zipped_joined_same : {K Z : Type 0} (p : X → K → List Z) (q : Y → K → List Z) →
      ((x : X) (y : Y) (k : K) → R x y → q y k ≡ p x k) → (xs : List X) (ys : List Y)
      (ks : List K) → AllZip R xs ys →
      flat_map (λ k. q k.0 k.1) (zip ys ks) ≡ flat_map (λ k. p k.0 k.1) (zip xs ks)
  zipped_joined_same p q each [] [] ks h = refl
  zipped_joined_same p q each [] (y ∷ ys) ks h = absurd h
  zipped_joined_same p q each (x ∷ xs) [] ks h = absurd h
  zipped_joined_same p q each (x ∷ xs) (y ∷ ys) [] h = refl
  zipped_joined_same p q each (x ∷ xs) (y ∷ ys) (k ∷ ks) h =
      λ i. each x y k h.0 i ++ zipped_joined_same p q each xs ys ks h.1 i

  pub joined_same : {Z : Type 0} (p : X → List Z) (q : Y → List Z) →
      ((x : X) (y : Y) → R x y → q y ≡ p x) → (xs : List X) (ys : List Y) → AllZip R xs ys →
      flat_map q ys ≡ flat_map p xs
  joined_same p q each [] [] h = refl
  joined_same p q each [] (y ∷ ys) h = absurd h
  joined_same p q each (x ∷ xs) [] h = absurd h
  joined_same p q each (x ∷ xs) (y ∷ ys) h =
      λ i. each x y h.0 i ++ joined_same p q each xs ys h.1 i

  -- ---- lists one after another
  pub AllZip-append : (xs : List X) (ys : List Y) (ws : List X) (zs : List Y) → AllZip R xs ys →
      AllZip R ws zs → AllZip R (xs ++ ws) (ys ++ zs)
  AllZip-append [] [] ws zs h k = k
  AllZip-append [] (y ∷ ys) ws zs h k = absurd h
  AllZip-append (x ∷ xs) [] ws zs h k = absurd h
  AllZip-append (x ∷ xs) (y ∷ ys) ws zs h k = (h.0, AllZip-append xs ys ws zs h.1 k)

  -- ---- tests
  pub any_same : (p : X → Bool) (q : Y → Bool) → ((x : X) (y : Y) → R x y → q y ≡ p x) →
      (xs : List X) (ys : List Y) → AllZip R xs ys → list_any q ys ≡ list_any p xs
  any_same p q each [] [] h = refl
  any_same p q each [] (y ∷ ys) h = absurd h
  any_same p q each (x ∷ xs) [] h = absurd h
  any_same p q each (x ∷ xs) (y ∷ ys) h =
      λ i. each x y h.0 i || any_same p q each xs ys h.1 i

  pub numbered_any_same : (p : ℕ → X → Bool) (q : ℕ → Y → Bool) →
      ((k : ℕ) (x : X) (y : Y) → R x y → q k y ≡ p k x) →
      (n : ℕ) (xs : List X) (ys : List Y) → AllZip R xs ys →
      list_any (λ k. q k.0 k.1) (enumerate_from n ys)
      ≡ list_any (λ k. p k.0 k.1) (enumerate_from n xs)
  numbered_any_same p q each n [] [] h = refl
  numbered_any_same p q each n [] (y ∷ ys) h = absurd h
  numbered_any_same p q each n (x ∷ xs) [] h = absurd h
  numbered_any_same p q each n (x ∷ xs) (y ∷ ys) h =
      λ i. each n x y h.0 i || numbered_any_same p q each (n + 1) xs ys h.1 i
