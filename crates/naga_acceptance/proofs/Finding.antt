-- What a search for the first fault finds: nothing where all tests pass, and else a fault.
use Rattle.module_semantics.proofs.Fitting.{list_all-pairs}
use Rattle.std.proofs.Common.{◌≡◌, ℕ, suc, ◌+◌, ◌%◌, ◌^◌, Bool, true, false, ◌&&◌, not, List, [], ◌∷◌}
use Rattle.std.proofs.Common.{refl, ap, sym, ◌∙◌, arith, slice_get, Option, Some, None}
use Rattle.std.proofs.Common.{true≢false, unwrap_or}
use Rattle.std.proofs.Math.Nat.{mod-add-mod, mod-mod}
use Rattle.std.specs.Prelude.{if◌then◌else◌, Err}
use Rattle.std.specs.Result.{result_err}
use Rattle.std.specs.Option.{IfSome, is_none, is_some, option_map, option_or}
use Rattle.std.specs.List.{list_all, enumerate_from}
use Rattle.std.specs.Hash.DefaultHasher.{wrapping_add}
use Rattle.naga_acceptance.specs.Faults.{Unfit}
use Rattle.naga_acceptance.specs.Searching.{first_faulty, first_unfit, or_further, unless}
use Rattle.naga_acceptance.specs.TextOrder.{numbered}

-- what a call of `is_none` tells
pub none_found : {F : Type 0} (found : Option F) (none : Bool) → is_some found ≡ not none → none ≡ is_none found
none_found found true e = ap not (sym e)
none_found found false e = ap not (sym e)

-- nothing is found where the test passes, and what is found fails
pub record Finds {F : Type 0} (found : Option F) (test : Bool) (P : F → Type 0) : Type 0 where
  pub fits : is_none found ≡ test
  pub fails : IfSome found P

pub finds_nothing : {F : Type 0} {P : F → Type 0} → Finds None true P
finds_nothing = record { fits = refl; fails = tt }

-- one test, and what is found further on, where that passes
pub finds_unless : {F : Type 0} {P : F → Type 0} (test : Bool) (fault : F) {further : Option F} {rest : Bool} →
    (test ≡ false → P fault) → (test ≡ true → Finds further rest P) → Finds (unless test fault further) (test && rest) P
finds_unless true fault fails next = next refl
finds_unless false fault fails next = record { fits = refl; fails = fails refl }

pub finds_test : {F : Type 0} {P : F → Type 0} (test : Bool) (fault : F) →
    (test ≡ false → P fault) → Finds (unless test fault None) test P
finds_test true fault fails = record { fits = refl; fails = tt }
finds_test false fault fails = record { fits = refl; fails = fails refl }

pub finds_or : {F : Type 0} {P : F → Type 0} (found further : Option F) {test rest : Bool} →
    Finds found test P → (test ≡ true → Finds further rest P) → Finds (option_or found further) (test && rest) P
finds_or {P = P} None further {test} {rest} first next = by (next (sym first.fits))
  where
    by : Finds further rest P → Finds further (test && rest) P
    by second = record { fits = second.fits ∙ ap (λ b. b && rest) first.fits; fails = second.fails }
finds_or (Some fault) further {test} {rest} first next =
    record { fits = ap (λ b. b && rest) first.fits; fails = first.fails }

pub finds_map : {F G : Type 0} {P : G → Type 0} (g : F → G) (found : Option F) {test : Bool} →
    Finds found test (λ x. P (g x)) → Finds (option_map g found) test P
finds_map g None first = record { fits = first.fits; fails = tt }
finds_map g (Some fault) first = record { fits = first.fits; fails = first.fails }

pub finds_weaker : {F : Type 0} {P Q : F → Type 0} (found : Option F) {test : Bool} →
    ((x : F) → P x → Q x) → Finds found test P → Finds found test Q
finds_weaker None weaker first = record { fits = first.fits; fails = tt }
finds_weaker (Some fault) weaker first = record { fits = first.fits; fails = weaker fault first.fails }

pub finds_same : {F : Type 0} {P : F → Type 0} {found : Option F} {test other : Bool} →
    test ≡ other → Finds found test P → Finds found other P
finds_same same first = record { fits = first.fits ∙ same; fails = first.fails }

-- ---- lists

-- the item at this position fails the test
pub unfit_at : {X : Type 0} (test : X → Bool) (xs : List X) (h : ℕ) (x : X) → slice_get xs h ≡ Some x →
    test x ≡ false → Unfit test xs h
unfit_at test xs h x here fails = ap (option_map test) here ∙ ap Some fails

-- the items from n on of a longer list
module _ {X : Type 0} (xs : List X) where
  abbrev StandsFrom : ℕ → List X → Type 0
  StandsFrom n ys = (i : ℕ) → slice_get ys i ≡ slice_get xs (n + i)

  stands_next : (n : ℕ) (y : X) (ys : List X) → StandsFrom n (y ∷ ys) → StandsFrom (n + 1) ys
  stands_next n y ys stands i =
      let same : n + suc i ≡ n + 1 + i = omega arith
      in stands (suc i) ∙ ap (slice_get xs) same

  stands_here : (n : ℕ) (y : X) (ys : List X) → StandsFrom n (y ∷ ys) → slice_get xs n ≡ Some y
  stands_here n y ys stands =
      let same : n + 0 ≡ n = omega arith
      in ap (slice_get xs) (sym same) ∙ sym (stands 0)

  unfit_from : (test : ℕ → X → Bool) (n : ℕ) (ys : List X) → StandsFrom n ys →
      Finds (first_unfit test (enumerate_from n ys)) (list_all (λ p. test p.0 p.1) (enumerate_from n ys))
      (λ h. Unfit (test h) xs h)
  unfit_from test n [] stands = finds_nothing
  unfit_from test n (y ∷ ys) stands =
      finds_unless (test n y) n (λ fails. unfit_at (test n) xs n y (stands_here n y ys stands) fails)
      (λ fits. unfit_from test (n + 1) ys (stands_next n y ys stands))

  module _ {F : Type 0} (P : ℕ → X → F → Type 0) where
    abbrev pub AtItem : ℕ × F → Type 0
    AtItem found = (x : X) × (slice_get xs found.0 ≡ Some x) × P found.0 x found.1

    faulty_from : (test : ℕ → X → Bool) (fault : ℕ → X → Option F) →
        ((h : ℕ) (x : X) → slice_get xs h ≡ Some x → Finds (fault h x) (test h x) (P h x)) →
        (n : ℕ) (ys : List X) → StandsFrom n ys →
        Finds (first_faulty fault (enumerate_from n ys)) (list_all (λ p. test p.0 p.1) (enumerate_from n ys)) AtItem
    faulty_from test fault finds n [] stands = finds_nothing
    faulty_from test fault finds n (y ∷ ys) stands =
        by (fault n y) (test n y) (finds n y (stands_here n y ys stands))
        (faulty_from test fault finds (n + 1) ys (stands_next n y ys stands))
      where
        by : (found : Option F) (fits : Bool) → Finds found fits (P n y) →
            Finds (first_faulty fault (enumerate_from (n + 1) ys))
            (list_all (λ p. test p.0 p.1) (enumerate_from (n + 1) ys)) AtItem →
            Finds (or_further found n (first_faulty fault (enumerate_from (n + 1) ys)))
            (fits && list_all (λ p. test p.0 p.1) (enumerate_from (n + 1) ys)) AtItem
        by None fits first next =
            record {
              fits = next.fits
                  ∙ ap (λ b. b && list_all (λ p. test p.0 p.1) (enumerate_from (n + 1) ys)) first.fits;
              fails = next.fails;
            }
        by (Some found) fits first next =
            record {
              fits = ap (λ b. b && list_all (λ p. test p.0 p.1) (enumerate_from (n + 1) ys)) first.fits;
              fails = (y, stands_here n y ys stands, first.fails);
            }

stands_whole : {X : Type 0} (xs : List X) (i : ℕ) → slice_get xs i ≡ slice_get xs (0 + i)
stands_whole xs i =
    let same : i ≡ 0 + i = omega arith
    in ap (slice_get xs) same

-- the first item that fails, by tests that know its position
pub finds_unfit : {X : Type 0} (test : ℕ → X → Bool) (xs : List X) →
    Finds (first_unfit test (enumerate_from 0 xs)) (list_all (λ p. test p.0 p.1) (enumerate_from 0 xs))
    (λ h. Unfit (test h) xs h)
finds_unfit test xs = unfit_from xs test 0 xs (stands_whole xs)

-- the same by tests that don't
pub finds_plain : {X : Type 0} (test : X → Bool) (xs : List X) →
    Finds (first_unfit (λ _. test) (enumerate_from 0 xs)) (list_all test xs) (λ h. Unfit test xs h)
finds_plain test xs = finds_same (list_all-pairs test 0 xs) (finds_unfit (λ _. test) xs)

-- the first item that has a fault
pub finds_faulty : {X F : Type 0} (P : ℕ → X → F → Type 0) (test : ℕ → X → Bool) (fault : ℕ → X → Option F)
    (xs : List X) →
    ((h : ℕ) (x : X) → slice_get xs h ≡ Some x → Finds (fault h x) (test h x) (P h x)) →
    Finds (first_faulty fault (enumerate_from 0 xs)) (list_all (λ p. test p.0 p.1) (enumerate_from 0 xs)) (AtItem xs P)
finds_faulty P test fault xs finds = faulty_from xs P test fault finds 0 xs (stands_whole xs)

pub finds_plain_faulty : {X F : Type 0} (P : ℕ → X → F → Type 0) (test : X → Bool) (fault : ℕ → X → Option F)
    (xs : List X) →
    ((h : ℕ) (x : X) → slice_get xs h ≡ Some x → Finds (fault h x) (test x) (P h x)) →
    Finds (first_faulty fault (enumerate_from 0 xs)) (list_all test xs) (AtItem xs P)
finds_plain_faulty P test fault xs finds =
    finds_same (list_all-pairs test 0 xs) (finds_faulty P (λ _. test) fault xs finds)

-- ---- statements

-- the item of a list with this number, counted from n on
abbrev pub Numbered : {X : Type 0} → (X → Bool) → List X → ℕ → ℕ → Type 0
Numbered test xs n found = (k : ℕ) × (found ≡ (n + k) % 2 ^ 64) × Unfit test xs k

wrapped : (n k : ℕ) → ((n + 1) % 2 ^ 64 + k) % 2 ^ 64 ≡ (n + suc k) % 2 ^ 64
wrapped n k =
    let same : n + 1 + k ≡ n + suc k = omega arith
    in mod-add-mod (n + 1) (2 ^ 64) k ∙ ap (λ j. j % 2 ^ 64) same

pub finds_numbered : {X : Type 0} (test : X → Bool) (n : ℕ) (xs : List X) → n ≡ n % 2 ^ 64 →
    Finds (result_err (numbered test n xs)) (list_all test xs) (Numbered test xs n)
finds_numbered test n [] small = finds_nothing
finds_numbered {X} test n (x ∷ xs) small =
    by (test x) refl (finds_numbered test (wrapping_add n 1) xs (sym (mod-mod (n + 1) (2 ^ 64))))
  where
    by : (fits : Bool) → test x ≡ fits → Finds (result_err (numbered test (wrapping_add n 1) xs))
        (list_all test xs) (Numbered test xs (wrapping_add n 1)) →
        Finds (result_err (if fits then numbered test (wrapping_add n 1) xs else Err n))
        (fits && list_all test xs) (Numbered test (x ∷ xs) n)
    by true fits next = finds_weaker (result_err (numbered test (wrapping_add n 1) xs))
        (λ found at. (suc at.0, at.1 ∙ wrapped n at.0, at.2)) next
    by false fails next =
        let same : n ≡ n + 0 = omega arith
        in record { fits = refl; fails = (0, small ∙ ap (λ k. k % 2 ^ 64) same, ap Some fails) }

-- the same from the first on
abbrev pub IsNumber : {X : Type 0} → (X → Bool) → List X → ℕ → Type 0
IsNumber test xs found = (k : ℕ) × (found ≡ k % 2 ^ 64) × Unfit test xs k

pub finds_statement : {X : Type 0} (test : X → Bool) (xs : List X) →
    Finds (result_err (numbered test 0 xs)) (list_all test xs) (IsNumber test xs)
finds_statement test xs = finds_weaker (result_err (numbered test 0 xs)) from (finds_numbered test 0 xs refl)
  where
    from : (found : ℕ) → Numbered test xs 0 found → IsNumber test xs found
    from found at =
        let same : 0 + at.0 ≡ at.0 = omega arith
        in (at.0, at.1 ∙ ap (λ k. k % 2 ^ 64) same, at.2)

-- ---- items of lists

item_of : {X : Type 0} (test : X → Bool) (o : Option X) → option_map test o ≡ Some false →
    (x : X) × (o ≡ Some x) × (test x ≡ false)
item_of test None e = absurd (true≢false (sym (ap is_some e)))
item_of test (Some x) e = (x, refl, ap (λ o. unwrap_or o true) e)

-- the item that fails a test
pub unfit_item : {X : Type 0} (test : X → Bool) (xs : List X) (h : ℕ) → Unfit test xs h →
    (x : X) × (slice_get xs h ≡ Some x) × (test x ≡ false)
unfit_item test xs h fails = item_of test (slice_get xs h) fails
