-- Numbers in decimal, however great they are: each tells its number, and those below 2 ^ 64 are
-- written as integers are.
--
-- Throughout, k and j are how many digits may be written, n is the number and after what stands
-- after its digits.
use Rattle.std.proofs.Common.{◌≡◌, ℕ, zero, suc, ◌+◌, ◌-◌, ◌*◌, ◌/◌, ◌%◌, ◌^◌, ◌<◌, ◌==◌, ap, sym}
use Rattle.std.proofs.Common.{refl, Bool, true, false, cond, List, [], ◌∷◌, ◌∙◌, arith}
use Rattle.std.specs.Fmt.{decimal, digits, digits_onto, digit_glyph}
use Rattle.std.proofs.lemmas.Bool.Decides.{nat_tests}
use native.Mathlib.Nat.{pow-zero, pow-suc}
use Rattle.naga_naming.specs.Naming.{digits_of}

-- the number that digits say after those that said m
abbrev read_on : ℕ → List ℕ → ℕ
read_on m [] = m
read_on m (c ∷ cs) = read_on (m * 10 + (c - 48)) cs

last_digit : (n : ℕ) → digit_glyph false (n % 10) ≡ 48 + n % 10
last_digit n = let lt : n % 10 < 10 = omega arith in grind (arith, nat_tests)

-- more digits than the number counts are enough
fits : (n : ℕ) → n < 10 ^ suc n
fits zero = omega (arith, pow-suc 10 0, pow-zero 10)
fits (suc n) = omega (arith, pow-suc 10 (suc n), fits n)

none : (m : ℕ) → (m == 0) ≡ true → m ≡ 0
none m e = grind (arith, nat_tests)

reads_back : (k n : ℕ) (following : List ℕ) → n < 10 ^ k →
    read_on 0 (digits_onto k 10 false n following) ≡ read_on n following
reads_back zero n following small =
    ap (λ m. read_on m following) {x = 0} {y = n} (omega (arith, small, pow-zero 10))
reads_back (suc k) n following small =
    by (n / 10 == 0) refl
    (reads_back k (n / 10) (digit_glyph false (n % 10) ∷ following) (omega (arith, small, pow-suc 10 k)))
  where
    digit : ℕ
    digit = digit_glyph false (n % 10)

    by : (b : Bool) → (n / 10 == 0) ≡ b →
        read_on 0 (digits_onto k 10 false (n / 10) (digit ∷ following)) ≡ read_on (n / 10) (digit ∷ following) →
        read_on 0 (cond b (digit ∷ following) (digits_onto k 10 false (n / 10) (digit ∷ following)))
        ≡ read_on n following
    by true e r =
        ap (λ m. read_on m following) {x = 0 * 10 + (digit - 48)} {y = n}
        (omega (arith, none (n / 10) e, last_digit n))
    by false e r =
        r ∙ ap (λ m. read_on m following) {x = n / 10 * 10 + (digit - 48)} {y = n} (omega (arith, last_digit n))

-- a digits_of tells its number
pub numeral_injective : (m n : ℕ) → digits_of m ≡ digits_of n → m ≡ n
numeral_injective m n e =
    sym (reads_back (suc m) m [] (fits m)) ∙ ap (read_on 0) e ∙ reads_back (suc n) n [] (fits n)

some_digits : (k m : ℕ) → m < 10 ^ k → (m == 0) ≡ false → 0 < k
some_digits zero m small some =
    let is : m ≡ 0 = omega (arith, small, pow-zero 10) in omega (arith, no_zero m is some)
  where
    no_zero : (m : ℕ) → m ≡ 0 → (m == 0) ≡ false → suc m ≡ m
    no_zero m is some = grind (arith, nat_tests)
some_digits (suc k) m small some = omega arith

-- as many digits are written wherever there may be so many
one_numeral : (k j n : ℕ) (following : List ℕ) → 0 < k → 0 < j → n < 10 ^ k → n < 10 ^ j →
    digits_onto k 10 false n following ≡ digits_onto j 10 false n following
one_numeral zero j n following some_k some_j small_k small_j = absurd (omega (arith, some_k))
one_numeral (suc k) zero n following some_k some_j small_k small_j = absurd (omega (arith, some_j))
one_numeral (suc k) (suc j) n following some_k some_j small_k small_j =
    by (n / 10 == 0) refl
    (λ some.
    one_numeral k j (n / 10) (digit_glyph false (n % 10) ∷ following) (some_digits k (n / 10) below_k some)
    (some_digits j (n / 10) below_j some) below_k below_j)
  where
    below_k : n / 10 < 10 ^ k
    below_k = omega (arith, small_k, pow-suc 10 k)

    below_j : n / 10 < 10 ^ j
    below_j = omega (arith, small_j, pow-suc 10 j)

    by : (b : Bool) → (n / 10 == 0) ≡ b →
        ((n / 10 == 0) ≡ false →
        digits_onto k 10 false (n / 10) (digit_glyph false (n % 10) ∷ following)
        ≡ digits_onto j 10 false (n / 10) (digit_glyph false (n % 10) ∷ following)) →
        cond b (digit_glyph false (n % 10) ∷ following)
        (digits_onto k 10 false (n / 10) (digit_glyph false (n % 10) ∷ following))
        ≡ cond b (digit_glyph false (n % 10) ∷ following)
        (digits_onto j 10 false (n / 10) (digit_glyph false (n % 10) ∷ following))
    by true e rest = refl
    by false e rest = rest e

pub numeral_is_decimal : (n : ℕ) → n < 2 ^ 64 → digits_of n ≡ decimal n
unfolding digits
numeral_is_decimal n small =
    one_numeral (suc n) 64 n [] (omega arith) (omega arith) (fits n) (omega (arith, small))
