-- The numbers that bits stand for: they grow with the bits.
use Rattle.std.proofs.Common.{◌≡◌, ℕ, zero, suc, ◌+◌, ◌-◌, ◌*◌, ◌/◌, ◌%◌, ◌^◌, ◌<◌, ◌≤◌, refl, sym, ap, ◌∙◌, arith, inl, inr, subst, add-zero}
use lib.Arith.{digits_div, digits_mod}
use lib.Pow.{pow_pos}
use native.Mathlib.Nat.{eq-zero-or-pos, le_of_eq, div-add-mod', mod-lt, mul-one, pow-suc}
use Rattle.finite_numerals.specs.Nearest.{field_units, units}

units_parts : (one x t : ℕ) → t < one → units one (x * one + t) ≡ field_units one x t
units_parts one x t less = λ i. field_units one (digits_div x less i) (digits_mod x less i)

-- bits as k steps of the exponent and q least numbers, each of 2 ^ k
pub units_at : (one k q : ℕ) → 0 < one → q ≤ 2 * one → (0 < k → one ≤ q) → units one (k * one + q) ≡ q * 2 ^ k
units_at one k q some most normal =
    elim (eq-zero-or-pos (one - q)) [
      | inr small ↦
          let none : k ≡ 0 = elim (eq-zero-or-pos k) [ inl z ↦ z | inr g ↦ absurd (omega (arith, normal g)) ] in
          ap (λ j. units one (j * one + q)) none ∙ units_parts one 0 q (omega arith)
          ∙ sym (ap (λ j. q * 2 ^ j) none ∙ mul-one q)
      | inl reached ↦ elim (eq-zero-or-pos (2 * one - q)) [
        | inr below ↦
            ap (units one) {x = k * one + q} {y = suc k * one + (q - one)} (omega arith)
            ∙ units_parts one (suc k) (q - one) (omega arith)
            ∙ ap (λ a. a * 2 ^ k) {x = one + (q - one)} {y = q} (omega arith)
        | inl full ↦
            let twice : q ≡ 2 * one = omega arith in
            let more : (one + 0) * 2 ^ suc k ≡ 2 * one * 2 ^ k = omega (arith, ap (λ a. (one + 0) * a) (pow-suc 2 k)) in
            ap (units one) {x = k * one + q} {y = suc (suc k) * one + 0} (omega arith)
            ∙ units_parts one (suc (suc k)) 0 some
            ∙ more ∙ ap (λ a. a * 2 ^ k) (sym twice)
      ]
    ]

pub record IsSplit (one bits k q : ℕ) : Type 0 where
  pub is : bits ≡ k * one + q
  pub below : q < 2 * one
  pub normal : 0 < k → one ≤ q
  pub steps : k ≡ bits / one - 1

split_at : (one bits x t : ℕ) → x ≡ bits / one → x * one + t ≡ bits → t < one → (k : ℕ) × (q : ℕ) × IsSplit one bits k q
split_at one bits zero t at is less = (
  0,
  t,
  record {
    is = omega (arith, is);
    below = omega (arith, less);
    normal = λ h. absurd (omega (arith, h));
    steps = omega (arith, at);
  },
)
split_at one bits (suc k) t at is less = (
  k,
  one + t,
  record {
    is = omega (arith, is);
    below = omega (arith, less);
    normal = λ h. omega arith;
    steps = omega (arith, at);
  },
)

pub split : (one bits : ℕ) → 0 < one → (k : ℕ) × (q : ℕ) × IsSplit one bits k q
split one bits some = split_at one bits (bits / one) (bits % one) refl (div-add-mod' bits one) (mod-lt bits some)

-- from one number to the next
pub step_is : (one bits k q : ℕ) → 0 < one → IsSplit one bits k q → units one (bits + 1) ≡ units one bits + 2 ^ k
step_is one bits k q some s =
    let here : units one bits ≡ q * 2 ^ k =
    ap (units one) s.is ∙ units_at one k q some (omega (arith, s.below)) s.normal in
    let there : units one (bits + 1) ≡ (q + 1) * 2 ^ k =
    ap (units one) {x = bits + 1} {y = k * one + (q + 1)} (omega (arith, s.is))
    ∙ units_at one k (q + 1) some (omega (arith, s.below)) (λ h. omega (arith, s.normal h)) in
    omega (arith, here, there)

pub grows : (one bits : ℕ) → 0 < one → units one bits < units one (bits + 1)
grows one bits some =
    let s = split one bits some in
    omega (arith, step_is one bits s.0 s.1 some s.2, pow_pos s.0)

grows_on : (one a d : ℕ) → 0 < one → units one a ≤ units one (a + d)
grows_on one a zero some = le_of_eq (ap (units one) (sym (add-zero a)))
grows_on one a (suc d) some =
    let last : units one (a + suc d) ≡ units one ((a + d) + 1) = ap (units one) {x = a + suc d} {y = (a + d) + 1} (omega arith) in
    omega (arith, grows_on one a d some, grows one (a + d) some, last)

pub mono : (one a b : ℕ) → 0 < one → a ≤ b → units one a ≤ units one b
mono one a b some le =
    let same : a + (b - a) ≡ b = omega (arith, le) in
    subst (λ c. units one a ≤ units one c) same (grows_on one a (b - a) some)

pub strict : (one a b : ℕ) → 0 < one → a < b → units one a < units one b
strict one a b some less = omega (arith, grows one a some, mono one (a + 1) b some (omega (arith, less)))
