-- The bits that a numeral denotes are those of the nearest float.
use Rattle.std.proofs.Common.{◌≡◌, ℕ, suc, ◌+◌, ◌*◌, ◌^◌, ◌<◌, min, refl, sym, ap, ◌∙◌, arith, ℤ, pos, negsuc}
use Rattle.std.proofs.Common.{Bool, cond}
use Rattle.std.proofs.Math.Nat.{min_comm}
use Rattle.std.specs.Float.{binary32, binary64}
use lib.Dec.{lit<}
use lib.Ieee.Nearest.{closest}
use native.Mathlib.Nat.{mul-one, one-le-pow}
use Rattle.decimal_numerals.specs.declared.decimal.Decimal.{Decimal}
use Rattle.finite_numerals.specs.Nearest.{IsNearest, IsNearestFloat, denoted_by, infinity, leading, low, sign_bit, tens_down, tens_up}
use Rattle.finite_numerals.specs.declared.precision.Precision.{Precision}
use Rattle.finite_numerals.specs.declared.precision.Precision.TheVariants.{Half, Single, Double}
use Rattle.finite_numerals.proofs.Cutting.{cut}
use Rattle.finite_numerals.proofs.Floats.{signed}
use Rattle.finite_numerals.proofs.Neighbours.{between}
use Rattle.finite_numerals.proofs.Rounded.{dropped, rounded}

-- how many digits stand behind the leading one
abbrev pub places : Precision → ℕ
places Half = 10
places Single = 23
places Double = 52

abbrev pub exponent_at : Precision → (num den : ℕ) → ℕ
exponent_at p num den = dropped (places p + 1) (num * 2 ^ low p) den

abbrev pub digits_at : Precision → (num den : ℕ) → ℕ
digits_at p num den = closest (num * 2 ^ low p) (den * 2 ^ exponent_at p num den)

-- the bits of a fraction
abbrev pub size_at : Precision → (num den : ℕ) → ℕ
size_at p num den = min (infinity p) (exponent_at p num den * leading p + digits_at p num den)

pub nearest_size : (p : Precision) (num den : ℕ) → 0 < den → IsNearest p num den (size_at p num den)
nearest_size Half num den D =
    cut Half num den _ (lit< tt) D (between (2 ^ 9) (num * 2 ^ 24) den _ _ _ (lit< tt) D refl (rounded 10 (num * 2 ^ 24) den D))
nearest_size Single num den D =
    cut Single num den _ (lit< tt) D
    (between (2 ^ 22) (num * 2 ^ 149) den _ _ _ (lit< tt) D refl (rounded 23 (num * 2 ^ 149) den D))
nearest_size Double num den D =
    cut Double num den _ (lit< tt) D
    (between (2 ^ 51) (num * 2 ^ 1074) den _ _ _ (lit< tt) D refl (rounded 52 (num * 2 ^ 1074) den D))

-- the same of a numeral without its sign
abbrev pub size_of : Precision → Decimal → ℕ
size_of p d = size_at p (d.digits * tens_up d.exponent) (tens_down d.exponent)

pub down_pos : (e : ℤ) → 0 < tens_down e
down_pos (pos e) = lit< tt
down_pos (negsuc e) = ten_pos (suc e)
  where
    ten_pos : (n : ℕ) → 0 < 10 ^ n
    ten_pos n = one-le-pow n 10 (omega arith)

half_signed : (negative : Bool) (n : ℕ) (e : ℤ) → denoted_by Half (record { negative = negative; digits = n; exponent = e })
    ≡ cond negative (sign_bit Half) 0 + size_at Half (n * tens_up e) (tens_down e)
half_signed negative n (pos e) = refl
half_signed negative n (negsuc e) = ap (λ m. cond negative 32768 0 + size_at Half m (10 ^ suc e)) (sym (mul-one n))

single_signed : (negative : Bool) (n : ℕ) (e : ℤ) → denoted_by Single (record { negative = negative; digits = n; exponent = e })
    ≡ cond negative (sign_bit Single) 0 + size_at Single (n * tens_up e) (tens_down e)
single_signed negative n (pos e) =
    signed binary32 (n * 10 ^ e) 1 (lit< tt) negative (rounded 23 (n * 10 ^ e * 2 ^ 149) 1 (lit< tt))
    ∙ ap (λ b. cond negative (2 ^ 31) 0 + b) (min_comm _ _)
single_signed negative n (negsuc e) =
    signed binary32 n (10 ^ suc e) (down_pos (negsuc e)) negative (rounded 23 (n * 2 ^ 149) (10 ^ suc e) (down_pos (negsuc e)))
    ∙ ap (λ b. cond negative (2 ^ 31) 0 + b) (min_comm _ _)
    ∙ ap (λ m. cond negative (2 ^ 31) 0 + size_at Single m (10 ^ suc e)) (sym (mul-one n))

double_signed : (negative : Bool) (n : ℕ) (e : ℤ) → denoted_by Double (record { negative = negative; digits = n; exponent = e })
    ≡ cond negative (sign_bit Double) 0 + size_at Double (n * tens_up e) (tens_down e)
double_signed negative n (pos e) =
    signed binary64 (n * 10 ^ e) 1 (lit< tt) negative (rounded 52 (n * 10 ^ e * 2 ^ 1074) 1 (lit< tt))
    ∙ ap (λ b. cond negative (2 ^ 63) 0 + b) (min_comm _ _)
double_signed negative n (negsuc e) =
    signed binary64 n (10 ^ suc e) (down_pos (negsuc e)) negative (rounded 52 (n * 2 ^ 1074) (10 ^ suc e) (down_pos (negsuc e)))
    ∙ ap (λ b. cond negative (2 ^ 63) 0 + b) (min_comm _ _)
    ∙ ap (λ m. cond negative (2 ^ 63) 0 + size_at Double m (10 ^ suc e)) (sym (mul-one n))

pub denoted_is : (p : Precision) (d : Decimal) → denoted_by p d ≡ cond d.negative (sign_bit p) 0 + size_of p d
denoted_is Half d = half_signed d.negative d.digits d.exponent
denoted_is Single d = single_signed d.negative d.digits d.exponent
denoted_is Double d = double_signed d.negative d.digits d.exponent

pub is_nearest_float : (p : Precision) (d : Decimal) → IsNearestFloat p d (denoted_by p d)
is_nearest_float p d = record {
  size = size_of p d;
  signed = denoted_is p d;
  nearest = nearest_size p (d.digits * tens_up d.exponent) (tens_down d.exponent) (down_pos d.exponent);
}
