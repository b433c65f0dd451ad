-- The blanks in front of a line: one level more, and back at a level.
-- Serves `back_to`, `deepen` and `grow`.
use Rattle.std.proofs.Common.{◌≡◌, ℕ, zero, suc, ◌+◌, ◌*◌, ◌≤◌, ◌<◌, List, [], ◌∷◌, ◌++◌}
use Rattle.std.proofs.Common.{codes, length, length-append, take, get_or}
use Rattle.std.proofs.Common.{refl, sym, ap, ◌∙◌, arith, subst, Option, Some, None, true}
use Rattle.std.specs.Option.{is_some}
use Rattle.std.specs.String.Boundary.{IsSplitPoint}
use Rattle.naga_back.specs.Indentation.{indentation}
use Rattle.naga_words.specs.declared.error.TypeTextError.{TypeTextError}
use Rattle.naga_words.specs.Output.{AppendsUnlessWanting, AppendsText, HasAppended, OutputView, Wrote}

pub indentation_length : (n : ℕ) → length (indentation n) ≡ 4 * n
indentation_length zero = refl
indentation_length (suc n) = let one = indentation_length n in omega (arith, one)

pub grown : (n : ℕ) → indentation n ++ codes "    " ≡ indentation (suc n)
grown zero = refl
grown (suc n) = ap (λ t. codes "    " ++ t) (grown n)

pub cut : (n m : ℕ) → n ≤ m → take (4 * n) (indentation m) ≡ indentation n
cut zero m le = refl
cut (suc n) zero le = absurd (omega (arith, le))
cut (suc n) (suc m) le =
    let four : 4 * suc n ≡ suc (suc (suc (suc (4 * n)))) = omega arith
    in rw four (ap (λ t. codes "    " ++ t) (cut n m (omega (arith, le))))

one_of : (n i : ℕ) → i < 4 * n → get_or (indentation n) i 0 ≡ 32
one_of zero i lt = absurd (omega (arith, lt))
one_of (suc n) zero lt = refl
one_of (suc n) (suc zero) lt = refl
one_of (suc n) (suc (suc zero)) lt = refl
one_of (suc n) (suc (suc (suc zero))) lt = refl
one_of (suc n) (suc (suc (suc (suc i)))) lt = one_of n i (omega (arith, lt))

-- they may be cut anywhere
pub cut_within : (n m : ℕ) → n ≤ m → IsSplitPoint (indentation m) (4 * n)
cut_within n m le =
    let long = indentation_length m in
    (omega (arith, long, le), λ some lt high. absurd (by (omega (arith, long, lt)) high))
  where
    by : 4 * n < 4 * m → 128 ≤ get_or (indentation m) (4 * n) 0 → ⊥
    by lt high = let is = one_of m (4 * n) lt in omega (arith, is, high)

-- what wrote any text wants something
pub wants_after : (before after : OutputView) → ((text : List ℕ) → Wrote before after text) → is_some after.want ≡ true
unfolding AppendsText
wants_after before after any = by before.want refl
  where
    none : (want : Option TypeTextError) → after.want ≡ want → before.want ≡ None → is_some want ≡ true
    none (Some want) at fresh = refl
    none None at fresh =
        let lies = λ (text : List ℕ). subst (λ o. HasAppended before.content before.failures text after.content
        after.failures o) at
        (subst (λ o. AppendsUnlessWanting o before text after) fresh (any text).appends.0) in
        absurd (other before.content (sym (lies []).0 ∙ (lies (0 ∷ [])).0))
      where
        other : (content : List ℕ) → content ++ [] ≡ content ++ (0 ∷ []) → ⊥
        other content same =
            let long = ap length same in
            let one = length-append content [] in
            let two = length-append content (0 ∷ []) in
            omega (arith, long, one, two)

    by : (want : Option TypeTextError) → want ≡ before.want → is_some after.want ≡ true
    by None is = none after.want refl (sym is)
    by (Some want) is =
        let same : after ≡ before = subst (λ o. AppendsUnlessWanting o before [] after) (sym is) (any []).appends.0 in
        ap (λ (o : OutputView). is_some o.want) same ∙ ap is_some (sym is)

-- after a want nothing changes
pub wanting_stays : (before after : OutputView) (text : List ℕ) → is_some before.want ≡ true →
    Wrote before after text → after ≡ before
unfolding AppendsText
wanting_stays before after text some w = by before.want some w.appends.0
  where
    by : (want : Option TypeTextError) → is_some want ≡ true → AppendsUnlessWanting want before text after →
        after ≡ before
    by None some follows = absurd (cc)
    by (Some want) some follows = follows

-- ---- by what is read of them
pub length_is : (bytes : List ℕ) (n : ℕ) → bytes ≡ indentation n → length bytes ≡ 4 * n
length_is bytes n is = ap length is ∙ indentation_length n

pub cut_is : (bytes : List ℕ) (n m at : ℕ) → bytes ≡ indentation m → n ≤ m → at ≡ 4 * n → take at bytes ≡ indentation n
cut_is bytes n m at is le here = (λ i. take (here i) (is i)) ∙ cut n m le

pub cut_at : (bytes : List ℕ) (n m at : ℕ) → bytes ≡ indentation m → n ≤ m → at ≡ 4 * n → IsSplitPoint bytes at
cut_at bytes n m at is le here = subst (λ b. IsSplitPoint b at) (sym is) (subst (IsSplitPoint (indentation m))
    (sym here) (cut_within n m le))
