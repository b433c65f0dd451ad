-- The next multiple of an alignment. The alignments are told one by one, so that `omega` sees
-- numerals.
--
-- Throughout, a and b are alignments, o is an offset, s a size, x any number, and p where what is
-- after begins.
use Rattle.std.proofs.Common.{◌≡◌, ◌≤◌, ◌+◌, ◌-◌, ◌%◌, ℕ, Bool, true, false, Some, None}
use Rattle.std.proofs.Common.{arith, inl, inr, refl, max}
use Rattle.std.specs.Prelude.{◌&&◌, ◌==◌, ◌⊎◌, nat_lt, unwrap_or, if◌then◌else◌}
use Rattle.std.specs.Int.{next_multiple_of}
use Rattle.std.proofs.lemmas.Bool.{and_cases, ltb-false, eqb-false}
use Rattle.wgsl_layout.specs.Capped.{IsAlignment, Two, Four, Eight, Sixteen, ThirtyTwo, past}
use Rattle.wgsl_layout.specs.Members.{gap_size}

-- no multiple stands between
pub rounds_within : (a : ℕ) → IsAlignment a → (x p : ℕ) → x ≤ p → p % a ≡ 0 → next_multiple_of x a ≤ p
rounds_within a Two x p le is = omega arith
rounds_within a Four x p le is = omega arith
rounds_within a Eight x p le is = omega arith
rounds_within a Sixteen x p le is = omega arith
rounds_within a ThirtyTwo x p le is = omega arith

-- a multiple is its own next one
pub rounds_to : (a : ℕ) → IsAlignment a → (x p : ℕ) → x ≡ p → p % a ≡ 0 → next_multiple_of x a ≡ p
rounds_to a Two x p e is = omega arith
rounds_to a Four x p e is = omega arith
rounds_to a Eight x p e is = omega arith
rounds_to a Sixteen x p e is = omega arith
rounds_to a ThirtyTwo x p e is = omega arith

-- after a member that ends no later than at p, the next one begins there
pub begins_at : (a o s p : ℕ) → IsAlignment a → o + s ≤ p → p % a ≡ 0 →
    next_multiple_of (o + unwrap_or (gap_size o (Some s) p a) s) a ≡ p
begins_at a o s p is le multiple = by (nat_lt (next_multiple_of (o + s) a) p && (p % a == 0)) refl
  where
    by : (b : Bool) → (nat_lt (next_multiple_of (o + s) a) p && (p % a == 0)) ≡ b →
        next_multiple_of (o + unwrap_or (if b then Some (p - o) else None) s) a ≡ p
    by true gap = rounds_to a is (o + (p - o)) p (omega arith) multiple
    by false none = at (and_cases (nat_lt (next_multiple_of (o + s) a) p) (p % a == 0) none)
      where
        at : ((nat_lt (next_multiple_of (o + s) a) p ≡ false) ⊎ ((p % a == 0) ≡ false)) →
            next_multiple_of (o + s) a ≡ p
        at (inl past) =
            omega (arith, ltb-false (next_multiple_of (o + s) a) p past, rounds_within a is (o + s) p le multiple)
        at (inr other) = absurd (eqb-false (p % a) 0 other multiple)

-- the greater of two
pub greater : (a b : ℕ) → IsAlignment a → IsAlignment b → IsAlignment (max a b)
greater a b Two Two = Two
greater a b Two Four = Four
greater a b Two Eight = Eight
greater a b Two Sixteen = Sixteen
greater a b Two ThirtyTwo = ThirtyTwo
greater a b Four Two = Four
greater a b Four Four = Four
greater a b Four Eight = Eight
greater a b Four Sixteen = Sixteen
greater a b Four ThirtyTwo = ThirtyTwo
greater a b Eight Two = Eight
greater a b Eight Four = Eight
greater a b Eight Eight = Eight
greater a b Eight Sixteen = Sixteen
greater a b Eight ThirtyTwo = ThirtyTwo
greater a b Sixteen Two = Sixteen
greater a b Sixteen Four = Sixteen
greater a b Sixteen Eight = Sixteen
greater a b Sixteen Sixteen = Sixteen
greater a b Sixteen ThirtyTwo = ThirtyTwo
greater a b ThirtyTwo Two = ThirtyTwo
greater a b ThirtyTwo Four = ThirtyTwo
greater a b ThirtyTwo Eight = ThirtyTwo
greater a b ThirtyTwo Sixteen = ThirtyTwo
greater a b ThirtyTwo ThirtyTwo = ThirtyTwo

-- the greater of none and one
pub first_greatest : (b : ℕ) → IsAlignment b → IsAlignment (max 0 b)
first_greatest b Two = Two
first_greatest b Four = Four
first_greatest b Eight = Eight
first_greatest b Sixteen = Sixteen
first_greatest b ThirtyTwo = ThirtyTwo
