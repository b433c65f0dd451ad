-- Marks of the handles of a list, one after another.
use Rattle.std.proofs.Common.{◌≡◌, ℕ, Bool, true, false, List, [], ◌∷◌, ◌++◌, ◌&&◌, ◌||◌, refl, sym}
use Rattle.std.proofs.Common.{ap, ◌∙◌, length, nat_eq, nat_lt, suc, ◌+◌, append-nil, append_assoc}
use Rattle.std.proofs.Common.{subst, replicate, zero}
use Rattle.naga_tables.specs.Marks.{MarksAlso, MarksJust, is_marked, is_one_of, marked_with}

-- in turn is as all together
one_then : (m e a l : Bool) → ((m || ((e || false) && l)) || (a && l)) ≡ (m || ((e || a) && l))
one_then true e a l = refl
one_then false true true true = refl
one_then false true true false = refl
one_then false true false true = refl
one_then false true false false = refl
one_then false false a l = refl

pub marked_none : (m l : Bool) → m ≡ (m || (false && l))
marked_none true l = refl
marked_none false l = refl

module _ (old new : List Bool) (size : length new ≡ length old) (h : ℕ) where
  -- with some, and then with others
  pub marked_both : (xs ys : List ℕ) → is_marked new h ≡ marked_with old xs h →
      marked_with new ys h ≡ marked_with old (xs ++ ys) h
  marked_both xs ys is =
      (λ i. is i || (is_one_of ys h && nat_lt h (size i)))
      ∙ (both (is_marked old h) (is_one_of xs h) (is_one_of ys h) (nat_lt h (length old))
      ∙ ap (λ b. is_marked old h || (b && nat_lt h (length old))) (sym (any_append xs)))
    where
      any_append : (zs : List ℕ) → is_one_of (zs ++ ys) h ≡ (is_one_of zs h || is_one_of ys h)
      any_append [] = refl
      any_append (z ∷ zs) = by (nat_eq h z) (any_append zs)
        where
          by : (b : Bool) → is_one_of (zs ++ ys) h ≡ (is_one_of zs h || is_one_of ys h) →
              (b || is_one_of (zs ++ ys) h) ≡ ((b || is_one_of zs h) || is_one_of ys h)
          by true same = refl
          by false same = same

      both : (m a b l : Bool) → ((m || (a && l)) || (b && l)) ≡ (m || ((a || b) && l))
      both true a b l = refl
      both false true true true = refl
      both false true true false = refl
      both false true false true = refl
      both false true false false = refl
      both false false b l = refl

-- ---- as a whole
pub marks_none : (marks : List Bool) → MarksAlso marks [] marks
marks_none marks = record { size = refl; marks = λ h. marked_none (is_marked marks h) (nat_lt h (length marks)) }

pub marks_then : {old mid new : List Bool} {xs ys : List ℕ} → MarksAlso old xs mid → MarksAlso mid ys new →
    MarksAlso old (xs ++ ys) new
marks_then {old} {mid} {new} {xs} {ys} first second = record {
  size = second.size ∙ first.size;
  marks = λ h. second.marks h ∙ marked_both old mid first.size h xs ys (first.marks h);
}

-- some of these are marked, and the others are left
pub record MarkedSoFar (old : List Bool) (all left : List ℕ) (new : List Bool) : Type 0 where
  pub done : List ℕ
  pub parts : all ≡ done ++ left
  pub so_far : MarksAlso old done new

pub so_far_none : (old : List Bool) (all : List ℕ) → MarkedSoFar old all all old
so_far_none old all = record { done = []; parts = refl; so_far = marks_none old }

pub so_far_more : {old mid new : List Bool} {all left : List ℕ} (here left1 : List ℕ) →
    MarkedSoFar old all left mid → left ≡ here ++ left1 → MarksAlso mid here new → MarkedSoFar old all left1 new
so_far_more here left1 s split more = record {
  done = s.done ++ here;
  parts = s.parts ∙ (ap (λ hs. s.done ++ hs) split ∙ sym (append_assoc s.done here left1));
  so_far = marks_then s.so_far more;
}

pub so_far_all : {old new : List Bool} {all left : List ℕ} → MarkedSoFar old all left new → left ≡ [] →
    MarksAlso old all new
so_far_all {old} {new} s none =
    subst (λ hs. MarksAlso old hs new) (sym (s.parts ∙ (ap (λ hs. s.done ++ hs) none ∙ append-nil s.done))) s.so_far

-- a table without marks
pub unmarked : (n h : ℕ) → is_marked (replicate n false) h ≡ false
unmarked zero h = refl
unmarked (suc n) zero = refl
unmarked (suc n) (suc h) = unmarked n h

-- the marks of a table that had none
pub just_marked : (first marks : List Bool) (roots : List ℕ) (n : ℕ) → first ≡ replicate n false →
    length marks ≡ length first → ((h : ℕ) → is_marked marks h ≡ marked_with first roots h) →
    MarksJust roots marks
just_marked first marks roots n none size are h =
    are h
    ∙ ((λ i. (ap (λ l. is_marked l h) none ∙ unmarked n h) i || (is_one_of roots h && nat_lt h (length first)))
    ∙ ap (λ l. is_one_of roots h && nat_lt h l) (sym size))
