-- A loop that writes each position of a slice in turn.
use Rattle.std.proofs.Common.{◌≡◌, ℕ, ◌+◌, ◌<◌, ◌≤◌, List, [], ◌∷◌, ◌++◌, length, take, drop, refl}
use Rattle.std.proofs.Common.{ap, sym, ◌∙◌, arith, slice_index_or, slice_set}
use Rattle.std.proofs.lemmas.List.{take_more_set, take_more, take_all, drop-set-lt, get_or-drop}
use Rattle.std.proofs.lemmas.List.{length-set, drop_more, drop_all, append-nil}

-- the positions before i are as in `target`, the others as they were at first
pub record IsFilled {X : Type 0} (target initial xs : List X) (i : ℕ) : Type 0 where
  pub done : take i xs ≡ take i target
  pub left : drop i xs ≡ drop i initial
  pub same_length : length target ≡ length initial
  pub kept_length : length xs ≡ length initial

pub IsFilled-start : {X : Type 0} (target initial : List X) → length target ≡ length initial →
    IsFilled target initial initial 0
IsFilled-start target initial same = record { done = refl; left = refl; same_length = same; kept_length = refl }

pub IsFilled-read : {X : Type 0} (target initial xs : List X) (i : ℕ) (d : X) → IsFilled target initial xs i →
    slice_index_or xs i d ≡ slice_index_or initial i d
IsFilled-read target initial xs i d w =
    let here : i + 0 ≡ i = omega arith
    in ap (λ k. slice_index_or xs k d) (sym here) ∙ sym (get_or-drop i xs 0 d)
    ∙ ap (λ ys. slice_index_or ys 0 d) w.left
    ∙ get_or-drop i initial 0 d ∙ ap (λ k. slice_index_or initial k d) here

same_left : {X : Type 0} (i : ℕ) (initial xs : List X) (d : X) → i < length initial → i < length xs →
    drop i xs ≡ drop i initial → drop (i + 1) xs ≡ drop (i + 1) initial
same_left i initial xs d h k same = sym (ap (λ ys. drop 1 ys) (drop_more xs i d k)) ∙ ap (λ ys. drop 1 ys) same
    ∙ ap (λ ys. drop 1 ys) (drop_more initial i d h)

pub IsFilled-more : {X : Type 0} (target initial xs : List X) (i : ℕ) (y : X) →
    i < length initial → IsFilled target initial xs i → y ≡ slice_index_or target i y →
    IsFilled target initial (slice_set xs i y) (i + 1)
IsFilled-more target initial xs i y h w is =
    let in_xs : i < length xs = omega (arith, h, w.kept_length)
    in let in_target : i < length target = omega (arith, h, w.same_length)
    in let one_less : i < i + 1 = omega arith
    in record {
      done = take_more_set xs i y in_xs ∙ ap (λ ys. ys ++ y ∷ []) w.done ∙ ap (λ z. take i target ++ z ∷ []) is
          ∙ sym (take_more target i y in_target);
      left = drop-set-lt (i + 1) xs i y one_less ∙ same_left i initial xs y h in_xs w.left;
      same_length = w.same_length;
      kept_length = length-set xs i y ∙ w.kept_length;
    }

-- a position that stays as it was
pub IsFilled-kept : {X : Type 0} (target initial xs : List X) (i : ℕ) (d : X) →
    i < length initial → IsFilled target initial xs i →
    slice_index_or initial i d ≡ slice_index_or target i d → IsFilled target initial xs (i + 1)
IsFilled-kept target initial xs i d h w is =
    let in_xs : i < length xs = omega (arith, h, w.kept_length)
    in let in_target : i < length target = omega (arith, h, w.same_length)
    in record {
      done = take_more xs i d in_xs ∙ ap (λ ys. ys ++ slice_index_or xs i d ∷ []) w.done
          ∙ ap (λ z. take i target ++ z ∷ []) (IsFilled-read target initial xs i d w ∙ is)
          ∙ sym (take_more target i d in_target);
      left = same_left i initial xs d h in_xs w.left;
      same_length = w.same_length;
      kept_length = w.kept_length;
    }

-- what a slice of a whole vector leaves after it
pub take_put_back : {X : Type 0} (n : ℕ) (xs ys : List X) → length xs ≡ length ys → length xs ≤ n →
    take n (xs ++ drop (length xs) ys) ≡ xs
take_put_back n xs ys same h =
    let past : length ys ≤ length xs = omega (arith, same)
    in rw (drop_all (length xs) ys past, append-nil xs) (take_all n xs h)
