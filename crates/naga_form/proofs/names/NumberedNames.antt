-- An expression without a name of its own has one of its number, which no word of WGSL is.
use Rattle.std.proofs.Common.{◌≡◌, ℕ, ◌<◌, Bool, true, false, not, ◌&&◌, ◌||◌, List, [], ◌∷◌, ◌++◌}
use Rattle.std.proofs.Common.{refl, sym, ap, subst, ◌∙◌, codes, ◌^◌, decimal, nat_eq, true≢false}
use Rattle.std.specs.Prelude.{get_or}
use Rattle.std.specs.Char.{is_ascii_digit}
use Rattle.std.specs.List.{list_all}
use Rattle.std.specs.Str.{bytes_eq}
use Rattle.std.proofs.lemmas.Bool.{and_from, or_right, lt-ltb}
use Rattle.std.proofs.lemmas.Slice.Eq.{bytes_eq-Decides}
use Rattle.module_semantics.specs.Names.{numbered_name, numbered_text}
use Rattle.naga_naming.proofs.Label.{all_digits-decimal}
use Rattle.shader_runs.proofs.Update.{and_left, and_right}
use Rattle.wgsl_text.specs.Keywords.{builtin_words, reserved_words}
use Rattle.wgsl_text.specs.Words.{stands_in, is_builtin, IsIdentifier, is_letter, is_word_byte}
use Rattle.wgsl_text.specs.Words.{all_word_bytes, is_reserved}

digits_are_bytes : (w : List ℕ) → list_all is_ascii_digit w ≡ true → all_word_bytes w ≡ true
digits_are_bytes [] e = refl
digits_are_bytes (c ∷ w) e =
    and_from (is_word_byte c) (all_word_bytes w)
    (or_right (is_letter c) (is_ascii_digit c)
    (and_left (is_ascii_digit c) (list_all is_ascii_digit w) e))
    (digits_are_bytes w (and_right (is_ascii_digit c) (list_all is_ascii_digit w) e))

-- a word that begins with `_e`
abbrev begins_numbered : List ℕ → Bool
begins_numbered w = nat_eq (get_or w 0 0) 95 && nat_eq (get_or w 1 0) 101

none_begins : (ws : List (List ℕ)) (d : List ℕ) → list_all (λ w. not (begins_numbered w)) ws ≡ true →
    stands_in ws (codes "_e" ++ d) ≡ false
none_begins [] d e = refl
none_begins (w ∷ ws) d e =
    neither (bytes_eq w (codes "_e" ++ d)) (stands_in ws (codes "_e" ++ d))
    (other (bytes_eq w (codes "_e" ++ d)) refl)
    (none_begins ws d
    (and_right (not (begins_numbered w)) (list_all (λ w. not (begins_numbered w)) ws) e))
  where
    neither : (a b : Bool) → a ≡ false → b ≡ false → (a || b) ≡ false
    neither true b e f = e
    neither false b e f = f

    other : (b : Bool) → bytes_eq w (codes "_e" ++ d) ≡ b → b ≡ false
    other false is = refl
    other true is =
        absurd (true≢false
        (sym (and_left (not (begins_numbered w)) (list_all (λ w. not (begins_numbered w)) ws) e)
        ∙ ap (λ w. not (begins_numbered w)) ((bytes_eq-Decides w (codes "_e" ++ d)).0 is)))

not_reserved : (d : List ℕ) → is_reserved (codes "_e" ++ d) ≡ false
unfolding is_reserved reserved_words
not_reserved d = none_begins reserved_words d refl

not_builtin : (d : List ℕ) → is_builtin (codes "_e" ++ d) ≡ false
unfolding is_builtin builtin_words
not_builtin d = none_begins builtin_words d refl

handle_name_is : (h : ℕ) → IsIdentifier (codes "_e" ++ decimal h)
handle_name_is h = record {
  word = record { text = digits_are_bytes (decimal h) (all_digits-decimal h); free = not_reserved (decimal h) };
  own = not_builtin (decimal h);
}

pub numbered_is : (h : ℕ) → h < 2 ^ 64 → IsIdentifier (numbered_name h)
unfolding numbered_name
numbered_is h lt = subst (λ b. IsIdentifier (numbered_text b h)) (sym (lt-ltb h (2 ^ 64) lt)) (handle_name_is h)
