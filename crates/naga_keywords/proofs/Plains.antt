-- The tests of a word are the rule.
use Rattle.std.proofs.Common.{◌≡◌, ℕ, get_or, List, [], ◌∷◌, ◌++◌, true, false, not, ◌&&◌, ◌==◌, ap}
use Rattle.std.proofs.Common.{sym, ◌∙◌}
use Rattle.std.specs.List.{list_all, All}
use Rattle.std.proofs.lemmas.List.Sums.{AllPass-from_list_all}
use Rattle.std.specs.Char.{is_ascii_digit}
use Rattle.std.proofs.lemmas.Bool.{and_parts, true≢false}
use Rattle.std.proofs.Math.Bool.{and-false}
use Rattle.naga_keywords.specs.Plain.{is_identifier, has_plain_end, IsPlain}

refused : (front digits : List ℕ) → list_all is_ascii_digit digits ≡ true → has_plain_end (front ++ 95 ∷ digits) ≡ false
refused [] digits h = ap (λ b. not b && has_plain_end digits) h
refused (c ∷ front) digits h =
    ap (λ b. not (c == 95 && list_all is_ascii_digit (front ++ 95 ∷ digits)) && b)
    (refused front digits h)
    ∙ and-false (not (c == 95 && list_all is_ascii_digit (front ++ 95 ∷ digits)))

pub plain_is : (word : List ℕ) → (is_identifier word && has_plain_end word) ≡ true → IsPlain word
plain_is word h =
    let parts = and_parts (is_identifier word) (has_plain_end word) h in
    record {
      identifier = parts.0;
      no_end = λ front digits all is. true≢false
          (sym parts.1 ∙ ap has_plain_end is ∙ refused front digits all);
    }

-- a table that passes the tests has the rule at each entry
pub words_are : (words : List (List ℕ)) → list_all (λ w. is_identifier w && has_plain_end w) words ≡ true →
    All IsPlain words
words_are words h i d lt =
    plain_is (get_or words i d) (AllPass-from_list_all (λ (w : List ℕ). is_identifier w && has_plain_end w)
    words h i d lt)
