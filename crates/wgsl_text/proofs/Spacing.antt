-- Pieces in which no token runs into the next, one part of a row after another.
use Rattle.std.proofs.Common.{◌≡◌, ℕ, Bool, true, false, List, [], ◌∷◌, ◌++◌, refl, sym, ap, subst}
use Rattle.std.proofs.Common.{◌∙◌, append_assoc, arith, ◌||◌}
use Rattle.std.specs.Prelude.{◌<◌, length, ◌==◌}
use Rattle.std.specs.Char.{is_ascii_digit}
use Rattle.std.specs.Fmt.{decimal}
use Rattle.std.proofs.lemmas.Bool.{false≢true, and_parts}
use Rattle.std.specs.Str.{all_ascii_digits}
use Rattle.std.proofs.lemmas.Fmt.{digits_decimal, decimal_nonempty}
use Rattle.wgsl_text.specs.Literals.{IsPlainNumber}
use Rattle.wgsl_text.specs.Token.{CloseParen, Suffix, NoSuffix, Token, Word, Number, Piece}
use Rattle.wgsl_text.specs.Token.{TokenPiece, Blank, mark, plain, AreDigits, Decimal, Precision}
use Rattle.wgsl_text.specs.Words.{IsWord, is_letter, all_word_bytes}
use Rattle.wgsl_text.specs.Text.{suffix_text, text, decimal_tail}
use Rattle.wgsl_text.proofs.Text.{ends_word, opens, ends, word_token_of, IsNumber, IsToken}
use Rattle.wgsl_text.proofs.Text.{own_digits, digit_no_letter, Apart}

-- Before pieces that end a word these pieces stand apart.
pub record Spaced (ps : List Piece) : Type 0 where
  pub by : (more : List Piece) → Apart more → ends_word (text more) ≡ true → Apart (ps ++ more)

-- These pieces end a word, if only those after them do.
abbrev pub Ends : List Piece → Type 0
Ends ps = (more : List Piece) → ends_word (text more) ≡ true → ends_word (text (ps ++ more)) ≡ true

pub end : Spaced []
end = record { by = λ more h e. h }

-- a part of a row, what shows that the others end it, and the others
pub part : {ps qs : List Piece} → Spaced ps → Ends qs → Spaced qs → Spaced (ps ++ qs)
part {ps} {qs} a front b = record {
  by = λ more h e. subst Apart (sym (append_assoc ps qs more))
      (a.by (qs ++ more) (b.by more h e) (front more e));
}

-- a token, what shows that it ends, and the others
pub tok : {t : Token} {qs : List Piece} → IsToken t →
    ((more : List Piece) → ends_word (text more) ≡ true → ends t (text (qs ++ more)) ≡ true) → Spaced qs →
    Spaced (TokenPiece t ∷ qs)
tok is front b = record { by = λ more h e. (is, front more e, b.by more h e) }

-- a word that may stand at a member's place
pub free : {w : List ℕ} {qs : List Piece} → IsWord w →
    ((more : List Piece) → ends_word (text more) ≡ true → ends_word (text (qs ++ more)) ≡ true) → Spaced qs →
    Spaced (TokenPiece (Word w) ∷ qs)
free is front b = tok (word_token_of is) front b

pub number_of_plain : (n : ℕ) → IsPlainNumber n → IsNumber n
number_of_plain n is = omega arith

-- a plain number
pub size : {n : ℕ} {qs : List Piece} → IsPlainNumber n →
    ((more : List Piece) → ends_word (text more) ≡ true →
    ends (Number false n NoSuffix) (text (qs ++ more)) ≡ true) → Spaced qs → Spaced (plain n ∷ qs)
size {n} is front b = tok (number_of_plain n is) front b

pub gap : {qs : List Piece} → Spaced qs → Spaced (Blank ∷ qs)
gap b = record { by = λ more h e. b.by more h e }

-- a closing parenthesis
pub close : Spaced (mark CloseParen ∷ [])
close = tok tt (λ more e. refl) end

-- The pieces begin as an expression or a type does.
pub record Opens (ps : List Piece) : Type 0 where
  pub at : (more : List Piece) → opens (text (ps ++ more)) ≡ true

pub opens_first : {ps : List Piece} (qs : List Piece) → Opens ps → Opens (ps ++ qs)
opens_first {ps} qs a = record { at = λ more. ap (λ l. opens (text l)) (append_assoc ps qs more) ∙ a.at (qs ++ more) }

pub word_opens : (w : List ℕ) → IsWord w → {ps : List Piece} → Opens (TokenPiece (Word w) ∷ ps)
word_opens [] is = absurd (false≢true is.text)
word_opens (b ∷ w) is =
    record {
      at = λ more. ap (λ c. c
          || (is_ascii_digit b || (b == 32 || (b == 33 || (b == 40 || (b == 45 || b == 126))))))
          (and_parts (is_letter b) (all_word_bytes w) is.text).0;
    }

digits_open : (ds rest : List ℕ) → 0 < length ds → all_ascii_digits ds ≡ true → opens (ds ++ rest) ≡ true
digits_open [] rest some is = absurd (omega arith)
digits_open (b ∷ ds) rest some is =
    let h = and_parts (is_ascii_digit b) (all_ascii_digits ds) is in
    ap (λ c. c || (is_ascii_digit b || (b == 32 || (b == 33 || (b == 40 || (b == 45 || b == 126))))))
    (digit_no_letter b h.0)
    ∙ ap (λ c. c || (b == 32 || (b == 33 || (b == 40 || (b == 45 || b == 126))))) h.0

pub number_opens : (negative : Bool) (n : ℕ) (suffix : Suffix) → IsNumber n → {ps : List Piece} →
    Opens (TokenPiece (Number negative n suffix) ∷ ps)
number_opens true n suffix is = record { at = λ more. refl }
number_opens false n suffix is {ps} =
    record {
      at = λ more. ap opens (append_assoc (decimal n) (suffix_text suffix) (text (ps ++ more)))
          ∙ digits_open (decimal n) _ (decimal_nonempty n is) (digits_decimal own_digits n is);
    }

pub decimal_opens : (negative : Bool) (whole fraction : List ℕ) (precision : Precision) → AreDigits whole →
    {ps : List Piece} → Opens (TokenPiece (Decimal negative whole fraction precision) ∷ ps)
decimal_opens true whole fraction precision are = record { at = λ more. refl }
decimal_opens false whole fraction precision are {ps} =
    record {
      at = λ more. ap opens (append_assoc whole (decimal_tail fraction precision) (text (ps ++ more)))
          ∙ digits_open whole _ are.some are.digits;
    }
