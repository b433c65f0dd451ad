-- Pieces that end in a blank, a line end or a sign that nothing extends, one part of a row after
-- another.
use Rattle.std.proofs.Common.{◌≡◌, ℕ, true, false, List, [], ◌∷◌, ◌++◌, refl, sym, subst}
use Rattle.std.proofs.Common.{append_assoc}
use Rattle.wgsl_text.specs.Literals.{IsPlainNumber}
use Rattle.wgsl_text.specs.Statements.{line_end}
use Rattle.wgsl_text.specs.Token.{Mark, CloseBrace, LessThan, NoSuffix, Token, Fixed, Word, Number}
use Rattle.wgsl_text.specs.Token.{Piece, TokenPiece, Blank, LineEnd, Indent, mark, plain}
use Rattle.wgsl_text.specs.Words.{IsWord}
use Rattle.wgsl_text.specs.Text.{text}
use Rattle.wgsl_text.proofs.Spacing.{Spaced, number_of_plain, Opens}
use Rattle.wgsl_text.proofs.Text.{ends_word, ends, word_token_of, IsToken, Apart}

-- Before any pieces these stand apart: they end in a blank, a line end or a sign that nothing
-- extends.
pub record Closed (ps : List Piece) : Type 0 where
  pub by : (more : List Piece) → Apart more → Apart (ps ++ more)

pub none : Closed []
none = record { by = λ more h. h }

pub line : {qs : List Piece} → Closed qs → Closed (LineEnd ∷ qs)
line b = record { by = b.by }

pub gap : {qs : List Piece} → Closed qs → Closed (Blank ∷ qs)
gap b = record { by = b.by }

pub indent : {n : ℕ} {qs : List Piece} → Closed qs → Closed (Indent n ∷ qs)
indent b = record { by = b.by }

-- what shows that a token ends, and what stands after it
pub tok : {t : Token} {qs : List Piece} → IsToken t →
    ((more : List Piece) → ends t (text (qs ++ more)) ≡ true) → Closed qs → Closed (TokenPiece t ∷ qs)
tok is front b = record { by = λ more h. (is, front more, b.by more h) }

-- a word that may stand at a member's place, and a plain number
pub free : {w : List ℕ} {qs : List Piece} → IsWord w →
    ((more : List Piece) → ends_word (text (qs ++ more)) ≡ true) → Closed qs → Closed (TokenPiece (Word w) ∷ qs)
free is front b = tok (word_token_of is) front b

pub size : {n : ℕ} {qs : List Piece} → IsPlainNumber n →
    ((more : List Piece) → ends (Number false n NoSuffix) (text (qs ++ more)) ≡ true) → Closed qs →
    Closed (plain n ∷ qs)
size {n} is front b = tok (number_of_plain n is) front b

pub sign : {m : Mark} {qs : List Piece} → ((more : List Piece) → ends (Fixed m) (text (qs ++ more)) ≡ true) →
    Closed qs → Closed (mark m ∷ qs)
sign front b = tok tt front b

-- `<` before what opens
pub angle : {qs : List Piece} → Opens qs → Closed qs → Closed (mark LessThan ∷ qs)
angle a b = tok tt a.at b

pub part : {ps qs : List Piece} → Spaced ps → ((more : List Piece) → ends_word (text (qs ++ more)) ≡ true) →
    Closed qs → Closed (ps ++ qs)
part {ps} {qs} a front b = record {
  by = λ more h. subst Apart (sym (append_assoc ps qs more))
      (a.by (qs ++ more) (b.by more h) (front more));
}

infixr 10 ◌then◌
pub ◌then◌ : {ps qs : List Piece} → Closed ps → Closed qs → Closed (ps ++ qs)
◌then◌ {ps} {qs} a b = record {
  by = λ more h. subst Apart (sym (append_assoc ps qs more))
      (a.by (qs ++ more) (b.by more h));
}

pub stop : Closed line_end
stop = sign (λ _. refl) (line none)

pub close_line : Closed (mark CloseBrace ∷ LineEnd ∷ [])
close_line = sign (λ _. refl) (line none)
