-- The letters that a swizzle chooses are a word, and no reserved one.
use Rattle.std.proofs.Common.{◌≡◌, ℕ, Bool, true, false, ◌||◌, List, [], ◌∷◌, ◌++◌, length, refl}
use Rattle.std.proofs.Common.{sym, subst, map, take, nat_eq}
use Rattle.std.specs.Prelude.{not}
use Rattle.std.specs.List.{flat_map, list_all}
use Rattle.std.proofs.lemmas.Bool.{and_from}
use Rattle.naga_ir.specs.declared.expression.SwizzleComponent.{SwizzleComponent}
use Rattle.naga_ir.specs.declared.expression.SwizzleComponent.TheVariants as component
use Rattle.naga_ir.specs.declared.types.VectorSize.{VectorSize}
use Rattle.naga_ir.specs.declared.types.VectorSize.TheVariants.{Bi, Tri, Quad}
use Rattle.module_semantics.specs.ExpressionShapes.{letter, swizzle_letters}
use Rattle.naga_form.proofs.operators.AgreeingParts.{byte, letter_is}
use Rattle.wgsl_text.proofs.Words.{all_words, passes}
use Rattle.wgsl_text.specs.Keywords.{reserved_words}
use Rattle.wgsl_text.specs.Words.{IsWord, all_word_bytes, is_letter, is_reserved, is_word_byte}
use Rattle.wgsl_text.specs.Words.{is_word_text, stands_in}

-- the byte is one of the letters `x`, `y`, `z`, `w`
abbrev is_component : ℕ → Bool
is_component b = nat_eq b 120 || (nat_eq b 121 || (nat_eq b 122 || nat_eq b 119))

-- a word has none but these
abbrev has_components : List ℕ → Bool
has_components w = list_all is_component w

-- no reserved word is of these letters alone
none_reserved : all_words (λ w. not (has_components w)) reserved_words ≡ true
unfolding reserved_words
none_reserved = refl

not_reserved : (w : List ℕ) → has_components w ≡ true → is_reserved w ≡ false
unfolding is_reserved
not_reserved w has = by (stands_in reserved_words w) refl
  where
    both : (b : Bool) → b ≡ true → not b ≡ true → stands_in reserved_words w ≡ false
    both true is other = absurd cc
    both false is other = absurd cc

    by : (b : Bool) → stands_in reserved_words w ≡ b → stands_in reserved_words w ≡ false
    by false at = at
    by true at =
        both (has_components w) has
        (passes (λ v. not (has_components v)) reserved_words w none_reserved at)

-- letters of components are a word
word_of : (w : List ℕ) → is_word_text w ≡ true → has_components w ≡ true → IsWord w
word_of w text has = record { text = text; free = not_reserved w has }

byte_is : (c : SwizzleComponent) → is_component (byte c) ≡ true
byte_is component.X = refl
byte_is _ = refl

letter_byte : (c : SwizzleComponent) → is_letter (byte c) ≡ true
letter_byte component.X = refl
letter_byte _ = refl

word_byte : (c : SwizzleComponent) → is_word_byte (byte c) ≡ true
word_byte component.X = refl
word_byte _ = refl

letters_bytes : (cs : List SwizzleComponent) → flat_map letter cs ≡ map byte cs
letters_bytes [] = refl
letters_bytes (c ∷ cs) = λ i. letter_is c i ++ letters_bytes cs i

bytes_are : (cs : List SwizzleComponent) → all_word_bytes (map byte cs) ≡ true
bytes_are [] = refl
bytes_are (c ∷ cs) =
    and_from (is_word_byte (byte c)) (all_word_bytes (map byte cs)) (word_byte c) (bytes_are cs)

components_are : (cs : List SwizzleComponent) → has_components (map byte cs) ≡ true
components_are [] = refl
components_are (c ∷ cs) =
    and_from (is_component (byte c)) (has_components (map byte cs)) (byte_is c) (components_are cs)

some_letters : (c : SwizzleComponent) (cs : List SwizzleComponent) → IsWord (flat_map letter (c ∷ cs))
some_letters c cs =
    subst IsWord (sym (letters_bytes (c ∷ cs)))
    (word_of (map byte (c ∷ cs))
    (and_from (is_letter (byte c)) (all_word_bytes (map byte cs)) (letter_byte c) (bytes_are cs))
    (components_are (c ∷ cs)))

pub letter_is_a_word : (c : SwizzleComponent) → IsWord (letter c)
letter_is_a_word component.X = some_letters component.X []
letter_is_a_word component.Y = some_letters component.Y []
letter_is_a_word component.Z = some_letters component.Z []
letter_is_a_word component.W = some_letters component.W []

pub letters_are_a_word : (size : VectorSize) (pattern : List SwizzleComponent) →
    length pattern ≡ 4 → IsWord (swizzle_letters size pattern)
letters_are_a_word size [] four = absurd cc
letters_are_a_word Bi (c ∷ cs) four = some_letters c (take 1 cs)
letters_are_a_word Tri (c ∷ cs) four = some_letters c (take 2 cs)
letters_are_a_word Quad (c ∷ cs) four = some_letters c (take 3 cs)
