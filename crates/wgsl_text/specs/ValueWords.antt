-- The words that the grammar shares with the values of the IR.
--
-- Throughout, w is a word, and i an index.
use Rattle.std.specs.Prelude.{◌≡◌, ℕ, List, Option, Some, IsTrue}
use Rattle.naga_ir.specs.declared.operators.MathFunction.{MathFunction}
use Rattle.wgsl_words.specs.Words.{scalar_word, scalar_word_of, interpolation_word, sampling_word}
use Rattle.wgsl_words.specs.Words.{matrix_role_word, format_word, builtin_word, space_word}
use Rattle.wgsl_words.specs.Words.{image_access_word, math_word}
use Rattle.wgsl_text.specs.Tables.{scalar_words, sampled_words, address_space_words, access_words}
use Rattle.wgsl_text.specs.Tables.{format_words, matrix_role_words, builtin_value_words}
use Rattle.wgsl_text.specs.Tables.{interpolation_words, sampling_words}
use Rattle.wgsl_text.specs.Words.{stands_in, is_builtin}

-- Each value's word stands in the table, and each word of the table is that of a value.
pub record AreTheWordsOf {A : Type 0} (word : A → Option (List ℕ)) (words : List (List ℕ)) :
    Type 0 where
  pub each : (value : A) (w : List ℕ) → word value ≡ Some w → IsTrue (stands_in words w)
  pub others : (w : List ℕ) → IsTrue (stands_in words w) → (value : A) × (word value ≡ Some w)

-- the tables of the grammar that are tables of words of values too
pub record ValueWords : Type 0 where
  pub scalars : AreTheWordsOf scalar_word scalar_words
  -- a sampled image gives scalars of four bytes
  pub sampled : AreTheWordsOf (λ kind. scalar_word_of kind 4) sampled_words
  pub formats : AreTheWordsOf (λ format. Some (format_word format)) format_words
  pub roles : AreTheWordsOf (λ role. Some (matrix_role_word role)) matrix_role_words
  pub builtin_values : AreTheWordsOf builtin_word builtin_value_words
  pub interpolations : AreTheWordsOf (λ i. Some (interpolation_word i)) interpolation_words
  pub samplings : AreTheWordsOf (λ sampling. Some (sampling_word sampling)) sampling_words
  pub spaces : AreTheWordsOf space_word address_space_words
  pub accesses : AreTheWordsOf (λ access. Some (image_access_word access)) access_words
  -- the functions of mathematics are among the built-in words
  pub functions : (function : MathFunction) (w : List ℕ) → math_word function ≡ Some w →
      IsTrue (is_builtin w)
