-- What a diagnostic calls a value.
use Rattle.std.specs.Prelude.{◌≡◌, ℕ, List, ◌++◌, Option, Some, None, codes}
use Rattle.naga_ir.specs.declared.types.Scalar.{Scalar}
use Rattle.naga_ir.specs.declared.types.ScalarKind.{ScalarKind}
use Rattle.naga_ir.specs.declared.types.ScalarKind.TheVariants.{AbstractInt, AbstractFloat}
use Rattle.wgsl_words.specs.Words.{scalar_word}

-- the text in braces for a value without a word, by its kind and its debug text
abbrev pub braced_text : List ℕ → List ℕ → List ℕ
braced_text description debug =
    codes "{non-WGSL " ++ (description ++ (codes " " ++ (debug ++ codes "}")))

-- some debug text, with its kind, in braces
abbrev pub IsBraced : List ℕ → List ℕ → Type 0
IsBraced description text = (debug : List ℕ) × (text ≡ braced_text description debug)

-- the word, or without one a text in braces
abbrev pub IsWordOrBraced : List ℕ → Option (List ℕ) → List ℕ → Type 0
IsWordOrBraced description (Some word) text = text ≡ word
IsWordOrBraced description None text = IsBraced description text

-- the same of a scalar without a word; an abstract one is known by its kind
abbrev pub IsScalarBraced : ScalarKind → List ℕ → Type 0
IsScalarBraced AbstractInt text = text ≡ codes "{AbstractInt}"
IsScalarBraced AbstractFloat text = text ≡ codes "{AbstractFloat}"
IsScalarBraced _ text = IsBraced (codes "scalar") text

abbrev pub IsScalarTold : Option (List ℕ) → ScalarKind → List ℕ → Type 0
IsScalarTold (Some word) kind text = text ≡ word
IsScalarTold None kind text = IsScalarBraced kind text

-- what a diagnostic calls a scalar
abbrev pub IsScalarDiagnostic : Scalar → List ℕ → Type 0
IsScalarDiagnostic scalar = IsScalarTold (scalar_word scalar) scalar.kind
