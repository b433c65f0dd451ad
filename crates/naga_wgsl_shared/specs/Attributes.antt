-- The texts of attributes.
--
-- Throughout, list are attributes, front is what stands in front of a number or of a word, and b is
-- a binding.
use Rattle.std.specs.Prelude.{ℕ, Bool, true, false, List, [], ◌++◌, codes, decimal}
use Rattle.wgsl_text.specs.Attributes.{Attribute, attributes_pieces}
use Rattle.wgsl_text.specs.Text.{text}
use Rattle.naga_ir.specs.declared.binding.Binding.{Binding}
use Rattle.naga_form.specs.Attributes.{binding_attributes}

-- each with one blank after it
unfoldable pub attributes_text : List Attribute → List ℕ
attributes_text list = text (attributes_pieces list)

-- those of a binding
abbrev pub binding_text : (b : Binding) → List ℕ
binding_text b = attributes_text (binding_attributes b)

-- an attribute with a number, and one with a word
unfoldable pub numbered_text : (front : List ℕ) → ℕ → List ℕ
numbered_text front n = front ++ (decimal n ++ codes ") ")

unfoldable pub worded_text : (front word : List ℕ) → List ℕ
worded_text front word = front ++ (word ++ codes ") ")

-- one with an interpolation and a sampling
unfoldable pub interpolated_text : (interpolation sampling : List ℕ) → List ℕ
interpolated_text interpolation sampling =
    codes "@interpolate(" ++ (interpolation ++ (codes ", " ++ (sampling ++ codes ") ")))

-- a text, where a test passes
unfoldable pub text_if : Bool → List ℕ → List ℕ
text_if true piece = piece
text_if false piece = []
