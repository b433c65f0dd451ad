-- How the types are spelled that name no type of a module: scalars, vectors, pointers to these, and
-- images. What has no form is refused or shown in braces.
use Rattle.std.specs.Prelude.{ℕ, decimal, codes, Bool, true, false, List, [], ◌∷◌, ◌++◌}
use Rattle.std.specs.Prelude.{Option, Some, None}
use Rattle.naga_ir.specs.declared.types.VectorSize.{VectorSize}
use Rattle.naga_ir.specs.declared.types.Scalar.{Scalar}
use Rattle.naga_ir.specs.declared.types.ScalarKind.{ScalarKind}
use Rattle.naga_ir.specs.declared.types.ScalarKind.TheVariants.{AbstractInt, AbstractFloat}
use Rattle.naga_ir.specs.declared.image.ImageClass.{ImageClass}
use Rattle.naga_ir.specs.declared.image.ImageClass.TheVariants as class
use Rattle.naga_ir.specs.declared.image.ImageDimension.{ImageDimension}
use Rattle.wgsl_words.specs.Words.{scalar_word, image_access_word, format_word}
use Rattle.naga_spelling.specs.Segments.{Segment, Word, Missing, shown_between, three}
use Rattle.naga_spelling.specs.Words.{vector_word, image_word}

-- a type without a form
abbrev pub unsupported_segments : Bool → List Segment
unsupported_segments true = Missing ∷ []
unsupported_segments false = shown_between (codes "{non-WGSL Naga type ") (codes "}")

-- a scalar without a word, in braces
abbrev pub braced_scalar_segments : ScalarKind → List Segment
braced_scalar_segments AbstractInt = Word (codes "{AbstractInt}") ∷ []
braced_scalar_segments AbstractFloat = Word (codes "{AbstractFloat}") ∷ []
braced_scalar_segments _ = shown_between (codes "{non-WGSL Naga scalar ") (codes "}")

-- a scalar without a word
abbrev pub unsupported_scalar_segments : Bool → ScalarKind → List Segment
unsupported_scalar_segments true kind = Missing ∷ []
unsupported_scalar_segments false kind = braced_scalar_segments kind

abbrev pub scalar_segments_of : Bool → Option (List ℕ) → ScalarKind → List Segment
scalar_segments_of refuses (Some w) kind = Word w ∷ []
scalar_segments_of refuses None kind = unsupported_scalar_segments refuses kind

-- a scalar
abbrev pub scalar_segments : Bool → Scalar → List Segment
scalar_segments refuses scalar = scalar_segments_of refuses (scalar_word scalar) scalar.kind

-- a word with a scalar in angle brackets, of which the tail has the closing one
abbrev pub template_segments : List ℕ → List Segment → List ℕ → List Segment
template_segments word segments tail = Word word ∷ Word (codes "<") ∷ (segments ++ (Word tail ∷ []))

abbrev pub vector_segments : Bool → VectorSize → Scalar → List Segment
vector_segments refuses size scalar =
    template_segments (vector_word size) (scalar_segments refuses scalar) (codes ">")

-- what a value pointer points to: one scalar, or a vector
abbrev pub value_segments : Bool → Option VectorSize → Scalar → List Segment
value_segments refuses None scalar = scalar_segments refuses scalar
value_segments refuses (Some size) scalar = vector_segments refuses size scalar

-- the end of a pointer, with what may be done through it where that has a word
abbrev pub access_segments : Option (List ℕ) → List Segment
access_segments None = Word (codes ">") ∷ []
access_segments (Some w) = three (codes ", ") w (codes ">")

-- a pointer in a space that has a word
abbrev pub pointer_in : List ℕ → Option (List ℕ) → List Segment → List Segment
pointer_in space access pointee =
    Word (codes "ptr<") ∷ Word space ∷ Word (codes ", ") ∷ (pointee ++ access_segments access)

-- a pointer to a value; where its space has no word, it has no form
abbrev pub value_pointer_segments : Bool → Option (List ℕ) → Option (List ℕ) → List Segment →
    List Segment
value_pointer_segments refuses None access value = unsupported_segments refuses
value_pointer_segments refuses (Some space) access value = pointer_in space access value

abbrev pub length_of_number : ℕ → List Segment
length_of_number number = three (codes ", ") (decimal number) (codes ">")

-- a storage image, by its word, its format and what may be done with it; no blank stands after the
-- comma
abbrev pub storage_image_segments : List ℕ → List ℕ → List ℕ → List Segment
storage_image_segments word format access =
    Word word ∷ Word (codes "<") ∷ Word format ∷ Word (codes ",") ∷ Word access ∷
    Word (codes ">") ∷ []

abbrev pub image_segments : Bool → ImageDimension → Bool → ImageClass → List Segment
image_segments refuses dim arrayed (class.Sampled kind multi) =
    template_segments (image_word (codes "texture_") multi dim arrayed)
    (scalar_segments refuses (record { kind = kind; width = 4 })) (codes ">")
image_segments refuses dim arrayed (class.Depth multi) =
    Word (image_word (codes "texture_depth_") multi dim arrayed) ∷ []
image_segments refuses dim arrayed class.External = Word (codes "texture_external") ∷ []
image_segments refuses dim arrayed (class.Storage format access) =
    storage_image_segments (image_word (codes "texture_storage_") false dim arrayed)
    (format_word format) (image_access_word access)
