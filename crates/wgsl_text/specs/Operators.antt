-- Which words are those of operators: the signs, the built-in functions whose values are told by
-- those of their operands, and the types.
--
-- Throughout, word stands before operands, and structs are the names of the structs that a text
-- declares.
use Rattle.std.specs.Prelude.{ℕ, Bool, ◌||◌, List, [], ◌∷◌, ◌++◌, map, codes, IsTrue, IsFalse}
use Rattle.std.specs.List.{flat_map}
use Rattle.wgsl_text.specs.Expressions.{BinaryOperator, Add, Subtract, Multiply, Divide, Modulo}
use Rattle.wgsl_text.specs.Expressions.{Equal, NotEqual, Less, LessEqual, Greater, GreaterEqual}
use Rattle.wgsl_text.specs.Expressions.{And, ExclusiveOr, InclusiveOr, LogicalAnd, LogicalOr}
use Rattle.wgsl_text.specs.Expressions.{ShiftLeft, ShiftRight, UnaryOperator, Negate, LogicalNot}
use Rattle.wgsl_text.specs.Expressions.{BitwiseNot, binary_pieces, unary_mark}
use Rattle.wgsl_text.specs.Requests.{word_before_arguments}
use Rattle.wgsl_text.specs.Text.{text, mark_text, starts_with}
use Rattle.wgsl_text.specs.Types.{plain_type_words, type_templates}
use Rattle.wgsl_text.specs.Words.{stands_in}

-- ---- signs
abbrev pub binary_operators : List BinaryOperator
binary_operators =
    Add ∷ Subtract ∷ Multiply ∷ Divide ∷ Modulo ∷ Equal ∷ NotEqual ∷ Less ∷ LessEqual ∷ Greater ∷
    GreaterEqual ∷ And ∷ ExclusiveOr ∷ InclusiveOr ∷ LogicalAnd ∷ LogicalOr ∷ ShiftLeft ∷
    ShiftRight ∷ []

abbrev pub unary_operators : List UnaryOperator
unary_operators = Negate ∷ LogicalNot ∷ BitwiseNot ∷ []

-- the signs between two operands, and those before one
abbrev pub sign_words : List (List ℕ)
sign_words =
    map (λ op. text (binary_pieces op)) binary_operators
    ++ map (λ op. mark_text (unary_mark op)) unary_operators

-- ---- functions
-- the built-in functions that ask for no event (WGSL, "Built-in Functions"), with the product of
-- cooperative matrices, of an extension
abbrev pub function_words : List (List ℕ)
function_words =
    codes "bitcast" ∷ codes "all" ∷ codes "any" ∷ codes "select" ∷ codes "arrayLength" ∷
    codes "coopMultiplyAdd" ∷
    codes "abs" ∷ codes "min" ∷ codes "max" ∷ codes "clamp" ∷ codes "saturate" ∷
    codes "cos" ∷ codes "sin" ∷ codes "tan" ∷ codes "acos" ∷ codes "asin" ∷ codes "atan" ∷
    codes "cosh" ∷ codes "sinh" ∷ codes "tanh" ∷ codes "acosh" ∷ codes "asinh" ∷
    codes "atanh" ∷ codes "atan2" ∷
    codes "radians" ∷ codes "degrees" ∷ codes "ceil" ∷ codes "floor" ∷ codes "round" ∷
    codes "fract" ∷ codes "trunc" ∷ codes "modf" ∷ codes "frexp" ∷ codes "ldexp" ∷
    codes "exp" ∷ codes "exp2" ∷ codes "log" ∷ codes "log2" ∷ codes "pow" ∷
    codes "dot" ∷ codes "dot4I8Packed" ∷ codes "dot4U8Packed" ∷ codes "cross" ∷
    codes "distance" ∷ codes "length" ∷ codes "normalize" ∷ codes "faceForward" ∷
    codes "reflect" ∷ codes "refract" ∷
    codes "sign" ∷ codes "fma" ∷ codes "mix" ∷ codes "step" ∷ codes "smoothstep" ∷
    codes "sqrt" ∷ codes "inverseSqrt" ∷ codes "transpose" ∷ codes "determinant" ∷
    codes "quantizeToF16" ∷
    codes "countTrailingZeros" ∷ codes "countLeadingZeros" ∷ codes "countOneBits" ∷
    codes "reverseBits" ∷ codes "extractBits" ∷ codes "insertBits" ∷
    codes "firstTrailingBit" ∷ codes "firstLeadingBit" ∷
    codes "pack4x8snorm" ∷ codes "pack4x8unorm" ∷ codes "pack2x16snorm" ∷
    codes "pack2x16unorm" ∷ codes "unpack4x8snorm" ∷ codes "unpack4x8unorm" ∷
    codes "unpack2x16snorm" ∷ codes "unpack2x16unorm" ∷ codes "pack2x16float" ∷
    codes "unpack2x16float" ∷ codes "pack4xI8" ∷ codes "pack4xU8" ∷ codes "unpack4xI8" ∷
    codes "unpack4xU8" ∷ codes "pack4xI8Clamp" ∷ codes "pack4xU8Clamp" ∷ []

-- ---- types
-- the types of one word, and the words of types with parts
abbrev pub type_words : List (List ℕ)
type_words = plain_type_words ++ flat_map (λ row. row.0) type_templates

-- ---- operators
-- An operator's word of every text: a sign, or a built-in function or a type, whatever its parts. A
-- word that begins with a blank, which no text has, counts as one too: by such a word the runs call
-- an operator that no text is written for.
unfoldable pub is_built_in : List ℕ → Bool
is_built_in word =
    starts_with 32 word ||
    (stands_in sign_words word || stands_in (function_words ++ type_words) (word_before_arguments word))

-- the word is that of an operator: one of every text, or the name of a struct, whose value it makes
abbrev pub is_operator : (structs : List (List ℕ)) → List ℕ → Bool
is_operator structs word = is_built_in word || stands_in structs word

-- Words and whether they are operators'.
pub record OperatorWords : Type 0 where
  pub sum : IsTrue (is_operator [] (codes "+"))
  pub shift : IsTrue (is_operator [] (codes ">>"))
  pub negation : IsTrue (is_operator [] (codes "!"))
  pub maximum : IsTrue (is_operator [] (codes "max"))
  pub choice : IsTrue (is_operator [] (codes "select"))
  pub length : IsTrue (is_operator [] (codes "arrayLength"))
  pub bits : IsTrue (is_operator [] (codes "bitcast<u32>"))
  pub scalar : IsTrue (is_operator [] (codes "f32"))
  pub splat : IsTrue (is_operator [] (codes "vec2"))
  pub vector : IsTrue (is_operator [] (codes "vec3<f32>"))
  pub array : IsTrue (is_operator [] (codes "array<vec3<f32>, 4>"))
  -- a struct is known by its declaration
  pub declared : IsTrue (is_operator (codes "Light" ∷ []) (codes "Light"))
  pub other_struct : IsFalse (is_operator (codes "Light" ∷ []) (codes "Shadow"))
  -- no word is an operator's that nothing declares, and no built-in word but of functions and types
  pub unknown : IsFalse (is_operator [] (codes "frobnicate"))
  pub longer : IsFalse (is_operator [] (codes "maximum"))
  pub space : IsFalse (is_operator [] (codes "workgroup"))
  pub format : IsFalse (is_operator [] (codes "rgba8unorm"))
