-- Types, and what parts they have: their trees, their pieces (the tokens of a tree, with the blanks
-- between them), and which of them the grammar has.
--
-- Throughout, w is a word, n a number, and t a type; in the parts of a type a is an address space,
-- m an access, f a format, r a role, s a scalar, and v a vertex return.
use Rattle.std.specs.Prelude.{ℕ, Bool, List, [], ◌∷◌, Option, true, false, not, ◌||◌, ◌++◌, codes}
use Rattle.std.specs.Prelude.{None, Some, ◌&&◌, if◌then◌else◌, ⊤, IsTrue}
use Rattle.wgsl_text.specs.Literals.{IsPlainNumber}
use Rattle.wgsl_text.specs.Token.{Comma, LessThan, GreaterThan, Piece, Blank, mark, word, plain}
use Rattle.wgsl_text.specs.Words.{stands_in, is_builtin, IsWord}
use Rattle.wgsl_text.specs.Tables.{storage_image_words, cooperative_matrix_words, scalar_words}
use Rattle.wgsl_text.specs.Tables.{sampled_words, vector_words, matrix_words, sampled_image_words}
use Rattle.wgsl_text.specs.Tables.{depth_image_words, sampler_words, ray_words, address_space_words}
use Rattle.wgsl_text.specs.Tables.{access_words, format_words, matrix_role_words, atomic_words}
use Rattle.wgsl_text.specs.Tables.{array_words, pointer_words}
use Rattle.std.specs.Str.{bytes_eq}

mutual
  pub data TypeSpecifier : Type 0 where
    Named : List ℕ → TypeSpecifier
    Template : List ℕ → TemplateArguments → TypeSpecifier

  -- A size is a plain number. An address space, an access mode and the like are named parts.
  pub data TemplateArguments : Type 0 where
    NoTemplateArguments : TemplateArguments
    TypeArgument : TypeSpecifier → TemplateArguments → TemplateArguments
    SizeArgument : ℕ → TemplateArguments → TemplateArguments

-- The pieces of types.

-- Does a blank stand after the commas between the parts of a type?
abbrev pub has_gaps : List ℕ → Bool
has_gaps w = not (stands_in storage_image_words w || stands_in cooperative_matrix_words w)

abbrev pub gap_if : Bool → List Piece
gap_if true = Blank ∷ []
gap_if false = []

-- A list of parts ends with the sign that closes it.
abbrev mutual
  pub type_pieces : TypeSpecifier → List Piece
  type_pieces (Named w) = word w ∷ []
  type_pieces (Template w parts) = word w ∷ mark LessThan ∷ template_pieces parts (has_gaps w)

  pub template_pieces : TemplateArguments → Bool → List Piece
  template_pieces NoTemplateArguments gaps = mark GreaterThan ∷ []
  template_pieces (TypeArgument t more) gaps = type_pieces t ++ more_template_pieces more gaps
  template_pieces (SizeArgument n more) gaps = plain n ∷ more_template_pieces more gaps

  pub more_template_pieces : TemplateArguments → Bool → List Piece
  more_template_pieces NoTemplateArguments gaps = mark GreaterThan ∷ []
  more_template_pieces (TypeArgument t more) gaps =
      mark Comma ∷ (gap_if gaps ++ (type_pieces t ++ more_template_pieces more gaps))
  more_template_pieces (SizeArgument n more) gaps =
      mark Comma ∷ (gap_if gaps ++ (plain n ∷ more_template_pieces more gaps))

-- Which types the grammar has.

-- the types of one word; each other such type is a struct's name
abbrev pub plain_type_words : List (List ℕ)
plain_type_words = scalar_words ++ (sampler_words ++ (ray_words ++ depth_image_words))

-- a type, and not an address space or another part
abbrev pub is_type : TypeSpecifier → Bool
is_type (Named w) = stands_in plain_type_words w || not (is_builtin w)
is_type (Template w parts) = true

-- what parts a word takes
pub data TemplateRule : Type 0 where
  TakesNone TakesScalar TakesSampled TakesElements TakesPointee : TemplateRule
  TakesFormat TakesVertexReturn TakesRole TakesType : TemplateRule

abbrev pub rule_among : List (List (List ℕ) × TemplateRule) → List ℕ → TemplateRule
rule_among [] w = TakesNone
rule_among (row ∷ rows) w = if stands_in row.0 w then row.1 else rule_among rows w

-- the words of types with parts
abbrev pub type_templates : List (List (List ℕ) × TemplateRule)
type_templates =
    (vector_words, TakesScalar) ∷
    (matrix_words, TakesScalar) ∷
    (atomic_words, TakesScalar) ∷
    (sampled_image_words, TakesSampled) ∷
    (array_words, TakesElements) ∷
    (pointer_words, TakesPointee) ∷
    (storage_image_words, TakesFormat) ∷
    (ray_words, TakesVertexReturn) ∷
    (cooperative_matrix_words, TakesRole) ∷ []

-- Are these the parts that the rule wants?
abbrev pub fits : TemplateRule → TemplateArguments → Bool
fits TakesScalar (TypeArgument (Named s) NoTemplateArguments) = stands_in scalar_words s
fits TakesSampled (TypeArgument (Named s) NoTemplateArguments) = stands_in sampled_words s
-- a dynamic size, a number, or the name of an override
fits TakesElements (TypeArgument t NoTemplateArguments) = is_type t
fits TakesElements (TypeArgument t (SizeArgument n NoTemplateArguments)) = is_type t
fits TakesElements (TypeArgument t (TypeArgument (Named w) NoTemplateArguments)) =
    is_type t && not (is_builtin w)
-- an address space and a type, and in the space `storage` perhaps an access mode
fits TakesPointee (TypeArgument (Named a) (TypeArgument t NoTemplateArguments)) =
    stands_in address_space_words a && is_type t
fits TakesPointee
    (TypeArgument (Named a) (TypeArgument t (TypeArgument (Named m) NoTemplateArguments))) =
    bytes_eq (codes "storage") a && (is_type t && stands_in access_words m)
fits TakesFormat (TypeArgument (Named f) (TypeArgument (Named m) NoTemplateArguments)) =
    stands_in format_words f && stands_in access_words m
fits TakesVertexReturn (TypeArgument (Named v) NoTemplateArguments) =
    bytes_eq (codes "vertex_return") v
fits TakesRole (TypeArgument (Named s) (TypeArgument (Named r) NoTemplateArguments)) =
    stands_in scalar_words s && stands_in matrix_role_words r
fits TakesType (TypeArgument t NoTemplateArguments) = is_type t
fits _ _ = false

abbrev mutual
  -- a type or a part of one
  pub IsTemplateArgument : TypeSpecifier → Type 0
  IsTemplateArgument (Named w) = IsWord w
  IsTemplateArgument (Template w parts) = IsTrue (fits (rule_among type_templates w) parts) ×
      AreTemplateArguments parts

  pub AreTemplateArguments : TemplateArguments → Type 0
  AreTemplateArguments NoTemplateArguments = ⊤
  AreTemplateArguments (TypeArgument t more) = IsTemplateArgument t × AreTemplateArguments more
  AreTemplateArguments (SizeArgument n more) = IsPlainNumber n × AreTemplateArguments more

pub record IsType (t : TypeSpecifier) : Type 0 where
  pub part : IsTemplateArgument t
  pub whole : IsTrue (is_type t)

-- Words with parts, as types are built of them.

-- a word with one part, two or three
abbrev pub of_one : List ℕ → TypeSpecifier → TypeSpecifier
of_one word part = Template word (TypeArgument part NoTemplateArguments)

abbrev pub of_two : List ℕ → TypeSpecifier → TypeSpecifier → TypeSpecifier
of_two word first second =
    Template word (TypeArgument first (TypeArgument second NoTemplateArguments))

abbrev pub of_three : List ℕ → TypeSpecifier → TypeSpecifier → TypeSpecifier → TypeSpecifier
of_three word first second third =
    Template word
    (TypeArgument first (TypeArgument second (TypeArgument third NoTemplateArguments)))

-- a pointer in a space that has a word, by the word of its access
abbrev pub pointer_tree : List ℕ → Option (List ℕ) → TypeSpecifier → TypeSpecifier
pointer_tree space None pointee = of_two (codes "ptr") (Named space) pointee
pointer_tree space (Some access) pointee =
    of_three (codes "ptr") (Named space) pointee (Named access)
