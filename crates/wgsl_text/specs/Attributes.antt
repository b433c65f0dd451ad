-- Attributes: their trees, their pieces, which of them the grammar has, and which of them may stand
-- together at one place.
--
-- Throughout, a is an attribute, w a word, n a number, i an interpolation, s a sampling, p a
-- payload, g a group, and x, y and z are the parts of a workgroup's size.
use Rattle.std.specs.Prelude.{ℕ, Bool, List, [], ◌∷◌, true, false, ◌++◌, codes, ⊤, IsTrue}
use Rattle.wgsl_text.specs.Literals.{IsPlainNumber}
use Rattle.wgsl_text.specs.Token.{NoSuffix, Token, Word, Number, Piece, TokenPiece, Blank, At}
use Rattle.wgsl_text.specs.Token.{OpenParen, CloseParen, Comma, mark, word, plain}
use Rattle.std.specs.Str.{bytes_eq}
use Rattle.wgsl_text.specs.Words.{stands_in, IsIdentifier}
use Rattle.wgsl_text.specs.Tables.{builtin_value_words, interpolation_words, sampling_words}

-- an attribute of a word alone
pub data PlainAttribute : Type 0 where
  Invariant PerPrimitive Coherent Volatile : PlainAttribute
  Vertex Fragment Compute Task RayGeneration AnyHit ClosestHit Miss : PlainAttribute

-- an attribute with a number
pub data NumberedAttribute : Type 0 where
  Location BlendSource Id Group Binding Size Align : NumberedAttribute

-- an attribute with a word
pub data WordedAttribute : Type 0 where
  Builtin Interpolate Mesh Payload IncomingPayload : WordedAttribute

-- How many invocations a workgroup has along one axis: so many, or what this name stands for. The
-- name is that of an override, so a pipeline sets the size.
pub data SizePart : Type 0 where
  FixedSize : ℕ → SizePart
  NamedSize : List ℕ → SizePart

pub data Attribute : Type 0 where
  Plain : PlainAttribute → Attribute
  Numbered : NumberedAttribute → ℕ → Attribute
  Worded : WordedAttribute → List ℕ → Attribute
  -- an interpolation and a sampling
  Interpolated : List ℕ → List ℕ → Attribute
  WorkgroupSize : SizePart → SizePart → SizePart → Attribute

-- The pieces of attributes.

abbrev pub plain_attribute_word : PlainAttribute → List ℕ
plain_attribute_word Invariant = codes "invariant"
plain_attribute_word PerPrimitive = codes "per_primitive"
plain_attribute_word Coherent = codes "coherent"
plain_attribute_word Volatile = codes "volatile"
plain_attribute_word Vertex = codes "vertex"
plain_attribute_word Fragment = codes "fragment"
plain_attribute_word Compute = codes "compute"
plain_attribute_word Task = codes "task"
plain_attribute_word RayGeneration = codes "ray_generation"
plain_attribute_word AnyHit = codes "any_hit"
plain_attribute_word ClosestHit = codes "closest_hit"
plain_attribute_word Miss = codes "miss"

abbrev pub numbered_attribute_word : NumberedAttribute → List ℕ
numbered_attribute_word Location = codes "location"
numbered_attribute_word BlendSource = codes "blend_src"
numbered_attribute_word Id = codes "id"
numbered_attribute_word Group = codes "group"
numbered_attribute_word Binding = codes "binding"
numbered_attribute_word Size = codes "size"
numbered_attribute_word Align = codes "align"

abbrev pub worded_attribute_word : WordedAttribute → List ℕ
worded_attribute_word Builtin = codes "builtin"
worded_attribute_word Interpolate = codes "interpolate"
worded_attribute_word Mesh = codes "mesh"
worded_attribute_word Payload = codes "payload"
worded_attribute_word IncomingPayload = codes "incoming_payload"

abbrev pub size_token : SizePart → Token
size_token (FixedSize n) = Number false n NoSuffix
size_token (NamedSize w) = Word w

abbrev pub size_piece : SizePart → Piece
size_piece x = TokenPiece (size_token x)

-- An attribute ends with a blank.
abbrev pub attribute_pieces : Attribute → List Piece
attribute_pieces (Plain a) = mark At ∷ word (plain_attribute_word a) ∷ Blank ∷ []
attribute_pieces (Numbered a n) =
    mark At ∷ word (numbered_attribute_word a) ∷ mark OpenParen ∷ plain n ∷
    mark CloseParen ∷ Blank ∷ []
attribute_pieces (Worded a w) =
    mark At ∷ word (worded_attribute_word a) ∷ mark OpenParen ∷ word w ∷
    mark CloseParen ∷ Blank ∷ []
attribute_pieces (Interpolated i s) =
    mark At ∷ word (codes "interpolate") ∷ mark OpenParen ∷ word i ∷ mark Comma ∷ Blank ∷ word s ∷
    mark CloseParen ∷ Blank ∷ []
attribute_pieces (WorkgroupSize x y z) =
    mark At ∷ word (codes "workgroup_size") ∷ mark OpenParen ∷ size_piece x ∷ mark Comma ∷ Blank ∷
    size_piece y ∷ mark Comma ∷ Blank ∷ size_piece z ∷ mark CloseParen ∷ Blank ∷ []

abbrev pub attributes_pieces : List Attribute → List Piece
attributes_pieces [] = []
attributes_pieces (a ∷ more) = attribute_pieces a ++ attributes_pieces more

-- Which attributes the grammar has.

-- a number is plain, and a name is an identifier
abbrev pub IsSizePart : SizePart → Type 0
IsSizePart (FixedSize n) = IsPlainNumber n
IsSizePart (NamedSize w) = IsIdentifier w

-- An attribute's words and numbers are judged by its own table alone.
abbrev pub IsAttribute : Attribute → Type 0
IsAttribute (Plain a) = ⊤
IsAttribute (Numbered a n) = IsPlainNumber n
IsAttribute (Worded Builtin w) = IsTrue (stands_in builtin_value_words w)
IsAttribute (Worded Interpolate w) = IsTrue (stands_in interpolation_words w)
IsAttribute (Worded _ w) = IsIdentifier w
IsAttribute (Interpolated i s) =
    IsTrue (stands_in interpolation_words i) × IsTrue (stands_in sampling_words s)
IsAttribute (WorkgroupSize x y z) = IsSizePart x × IsSizePart y × IsSizePart z

abbrev pub IsAttributes : List Attribute → Type 0
IsAttributes [] = ⊤
IsAttributes (a ∷ more) = IsAttribute a × IsAttributes more

-- what may follow a location: `@blend_src`, `@interpolate` and `@per_primitive`, in this order
abbrev pub after_interpolation : List Attribute → Bool
after_interpolation [] = true
after_interpolation (Plain PerPrimitive ∷ []) = true
after_interpolation _ = false

abbrev pub after_blend_source : List Attribute → Bool
after_blend_source (Worded Interpolate i ∷ more) = after_interpolation more
after_blend_source (Interpolated i s ∷ more) = after_interpolation more
after_blend_source more = after_interpolation more

abbrev pub after_location : List Attribute → Bool
after_location (Numbered BlendSource n ∷ more) = after_blend_source more
after_location more = after_blend_source more

-- the binding of an input or an output, or none; a position may be invariant
abbrev pub is_io_binding : List Attribute → Bool
is_io_binding [] = true
is_io_binding (Worded Builtin w ∷ []) = true
is_io_binding (Worded Builtin w ∷ Plain Invariant ∷ []) = bytes_eq (codes "position") w
is_io_binding (Numbered Location n ∷ more) = after_location more
is_io_binding _ = false

-- what may stand on a member: a size, an alignment
-- and a binding, each if it is there, in this order
abbrev pub after_size : List Attribute → Bool
after_size (Numbered Align n ∷ more) = is_io_binding more
after_size more = is_io_binding more

abbrev pub is_member_binding : List Attribute → Bool
is_member_binding (Numbered Size n ∷ more) = after_size more
is_member_binding more = after_size more

abbrev pub is_id : List Attribute → Bool
is_id [] = true
is_id (Numbered Id n ∷ []) = true
is_id _ = false

abbrev pub are_decorations : List Attribute → Bool
are_decorations [] = true
are_decorations (Plain Coherent ∷ []) = true
are_decorations (Plain Volatile ∷ []) = true
are_decorations (Plain Coherent ∷ Plain Volatile ∷ []) = true
are_decorations _ = false

-- the group and the binding of a global, or none, and its decorations
abbrev pub is_global_binding : List Attribute → Bool
is_global_binding (Numbered Group g ∷ Numbered Binding b ∷ more) = are_decorations more
is_global_binding more = are_decorations more

-- the stages of entry points, each with the attributes that it takes
abbrev pub is_stage : List Attribute → Bool
is_stage (Plain Vertex ∷ []) = true
is_stage (Plain Fragment ∷ []) = true
is_stage (Plain Compute ∷ WorkgroupSize x y z ∷ []) = true
is_stage (Worded Mesh w ∷ WorkgroupSize x y z ∷ []) = true
is_stage (Worded Mesh w ∷ WorkgroupSize x y z ∷ Worded Payload p ∷ []) = true
is_stage (Plain Task ∷ Worded Payload p ∷ WorkgroupSize x y z ∷ []) = true
is_stage (Plain RayGeneration ∷ []) = true
is_stage (Plain AnyHit ∷ Worded IncomingPayload p ∷ []) = true
is_stage (Plain ClosestHit ∷ Worded IncomingPayload p ∷ []) = true
is_stage (Plain Miss ∷ Worded IncomingPayload p ∷ []) = true
is_stage _ = false
