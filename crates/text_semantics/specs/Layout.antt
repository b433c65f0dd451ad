-- How the structs of a text are laid out in memory, by WGSL's rules (wgsl_layout/specs/Rules) and
-- the text alone: where each member begins, and how many bytes the struct takes. A struct is found
-- by its name, and may be declared before or after those that it is in. `@size` counts. `@align`
-- does not: no text that is written has one, an interface tells of it by itself, and of a text that
-- has one these are not WGSL's offsets.
--
-- Throughout, w is a word, s a size in bytes, n a number, t a type, m a member, k a member as it is
-- laid out, more are those that are left, structs are those of a text, and f tells how the struct
-- of a name is laid out.
use Rattle.std.specs.Prelude.{ℕ, zero, suc, ◌||◌, ◌==◌, List, [], ◌∷◌, length, codes}
use Rattle.std.specs.Prelude.{Option, Some, None, if◌then◌else◌}
use Rattle.std.specs.List.{find}
use Rattle.std.specs.Option.{option_and_then, option_map}
use Rattle.std.specs.Str.{bytes_eq}
use Rattle.wgsl_layout.specs.Rules.{Member, array_layout, matrix_layout, offsets_of, scalar_layout}
use Rattle.wgsl_layout.specs.Rules.{struct_layout, vector_layout}
use Rattle.wgsl_layout.specs.declared.layouts.Layout.{Layout}
use Rattle.wgsl_text.specs.Declarations.{Struct, StructMember}
use Rattle.wgsl_text.specs.Types.{TypeSpecifier, TemplateArguments, Named, Template}
use Rattle.wgsl_text.specs.Types.{NoTemplateArguments, SizeArgument, TypeArgument}
use Rattle.text_semantics.specs.Attributes.{size_read}

-- what a table has for a word, if it has something
abbrev pub among : {X : Type 0} → List (List ℕ × X) → (w : List ℕ) → Option X
among [] w = None
among (row ∷ rows) w = if bytes_eq row.0 w then Some row.1 else among rows w

-- ---- types
-- how many bytes a scalar takes, if it is laid out
abbrev pub scalar_size : (w : List ℕ) → Option ℕ
scalar_size w =
    among ((codes "i16", 2) ∷ (codes "u16", 2) ∷ (codes "f16", 2) ∷ (codes "i32", 4) ∷
    (codes "u32", 4) ∷ (codes "f32", 4) ∷ (codes "i64", 8) ∷ (codes "u64", 8) ∷
    (codes "f64", 8) ∷ []) w

-- how many components a vector has
abbrev pub vector_size : (w : List ℕ) → Option ℕ
vector_size w = among ((codes "vec2", 2) ∷ (codes "vec3", 3) ∷ (codes "vec4", 4) ∷ []) w

-- how many columns and rows a matrix has
abbrev pub matrix_size : (w : List ℕ) → Option (ℕ × ℕ)
matrix_size w =
    among ((codes "mat2x2", (2, 2)) ∷ (codes "mat2x3", (2, 3)) ∷ (codes "mat2x4", (2, 4)) ∷
    (codes "mat3x2", (3, 2)) ∷ (codes "mat3x3", (3, 3)) ∷ (codes "mat3x4", (3, 4)) ∷
    (codes "mat4x2", (4, 2)) ∷ (codes "mat4x3", (4, 3)) ∷ (codes "mat4x4", (4, 4)) ∷ []) w

-- an atomic over a scalar of this size, which has 32 or 64 bits
abbrev pub atomic_layout : (w : List ℕ) → (s : ℕ) → Option Layout
atomic_layout w s =
    if bytes_eq (codes "atomic") w
    then (if s == 4 || s == 8 then Some (scalar_layout s) else None) else None

-- a matrix, if the word says how many columns and rows there are, or else an atomic
abbrev pub matrix_or_atomic : (w : List ℕ) → (s : ℕ) → Option (ℕ × ℕ) → Option Layout
matrix_or_atomic w s None = atomic_layout w s
matrix_or_atomic w s (Some n) = matrix_layout n.0 n.1 s

-- a vector, if the word says how many components there are, or else one of these
abbrev pub vector_or_other : (w : List ℕ) → (s : ℕ) → Option ℕ → Option Layout
vector_or_other w s None = matrix_or_atomic w s (matrix_size w)
vector_or_other w s (Some n) = Some (vector_layout n s)

-- a type that a word makes of a scalar
abbrev pub over_scalar : (w : List ℕ) → TypeSpecifier → Option Layout
over_scalar w (Named scalar) =
    option_and_then (λ s. vector_or_other w s (vector_size w)) (scalar_size scalar)
over_scalar w (Template other parts) = None

-- How many elements an array has, or none, where its buffer says how many. An array whose length is
-- told by an override is not laid out.
abbrev pub length_read : TemplateArguments → Option (Option ℕ)
length_read NoTemplateArguments = Some None
length_read (SizeArgument n NoTemplateArguments) = Some (Some n)
length_read _ = None

-- a scalar of this size, or else a struct by its name
abbrev pub scalar_or_struct : (f : List ℕ → Option Layout) → (w : List ℕ) → Option ℕ → Option Layout
scalar_or_struct f w None = f w
scalar_or_struct f w (Some s) = Some (scalar_layout s)

-- a type, and one that a word makes of others
abbrev mutual
  pub type_layout_by : (f : List ℕ → Option Layout) → TypeSpecifier → Option Layout
  type_layout_by f (Named w) = scalar_or_struct f w (scalar_size w)
  type_layout_by f (Template w parts) = template_layout_by f w parts

  pub template_layout_by :
      (f : List ℕ → Option Layout) → (w : List ℕ) → TemplateArguments → Option Layout
  template_layout_by f w (TypeArgument t more) =
      if bytes_eq (codes "array") w then
      option_and_then (λ n. option_and_then (array_layout n) (type_layout_by f t))
      (length_read more)
      else over_scalar w t
  template_layout_by f w _ = None

-- ---- structs
-- a member with the size that `@size` gives it, if its type is laid out
abbrev pub member_laid : (f : List ℕ → Option Layout) → StructMember → Option Member
member_laid f m =
    option_map (λ l. record { layout = l; given = size_read m.attributes })
    (type_layout_by f m.type)

-- all members, if each is laid out
abbrev pub members_laid : (f : List ℕ → Option Layout) → List StructMember → Option (List Member)
members_laid f [] = Some []
members_laid f (m ∷ more) =
    option_and_then (λ k. option_map (λ ks. k ∷ ks) (members_laid f more)) (member_laid f m)

-- the struct of this name
abbrev pub struct_named : List Struct → (w : List ℕ) → Option Struct
struct_named structs w = find (λ s. bytes_eq s.name w) structs

-- its members, if each is laid out
abbrev pub members_named :
    (f : List ℕ → Option Layout) → List Struct → (w : List ℕ) → Option (List Member)
members_named f structs w =
    option_and_then (λ s. members_laid f s.members) (struct_named structs w)

-- the struct of a name, where structs are in one another at most so many levels deep
abbrev pub struct_within : (levels : ℕ) → List Struct → (w : List ℕ) → Option Layout
struct_within zero structs w = None
struct_within (suc levels) structs w =
    option_and_then struct_layout (members_named (struct_within levels structs) structs w)

-- how the struct of a name is laid out, if it has a layout; no struct is in another deeper than
-- there are structs
unfoldable pub struct_layout_read : List Struct → (w : List ℕ) → Option Layout
struct_layout_read structs w = struct_within (length structs) structs w

-- the members of the struct of a name, if each is laid out
abbrev pub members_read : List Struct → (w : List ℕ) → Option (List Member)
members_read structs w = members_named (struct_layout_read structs) structs w

-- where the members of the struct of a name begin
abbrev pub offsets_read : List Struct → (w : List ℕ) → Option (List ℕ)
offsets_read structs w = option_map offsets_of (members_read structs w)

-- how many bytes the struct of a name takes, if it says so
abbrev pub size_of_struct_read : List Struct → (w : List ℕ) → Option ℕ
size_of_struct_read structs w = option_and_then (λ l. l.size) (struct_layout_read structs w)
