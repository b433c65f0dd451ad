-- WGSL's rules of layout: of what a value's place in memory is a multiple (its alignment), how much
-- room it takes (its size), and where the members of a struct begin (their offsets), all in bytes.
-- They ask for numbers alone, so that a text and a module are laid out by the same rules.
--
-- The rules are those of the WGSL specification, sections "Alignment and Size" and "Structure
-- Member Layout". Integers of 16 bits, scalars of 64 bits, atomics of these and of floats, and
-- matrices of integers and of floats of 64 bits have no row there; that they are laid out as all
-- other numbers is this project's own rule. So is that truth values, which no buffer holds, have no
-- layout.
--
-- Throughout, s is the size of a scalar or of a type, n how many parts there are, a an alignment, k
-- a member, next the one after it, more those that are left, and end the first byte after the
-- members so far.
use Rattle.std.specs.Prelude.{ℕ, ◌+◌, ◌*◌, ◌==◌, ◌&&◌, Bool, true, false, List, [], ◌∷◌, max}
use Rattle.std.specs.Prelude.{Option, Some, None, if◌then◌else◌, is_some}
use Rattle.std.specs.Int.{next_multiple_of}
use Rattle.std.specs.Option.{option_map, option_map_or, option_or}
use Rattle.wgsl_layout.specs.declared.layouts.Layout.{Layout}

-- ---- scalars, vectors, matrices, arrays ("Alignment and Size")
-- a number, or an atomic one, stands at a multiple of its size
abbrev pub scalar_layout : (s : ℕ) → Layout
scalar_layout s = record { alignment = s; size = Some s }

-- to how many of its components a vector is aligned: `vec3` to as many as `vec4`
abbrev pub component_rooms : (n : ℕ) → ℕ
component_rooms n = if n == 3 then 4 else n

-- a vector of n components, each of s bytes
abbrev pub vector_layout : (n s : ℕ) → Layout
vector_layout n s = record { alignment = component_rooms n * s; size = Some (n * s) }

-- how far apart the elements of an array begin: an element's size, rounded up to its alignment
abbrev pub stride_of : (a s : ℕ) → ℕ
stride_of a s = next_multiple_of s a

-- An array of n elements; without n, of as many as its buffer has room for, and then it has no
-- size. Elements without a size make no array.
abbrev pub array_layout : (n : Option ℕ) → (element : Layout) → Option Layout
array_layout n element =
    option_map (λ s. record {
      alignment = element.alignment;
      size = option_map (λ n. n * stride_of element.alignment s) n;
    }) element.size

-- the same, if the array's elements begin as far apart in the module; no text can give another
-- stride
abbrev pub kept_array : (stride : ℕ) → (n : Option ℕ) → (element : Layout) → Option Layout
kept_array stride n element =
    if option_map_or (λ s. stride == stride_of element.alignment s) element.size false
    then array_layout n element else None

-- a matrix is laid out as an array of its columns, which are vectors
abbrev pub matrix_layout : (columns rows s : ℕ) → Option Layout
matrix_layout columns rows s = array_layout (Some columns) (vector_layout rows s)

-- ---- structs ("Structure Member Layout")
-- a member of a struct, by its type's layout and the size that `@size` gives it, if it is there
pub record Member : Type 0 where
  pub layout : Layout
  pub given : Option ℕ

-- the size that it takes: the one that it is given, or else its type's
abbrev pub taken : Member → Option ℕ
taken k = option_or k.given k.layout.size

-- where it begins, after those before it: at the next multiple of its alignment
abbrev pub begins : (end : ℕ) → Member → ℕ
begins end k = next_multiple_of end k.layout.alignment

-- each but the last has a size
abbrev pub has_sizes : List Member → Bool
has_sizes [] = true
has_sizes (k ∷ []) = true
has_sizes (k ∷ next ∷ more) = is_some (taken k) && has_sizes (next ∷ more)

-- the first byte after a member, if it is known where those before it end and the member has a size
abbrev pub end_after : (end : Option ℕ) → Member → Option ℕ
end_after None k = None
end_after (Some end) k = option_map (λ s. begins end k + s) (taken k)

-- where each begins; of those after a member without a size nothing is said
abbrev pub offsets_from : (end : Option ℕ) → List Member → List ℕ
offsets_from end [] = []
offsets_from None (k ∷ more) = []
offsets_from (Some end) (k ∷ more) =
    begins end k ∷ offsets_from (end_after (Some end) k) more

-- the first byte after the last, if all have a size
abbrev pub end_of : (end : Option ℕ) → List Member → Option ℕ
end_of end [] = end
end_of end (k ∷ more) = end_of (end_after end k) more

-- the greatest alignment among a and theirs
abbrev pub greatest_from : (a : ℕ) → List Member → ℕ
greatest_from a [] = a
greatest_from a (k ∷ more) = greatest_from (max a k.layout.alignment) more

abbrev pub greatest_alignment : List Member → ℕ
greatest_alignment members = greatest_from 0 members

-- where the members of a struct begin: the first at 0
abbrev pub offsets_of : List Member → List ℕ
offsets_of members = offsets_from (Some 0) members

-- a struct whose members end here has that size, rounded up to its alignment; without an end, no
-- size
abbrev pub closed : (a : ℕ) → (end : Option ℕ) → Layout
closed a end =
    record { alignment = a; size = option_map (λ end. next_multiple_of end a) end }

-- A struct is aligned as its most aligned member is. It has members, and each but the last has a
-- size.
abbrev pub struct_layout : List Member → Option Layout
struct_layout [] = None
struct_layout members =
    if has_sizes members
    then Some (closed (greatest_alignment members) (end_of (Some 0) members)) else None
