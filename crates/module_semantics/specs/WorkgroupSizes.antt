-- How many invocations a workgroup of an entry point has along each axis: so many, or what an
-- override sets. A number in whose place an override stands says nothing.
--
-- Throughout, names are those of the module, n is the number along an axis, and o an override.
use Rattle.std.specs.Prelude.{ℕ, List, [], ◌∷◌, Option, Some, None}
use Rattle.naga_ir.specs.declared.module.EntryPoint.{EntryPoint}
use Rattle.naga_naming.specs.Keys.{NameMap}
use Rattle.wgsl_text.specs.Attributes.{SizePart, FixedSize, NamedSize}
use Rattle.module_semantics.specs.Names.{override_name}

-- along one axis
abbrev pub size_part : NameMap → ℕ → Option ℕ → SizePart
size_part names n None = FixedSize n
size_part names n (Some o) = NamedSize (override_name names o)

-- along each axis of which both lists tell
abbrev pub size_parts_of : NameMap → List ℕ → List (Option ℕ) → List SizePart
size_parts_of names (n ∷ sizes) (o ∷ overrides) =
    size_part names n o ∷ size_parts_of names sizes overrides
size_parts_of names _ _ = []

abbrev pub size_parts : NameMap → EntryPoint → List SizePart
size_parts names e = size_parts_of names e.workgroup_size e.workgroup_size_overrides
