-- What the code's views of types stand for.
--
-- Throughout, types are a module's types, l is a level, o what a type is over, and t the top of a
-- type.
use Rattle.std.specs.Prelude.{ℕ, suc, Bool, true, ◌&&◌, not, List, [], ◌∷◌, ◌++◌, Option, Some}
use Rattle.std.specs.Prelude.{None, unwrap_or}
use Rattle.std.specs.Bool.{nat_eq}
use Rattle.std.specs.Option.{is_some, option_map}
use Rattle.naga_ir.specs.declared.types.Type_.{Type_}
use Rattle.naga_acceptance.specs.declared.type_numbers.Level.{Level}
use Rattle.naga_acceptance.specs.declared.alike.Over.{Over}
use Rattle.naga_acceptance.specs.declared.alike.Over.TheVariants.{Nothing, Type_ as TypeAt}
use Rattle.naga_acceptance.specs.declared.alike.Over.TheVariants.{Value as ValueOver}
use Rattle.naga_acceptance.specs.declared.alike.Top.{Top}
use Rattle.naga_acceptance.specs.declared.alike.Identity.{Identity}
use Rattle.naga_acceptance.specs.declared.alike.Identity.TheVariants.{Formed, Unsupported}
use Rattle.module_semantics.specs.AlikeTypes.{key_within, handle_key, value_key}
use Rattle.module_semantics.specs.TypeIdentity.{level}

-- the six numbers of a level
abbrev pub numbers : Level → List ℕ
numbers l = level l.tag l.first l.second l.third l.fourth l.fifth

-- the form of what a type is over: nothing, a type so many levels deep, or a scalar or a vector
abbrev pub over_key : List Type_ → Over → Option (List ℕ)
over_key types Nothing = Some []
over_key types (TypeAt handle deeper) = key_within (suc deeper) types handle
over_key types (ValueOver size s) = value_key size s

-- the form of a type by its top, where it has one
abbrev pub top_key : List Type_ → Option Top → Option (List ℕ)
top_key types None = None
top_key types (Some t) = option_map (λ rest. numbers t.level ++ rest) (over_key types t.over)

-- the forms of the types that a type is over: whole, or at most so many levels deep
abbrev pub bases : List Type_ → (within : Option ℕ) → ℕ → Option (List ℕ)
bases types None = handle_key types
bases types (Some levels) = key_within levels types

-- how many more levels there may be below
abbrev pub depth : Over → ℕ
depth (TypeAt handle deeper) = suc deeper
depth _ = 0

-- one more than what is below: a measure of what is left of a type
abbrev pub rank : Over → ℕ
rank Nothing = 0
rank over = suc (depth over)

-- the form of what a type is over, by the form of its top
abbrev pub next_key : Over → (form : Option (List ℕ)) → Option (List ℕ)
next_key Nothing form = Some []
next_key over form = form

-- the numbers of a type without a form, if there is such a type
abbrev pub unsupported_code : Option (List ℕ) → List ℕ
unsupported_code None = 0 ∷ []
unsupported_code (Some code) = 2 ∷ code

-- what tells a type: its form, or what it is
abbrev pub identity_numbers : List Type_ → Identity → List ℕ
identity_numbers types (Formed top) = unwrap_or (top_key types (Some top)) []
identity_numbers types (Unsupported level) = 32 ∷ unsupported_code (option_map numbers level)

-- what it is over has a form, and it is told apart from what has none
abbrev pub is_whole : List Type_ → Identity → Bool
is_whole types (Formed top) = is_some (over_key types top.over) && not (nat_eq top.level.tag 32)
is_whole types (Unsupported level) = true
