-- What a `TypeResolution` stands for, by a module's types.
--
-- Throughout, h is the handle of a type, and t a type.
use Rattle.std.specs.Prelude.{ℕ, ◌<◌, List, length, Option, Some, None, slice_get}
use Rattle.std.specs.Option.{option_map}
use Rattle.naga_ir.specs.declared.types.Type_.{Type_}
use Rattle.naga_ir.specs.declared.types.TypeInner.{TypeInner}
use Rattle.naga_info.specs.declared.info.TypeResolution.{TypeResolution}
use Rattle.naga_info.specs.declared.info.TypeResolution.TheVariants.{Handle, Value}

-- its handle, if it has one, lies in the types
abbrev pub InRange : TypeResolution → List Type_ → Type 0
InRange (Handle h) types = h < length types
InRange (Value inner) types = Unit {0}

-- the type itself
abbrev pub inner_of : TypeResolution → List Type_ → Option TypeInner
inner_of (Handle h) types = option_map (λ t. t.inner) (slice_get types h)
inner_of (Value inner) types = Some inner

abbrev pub handle_of : TypeResolution → Option ℕ
handle_of (Handle h) = Some h
handle_of (Value inner) = None
