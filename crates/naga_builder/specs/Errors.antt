-- Why a builder adds no expression.
use Rattle.std.specs.Prelude.{Bool, true, false, Result, Err}
use Rattle.naga_builder.specs.declared.error.BuildError.{BuildError}
use Rattle.naga_builder.specs.declared.error.BuildError.TheVariants.{Untyped}

-- Was no type found?
abbrev pub is_untyped : {R : Type 0} → Result R BuildError → Bool
is_untyped (Err Untyped) = true
is_untyped _ = false
