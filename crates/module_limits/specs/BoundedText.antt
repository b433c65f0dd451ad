-- What a text with a size_limit holds.
use Rattle.std.specs.Prelude.{ℕ, List}

-- its bytes, how many it may have, and how often it refused more
pub record BoundedText : Type 0 where
  pub text : List ℕ
  pub size_limit : ℕ
  pub failures : ℕ
