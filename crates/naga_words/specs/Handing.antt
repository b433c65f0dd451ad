-- What contracts see of a sink over a writer of bytes.
use Rattle.std.specs.Prelude.{ℕ, List}

-- the writer, the text that was handed to it, and the number of failures
pub record Handing (W : Type 0) : Type 0 where
  pub out : W
  pub text : List ℕ
  pub failures : ℕ
