-- The names of bound expressions, from what is written of them in turn.
-- Serves `write_numbered_name`.
use Rattle.std.proofs.Common.{◌≡◌, ℕ, ◌<◌, ◌^◌, codes, decimal, ap}
use Rattle.std.proofs.lemmas.Bool.{lt-ltb}
use Rattle.module_semantics.specs.Names.{numbered_name, numbered_text}
use Rattle.naga_words.specs.Output.{joined_texts}

-- the name of a handle that fits a machine word
pub bound_row : (handle : ℕ) → handle < 2 ^ 64 → numbered_name handle ≡ joined_texts (codes "_e") (decimal handle)
unfolding numbered_name joined_texts
bound_row handle lt = ap (λ b. numbered_text b handle) (lt-ltb handle (2 ^ 64) lt)
