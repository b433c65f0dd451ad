-- Which statement of a body gives an expression.
--
-- Throughout, h is the handle of an expression, s a statement and ss further ones, and n a number.
use Rattle.std.specs.Prelude.{ℕ, Bool, false, ◌&&◌, ◌==◌, nat_le, nat_lt, List, [], ◌∷◌}
use Rattle.std.specs.Prelude.{Option, Result, Ok, Err, if◌then◌else◌}
use Rattle.std.specs.Hash.DefaultHasher.{wrapping_add}
use Rattle.std.specs.Option.{option_map_or}
use Rattle.std.specs.Result.{result_ok}
use Rattle.naga_ir.specs.InOrder.{trees_in}
use Rattle.naga_ir.specs.Operands.{own_result}
use Rattle.naga_ir.specs.StatementTree.{StatementTree, BlockTree, simple, emit}

-- an Emit that names the expression, or a statement with it as its result
abbrev pub gives : (h : ℕ) → StatementTree → Bool
gives h (simple (emit first end)) = nat_le first h && nat_lt h end
gives h s = option_map_or (λ r. r == h) (own_result s) false

-- the number of the first of these statements that gives it, or else of the one after them; the first
-- of them has this number
abbrev pub giving : (h n : ℕ) → List StatementTree → Result ℕ ℕ
giving h n [] = Err n
giving h n (s ∷ ss) = if gives h s then Ok n else giving h (wrapping_add n 1) ss

-- that of the first statement of a body that gives it, those in blocks among them
abbrev pub giver : BlockTree → (h : ℕ) → Option ℕ
giver body h = result_ok (giving h 0 (trees_in body))
