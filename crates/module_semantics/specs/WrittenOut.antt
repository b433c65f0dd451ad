-- What is written out as a constant.
--
-- Throughout, es are expressions that stand together, e is one of them and h a handle of one.
use Rattle.std.specs.Prelude.{ℕ, zero, suc, Bool, true, false, List, slice_get}
use Rattle.std.specs.List.{list_all}
use Rattle.std.specs.Option.{option_map_or}
use Rattle.naga_ir.specs.declared.expression.Expression.{Expression}
use Rattle.naga_ir.specs.declared.expression.Expression.TheVariants as expression

-- an expression is written out as a constant, if these handles are
abbrev pub written_out_over : (ℕ → Bool) → Expression → Bool
written_out_over is_written (expression.Literal value) = true
written_out_over is_written (expression.Constant handle) = true
written_out_over is_written (expression.Override handle) = true
written_out_over is_written (expression.ZeroValue ty) = true
written_out_over is_written (expression.Compose ty components) =
    list_all is_written components.items
written_out_over is_written (expression.Splat size value) = is_written value
written_out_over is_written _ = false

-- a handle is, at most so many levels deep
abbrev pub written_out_within : (levels : ℕ) → List Expression → ℕ → Bool
written_out_within zero es h = false
written_out_within (suc levels) es h =
    option_map_or (written_out_over (written_out_within levels es)) (slice_get es h) false

-- a handle is; operands stand before what they are operands of
abbrev pub is_written_out : List Expression → ℕ → Bool
is_written_out es h = written_out_within (suc h) es h
