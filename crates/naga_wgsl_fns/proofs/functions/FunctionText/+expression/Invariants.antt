use Rattle.std.proofs.Common.{◌+◌, ◌*◌, ℕ, Bool, List, max}
use Rattle.naga_words.specs.Output.{OutputView, output_view}
use Rattle.naga_words.proofs.Writing.{Leaves}
use Rattle.std.specs.List.{AllByRecursion}
use Rattle.std.specs.Option.{option_to_list}
use Rattle.naga_wgsl_fns.proofs.Preconditions.{highest, IsOperand}
use Rattle.naga_ir.specs.Operands.{level_operands}
use Rattle.naga_scope.specs.declared.points.Availability.{Availability}
use Rattle.naga_wgsl_fns.specs.Expressions.{operands_left, operands_text}
use Rattle.naga_wgsl_fns.specs.declared.functions.FunctionText.{FunctionText}
use Rattle.naga_wgsl_fns.proofs.functions.FunctionText.+expression.Given as goal

-- An expression's own form is made of the forms of those before it, its operands; its value may be
-- its own form, what it points at is its value, and a reference may be that.
abbrev pub decreases-write_operands : goal.decreases-write_operands
decreases-write_operands g l = 16 * l.handle

abbrev pub decreases-write_called : goal.decreases-write_called
decreases-write_called g l = 16 * l.handle + 1

abbrev pub decreases-write_made : goal.decreases-write_made
decreases-write_made g l = 16 * l.handle + 1

abbrev pub decreases-write_load : goal.decreases-write_load
decreases-write_load g l = 16 * l.handle + 3

abbrev pub decreases-write_part_end : goal.decreases-write_part_end
decreases-write_part_end g l = 16 * l.handle

abbrev pub decreases-write_part : goal.decreases-write_part
decreases-write_part g l = 16 * l.handle + 1

abbrev pub decreases-write_part_address : goal.decreases-write_part_address
decreases-write_part_address g l = 16 * l.handle + 2

abbrev pub decreases-write_part_value : goal.decreases-write_part_value
decreases-write_part_value g l = 16 * l.handle + 3

abbrev pub decreases-write_own : goal.decreases-write_own
decreases-write_own g l = 16 * l.handle + 4

abbrev pub decreases-write_value : goal.decreases-write_value
decreases-write_value g l = 16 * l.handle + 5

abbrev pub decreases-write_dereference : goal.decreases-write_dereference
decreases-write_dereference g l = 16 * l.handle + 6

abbrev pub decreases-write_in_parentheses : goal.decreases-write_in_parentheses
decreases-write_in_parentheses g l = 16 * l.handle + 6

abbrev pub decreases-write_base : goal.decreases-write_base
decreases-write_base g l = 16 * l.handle + 7

abbrev pub decreases-write_part_reference : goal.decreases-write_part_reference
decreases-write_part_reference g l = 16 * l.handle + 7

abbrev pub decreases-write_global_reference : goal.decreases-write_global_reference
decreases-write_global_reference g l = 16 * l.handle + 7

abbrev pub decreases-write_reference : goal.decreases-write_reference
decreases-write_reference g l = 16 * l.handle + 8

abbrev pub decreases-write_part_base : goal.decreases-write_part_base
decreases-write_part_base g l = 16 * l.base + 9

abbrev pub decreases-write_swizzle : goal.decreases-write_swizzle
decreases-write_swizzle g l = 16 * l.vector + 8

abbrev pub decreases-write_index : goal.decreases-write_index
decreases-write_index g l = 16 * l.index + 6

abbrev pub decreases-write_infix : goal.decreases-write_infix
decreases-write_infix g l = 16 * max l.left l.right + 6

abbrev pub decreases-write_prefix : goal.decreases-write_prefix
decreases-write_prefix g l = 16 * l.operand + 6

abbrev pub decreases-write_next_operand : goal.decreases-write_next_operand
decreases-write_next_operand g l = 16 * l.operand + 6

abbrev pub decreases-write_sampling : goal.decreases-write_sampling
decreases-write_sampling g l = 16 * l.handle + 3

abbrev pub decreases-write_further : goal.decreases-write_further
decreases-write_further g l = 16 * highest (option_to_list l.operand) + 7

abbrev pub decreases-write_level : goal.decreases-write_level
decreases-write_level g l = 16 * highest (level_operands l.level) + 7

abbrev pub decreases-write_offset : goal.decreases-write_offset
decreases-write_offset g l = 16 * highest (option_to_list l.offset) + 7

-- what is left to be written of the operands, which stand before the expression and are written
pub record OperandsLeft (start now : OutputView) (f : FunctionText) (table : List Availability)
    (handle : ℕ) (first : Bool) (left : List ℕ) : Type 0 where
  pub writes : Leaves start now (operands_text f table handle) (operands_left f table first left)
  pub before : AllByRecursion (IsOperand f handle) left

abbrev pub invariant-write_operands-loop-operand : goal.invariant-write_operands-loop-operand
invariant-write_operands-loop-operand g l =
    OperandsLeft (output_view g.W.TextSink.text g.W.TextSink.failures l.initial.out)
    (output_view g.W.TextSink.text g.W.TextSink.failures l.out) l.self l.scope.table l.fn.handle l.is_first
    l.operand-iterator
