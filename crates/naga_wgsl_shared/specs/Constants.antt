-- The texts of constants and of a module's own expressions.
--
-- Throughout, m is a module, c a constant of it, h is a handle of one of its own expressions, and
-- hs are some.
use Rattle.std.specs.Prelude.{ℕ, Bool, true, false, List, [], ◌++◌, codes, if◌then◌else◌, map}
use Rattle.std.specs.Prelude.{slice_get}
use Rattle.std.specs.Option.{option_map_or}
use Rattle.naga_form.specs.ConstantForms.{global_form, written_constant_form}
use Rattle.naga_ir.specs.Operands.{expression_operands}
use Rattle.naga_form.specs.Types.{type_form}
use Rattle.naga_ir.specs.declared.module.Module.{Module}
use Rattle.module_semantics.specs.Types.{type_names}
use Rattle.wgsl_text.specs.Expressions.{Call, Expression, arguments_pieces, more_arguments_pieces}
use Rattle.wgsl_text.specs.Expressions.{operands as arguments_of}
use Rattle.wgsl_text.specs.Reading.{printed_expression}
use Rattle.wgsl_text.specs.Text.{text}
use Rattle.wgsl_text.specs.Types.{Named}

-- a constant
unfoldable pub constant_text : Module → (constant : ℕ) → List ℕ
constant_text m c = printed_expression (written_constant_form m (type_names m) c)

-- the form of one of the module's own expressions, and its text
abbrev pub global_at : Module → (handle : ℕ) → Expression
global_at m h = global_form m (type_names m) h

unfoldable pub global_text : Module → (handle : ℕ) → List ℕ
global_text m h = printed_expression (global_at m h)

-- its parts
abbrev pub parts_at : Module → (handle : ℕ) → List ℕ
parts_at m h = option_map_or expression_operands (slice_get m.global_expressions h) []

-- parts after `(`, and after others where they are no first ones, with the `)` after them
abbrev pub parts_left : Module → (first : Bool) → List ℕ → List ℕ
parts_left m true hs = text (arguments_pieces (arguments_of (map (global_at m) hs)))
parts_left m false hs = text (more_arguments_pieces (arguments_of (map (global_at m) hs)))

unfoldable pub parts_text : Module → (handle : ℕ) → List ℕ
parts_text m h = parts_left m true (parts_at m h)

-- a part, and what stands between it and the one before
unfoldable pub next_part_text : Module → (first : Bool) → (handle : ℕ) → List ℕ
next_part_text m first h = (if first then [] else codes ", ") ++ global_text m h

-- a value of a type, made of the parts of an expression
unfoldable pub made_global_text : Module → (ty handle : ℕ) → List ℕ
made_global_text m ty h =
    printed_expression
    (Call (type_form (type_names m) ty) (arguments_of (map (global_at m) (parts_at m h))))

-- a word that is called with these
unfoldable pub called_global_text : Module → (word : List ℕ) → (handle : ℕ) → List ℕ
called_global_text m word h =
    printed_expression (Call (Named word) (arguments_of (map (global_at m) (parts_at m h))))
