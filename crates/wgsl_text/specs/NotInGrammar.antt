-- Texts without a reading.
--
-- Throughout, t is a type, and e an expression.
use Rattle.std.specs.Prelude.{ℕ, List, [], ◌∷◌, codes}
use Rattle.wgsl_text.specs.Types.{TypeSpecifier}
use Rattle.wgsl_text.specs.Expressions.{Expression}
use Rattle.wgsl_text.specs.Declarations.{Program}
use Rattle.wgsl_text.specs.WorkedTrees.{lines}
use Rattle.wgsl_text.specs.Reading.{ReadsType, ReadsExpression, Reads}
use Rattle.wgsl_text.specs.Text.{tokens}

abbrev pub IsNoType : List ℕ → Type 0
IsNoType bytes = (t : TypeSpecifier) → ReadsType (tokens bytes) t → ⊥

abbrev pub IsNoExpression : List ℕ → Type 0
IsNoExpression bytes = (e : Expression) → ReadsExpression (tokens bytes) e → ⊥

abbrev pub IsNoProgram : List ℕ → Type 0
IsNoProgram bytes = (program : Program) → Reads (tokens bytes) program → ⊥

pub record TextsNotInGrammar : Type 0 where
  -- a member of a unary expression that has no parentheses of its own
  pub member_of_unary : IsNoExpression (codes "-(v).x")
  -- a number without a suffix
  pub plain_number : IsNoExpression (codes "1")
  pub plain_argument : IsNoExpression (codes "f(x, 1)")
  -- a number with a point and no suffix, an `f32` with a power of ten, one of hexadecimal digits,
  -- and one without a digit after its point
  pub plain_fraction : IsNoExpression (codes "1.5")
  pub power_of_single : IsNoExpression (codes "1e5f")
  pub hexadecimal : IsNoExpression (codes "0x1f")
  pub open_fraction : IsNoExpression (codes "1.f")
  -- the level of another function, before every other operand, and twice
  pub level_elsewhere : IsNoExpression (codes "textureSampleBias(t, s, p, 0.0)")
  pub level_first : IsNoExpression (codes "textureSampleLevel(0.0, t, s, p)")
  pub two_levels : IsNoExpression (codes "textureSampleLevel(t, s, 0.0, 0.0)")
  -- a binary expression without parentheses
  pub open_binary : IsNoExpression (codes "a + b")
  -- a reserved word as a name: a keyword of the grammar, and another
  pub keyword_called : IsNoExpression (codes "fn(x)")
  pub reserved_called : IsNoExpression (codes "while(x)")
  -- a built-in word as a name
  pub builtin_name : IsNoExpression (codes "f32")
  pub negative_unsigned : IsNoExpression (codes "-5u")
  pub too_great : IsNoExpression (codes "2147483648i")
  pub half_type : IsNoType (codes "vec3<f32")
  pub vector_of_vectors : IsNoType (codes "vec3<vec3<f32>>")
  pub keyword_function : IsNoProgram (codes "fn fn(x: i32) {\n}\n\n")
  pub reserved_parameter : IsNoProgram (codes "fn f(self: i32) {\n}\n\n")
  -- a text that is cut in the middle
  pub cut : IsNoProgram (codes "fn f(x: i32) -> i32 {\n    return x")
  -- `break if` before another statement of `continuing`
  pub break_if_first : IsNoProgram (lines (
      "fn f(c: bool) {" ∷
      "    loop {" ∷
      "        continuing {" ∷
      "            break if c;" ∷
      "            g();" ∷
      "        }" ∷
      "    }" ∷
      "}" ∷
      "" ∷ []))
  -- a switch without a default, and with two: in one case, and in two
  pub no_default : IsNoProgram (lines (
      "fn f(x: i32) {" ∷
      "    switch x {" ∷
      "        case 1: {" ∷
      "        }" ∷
      "    }" ∷
      "}" ∷
      "" ∷ []))
  pub default_twice_in_a_case : IsNoProgram (lines (
      "fn f(x: i32) {" ∷
      "    switch x {" ∷
      "        case default, default: {" ∷
      "        }" ∷
      "    }" ∷
      "}" ∷
      "" ∷ []))
  pub two_defaults : IsNoProgram (lines (
      "fn f(x: i32) {" ∷
      "    switch x {" ∷
      "        case 1, default: {" ∷
      "        }" ∷
      "        default: {" ∷
      "        }" ∷
      "    }" ∷
      "}" ∷
      "" ∷ []))
  -- a member with two sizes, with two alignments, and with its size after its alignment or binding
  pub two_sizes : IsNoProgram (codes "struct S {\n    @size(16) @size(16) a: f32,\n}\n\n")
  pub two_alignments : IsNoProgram (codes "struct S {\n    @align(8) @align(8) a: f32,\n}\n\n")
  pub size_after_alignment : IsNoProgram (
      codes "struct S {\n    @align(16) @size(16) a: f32,\n}\n\n")
  pub size_after_binding : IsNoProgram (
      codes "struct S {\n    @location(0) @size(16) a: f32,\n}\n\n")
  pub unknown_enable : IsNoProgram (codes "enable f61;\n\n")
  pub unknown_builtin_value : IsNoProgram (codes "fn f(@builtin(colour) x: i32) {\n}\n\n")
  pub stage_without_size : IsNoProgram (codes "@compute \nfn main() {\n}\n")
  -- a built-in word as the size of a workgroup
  pub builtin_size : IsNoProgram (codes "@compute @workgroup_size(f32, 1, 1) \nfn main() {\n}\n")
