-- The large programs have their texts.
use Rattle.std.proofs.Common.{ℕ, zero, suc, refl, rules}
use Rattle.std.specs.Prelude.{codes}
use Rattle.wgsl_text.specs.Words.{is_reserved, is_builtin, IsIdentifier}
use Rattle.wgsl_text.specs.Types.{Template, NoTemplateArguments, TypeArgument, IsType}
use Rattle.wgsl_text.specs.Expressions.{IsExpression}
use Rattle.wgsl_text.specs.Declarations.{IsProgram}
use Rattle.wgsl_text.specs.WorkedTrees.{named_type}
use Rattle.wgsl_text.specs.LargeExamples.{deep, doubled_operand, double, LargePrograms}

deep_form : IsProgram deep
unfolding is_reserved is_builtin
deep_form = search rules

is_t : IsIdentifier (codes "t")
unfolding is_reserved is_builtin
is_t = search rules

is_x : IsIdentifier (codes "x")
unfolding is_reserved is_builtin
is_x = search rules

doubled_form : (n : ℕ) → IsExpression (doubled_operand n)
doubled_form zero = (is_t, is_x)
doubled_form (suc n) = (is_t, (doubled_form n, doubled_form n))

is_d : IsIdentifier (codes "d")
unfolding is_reserved is_builtin
is_d = search rules

is_vector : IsType (Template (codes "vec4") (TypeArgument (named_type "i32") NoTemplateArguments))
unfolding is_reserved is_builtin
is_vector = search rules

is_integer : IsType (named_type "i32")
unfolding is_reserved is_builtin
is_integer = search rules

double_form : IsProgram double
double_form = record {
  enables = tt;
  structs = tt;
  constants = tt;
  overrides = tt;
  globals = tt;
  functions = (
    record {
      name = is_d;
      parameters = (
        record { attributes = tt; binding = refl; name = is_t; type = is_vector },
        (record { attributes = tt; binding = refl; name = is_x; type = is_integer }, tt),
      );
      result = (tt, refl, is_integer);
      locals = tt;
      body = (doubled_form 12, tt);
    },
    tt,
  );
  entry_points = tt;
}

pub large_programs : LargePrograms
large_programs = record {
  deep = record { form = deep_form; text = refl };
  deep_length = refl;
  double = record { form = double_form; text = refl };
  double_length = refl;
}
