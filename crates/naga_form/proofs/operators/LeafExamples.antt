-- Examples of the texts of leaves, computed: each as a value and as a reference, and what is loaded
-- and taken through them.
--
-- Throughout, the function has any shape, and a module whose constants these are is any other
-- module.
use Rattle.std.proofs.Common.{◌≡◌, ℕ, zero, suc, pos, true, false, List, [], ◌∷◌, Some, None, refl}
use Rattle.std.proofs.Common.{map, codes, String, Global}
use Rattle.std.specs.Prelude.{slice_get}
use Rattle.std.specs.Fmt.{digits}
use Rattle.std.specs.Option.{option_map}
use Rattle.naga_info.specs.declared.info.TypeResolution.TheVariants.{Handle}
use Rattle.naga_ir.specs.declared.expression.Expression as ir
use Rattle.naga_ir.specs.declared.expression.Expression.TheVariants as expression
use Rattle.naga_ir.specs.declared.expression.Literal.TheVariants as literal
use Rattle.naga_ir.specs.declared.module.Constant.{Constant}
use Rattle.naga_ir.specs.declared.module.Module as ir_module
use Rattle.naga_ir.specs.declared.types.AddressSpace.TheVariants as space
use Rattle.naga_ir.specs.declared.types.ArraySize.TheVariants as size
use Rattle.naga_ir.specs.declared.types.ScalarKind.TheVariants as kind
use Rattle.naga_ir.specs.declared.types.TypeInner.TheVariants as inner
use Rattle.naga_ir.specs.declared.types.Type_.{Type_}
use Rattle.module_semantics.specs.ExpressionOperators.{ExpressionContext}
use Rattle.module_semantics.specs.ExpressionShapes.{ModuleDeclarations}
use Rattle.module_semantics.specs.Names.{constant_name, module_names}
use Rattle.module_semantics.specs.Types.{type_names}
use Rattle.naga_form.specs.ConstantForms.{written_constant_form}
use Rattle.naga_form.specs.Expressions.{Source, as_reference, as_value, plain_form}
use Rattle.naga_spelling.specs.Contexts.{Names as TypeNames}
use Rattle.shader_runs.specs.Program.{Function, NamedConstant}
use Rattle.shader_runs.specs.Scope.{Handles, Inline, Naming}
use Rattle.shader_runs.specs.Value.{OtherType}
use Rattle.wgsl_text.specs.Expressions.{Name}
use Rattle.wgsl_text.specs.Reading.{printed_expression}

-- Each has the type with its handle; the type after them is that of the variable `data`.
abbrev types : List Type_
types = map (λ it. record { name = None; inner = it }) (
    inner.Scalar (record { kind = kind.Sint; width = 4 }) ∷
    inner.Scalar (record { kind = kind.Sint; width = 4 }) ∷ inner.Pointer 10 space.Private ∷
    inner.Sampler false ∷ inner.Scalar (record { kind = kind.Uint; width = 4 }) ∷
    inner.Pointer 0 space.Function ∷ inner.Pointer 0 space.Function ∷
    inner.Scalar (record { kind = kind.Sint; width = 4 }) ∷ inner.Pointer 0 space.Private ∷
    inner.Scalar (record { kind = kind.Sint; width = 4 }) ∷ inner.Array 0 size.Dynamic 4 ∷ [])

abbrev expressions : List ir.Expression
expressions =
    expression.Constant 0 ∷ expression.Override 0 ∷ expression.GlobalVariable 0 ∷
    expression.GlobalVariable 1 ∷ expression.FunctionArgument 0 ∷ expression.FunctionArgument 1 ∷
    expression.LocalVariable 0 ∷ expression.Load 6 ∷ expression.Access 2 4 ∷ expression.Load 8 ∷ []

abbrev type_words : TypeNames
type_words = record {
  types = types;
  struct_name = λ h. codes "S";
  override_name = λ h. codes "scale";
}

abbrev context : ExpressionContext
context = record {
  types = types;
  spelled = λ r. None;
  numbers = λ r. [];
  known = λ h. option_map (λ t. Handle h) (slice_get types h);
}

-- the second of two
abbrev second : {X : Type 0} → (first other : X) → ℕ → X
second first other zero = first
second first other (suc h) = other

-- the second variable stands in the handle space
abbrev declared : ModuleDeclarations
declared = record {
  context = context;
  value_type = λ r. OtherType (codes "T");
  constant_tree = λ h. Some (NamedConstant h);
  override_tree = λ h. NamedConstant h;
  is_held = second false true;
  member = λ h index. codes "member";
}

abbrev source : Source
source = record {
  expressions = expressions;
  declared = declared;
  type_names = type_words;
  constant = λ h. Name (codes "limit");
  portable = false;
}

module _ (f : Function) where
  abbrev naming : Naming
  naming = record {
    function = f;
    names = record {
      outer = record {
        constant = λ h. codes "limit";
        global = second (codes "data") (codes "linear");
        function = λ h. codes "main";
        vocabulary = record { is_request = λ word. false; is_operator = λ word. true };
      };
      argument = second (codes "index") (codes "target");
      local_ = λ h. codes "sum";
      named = λ k. [];
      numbered = λ h. [];
      earlier = 0;
    };
  }

  abbrev handles : Handles
  handles = λ h. Inline

  abbrev value : ℕ → List ℕ
  value h = printed_expression (as_value (plain_form naming source handles h))

  abbrev reference : ℕ → List ℕ
  reference h = printed_expression (as_reference (plain_form naming source handles h))

  -- ---- of the module
  constant_named : value 0 ≡ codes "limit"
  constant_named = refl

  override_named : value 1 ≡ codes "scale"
  override_named = refl

  variable_value : value 2 ≡ codes "(&data)"
  variable_value = refl

  variable_reference : reference 2 ≡ codes "data"
  variable_reference = refl

  -- one in the handle space is a value
  handle_variable_value : value 3 ≡ codes "linear"
  handle_variable_value = refl

  handle_variable_reference : reference 3 ≡ codes "(*linear)"
  handle_variable_reference = refl

  -- ---- of the function
  argument_value : value 4 ≡ codes "index"
  argument_value = refl

  argument_reference : reference 5 ≡ codes "(*target)"
  argument_reference = refl

  local_value : value 6 ≡ codes "(&sum)"
  local_value = refl

  local_reference : reference 6 ≡ codes "sum"
  local_reference = refl

  -- ---- through them
  local_loaded : value 7 ≡ codes "sum"
  local_loaded = refl

  element_value : value 8 ≡ codes "(&data[index])"
  element_value = refl

  element_reference : reference 8 ≡ codes "data[index]"
  element_reference = refl

  element_loaded : value 9 ≡ codes "data[index]"
  element_loaded = refl

-- a constant with a name is written as its name, one without as its initialiser
module _ (other : ir_module.Module) (label : String Global) where
  abbrev constants : List Constant
  constants =
      record { name = None; ty = 0; init = 0 } ∷ record { name = Some label; ty = 0; init = 0 } ∷ []

  abbrev m : ir_module.Module
  m =
      record other {
        constants = constants;
        global_expressions = expression.Literal (literal.I32 (pos 7)) ∷ [];
      }

  unnamed_written : printed_expression (written_constant_form m (type_names m) 0) ≡ codes "7i"
  unfolding digits
  unnamed_written = refl

  named_written : written_constant_form m (type_names m) 1 ≡ Name (constant_name (module_names m) 1)
  named_written = refl
