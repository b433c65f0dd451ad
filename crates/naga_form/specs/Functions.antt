-- The function that is written for a function of a module, under the module's names.
--
-- Throughout, m is a module, info what is known of it, flags say how it is written, f is a function
-- with the number g, es what is known of its expressions, t are the names that types are spelled
-- with, and named tells the names of the labels that front ends gave.
use Rattle.std.specs.Prelude.{ℕ, List, [], ◌∷◌, Option, None, Some, ◌+◌}
use Rattle.std.specs.Option.{option_map}
use Rattle.naga_ir.specs.declared.module.Function as ir_function
use Rattle.naga_ir.specs.declared.module.FunctionArgument.{FunctionArgument}
use Rattle.naga_ir.specs.declared.module.FunctionResult.{FunctionResult}
use Rattle.naga_ir.specs.declared.module.Module.{Module}
use Rattle.naga_naming.specs.Keys.{NameMap}
use Rattle.wgsl_text.specs.Functions.{Parameter, Result, NoResult, ResultOf, Local, Function}
use Rattle.module_semantics.specs.Names.{function_name, argument_name, expression_name, LabelNames}
use Rattle.naga_spelling.specs.Contexts.{names_of, Names as TypeNames}
use Rattle.naga_form.specs.Attributes.{passing_attributes}
use Rattle.naga_form.specs.Types.{type_form, annotated_type}
use Rattle.naga_ir.specs.declared.module.LocalVariable.{LocalVariable}
use Rattle.naga_info.specs.declared.info.ExpressionInfo.{ExpressionInfo}
use Rattle.naga_info.specs.declared.info.ModuleInfo.{ModuleInfo}
use Rattle.shader_runs.specs.Scope.{Naming, at_start}
use Rattle.module_semantics.specs.Namings.{function_naming}
use Rattle.naga_form.specs.Expressions.{Source, function_source, value_form}
use Rattle.naga_form.specs.Statements.{lines_form}
use Rattle.naga_back.specs.declared.flags.WriterFlags.{WriterFlags}
use Rattle.naga_back.specs.Flags.{annotates_types}

-- the locals from this one on, with their first values
abbrev pub locals_form :
    Naming → TypeNames → Source → ℕ → List LocalVariable → List Local
locals_form n t source l [] = []
locals_form n t source l (v ∷ more) =
    record {
      name = n.names.local_ l;
      type = type_form t v.ty;
      value = option_map (value_form n source (at_start n.function)) v.init;
    } ∷ locals_form n t source (l + 1) more

abbrev pub parameter_form : NameMap → Module → ℕ → ℕ → FunctionArgument → Parameter
parameter_form names m g number a =
    record {
      attributes = passing_attributes a.binding;
      name = argument_name m names g number;
      type = type_form (names_of m.types names) a.ty;
    }

-- the arguments from this number on
abbrev pub parameters_form : NameMap → Module → ℕ → ℕ → List FunctionArgument → List Parameter
parameters_form names m g number [] = []
parameters_form names m g number (a ∷ more) =
    parameter_form names m g number a ∷ parameters_form names m g (number + 1) more

abbrev pub result_form : TypeNames → Option FunctionResult → Result
result_form t None = NoResult
result_form t (Some r) = ResultOf (passing_attributes r.binding) (type_form t r.ty)

-- a function, with what is known of its expressions
abbrev pub function_form :
    WriterFlags → NameMap → (named : ℕ → List ℕ) → Module → ModuleInfo → ℕ →
    ir_function.Function → List ExpressionInfo → Function
function_form flags names named m info g f es =
    let n : Naming = function_naming names named m info g f es in
    let source : Source = function_source flags m info f es in
    let t : TypeNames = names_of m.types names in
    record {
      name = function_name m names g;
      parameters = parameters_form names m g 0 f.arguments.items;
      result = result_form t f.result;
      locals = locals_form n t source 0 f.local_variables;
      body =
          lines_form n (annotated_type (annotates_types flags) m t es) source 0 f.body
          (at_start n.function);
    }

-- the functions from this number on, each with what is known of its expressions
abbrev pub functions_under :
    LabelNames → WriterFlags → NameMap → Module → ModuleInfo → ℕ →
    List ir_function.Function → List (List ExpressionInfo) → List Function
functions_under named flags names m info g (f ∷ fs) (es ∷ ess) =
    function_form flags names (named g) m info g f es
    ∷ functions_under named flags names m info (g + 1) fs ess
functions_under named flags names m info g _ _ = []

-- so they are in a text of the whole module
abbrev pub functions_form :
    WriterFlags → NameMap → Module → ModuleInfo → ℕ → List ir_function.Function →
    List (List ExpressionInfo) → List Function
functions_form flags names m info g fs ess =
    functions_under (expression_name m) flags names m info g fs ess
