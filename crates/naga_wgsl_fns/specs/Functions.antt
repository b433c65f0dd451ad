-- The text of a function and of its parts.
use Rattle.std.specs.Prelude.{◌≡◌, ℕ, Bool, List, [], ◌∷◌, ◌++◌, Option, Some, codes, slice_get}
use Rattle.std.specs.Prelude.{get_or, unwrap_or, ◌==◌, if◌then◌else◌}
use Rattle.std.specs.Option.{option_map, option_map_or}
use Rattle.naga_ir.specs.declared.module.Function as ir
use Rattle.naga_ir.specs.declared.module.FunctionArgument.{FunctionArgument}
use Rattle.naga_ir.specs.declared.module.FunctionResult.{FunctionResult}
use Rattle.naga_ir.specs.declared.module.LocalVariable.{LocalVariable}
use Rattle.naga_ir.specs.declared.module.Module.{Module}
use Rattle.naga_info.specs.declared.info.ExpressionInfo.{ExpressionInfo}
use Rattle.naga_info.specs.declared.info.ModuleInfo.{ModuleInfo}
use Rattle.shader_runs.specs.Scope.{at_start}
use Rattle.module_semantics.specs.DeclarationForms.{entry_point_numbered}
use Rattle.module_semantics.specs.Names.{expression_name, module_names}
use Rattle.wgsl_text.specs.Expressions.{Expression}
use Rattle.naga_form.specs.Expressions.{value_form}
use Rattle.wgsl_text.specs.Functions.{Local, Function, value_pieces, parameter_pieces}
use Rattle.wgsl_text.specs.Functions.{parameters_pieces, result_pieces, locals_pieces, group_end}
use Rattle.wgsl_text.specs.Functions.{function_pieces}
use Rattle.naga_form.specs.Attributes.{passing_attributes}
use Rattle.naga_form.specs.Functions.{parameter_form, function_form}
use Rattle.naga_form.specs.Types.{type_form}
use Rattle.naga_scope.specs.Plans.{Planned}
use Rattle.naga_scope.specs.Availabilities.{TextPoint}
use Rattle.naga_scope.specs.Changes.{block_changes}
use Rattle.naga_scope.specs.declared.points.Availability.{Availability}
use Rattle.wgsl_text.specs.Text.{text}
use Rattle.naga_back.specs.declared.context.FunctionType.{FunctionType}
use Rattle.naga_back.specs.declared.flags.WriterFlags.{WriterFlags}
use Rattle.naga_wgsl_fns.specs.declared.functions.FunctionText.{FunctionText}
use Rattle.naga_wgsl_fns.specs.FunctionText.{named_in, handles_in, source, naming}
use Rattle.naga_wgsl_fns.specs.FunctionText.{number, type_names_of}
use Rattle.naga_wgsl_fns.specs.BodyStates.{HasScope}
use Rattle.naga_scope.specs.KnownModules.{number_in}
use Rattle.naga_scope.specs.declared.known_module.KnownModule.{KnownModule}
use Rattle.module_semantics.specs.FunctionNumbers.{all_functions, all_infos}
use Rattle.naga_wgsl_shared.specs.Attributes.{attributes_text}
use Rattle.naga_wgsl_fns.specs.Names.{name_of_function}
use Rattle.naga_wgsl_shared.specs.Stages.{stage_text}
use Rattle.naga_wgsl_fns.specs.Statements.{lines_text}
use Rattle.naga_wgsl_fns.specs.Types.{type_text}

-- what is known of the expressions of the function with this number
abbrev pub known_of : ModuleInfo → ℕ → List ExpressionInfo
known_of info number = unwrap_or (slice_get (all_infos info) number) []

-- the names that a plan has
abbrev pub names_of : Planned → (number : ℕ) → List ℕ
names_of plan number = get_or plan.named number []

-- the stage of the entry point with this number; nothing in front of a function that others may
-- call
abbrev pub stage_before : Module → (number : ℕ) → List ℕ
stage_before m number = option_map_or (stage_text m) (entry_point_numbered m number) []

-- the text of a function of the module, after that of its stage, with what is known of its
-- expressions and the names that front ends gave in it
abbrev pub text_of :
    Module → ModuleInfo → WriterFlags → (named : ℕ → List ℕ) → (number : ℕ) → ir.Function →
    List ExpressionInfo → List ℕ
text_of m info flags named number f known =
    let form = function_form flags (module_names m) named m info number f known in
    stage_before m number ++ text (function_pieces form)

-- the same of the module's function with this number; nothing, where there is none
abbrev pub text_under :
    Module → ModuleInfo → WriterFlags → (named : ℕ → List ℕ) → (number : ℕ) → List ℕ
text_under m info flags named number =
    option_map_or (λ f. text_of m info flags named number f (known_of info number))
    (slice_get (all_functions m) number) []

-- that of a function that is planned so
abbrev pub planned_text : KnownModule → FunctionType → Planned → List ℕ
planned_text k ty plan =
    text_under k.shader.now k.info.now k.flags (names_of plan) (number_in k ty)

-- and in a text of the whole module
abbrev pub text_of_function : Module → ModuleInfo → WriterFlags → (number : ℕ) → List ℕ
text_of_function m info flags number = text_under m info flags (expression_name m number) number

-- the form of a function
abbrev pub form_of : FunctionText → Function
form_of f =
    let m = f.known.shader.now in
    let info = f.known.info.now in
    function_form f.known.flags (module_names m) (named_in f) m info (number f)
    f.function.now
    f.info.now

unfoldable pub function_text : FunctionText → List ℕ
function_text f = text (function_pieces (form_of f))

-- with its stage
unfoldable pub item_text : FunctionText → List ℕ
item_text f = stage_before f.known.shader.now (number f) ++ function_text f

-- ---- the head
unfoldable pub arguments_text : FunctionText → List ℕ
arguments_text f = text (parameters_pieces (form_of f).parameters)

unfoldable pub result_text : FunctionText → List ℕ
result_text f = text (result_pieces (form_of f).result)

-- up to the brace before the locals
unfoldable pub head_text : FunctionText → List ℕ
head_text f =
    codes "fn " ++ (name_of_function f ++ (codes "(" ++
    (arguments_text f ++ (result_text f ++ codes " {\n"))))

-- the argument with this number
unfoldable pub argument_text : FunctionText → (n : ℕ) → FunctionArgument → List ℕ
argument_text f n argument =
    let m = f.known.shader.now in
    text (parameter_pieces (parameter_form (module_names m) m (number f) n argument))

-- what stands before it
abbrev pub separator : (n : ℕ) → List ℕ
separator n = if n == 0 then [] else codes ", "

unfoldable pub next_argument_text : FunctionText → (n : ℕ) → FunctionArgument → List ℕ
next_argument_text f n argument = separator n ++ argument_text f n argument

-- what is returned: how it passes, and its type
unfoldable pub answer_text : FunctionText → FunctionResult → List ℕ
answer_text f answer =
    codes " -> " ++ (attributes_text (passing_attributes answer.binding) ++ type_text f answer.ty)

-- ---- the body
-- the table has what is in scope at the start
abbrev pub StartsAt : FunctionText → (table : List Availability) → Type 0
StartsAt f table = handles_in f table ≡ at_start (naming f).function

-- The point is that at the function's start, and there is room for all that its body changes.
pub record IsAtStart (f : FunctionText) (p : TextPoint) : Type 0 where
  pub start : StartsAt f p.table
  pub named : p.named ≡ 0
  pub scope : HasScope f p (block_changes f.function.now.body)

-- the locals, and an empty line after them if there are any
unfoldable pub locals_text : FunctionText → List ℕ
locals_text f = text (locals_pieces (form_of f).locals) ++ text (group_end (form_of f).locals)

-- that line, if a group has any
unfoldable pub group_end_text : (is_empty : Bool) → List ℕ
group_end_text is_empty = if is_empty then [] else codes "\n"

-- what stands after the head
unfoldable pub body_text : FunctionText → List ℕ
body_text f = locals_text f ++ (lines_text 1 (form_of f).body ++ codes "}\n")

-- the first value of a local
abbrev pub first_form : FunctionText → (value : ℕ) → Expression
first_form f value = value_form (naming f) (source f) (at_start (naming f).function) value

-- what stands after a local's type
unfoldable pub first_text : FunctionText → (value : Option ℕ) → List ℕ
first_text f value = text (value_pieces (option_map (first_form f) value))

-- the same where there is a first value
unfoldable pub first_value_text : FunctionText → (value : ℕ) → List ℕ
first_value_text f value = text (value_pieces (Some (first_form f value)))

-- the local with this handle, if there is one
abbrev pub local_form : FunctionText → (handle : ℕ) → LocalVariable → Local
local_form f handle local = record {
  name = (naming f).names.local_ handle;
  type = type_form (type_names_of f) local.ty;
  value = option_map (first_form f) local.init;
}

abbrev pub local_text_of : FunctionText → (handle : ℕ) → LocalVariable → List ℕ
local_text_of f handle local = text (locals_pieces (local_form f handle local ∷ []))

unfoldable pub local_text : FunctionText → (handle : ℕ) → List ℕ
local_text f handle =
    option_map_or (local_text_of f handle) (slice_get f.function.now.local_variables handle) []
