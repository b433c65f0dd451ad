-- How positions in a module are told to one who holds it as JSON: by the path in the JSON that has
-- it as the member `module`, as `module.functions[3].expressions[41]`, or in the JSON that is the
-- module, as `functions[3].expressions[41]`. A statement is told by its number, after its function:
-- `module.functions[3], statement 12`.
--
-- The module itself, which is told of its labels, sizes and special types, is told by that word alone.
--
-- Throughout, from is what the JSON holds, h a handle or an index, n the number of a statement, and
-- role what an operand that is out of scope is where it is used, if that is known. A label is that of
-- the function or the entry point that a position is in, if there is one and it has a label.
use Rattle.std.specs.Prelude.{◌≡◌, ℕ, List, [], ◌++◌, codes, decimal, Option, None, Some}
use Rattle.std.specs.Fmt.{◌++?◌, debug_str}
use Rattle.module_positions.specs.Roles.{Role}
use Rattle.module_positions.specs.declared.positions.JsonHolder.{JsonHolder}
use Rattle.module_positions.specs.declared.positions.JsonHolder.TheVariants as holder
use Rattle.naga_acceptance.specs.declared.faults.FunctionPosition.{FunctionPosition}
use Rattle.naga_acceptance.specs.declared.faults.FunctionPosition.TheVariants as position
use Rattle.naga_acceptance.specs.declared.faults.FaultPosition.{FaultPosition}
use Rattle.naga_acceptance.specs.declared.faults.FaultPosition.TheVariants as item
use Rattle.naga_tables.specs.declared.declarations.DeclarationPosition.{DeclarationPosition}
use Rattle.naga_tables.specs.declared.declarations.DeclarationPosition.TheVariants as declaration
use Rattle.naga_scope.specs.declared.lines.Declared.{Declared}
use Rattle.naga_scope.specs.declared.lines.Declared.TheVariants as declared
use Rattle.naga_scope.specs.declared.lines.Line.{Line}
use Rattle.naga_scope.specs.declared.lines.Line.TheVariants as line
use Rattle.naga_scope.specs.declared.scope_faults.ScopeFault.{ScopeFault}
use Rattle.naga_scope.specs.declared.scope_faults.ScopeFault.TheVariants as scope
use Rattle.naga_scope.specs.declared.positions.FunctionRefusalPosition.{FunctionRefusalPosition}
use Rattle.naga_scope.specs.declared.positions.FunctionRefusalPosition.TheVariants as part
use Rattle.naga_scope.specs.declared.positions.RefusalPosition.{RefusalPosition}
use Rattle.naga_scope.specs.declared.positions.RefusalPosition.TheVariants as refused

-- an item of a list: the list's name, and its number in brackets
abbrev pub listed : (name : List ℕ) → (h : ℕ) → List ℕ
listed name h = name ++ codes "[" ++ decimal h ++ codes "]"

-- an expression of a function, after the function
abbrev pub expression_text : (h : ℕ) → List ℕ
expression_text h = listed (codes ".expressions") h

-- a statement, after its function
abbrev pub statement_text : (n : ℕ) → List ℕ
statement_text n = codes ", statement " ++ decimal n

-- what stands in front of a member of the module
abbrev pub holder_text : JsonHolder → List ℕ
holder_text holder.Member = codes "module."
holder_text holder.Module = []

-- functions and entry points, as members of the module
abbrev pub function_text : (h : ℕ) → List ℕ
function_text h = listed (codes "functions") h

abbrev pub entry_point_text : (h : ℕ) → List ℕ
entry_point_text h = listed (codes "entry_points") h

-- the function of an entry point
abbrev pub entry_function_text : (h : ℕ) → List ℕ
entry_function_text h = entry_point_text h ++ codes ".function"

-- a label, after the position: `, in "half"`. Nothing is known of one of whose text in quotes nothing
-- is, as of one past ASCII
abbrev pub in_function : (label : Option (List ℕ)) → Option (List ℕ)
in_function None = Some []
in_function (Some label) = Some (codes ", in ") ++? debug_str label

-- what is told where these words are known, if any are
abbrev pub IsKnownText : (known : Option (List ℕ)) → (text : List ℕ) → Type 0
IsKnownText known text = (words : List ℕ) → known ≡ Some words → text ≡ words

-- A text, which is a position, with what is told after it of the label there:
-- `module.functions[0].expressions[3], in "half"`. Of a label past ASCII there is some text.
abbrev pub IsLabelled : (label : Option (List ℕ)) → (position text : List ℕ) → Type 0
IsLabelled label position text =
    (after : List ℕ) × IsKnownText (in_function label) after × (text ≡ position ++ after)

-- ---- where a module is not accepted

-- a part of a function, after the function; nothing of the whole
abbrev pub position_in_function : FunctionPosition → List ℕ
position_in_function position.Whole = []
position_in_function (position.Local h) = listed (codes ".local_variables") h
position_in_function (position.Expression h) = expression_text h
position_in_function (position.Statement n) = statement_text n

-- an item
abbrev pub json_position : JsonHolder → FaultPosition → List ℕ
json_position from item.Module = codes "module"
json_position from (item.Type h) = holder_text from ++ listed (codes "types") h
json_position from (item.Constant h) = holder_text from ++ listed (codes "constants") h
json_position from (item.Override h) = holder_text from ++ listed (codes "overrides") h
json_position from (item.GlobalVariable h) = holder_text from ++ listed (codes "global_variables") h
json_position from (item.GlobalExpression h) = holder_text from ++ listed (codes "global_expressions") h
json_position from (item.Function h at) = holder_text from ++ (function_text h ++ position_in_function at)
json_position from (item.EntryPoint h at) =
    holder_text from ++ (entry_function_text h ++ position_in_function at)

-- ---- where it is refused

-- a role: `left`, or in a list `components[2]`
abbrev pub role_text : Role → List ℕ
role_text (name, None) = name
role_text (name, Some number) = listed name number

-- an operand by its role: `operand left`
abbrev pub operand_text : (role : Option Role) → List ℕ
operand_text None = codes "operand"
operand_text (Some role) = codes "operand " ++ role_text role

-- what is out of scope, after the function: the expression, and the local or the statement that
-- uses it, or the statement that gives it
abbrev pub scope_position : (role : Option Role) → ScopeFault → List ℕ
scope_position role (scope.FirstValue local value) =
    expression_text value ++ (codes ", first value of " ++ listed (codes "local_variables") local)
scope_position role (scope.Operand statement operand) =
    expression_text operand
    ++ (codes ", " ++ (operand_text role ++ (codes " of statement " ++ decimal statement)))
scope_position role (scope.BreakIf statement next operand) =
    expression_text operand
    ++ (codes ", " ++ (operand_text role ++ (codes " of statement " ++ decimal statement)))
scope_position role (scope.EmittedOperand statement expression operand) =
    expression_text operand ++ (codes ", " ++ (operand_text role ++ (codes " of "
    ++ (listed (codes "expressions") expression ++ (codes " in statement " ++ decimal statement)))))
scope_position role (scope.IntroducedBefore statement expression) =
    expression_text expression ++ (codes ", given again by statement " ++ decimal statement)
scope_position role (scope.NeedsNoEmit statement expression) =
    expression_text expression
    ++ (codes ", which needs no Emit, in statement " ++ decimal statement)

-- the line that writes an expression, after the expression
abbrev pub line_position : Line → List ℕ
line_position line.Signature = []
line_position (line.Local h) = codes ", first value of " ++ listed (codes "local_variables") h
line_position (line.Statement n) = codes ", in statement " ++ decimal n
line_position (line.BreakIf n end) = codes ", in break if of statement " ++ decimal n

-- what declares a type, after the function
abbrev pub declared_position : Declared → List ℕ
declared_position (declared.Argument h) = listed (codes ".arguments") h
declared_position declared.Result = codes ".result"
declared_position (declared.Local h) = listed (codes ".local_variables") h

-- a part of a function, after the function
abbrev pub refused_function_position : (role : Option Role) → FunctionRefusalPosition → List ℕ
refused_function_position role part.Labels = codes ".named_expressions"
refused_function_position role (part.Scope fault) = scope_position role fault
refused_function_position role (part.Statement n) = statement_text n
refused_function_position role (part.Expression at h) = expression_text h ++ line_position at
refused_function_position role (part.Type_ at ty) = declared_position at
refused_function_position role (part.Let n h) =
    expression_text h ++ (codes ", the type of its let in statement " ++ decimal n)

-- a declaration, as a member of the module
abbrev pub declaration_in_module : DeclarationPosition → List ℕ
declaration_in_module (declaration.Struct h) = listed (codes "types") h
declaration_in_module (declaration.Constant h) = listed (codes "constants") h
declaration_in_module (declaration.Override h) = listed (codes "overrides") h
declaration_in_module (declaration.GlobalVariable h) = listed (codes "global_variables") h
declaration_in_module (declaration.Function h) = function_text h
declaration_in_module (declaration.EntryPoint h) = entry_point_text h

-- what is refused; the module where it is the labels of items
abbrev pub json_refusal_position : JsonHolder → (role : Option Role) → RefusalPosition → List ℕ
json_refusal_position from role refused.Labels = codes "module"
json_refusal_position from role (refused.Declaration at) = holder_text from ++ declaration_in_module at
json_refusal_position from role (refused.Function h at) =
    holder_text from ++ (function_text h ++ refused_function_position role at)
json_refusal_position from role (refused.EntryPoint h at) =
    holder_text from ++ (entry_function_text h ++ refused_function_position role at)
