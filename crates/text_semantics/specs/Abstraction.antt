-- What a syntax tree does when it runs: the abstract text of each tree of the grammar, a line for
-- each row.
use Rattle.std.specs.Prelude.{pos, List, [], ◌∷◌, ◌++◌, map, reverse}
use Rattle.std.specs.Prelude.{Option, Some, None, codes, decimal}
use Rattle.std.specs.Option.{option_map}
use Rattle.wgsl_text.specs.Types.{TypeSpecifier, pointer_tree}
use Rattle.wgsl_text.specs.Expressions.{BinaryOperator, LogicalAnd, LogicalOr, Constant}
use Rattle.wgsl_text.specs.Expressions.{Name as NameExpression, Binary, Unary, Call, Member}
use Rattle.wgsl_text.specs.Expressions.{IndexAt, AddressOf as Address, Dereference, NoArguments}
use Rattle.wgsl_text.specs.Expressions.{Argument, NumberArgument, ZeroArgument, binary_pieces}
use Rattle.wgsl_text.specs.Expressions.{unary_mark}
use Rattle.wgsl_text.specs.Statements.{DefaultCase, SignedCase, UnsignedCase, LastCaseValue}
use Rattle.wgsl_text.specs.Statements.{MoreCaseValues, TypedLet, CallStatement, ReturnValue}
use Rattle.wgsl_text.specs.Statements.{Discard}
use Rattle.wgsl_text.specs.Statements.{If, Loop, LoopBreakIf, Switch, NoStatements, Then, NoBlock}
use Rattle.wgsl_text.specs.Statements.{SomeBlock, NoCases}
use Rattle.wgsl_text.specs.Statements.{Case}
use Rattle.wgsl_text.specs.Declarations.{NoSpace, SpaceAlone, SpaceAndAccess}
use Rattle.wgsl_text.specs.Expressions as tree_expressions
use Rattle.wgsl_text.specs.Statements as tree
use Rattle.wgsl_text.specs.Functions as tree_functions
use Rattle.wgsl_text.specs.Declarations as tree_declarations
use Rattle.wgsl_text.specs.Text.{text, mark_text}
use Rattle.wgsl_text.specs.Reading.{printed_type}
use Rattle.shader_runs.specs.Value.{Bytes, MemberNamed, ElementAt, Opaque, ShortCircuitAnd}
use Rattle.shader_runs.specs.Value.{ShortCircuitOr}
use Rattle.shader_runs.specs.Program.{CaseValue, Numbered, Default, Break, Continue, Return, Kill}
use Rattle.shader_runs.specs.Text.{Tree, Name, LiteralOf, Apply, Deref, AddressOf, Index, PartOf}
use Rattle.shader_runs.specs.Text.{LogicalOf as Logical, Trees, no_more, more, Line, Let, Assign}
use Rattle.shader_runs.specs.Text.{Braces, IfElse, SwitchOn, LoopOf}
use Rattle.shader_runs.specs.Text.{Perform, Lines, last, before, Groups}
use Rattle.shader_runs.specs.Text.{no_group, group, Variable, ModuleVariable, TextFunction}
use Rattle.shader_runs.specs.Text.{TextModule, TextConstant, JumpLine}
use Rattle.text_semantics.specs.Literals.{value_read, integer_of_sign}

-- `&&` and `||` decide by their left side alone where they can; any other operator is a word with
-- two operands
abbrev pub binary_tree : BinaryOperator → Tree → Tree → Tree
binary_tree LogicalAnd a b = Logical ShortCircuitAnd a b
binary_tree LogicalOr a b = Logical ShortCircuitOr a b
binary_tree op a b = Apply (text (binary_pieces op)) (more a (more b no_more))

-- the component of a gather belongs to the word
abbrev pub called_word : TypeSpecifier → tree_expressions.Arguments → Bytes
called_word t (NumberArgument n rest) = printed_type t ++ (codes " " ++ decimal n)
called_word t _ = printed_type t

abbrev mutual
  pub expression_read : tree_expressions.Expression → Tree
  expression_read (Constant l) = LiteralOf (value_read l)
  expression_read (NameExpression w) = Name w
  expression_read (Binary a op b) = binary_tree op (expression_read a) (expression_read b)
  expression_read (Unary op e) =
      Apply (mark_text (unary_mark op)) (more (expression_read e) no_more)
  expression_read (Call t args) = Apply (called_word t args) (arguments_read args)
  expression_read (Member e w) = PartOf (MemberNamed w) (expression_read e)
  expression_read (tree_expressions.Index e i) = Index (expression_read e) (expression_read i)
  expression_read (IndexAt e n) = PartOf (ElementAt n) (expression_read e)
  expression_read (Address e) = AddressOf (expression_read e)
  expression_read (Dereference e) = Deref (expression_read e)

  -- level zero is the number `0.0`, whole or not
  pub arguments_read : tree_expressions.Arguments → Trees
  arguments_read NoArguments = no_more
  arguments_read (Argument e rest) = more (expression_read e) (arguments_read rest)
  arguments_read (NumberArgument n rest) = arguments_read rest
  arguments_read (ZeroArgument whole rest) =
      more (LiteralOf (Opaque (codes "f32") 0)) (arguments_read rest)

abbrev pub case_value_read : tree.CaseValue → CaseValue
case_value_read DefaultCase = Default
case_value_read (SignedCase negative n) = Numbered (integer_of_sign negative n)
case_value_read (UnsignedCase n) = Numbered (pos n)

abbrev pub case_values_read : tree.CaseValues → List CaseValue
case_values_read (LastCaseValue l) = case_value_read l ∷ []
case_values_read (MoreCaseValues l rest) = case_value_read l ∷ case_values_read rest

-- An annotation doesn't matter to a run.
abbrev mutual
  pub statement_read : tree.Statement → Line
  statement_read (tree.Let w e) = Let w (expression_read e)
  statement_read (TypedLet w t e) = Let w (expression_read e)
  statement_read (tree.Assign a b) = Assign (expression_read a) (expression_read b)
  statement_read (CallStatement t args) = Perform (called_word t args) (arguments_read args)
  statement_read tree.Return = JumpLine (Return None)
  statement_read (ReturnValue e) = JumpLine (Return (Some (expression_read e)))
  statement_read Discard = JumpLine Kill
  statement_read tree.Break = JumpLine Break
  statement_read tree.Continue = JumpLine Continue
  statement_read (If e accept reject) =
      IfElse (expression_read e) (statements_read accept) (optional_read reject)
  statement_read (Loop body rest) = LoopOf (statements_read body) (optional_read rest) None
  statement_read (LoopBreakIf body rest e) =
      LoopOf (statements_read body) (statements_read rest) (Some (expression_read e))
  statement_read (Switch e cases) = SwitchOn (expression_read e) (cases_read cases)
  statement_read (tree.Block body) = Braces (statements_read body)

  pub statements_read : tree.Statements → Lines
  statements_read NoStatements = last
  statements_read (Then s rest) = before (statement_read s) (statements_read rest)

  -- a block that is left out does what an empty one does
  pub optional_read : tree.OptionalBlock → Lines
  optional_read NoBlock = last
  optional_read (SomeBlock body) = statements_read body

  pub cases_read : tree.Cases → Groups
  cases_read NoCases = no_group
  cases_read (Case case_values body rest) =
      group (case_values_read case_values) (statements_read body) (cases_read rest)

-- the spelling of a pointer to a local of the declared type, and to a module-level variable by its
-- space; what is declared without a space is held, whatever its type, and no pointer leads to it
abbrev pub local_pointer_read : TypeSpecifier → Bytes
local_pointer_read type = printed_type (pointer_tree (codes "function") None type)

abbrev pub global_pointer_read : tree_declarations.Space → TypeSpecifier → Option Bytes
global_pointer_read NoSpace type = None
global_pointer_read (SpaceAlone space) type = Some (printed_type (pointer_tree space None type))
global_pointer_read (SpaceAndAccess space access) type =
    Some (printed_type (pointer_tree space (Some access) type))

abbrev pub variable_read : tree_functions.Local → Variable
variable_read l =
    record {
      name = l.name;
      pointer = local_pointer_read l.type;
      first_value = option_map expression_read l.value;
    }

abbrev pub module_variable_read : tree_declarations.Global → ModuleVariable
module_variable_read g = record { name = g.name; pointer = global_pointer_read g.space g.type }

abbrev pub function_read : tree_functions.Function → TextFunction
function_read f =
    record {
      name = f.name;
      parameters = map (λ p. p.name) f.parameters;
      variables = map variable_read f.locals;
      lines = statements_read f.body;
    }

abbrev pub constant_read : tree_declarations.NamedConstant → TextConstant
constant_read c = record { name = c.name; initialiser = expression_read c.value }

-- a text's functions, and after them those of its entry points
abbrev pub functions_of : tree_declarations.Program → List tree_functions.Function
functions_of p = p.functions ++ map (λ e. e.function) p.entry_points

-- what a text does; its functions stand there with the last one first
abbrev pub program_read : tree_declarations.Program → TextModule
program_read p =
    record {
      constants = map constant_read p.constants;
      overrides = map (λ o. o.name) p.overrides;
      globals = map module_variable_read p.globals;
      functions = reverse (map function_read (functions_of p));
    }
