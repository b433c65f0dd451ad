-- What the text of a function is made from, as the laws see it, and what it wants of its module.
use Rattle.module_semantics.specs.FunctionNumbers.{IsFunctionOf, all_functions, all_infos}
use Rattle.module_semantics.specs.FunctionNumbers.{callee_count, function_number}
use Rattle.module_semantics.specs.FunctionShapes.{function_shape}
use Rattle.module_semantics.specs.StatementForms.{block_has_forms, cases_have_forms}
use Rattle.module_semantics.specs.StatementForms.{statement_has_form}
use Rattle.module_semantics.specs.Written.{IsWrittenIn, WrittenHaveForms, block_lets, block_handles}
use Rattle.module_semantics.specs.Written.{cases_lets, cases_handles, statement_lets, statement_handles}
use Rattle.shader_runs.specs.Program.{binds}
use Rattle.std.specs.List.{AllByRecursion, IsAmong}
use Rattle.std.specs.Prelude.{◌≡◌, ℕ, ◌<◌, Bool, List, Option, Some, IsTrue, slice_get}
use Rattle.std.specs.Prelude.{length, [], ◌^◌, string_bytes}
use Rattle.std.specs.Option.{option_map_or}
use Rattle.naga_scope.specs.declared.points.Availability.{Availability}
use Rattle.naga_scope.specs.Availabilities.{handles_of}
use Rattle.naga_ir.specs.declared.expression.Expression.{Expression}
use Rattle.module_semantics.specs.DeclarationForms.{HeadHasForm}
use Rattle.module_semantics.specs.acceptance.Ranges.{block_in_range, cases_in_range}
use Rattle.module_semantics.specs.acceptance.Ranges.{function_in_range}
use Rattle.module_semantics.specs.acceptance.Ranges.{statement_in_range}
use Rattle.naga_ir.specs.StatementTree.{BlockTree, CaseTrees, StatementTree}
use Rattle.shader_runs.specs.Scope.{Handles, Naming}
use Rattle.module_semantics.specs.ExpressionLabels.{expression_labels}
use Rattle.module_semantics.specs.Names.{module_names}
use Rattle.module_semantics.specs.ExpressionOperators.{ExpressionContext}
use Rattle.module_semantics.specs.Namings.{function_naming}
use Rattle.naga_form.specs.Expressions.{Source, function_source}
use Rattle.naga_form.specs.Types.{annotated_type}
use Rattle.module_semantics.specs.Types.{type_names}
use Rattle.naga_spelling.specs.Contexts.{Names as TypeNames}
use Rattle.wgsl_text.specs.Types.{TypeSpecifier}
use Rattle.naga_back.specs.Flags.{annotates_types}
use Rattle.naga_scope.specs.KnownModules.{IsKnownModule}
use Rattle.naga_wgsl_fns.specs.declared.functions.FunctionText.{FunctionText}

-- the number of the function among those of its module
abbrev pub number : FunctionText → ℕ
number f = function_number f.known.shader.now f.ty

-- how many functions it may call
abbrev pub callees : FunctionText → ℕ
callees f = callee_count f.known.shader.now f.ty

-- the names that front ends gave in it, in the order of its text
abbrev pub named_in : FunctionText → (number : ℕ) → List ℕ
named_in f number = option_map_or string_bytes (slice_get f.named.now number) []

-- the function under its names
abbrev pub naming : FunctionText → Naming
naming f =
    let m = f.known.shader.now in
    function_naming (module_names m) (named_in f) m f.known.info.now (number f) f.function.now
    f.info.now

-- what a table of where its expressions stand says of them
abbrev pub handles_in : FunctionText → List Availability → Handles
handles_in f table = handles_of (named_in f) table

-- its expressions
abbrev pub expressions : FunctionText → List Expression
expressions f = f.function.now.expressions

-- the same with their context
abbrev pub source : FunctionText → Source
source f =
    function_source f.known.flags f.known.shader.now f.known.info.now f.function.now f.info.now

abbrev pub context : FunctionText → ExpressionContext
context f = (source f).declared.context

-- the names by which its types are spelled
abbrev pub type_names_of : FunctionText → TypeNames
type_names_of f = type_names f.known.shader.now

-- the type that the `let` of a handle tells, if it tells one
abbrev pub let_annotation : FunctionText → (handle : ℕ) → Option TypeSpecifier
let_annotation f handle =
    annotated_type (annotates_types f.known.flags) f.known.shader.now
    (type_names f.known.shader.now) f.info.now handle

-- the handle is written in the function, and has an expression
pub record IsInText (f : FunctionText) (handle : ℕ) : Type 0 where
  pub there : handle < length f.function.now.expressions
  pub written : IsWrittenIn f.known.shader.now f.known.info.now f.function.now f.info.now handle

-- the handle is bound where it is emitted
abbrev pub bound : FunctionText → (handle : ℕ) → Bool
bound f handle =
    binds (function_shape f.known.shader.now f.known.info.now f.function.now f.info.now) handle

-- these are in the text
abbrev pub AreInText : FunctionText → (handles : List ℕ) → Type 0
AreInText f handles = AllByRecursion (IsInText f) handles

-- a `let` of the function's body names the handle
abbrev pub IsLet : FunctionText → (handle : ℕ) → Type 0
IsLet f handle = IsAmong (block_lets (bound f) f.function.now.body) handle

-- or each of these
abbrev pub AreLets : FunctionText → (handles : List ℕ) → Type 0
AreLets f handles = AllByRecursion (IsLet f) handles

-- A statement of the function: all that it names is there, it has a form, and the handles that it
-- writes and those that its `let`s name are among the function's. So it is with a block, and with
-- the cases of a switch.
pub record CanWriteStatement (f : FunctionText) (st : StatementTree) : Type 0 where
  pub in_range : IsTrue (statement_in_range (callees f) (length f.function.now.expressions) st)
  pub formed : IsTrue (statement_has_form st)
  pub written : AreInText f (statement_handles (bound f) st)
  pub lets : AreLets f (statement_lets (bound f) st)

pub record CanWriteBlock (f : FunctionText) (b : BlockTree) : Type 0 where
  pub in_range : IsTrue (block_in_range (callees f) (length f.function.now.expressions) b)
  pub formed : IsTrue (block_has_forms b)
  pub written : AreInText f (block_handles (bound f) b)
  pub lets : AreLets f (block_lets (bound f) b)

pub record CanWriteCases (f : FunctionText) (cases : CaseTrees) : Type 0 where
  pub in_range : IsTrue (cases_in_range (callees f) (length f.function.now.expressions) cases)
  pub formed : IsTrue (cases_have_forms cases)
  pub written : AreInText f (cases_handles (bound f) cases)
  pub lets : AreLets f (cases_lets (bound f) cases)

-- What is asked of its module holds, of which it is a function, or that of an entry point. All
-- that it names is there, if it may call the functions before it, and of each of its expressions
-- one type is known. Each expression that is written and each type that is spelled has a form, and
-- so have the bindings of what it takes and gives, and its stage. Its names that front ends gave
-- are there, in the order of the text, and told apart in 64 bits.
pub record CanWrite (f : FunctionText) : Type 0 where
  pub known : IsKnownModule f.known
  pub there : IsFunctionOf f.ty f.known.shader.now
  pub function : slice_get (all_functions f.known.shader.now) (number f) ≡ Some f.function.now
  pub infos : slice_get (all_infos f.known.info.now) (number f) ≡ Some f.info.now
  pub ranges : IsTrue (function_in_range f.known.shader.now (callees f) f.function.now)
  pub size : length f.function.now.expressions ≡ length f.info.now
  pub formed : WrittenHaveForms (annotates_types f.known.flags) f.known.shader.now f.known.info.now
      f.function.now f.info.now
  pub head : HeadHasForm f.known.shader.now (number f)
  pub room : length (expression_labels f.function.now) < 2 ^ 64
