-- The statements that are written for a block of a module, with a `let` for each emitted handle
-- that is bound.
--
-- Throughout, n is a function with its names, source are its expressions, h is a handle, s are the
-- handles in scope, and k is how many names have been given.
use Rattle.std.specs.Prelude.{ℕ, Bool, List, [], ◌∷◌, Option, true, false, ◌++◌, suc, None, Some}
use Rattle.std.specs.Prelude.{pos, negsuc}
use Rattle.std.specs.Option.{option_map}
use Rattle.naga_ir.specs.declared.statement.SwitchValue.{SwitchValue}
use Rattle.naga_ir.specs.declared.statement.SwitchValue.TheVariants as switch_value
use Rattle.naga_ir.specs.StatementTree.{SimpleStatement}
use Rattle.naga_ir.specs.StatementTree.{StatementTree, simple, block, branch, switch, loop}
use Rattle.naga_ir.specs.StatementTree.{BlockTree, no_statements, statement, CaseTrees, no_cases}
use Rattle.naga_ir.specs.StatementTree.{case}
use Rattle.wgsl_text.specs.Expressions.{Expression, Arguments, NoArguments, Call, operands}
use Rattle.wgsl_text.specs.Statements.{CaseValue, DefaultCase, SignedCase, UnsignedCase, CaseValues}
use Rattle.wgsl_text.specs.Statements.{LastCaseValue, MoreCaseValues, Statement, Let, TypedLet}
use Rattle.wgsl_text.specs.Statements.{Assign}
use Rattle.wgsl_text.specs.Statements.{CallStatement, Return, ReturnValue, Discard, Break}
use Rattle.wgsl_text.specs.Statements.{Continue, If, Loop}
use Rattle.wgsl_text.specs.Statements.{LoopBreakIf, Switch, Block, Statements, NoStatements, Then}
use Rattle.wgsl_text.specs.Statements.{OptionalBlock, NoBlock, SomeBlock}
use Rattle.wgsl_text.specs.Statements.{Cases, NoCases, Case}
use Rattle.wgsl_text.specs.Types.{Named, TypeSpecifier}
use Rattle.shader_runs.specs.Form.{word_of}
use Rattle.shader_runs.specs.Program as shapes
use Rattle.shader_runs.specs.Program.{binds, from}
use Rattle.shader_runs.specs.ProgramRun.{barrier_words}
use Rattle.shader_runs.specs.Scope.{Handles, Naming, bound_name, named_after, named_by}
use Rattle.shader_runs.specs.Scope.{named_by_all, after_one, after, after_all}
use Rattle.module_semantics.specs.FunctionShapes.{statement_shape, statements_shape}
use Rattle.module_semantics.specs.StatementShapes.{simple_shape}
use Rattle.naga_form.specs.Expressions.{Source, as_value, as_reference, plain_form}
use Rattle.naga_form.specs.Expressions.{value_form, value_forms}
use Rattle.naga_form.specs.Expressions.{unnamed_form}

-- a `let`, which tells its type where one is given
abbrev pub let_form : Option TypeSpecifier → List ℕ → Expression → Statement
let_form None name e = Let name e
let_form (Some t) name e = TypedLet name t e

-- one more statement where a handle is bound
abbrev pub then_if : Bool → Statement → Statements → Statements
then_if true s rest = Then s rest
then_if false s rest = rest

-- the `let`s of emitted handles, in front of what follows; `annotated` is the type that a `let`
-- tells
abbrev pub lets_form :
    Naming → (annotated : ℕ → Option TypeSpecifier) → Source → ℕ → List ℕ →
    Handles → Statements → Statements
lets_form n annotated source k [] s rest = rest
lets_form n annotated source k (h ∷ hs) s rest =
    let value = as_value (unnamed_form n source s h) in
    then_if (binds n.function h) (let_form (annotated h) (bound_name n k h) value)
    (lets_form n annotated source (named_after n.function h k) hs (after_one n k h s) rest)

abbrev pub return_line : Naming → Source → Handles → Option ℕ → Statement
return_line n source s None = Return
return_line n source s (Some h) = ReturnValue (value_form n source s h)

abbrev pub jump_form : Naming → Source → Handles → shapes.Jump ℕ → Statement
jump_form n source s shapes.Break = Break
jump_form n source s shapes.Continue = Continue
jump_form n source s (shapes.Return value) = return_line n source s value
jump_form n source s shapes.Kill = Discard

-- what asks for an event or calls a function, by its word: a line of its own, or a `let` of its
-- result
abbrev pub act_line : Naming → (annotated : ℕ → Option TypeSpecifier) → List ℕ → Arguments →
    (outcome : Option ℕ) → Statement
act_line n annotated word arguments None = CallStatement (Named word) arguments
act_line n annotated word arguments (Some h) =
    let_form (annotated h) (n.names.numbered h) (Call (Named word) arguments)

-- a line for each word
abbrev pub barrier_lines : List (List ℕ) → Statements → Statements
barrier_lines [] rest = rest
barrier_lines (word ∷ words) rest =
    Then (CallStatement (Named word) NoArguments) (barrier_lines words rest)

-- What does so, in front of what follows. What has statements in it is no statement without blocks.
abbrev pub shape_form :
    Naming → (annotated : ℕ → Option TypeSpecifier) → Source → ℕ → shapes.Statement →
    Handles → Statements → Statements
shape_form n annotated source k (shapes.Emit first count) s rest =
    lets_form n annotated source k (from first count) s rest
shape_form n annotated source k (shapes.Store pointer value) s rest =
    Then
    (Assign (as_reference (plain_form n source s pointer)) (value_form n source s value))
    rest
shape_form n annotated source k (shapes.Act action xs outcome) s rest =
    Then
    (act_line n annotated (word_of n.names action)
    (operands (value_forms (plain_form n source s) xs)) outcome)
    rest
shape_form n annotated source k (shapes.Barrier bits) s rest =
    barrier_lines (barrier_words bits) rest
shape_form n annotated source k (shapes.Jumps j) s rest = Then (jump_form n source s j) rest
shape_form n annotated source k (shapes.Block b) s rest = rest
shape_form n annotated source k (shapes.If c a b) s rest = rest
shape_form n annotated source k (shapes.Switch h cases) s rest = rest
shape_form n annotated source k (shapes.Loop b d e) s rest = rest

-- a statement without blocks, by what it does
abbrev pub simple_form :
    Naming → (annotated : ℕ → Option TypeSpecifier) → Source → ℕ → SimpleStatement →
    Handles → Statements → Statements
simple_form n annotated source k st s rest =
    shape_form n annotated source k (simple_shape source.declared.context st) s rest

-- an `else` or a `continuing` of these lines: it stands where the module's block has a statement,
-- also where none of them gives a line
abbrev pub optional_form : BlockTree → Statements → OptionalBlock
optional_form no_statements lines = NoBlock
optional_form (statement st b) lines = SomeBlock lines

-- a loop, with its `break if` where it has one
abbrev pub loop_form : Statements → BlockTree → Statements → Option Expression → Statement
loop_form body b continuing None = Loop body (optional_form b continuing)
loop_form body b continuing (Some e) = LoopBreakIf body continuing e

-- the value of a case
abbrev pub case_value_form : SwitchValue → CaseValue
case_value_form (switch_value.I32 (pos n)) = SignedCase false n
case_value_form (switch_value.I32 (negsuc n)) = SignedCase true (suc n)
case_value_form (switch_value.U32 n) = UnsignedCase n
case_value_form switch_value.Default = DefaultCase

-- the values of a group: these, and after them its own
abbrev pub case_values_form : List CaseValue → CaseValue → CaseValues
case_values_form [] own = LastCaseValue own
case_values_form (l ∷ ls) own = MoreCaseValues l (case_values_form ls own)

-- Statements in order: k names were given by front ends, s are the handles in scope.
abbrev mutual
  -- a statement, in front of what follows
  pub line_form :
      Naming → (annotated : ℕ → Option TypeSpecifier) → Source → ℕ → StatementTree →
      Handles → Statements → Statements
  line_form n annotated source k (simple st) s rest = simple_form n annotated source k st s rest
  line_form n annotated source k (block b) s rest =
      Then (Block (lines_form n annotated source k b s)) rest
  line_form n annotated source k (branch condition accept reject) s rest =
      let following = named_by_all n.function (statements_shape source.declared.context accept) k in
      let accepted = lines_form n annotated source k accept s in
      let rejected = lines_form n annotated source following reject s in
      Then (If (value_form n source s condition) accepted (optional_form reject rejected)) rest
  line_form n annotated source k (switch selector cases) s rest =
      Then (Switch (value_form n source s selector) (cases_form n annotated source k [] cases s))
      rest
  line_form n annotated source k (loop body continuing break_if) s rest =
      let following = named_by_all n.function (statements_shape source.declared.context body) k in
      let inside = after_all n k (statements_shape source.declared.context body) s in
      let last = after_all n following (statements_shape source.declared.context continuing) inside in
      let turn = lines_form n annotated source k body s in
      let next = lines_form n annotated source following continuing inside in
      Then (loop_form turn continuing next (option_map (value_form n source last) break_if)) rest

  pub lines_form :
      Naming → (annotated : ℕ → Option TypeSpecifier) → Source → ℕ → BlockTree →
      Handles → Statements
  lines_form n annotated source k no_statements s = NoStatements
  lines_form n annotated source k (statement st b) s =
      let shape = statement_shape source.declared.context st in
      let following = named_by n.function shape k in
      line_form n annotated source k st s
      (lines_form n annotated source following b (after n k shape s))

  -- a case that falls through has no lines, and gives its value to the next one: these wait for one
  pub cases_form :
      Naming → (annotated : ℕ → Option TypeSpecifier) → Source → ℕ → List CaseValue → CaseTrees →
      Handles → Cases
  cases_form n annotated source k case_values no_cases s = NoCases
  cases_form n annotated source k case_values (case value body true cases) s =
      let following = named_by_all n.function (statements_shape source.declared.context body) k in
      cases_form n annotated source following (case_values ++ case_value_form value ∷ []) cases s
  cases_form n annotated source k case_values (case value body false cases) s =
      let following = named_by_all n.function (statements_shape source.declared.context body) k in
      Case (case_values_form case_values (case_value_form value))
      (lines_form n annotated source k body s)
      (cases_form n annotated source following [] cases s)
