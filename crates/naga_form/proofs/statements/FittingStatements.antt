-- What makes a statement one of the grammar, beside its operands: its words may be called, its result is
-- bound to an identifier, and its cases have values and one default. So it is with the accepted
-- ones that have a form.
use Rattle.std.proofs.Common.{◌≡◌, ℕ, ◌<◌, Bool, true, false, not, ◌&&◌, ◌||◌, List, nat_lt, Option}
use Rattle.std.proofs.Common.{Some, None, refl}
use Rattle.std.specs.Prelude.{IsTrue}
use Rattle.std.specs.Option.{option_map_or}
use Rattle.std.proofs.lemmas.Bool.{and_parts, ltb-true}
use Rattle.naga_ir.specs.Operands.{simple_result}
use Rattle.naga_ir.specs.StatementTree.{SimpleStatement, store, call, StatementTree, simple, block}
use Rattle.naga_ir.specs.StatementTree.{branch, switch, loop, BlockTree, no_statements, statement}
use Rattle.naga_ir.specs.StatementTree.{has_no_statements, CaseTrees, no_cases, case}
use Rattle.naga_ir.specs.declared.module.Function.{Function}
use Rattle.naga_ir.specs.declared.module.Module.{Module}
use Rattle.naga_info.specs.declared.info.TypeResolution.{TypeResolution}
use Rattle.module_semantics.specs.ExpressionOperators.{ExpressionContext, is_atomic_pointer}
use Rattle.module_semantics.specs.acceptance.Numbers.{case_value_fits_32_bits}
use Rattle.module_semantics.specs.acceptance.Ranges.{block_in_range, cases_in_range, is_below}
use Rattle.module_semantics.specs.acceptance.Ranges.{simple_in_range, statement_in_range}
use Rattle.module_semantics.specs.StatementForms.{block_has_forms, cases_have_forms, simple_has_form}
use Rattle.module_semantics.specs.StatementForms.{statement_has_form}
use Rattle.module_semantics.specs.StatementShapes.{act_operator, asked, simple_shape, store_shape}
use Rattle.module_semantics.specs.acceptance.StatementsFit.{block_is_sound, body_is_sound}
use Rattle.module_semantics.specs.acceptance.StatementsFit.{cases_are_sound, is_condition}
use Rattle.module_semantics.specs.acceptance.StatementsFit.{is_selection, statement_is_sound}
use Rattle.shader_runs.specs.Form.{word_of}
use Rattle.shader_runs.specs.Program as shapes
use Rattle.shader_runs.specs.Program.{Act}
use Rattle.shader_runs.specs.Scope.{Naming}
use Rattle.wgsl_text.specs.Expressions.{IsCallee}
use Rattle.wgsl_text.specs.Types.{Named}
use Rattle.wgsl_text.specs.Words.{IsIdentifier}
use Rattle.module_semantics.specs.OperatorTable.{Operator, AtomicStore, has_word, is_untyped}
use Rattle.naga_form.proofs.operators.CalledWords.{is_called, word_is_called}
use Rattle.naga_form.proofs.statements.Switches.{HasOneDefault, has_one_default}
use Rattle.module_semantics.proofs.StatementRanges.{result_below}

-- ---- statements without blocks
-- the name to which a result is bound is an identifier
abbrev pub ResultIs : Naming → Option ℕ → Type 0
ResultIs n None = Unit {0}
ResultIs n (Some h) = IsIdentifier (n.names.numbered h)

-- what asks for an event or calls a function does so by a word that may be called
abbrev pub ShapeFits : Naming → shapes.Statement → Type 0
ShapeFits n (Act action xs outcome) = IsCallee (Named (word_of n.names action)) × ResultIs n outcome
ShapeFits n s = Unit {0}

-- so it is with each statement, case values are integers of their types, and a switch has one
-- default
abbrev mutual
  pub StatementFits : Naming → ExpressionContext → StatementTree → Type 0
  StatementFits n a (simple s) = ShapeFits n (simple_shape a s)
  StatementFits n a (block b) = AllFit n a b
  StatementFits n a (branch condition accept reject) = AllFit n a accept × AllFit n a reject
  StatementFits n a (switch selector cs) = HasOneDefault cs × CasesFit n a cs
  StatementFits n a (loop body continuing break_if) = AllFit n a body × AllFit n a continuing

  pub AllFit : Naming → ExpressionContext → BlockTree → Type 0
  AllFit n a no_statements = Unit {0}
  AllFit n a (statement s b) = StatementFits n a s × AllFit n a b

  pub CasesFit : Naming → ExpressionContext → CaseTrees → Type 0
  CasesFit n a no_cases = Unit {0}
  CasesFit n a (case value body falls cs) = IsTrue (case_value_fits_32_bits value) × AllFit n a body × CasesFit n a cs

-- ---- accepted statements that have forms
module _ (n : Naming) (a : ExpressionContext) (callees expressions : ℕ)
    (functions : (g : ℕ) → g < callees → IsIdentifier (n.names.outer.function g))
    (numbered : (h : ℕ) → h < expressions → IsIdentifier (n.names.numbered h)) where
  result_if : (outcome : Option ℕ) → is_below expressions outcome ≡ true → ResultIs n outcome
  result_if None within = tt
  result_if (Some h) within = numbered h (ltb-true h expressions within)

  result_fits : (s : SimpleStatement) → simple_in_range callees expressions s ≡ true →
      ResultIs n (simple_result s)
  result_fits s within = result_if (simple_result s) (result_below callees expressions s within)

  -- an act that asks for an operator
  own_fits : (s : SimpleStatement) (o : Option Operator) →
      option_map_or (λ op. is_untyped op && is_called op) o true ≡ true →
      option_map_or has_word o true ≡ true → ResultIs n (simple_result s) → ShapeFits n (asked o s)
  own_fits s None is has result = tt
  own_fits s (Some op) is has result =
      let both = and_parts (is_untyped op) (is_called op) is in
      (word_is_called op both.0 both.1 has, result)

  line_fits : (s : SimpleStatement) → simple_in_range callees expressions s ≡ true →
      simple_has_form s ≡ true → ShapeFits n (simple_shape a s)
  line_fits (store pointer value) within has = by (is_atomic_pointer a pointer)
    where
      by : (to_atomic : Bool) → ShapeFits n (store_shape to_atomic pointer value)
      by true = (word_is_called AtomicStore refl refl refl, tt)
      by false = tt
  line_fits (call function arguments outcome) within has =
      let one = and_parts (nat_lt function callees) _ within in (
        (functions function (ltb-true function callees one.0)).word,
        result_fits (call function arguments outcome) within,
      )
  line_fits s within has = own_fits s (act_operator s) refl has (result_fits s within)

  module _ (m : Module) (f : Function) (known : List TypeResolution) where
    mutual
      statement_fits : (breaks continues : Bool) (s : StatementTree) →
          statement_in_range callees expressions s ≡ true →
          statement_is_sound m f known breaks continues s ≡ true → statement_has_form s ≡ true →
          StatementFits n a s
      statement_fits breaks continues (simple s) within sound has = line_fits s within has
      statement_fits breaks continues (block b) within sound has = all_fit breaks continues b within sound has
      statement_fits breaks continues (branch condition accept reject) within sound has =
          let ranges = and_parts (nat_lt condition expressions) _ within in
          let both = and_parts (block_in_range callees expressions accept)
          (block_in_range callees expressions reject) ranges.1 in
          let one = and_parts (is_condition m.types known condition) _ sound in
          let two =
          and_parts (block_is_sound m f known breaks continues accept)
          (block_is_sound m f known breaks continues reject) one.1 in
          let forms = and_parts (block_has_forms accept) (block_has_forms reject) has in
          (all_fit breaks continues accept both.0 two.0 forms.0, all_fit breaks continues reject both.1 two.1 forms.1)
      statement_fits breaks continues (switch selector cs) within sound has =
          let ranges = and_parts (nat_lt selector expressions) (cases_in_range callees expressions cs) within in
          let one = and_parts (is_selection m.types known selector cs)
          (cases_are_sound m f known true continues cs) sound in
          (has_one_default m.types known selector cs one.0, cases_fit continues cs ranges.1 one.1 has)
      statement_fits breaks continues (loop body continuing break_if) within sound has =
          let ranges = and_parts (block_in_range callees expressions body) _ within in
          let both = and_parts (block_in_range callees expressions continuing) (is_below expressions break_if)
          ranges.1 in
          let one = and_parts (block_is_sound m f known true true body) _ sound in
          let two =
          and_parts (block_is_sound m f known false false continuing)
          (option_map_or (is_condition m.types known) break_if true) one.1 in
          let forms = and_parts (block_has_forms body) (block_has_forms continuing) has in
          (all_fit true true body ranges.0 one.0 forms.0, all_fit false false continuing both.0 two.0 forms.1)

      all_fit : (breaks continues : Bool) (b : BlockTree) →
          block_in_range callees expressions b ≡ true →
          block_is_sound m f known breaks continues b ≡ true → block_has_forms b ≡ true → AllFit n a b
      all_fit breaks continues no_statements within sound has = tt
      all_fit breaks continues (statement s b) within sound has =
          let ranges = and_parts (statement_in_range callees expressions s)
          (block_in_range callees expressions b) within in
          let one = and_parts (statement_is_sound m f known breaks continues s)
          (block_is_sound m f known breaks continues b) sound in
          let forms = and_parts (statement_has_form s) (block_has_forms b) has in
          (statement_fits breaks continues s ranges.0 one.0 forms.0, all_fit breaks continues b ranges.1 one.1 forms.1)

      cases_fit : (continues : Bool) (cs : CaseTrees) → cases_in_range callees expressions cs ≡ true →
          cases_are_sound m f known true continues cs ≡ true → cases_have_forms cs ≡ true → CasesFit n a cs
      cases_fit continues no_cases within sound has = tt
      cases_fit continues (case value body falls cs) within sound has =
          let case_values = and_parts (case_value_fits_32_bits value) _ within in
          let ranges = and_parts (block_in_range callees expressions body)
          (cases_in_range callees expressions cs) case_values.1 in
          let one = and_parts (block_is_sound m f known true continues body)
          (cases_are_sound m f known true continues cs) sound in
          let empty = and_parts (not falls || has_no_statements body)
          (block_has_forms body && cases_have_forms cs) has in
          let forms = and_parts (block_has_forms body) (cases_have_forms cs) empty.1 in (
            case_values.0,
            all_fit true continues body ranges.0 one.0 forms.0,
            cases_fit continues cs ranges.1 one.1 forms.1,
          )

    -- all statements of the function
    pub body_fits : block_in_range callees expressions f.body ≡ true → body_is_sound m f known ≡ true →
        block_has_forms f.body ≡ true → AllFit n a f.body
    body_fits within sound has = all_fit false false f.body within sound has
