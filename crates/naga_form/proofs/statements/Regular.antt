-- The statements of every accepted function are regular: what is returned has the function's
-- result type, calls pass what an earlier callee wants, results go to result handles, and the last
-- case doesn't fall through. What is said of words and names is asked.
use Rattle.std.proofs.Common.{◌≡◌, ℕ, ◌<◌, ◌≤◌, Bool, true, false, List, [], ◌∷◌, Option, Some}
use Rattle.std.proofs.Common.{None, refl, sym, ap, ◌∙◌, subst, slice_get, length, map, arith}
use Rattle.std.proofs.Common.{nat_lt, eqb-true}
use Rattle.std.specs.Option.{option_map, option_map_or, option_and_then, is_some}
use Rattle.std.proofs.lemmas.Bool.{and_parts, ltb-true}
use Rattle.naga_info.proofs.Options.{map_some}
use Rattle.naga_ir.specs.Operands.{simple_result}
use Rattle.naga_ir.specs.StatementTree.{SimpleStatement, return, control_barrier, memory_barrier}
use Rattle.naga_ir.specs.StatementTree.{store, atomic, work_group_uniform_load, call}
use Rattle.naga_ir.specs.StatementTree.{subgroup_ballot, subgroup_gather}
use Rattle.naga_ir.specs.StatementTree.{subgroup_collective_operation, StatementTree, simple, block}
use Rattle.naga_ir.specs.StatementTree.{branch, switch, loop, BlockTree, no_statements, statement}
use Rattle.naga_ir.specs.StatementTree.{CaseTrees, no_cases, case}
use Rattle.naga_ir.specs.declared.expression.Expression as ir
use Rattle.naga_ir.specs.declared.expression.Expression.TheVariants as expression
use Rattle.naga_ir.specs.declared.module.Function.{Function}
use Rattle.naga_ir.specs.declared.module.FunctionArgument.{FunctionArgument}
use Rattle.naga_ir.specs.declared.module.FunctionResult.{FunctionResult}
use Rattle.naga_ir.specs.declared.module.Module.{Module}
use Rattle.naga_info.specs.declared.info.ExpressionInfo.{ExpressionInfo}
use Rattle.naga_info.specs.declared.info.ModuleInfo.{ModuleInfo}
use Rattle.naga_info.specs.declared.info.TypeResolution.{TypeResolution}
use Rattle.naga_info.specs.declared.info.TypeResolution.TheVariants.{Handle}
use Rattle.module_semantics.specs.acceptance.Numbers.{case_value_fits_32_bits}
use Rattle.module_semantics.specs.acceptance.AgreeingOperators.{function_group}
use Rattle.module_semantics.specs.AlikeTypes.{are_alike}
use Rattle.module_semantics.specs.ExpressionOperators.{is_atomic_pointer}
use Rattle.module_semantics.specs.ExpressionShapes.{ModuleDeclarations, shape_of}
use Rattle.module_semantics.specs.acceptance.ExpressionTypes.{is_expected, only, result_type}
use Rattle.module_semantics.specs.FunctionShapes.{function_shape, statement_shape, statements_shape}
use Rattle.module_semantics.specs.FunctionShapes.{cases_shape}
use Rattle.module_semantics.specs.acceptance.Ranges.{simple_in_range, statement_in_range}
use Rattle.module_semantics.specs.acceptance.Ranges.{block_in_range, cases_in_range, is_below}
use Rattle.module_semantics.specs.StatementShapes.{act_operator, asked, simple_shape, store_shape}
use Rattle.module_semantics.specs.OperatorTable.{Operator}
use Rattle.module_semantics.specs.acceptance.StatementsFit.{value_has_type, is_returned, are_passed}
use Rattle.module_semantics.specs.acceptance.StatementsFit.{calls, is_call, is_answered, is_result}
use Rattle.module_semantics.specs.acceptance.StatementsFit.{is_result_if, is_result_of}
use Rattle.module_semantics.specs.acceptance.StatementsFit.{is_atomic_result, is_uniform_load_result}
use Rattle.module_semantics.specs.acceptance.StatementsFit.{is_ballot_result, is_subgroup_result}
use Rattle.module_semantics.specs.acceptance.StatementsFit.{simple_is_sound, statement_is_sound}
use Rattle.module_semantics.specs.acceptance.StatementsFit.{block_is_sound, cases_are_sound}
use Rattle.module_semantics.specs.acceptance.StatementsFit.{last_falls_through, is_condition}
use Rattle.module_semantics.specs.acceptance.StatementsFit.{is_selection, body_is_sound}
use Rattle.module_semantics.specs.TypeParts.{points_to_atomic}
use Rattle.module_semantics.specs.acceptance.OperandDemands.{operand_is}
use Rattle.module_semantics.specs.ExpressionContexts.{declared, types_known}
use Rattle.module_semantics.specs.Types.{type_of_values}
use Rattle.shader_runs.specs.Premises.{IsRegular, AreRegular, CasesAreRegular, FallsFrom}
use Rattle.shader_runs.specs.Premises.{ReturnFits, ResultFits, ActionFits, CallFits, UsedResultFits}
use Rattle.shader_runs.specs.Premises.{IsResult, AsksBy, EachAsks, IsNoName, handle_types}
use Rattle.shader_runs.specs.Program as shapes
use Rattle.shader_runs.specs.Program.{Statement, Block, If, Switch, Loop, Barrier, Act, Asked}
use Rattle.shader_runs.specs.Program.{Called, Statements, end, then, Cases, no_case, handle_type}
use Rattle.shader_runs.specs.Program.{function_numbered}
use Rattle.shader_runs.specs.ProgramRun.{barrier_words}
use Rattle.shader_runs.specs.Scope.{Naming, Names}
use Rattle.naga_form.proofs.declarations.AcceptedGroups.{IsSoundGroup}
use Rattle.naga_form.proofs.operators.Leaves.{alike_values, typed_only}
use Rattle.naga_form.proofs.types.SameValues.{TypesAreCounted, IsFit}
use Rattle.naga_form.proofs.statements.Switches.{last_stays}
use Rattle.naga_form.proofs.statements.WellFormed.{passing, shape_there, typed_known}

-- ---- what is asked of words and names
-- the words of a statement ask for events, and no name hides a callee's
abbrev mutual
  pub IsWorded : shapes.Module → Naming → Statement → Type 0
  IsWorded p f (Block b) = AreWorded p f b
  IsWorded p f (If c a b) = AreWorded p f a × AreWorded p f b
  IsWorded p f (Switch h cases) = CasesAreWorded p f cases
  IsWorded p f (Loop b d e) = AreWorded p f b × AreWorded p f d
  IsWorded p f (Barrier bits) = EachAsks p f (barrier_words bits)
  IsWorded p f (Act (Asked w) xs r) = AsksBy p f w
  IsWorded p f (Act (Called g) xs r) = IsNoName p f (f.names.outer.function g)
  IsWorded p f _ = Unit {0}

  pub AreWorded : shapes.Module → Naming → Statements → Type 0
  AreWorded p f end = Unit {0}
  AreWorded p f (then s ss) = IsWorded p f s × AreWorded p f ss

  pub CasesAreWorded : shapes.Module → Naming → Cases → Type 0
  CasesAreWorded p f no_case = Unit {0}
  CasesAreWorded p f (shapes.case l b falls cs) = AreWorded p f b × CasesAreWorded p f cs

-- ---- results
module _ (d : ModuleDeclarations) (es : List ir.Expression) (h : ℕ) where
  call_result : (function : ℕ) (e : ir.Expression) → is_result_of function e ≡ true →
      IsResult (Some (shape_of d es h e))
  call_result function (expression.CallResult callee) is = tt
  call_result function _ is = absurd cc

  atomic_result : (e : ir.Expression) → is_atomic_result e ≡ true → IsResult (Some (shape_of d es h e))
  atomic_result (expression.AtomicResult ty comparison) is = tt
  atomic_result _ is = absurd cc

  uniform_load_result : (e : ir.Expression) → is_uniform_load_result e ≡ true →
      IsResult (Some (shape_of d es h e))
  uniform_load_result (expression.WorkGroupUniformLoadResult ty) is = tt
  uniform_load_result _ is = absurd cc

  ballot_result : (e : ir.Expression) → is_ballot_result e ≡ true → IsResult (Some (shape_of d es h e))
  ballot_result expression.SubgroupBallotResult is = tt
  ballot_result _ is = absurd cc

  subgroup_result : (e : ir.Expression) → is_subgroup_result e ≡ true →
      IsResult (Some (shape_of d es h e))
  subgroup_result (expression.SubgroupOperationResult ty) is = tt
  subgroup_result _ is = absurd cc

-- ---- callees
-- so many functions of the module stand after, each with its shape, but perhaps another body
pub record StandAfter (m : Module) (info : ModuleInfo) (count : ℕ) (callees : List shapes.Function) :
    Type 0 where
  pub shape_of_callee : (g : ℕ) (f : Function) → g < count → slice_get m.functions g ≡ Some f →
      (es : List ExpressionInfo) × (body : Statements) ×
      (function_numbered callees g ≡ Some (record (function_shape m info f es) { body = body }))

-- ---- one function, whatever its body is
module _ (m : Module) (info : ModuleInfo) (f : Function) (es : List ExpressionInfo)
    (are : TypesAreCounted m) (group : IsSoundGroup m info (Some f) (function_group f es)) (its : Statements) where
  abbrev shape : shapes.Function
  shape = record (function_shape m info f es) { body = its }

  abbrev known : List TypeResolution
  known = map (λ e. e.ty) es

  abbrev context : ModuleDeclarations
  context = declared m info (types_known es)

  value_typed : (h ty : ℕ) → value_has_type m.types known h (Handle ty) ≡ true →
      handle_type shape h ≡ type_of_values m (Handle ty)
  value_typed h ty fits =
      let one = passing (λ r. are_alike m.types r (Handle ty)) (slice_get known h) fits in
      typed_known m info f es h one.0 one.1 ∙
      alike_values m are one.0 (Handle ty) (group.fits h one.0 one.1) tt one.2

  return_at : (o : Option FunctionResult) (v : Option ℕ) → f.result ≡ o → is_returned m.types known o v ≡ true →
      ReturnFits shape v
  return_at (Some answer) (Some h) is fits =
      ap (option_map (λ r. type_of_values m (Handle r.ty))) is ∙
      ap Some (sym (value_typed h answer.ty fits))
  return_at None (Some h) is fits = absurd cc
  return_at o None is fits = tt

  passed : (wanted : List FunctionArgument) (xs : List ℕ) → are_passed m.types known wanted xs ≡ true →
      handle_types shape xs ≡ map (λ a. type_of_values m (Handle a.ty)) wanted
  passed [] [] fits = refl
  passed [] (x ∷ xs) fits = absurd cc
  passed (a ∷ wanted) [] fits = absurd cc
  passed (a ∷ wanted) (x ∷ xs) fits =
      let one =
      and_parts (value_has_type m.types known x (Handle a.ty)) (are_passed m.types known wanted xs) fits in
      λ i. value_typed x a.ty one.0 i ∷ passed wanted xs one.1 i

  result_at : (test : ir.Expression → Bool) (h : ℕ) →
      ((e : ir.Expression) → test e ≡ true → IsResult (Some (shape_of context f.expressions h e))) →
      is_result test f h ≡ true → ResultFits shape (Some h)
  result_at test h each fits =
      let one = passing test (slice_get f.expressions h) fits in
      subst IsResult (sym (shape_there m info f es h one.0 one.1)) (each one.0 one.2)

  result_if : (test : ir.Expression → Bool) (r : Option ℕ) →
      ((h : ℕ) (e : ir.Expression) → test e ≡ true →
      IsResult (Some (shape_of context f.expressions h e))) →
      is_result_if test f r ≡ true → ResultFits shape r
  result_if test None each fits = tt
  result_if test (Some h) each fits = result_at test h (each h) fits

  -- a callee's result has the type of the handle that it is given to
  answered : (callee : Function) (g : ℕ) → slice_get m.functions g ≡ Some callee → (r : Option ℕ) →
      is_answered callee g f r ≡ true →
      UsedResultFits shape (option_map (λ r. type_of_values m (Handle r.ty)) callee.result) r
  answered callee g there None fits = tt
  answered callee g there (Some h) fits =
      let one = and_parts (is_some callee.result) (is_result (is_result_of g) f h) fits in
      let two = passing (is_result_of g) (slice_get f.expressions h) one.1 in
      by two.0 two.1 two.2
    where
      by : (e : ir.Expression) → slice_get f.expressions h ≡ Some e → is_result_of g e ≡ true →
          UsedResultFits shape (option_map (λ r. type_of_values m (Handle r.ty)) callee.result) (Some h)
      by (expression.CallResult c) at is =
          let answers : result_type m c ≡ option_map (λ r. Handle r.ty) callee.result =
          ap (result_type m) (eqb-true c g is) ∙
          ap (option_and_then (λ f. option_map (λ r. Handle r.ty) f.result)) there in
          let one =
          typed_only m info f es are group h (expression.CallResult c) at
          (option_map (λ r. Handle r.ty) callee.result)
          (λ r fits. subst (λ o. is_expected m.types (only o) r ≡ true) answers fits)
          (λ s has. let found = map_some (λ r. Handle r.ty) callee.result s has in
          subst (IsFit m) found.2 tt) in
          let found = map_some (λ r. Handle r.ty) callee.result one.0 one.1 in
          ap (option_map (λ r. type_of_values m (Handle r.ty))) found.1 ∙
          ap Some (ap (type_of_values m) found.2 ∙ sym one.2)
      by _ at is = absurd cc

  module _ (p : shapes.Module) (n : Names) (count : ℕ) (callees : List shapes.Function)
      (following : StandAfter m info count callees) (earlier : count ≤ n.earlier) where
    abbrev own : Naming
    own = record { function = shape; names = n }

    call_at : (g : ℕ) (xs : List ℕ) (r : Option ℕ) → g < count → is_call m f known g xs r ≡ true →
        IsNoName p own (n.outer.function g) → ActionFits p callees own (Called g) xs r × ResultFits shape r
    call_at g xs r lt fits no_name =
        let one = passing (calls m.types known f g xs r) (slice_get m.functions g) fits in
        let two =
        and_parts (are_passed m.types known one.0.arguments.items xs) (is_answered one.0 g f r) one.2 in
        let callee = following.shape_of_callee g one.0 lt one.1 in (
          (
            omega (arith, lt, earlier),
            no_name,
            subst (λ o. CallFits shape o xs r) (sym callee.2)
                (passed one.0.arguments.items xs two.0, answered one.0 g one.1 r two.1),
          ),
          by one.0 r two.1,
        )
      where
        by : (callee : Function) (r : Option ℕ) → is_answered callee g f r ≡ true → ResultFits shape r
        by callee None fits = tt
        by callee (Some h) fits =
            result_at (is_result_of g) h (call_result context f.expressions h g)
            (and_parts (is_some callee.result) (is_result (is_result_of g) f h) fits).1

    -- an act that asks for an operator
    own_at : (s : SimpleStatement) (o : Option Operator) → IsWorded p own (asked o s) →
        ResultFits shape (simple_result s) → IsRegular p callees own (asked o s)
    own_at s None worded result = tt
    own_at s (Some op) worded result = (worded, result)

    line_at : (breaks continues : Bool) (s : SimpleStatement) →
        simple_in_range count (length f.expressions) s ≡ true →
        simple_is_sound m f known breaks continues s ≡ true →
        IsWorded p own (simple_shape context.context s) →
        IsRegular p callees own (simple_shape context.context s)
    line_at breaks continues (return v) within fits worded = return_at f.result v refl fits
    line_at breaks continues (control_barrier flags) within fits worded = worded
    line_at breaks continues (memory_barrier flags) within fits worded = worded
    line_at breaks continues (store pointer value) within fits worded =
        by (is_atomic_pointer context.context pointer) worded
      where
        by : (to_atomic : Bool) → IsWorded p own (store_shape to_atomic pointer value) →
            IsRegular p callees own (store_shape to_atomic pointer value)
        by true worded = (worded, tt)
        by false worded = tt
    line_at breaks continues (atomic pointer fun value outcome) within fits worded =
        let one =
        and_parts (operand_is m.types known (points_to_atomic m.types) pointer)
        (is_result_if is_atomic_result f outcome) fits in
        (worded, result_if is_atomic_result outcome (λ h. atomic_result context f.expressions h) one.1)
    line_at breaks continues (work_group_uniform_load pointer outcome) within fits worded =
        (worded, result_at is_uniform_load_result outcome (uniform_load_result context f.expressions outcome) fits)
    line_at breaks continues (call function arguments outcome) within fits worded =
        call_at function arguments outcome (ltb-true function count
        (and_parts (nat_lt function count) _ within).0) fits worded
    line_at breaks continues (subgroup_ballot outcome predicate) within fits worded =
        (worded, result_at is_ballot_result outcome (ballot_result context f.expressions outcome) fits)
    line_at breaks continues (subgroup_gather mode argument outcome) within fits worded =
        (worded, result_at is_subgroup_result outcome (subgroup_result context f.expressions outcome) fits)
    line_at breaks continues (subgroup_collective_operation op collective argument outcome) within fits worded =
        (worded, result_at is_subgroup_result outcome (subgroup_result context f.expressions outcome) fits)
    line_at breaks continues s within fits worded = own_at s (act_operator s) worded tt

    -- the last case doesn't fall through
    falls_at : (falls : Bool) (cs : CaseTrees) → last_falls_through falls cs ≡ false →
        FallsFrom falls (cases_shape context.context cs)
    falls_at false cs last = tt
    falls_at true no_cases last = absurd cc
    falls_at true (case v b falls cs) last = tt

    mutual
      statement_at : (breaks continues : Bool) (s : StatementTree) →
          statement_in_range count (length f.expressions) s ≡ true →
          statement_is_sound m f known breaks continues s ≡ true →
          IsWorded p own (statement_shape context.context s) →
          IsRegular p callees own (statement_shape context.context s)
      statement_at breaks continues (simple s) within fits worded =
          line_at breaks continues s within fits worded
      statement_at breaks continues (block b) within fits worded =
          block_at breaks continues b within fits worded
      statement_at breaks continues (branch condition accept reject) within fits worded =
          let ranges = and_parts (nat_lt condition (length f.expressions)) _ within in
          let both =
          and_parts (block_in_range count (length f.expressions) accept)
          (block_in_range count (length f.expressions) reject) ranges.1 in
          let one = and_parts (is_condition m.types known condition) _ fits in
          let two =
          and_parts (block_is_sound m f known breaks continues accept)
          (block_is_sound m f known breaks continues reject) one.1 in (
            block_at breaks continues accept both.0 two.0 worded.0,
            block_at breaks continues reject both.1 two.1 worded.1,
          )
      statement_at breaks continues (switch selector cs) within fits worded =
          let ranges =
          and_parts (nat_lt selector (length f.expressions))
          (cases_in_range count (length f.expressions) cs) within in
          let one =
          and_parts (is_selection m.types known selector cs)
          (cases_are_sound m f known true continues cs) fits in
          cases_at continues false cs ranges.1 one.1 (last_stays m.types known selector cs one.0) worded
      statement_at breaks continues (loop body continuing break_if) within fits worded =
          let ranges = and_parts (block_in_range count (length f.expressions) body) _ within in
          let both =
          and_parts (block_in_range count (length f.expressions) continuing)
          (is_below (length f.expressions) break_if) ranges.1 in
          let one = and_parts (block_is_sound m f known true true body) _ fits in
          let two =
          and_parts (block_is_sound m f known false false continuing)
          (option_map_or (is_condition m.types known) break_if true) one.1 in (
            block_at true true body ranges.0 one.0 worded.0,
            block_at false false continuing both.0 two.0 worded.1,
          )

      block_at : (breaks continues : Bool) (b : BlockTree) →
          block_in_range count (length f.expressions) b ≡ true →
          block_is_sound m f known breaks continues b ≡ true →
          AreWorded p own (statements_shape context.context b) →
          AreRegular p callees own (statements_shape context.context b)
      block_at breaks continues no_statements within fits worded = tt
      block_at breaks continues (statement s b) within fits worded =
          let ranges =
          and_parts (statement_in_range count (length f.expressions) s)
          (block_in_range count (length f.expressions) b) within in
          let one =
          and_parts (statement_is_sound m f known breaks continues s)
          (block_is_sound m f known breaks continues b) fits in (
            statement_at breaks continues s ranges.0 one.0 worded.0,
            block_at breaks continues b ranges.1 one.1 worded.1,
          )

      cases_at : (continues before : Bool) (cs : CaseTrees) →
          cases_in_range count (length f.expressions) cs ≡ true →
          cases_are_sound m f known true continues cs ≡ true →
          last_falls_through before cs ≡ false →
          CasesAreWorded p own (cases_shape context.context cs) →
          CasesAreRegular p callees own (cases_shape context.context cs)
      cases_at continues before no_cases within fits last worded = tt
      cases_at continues before (case v b falls cs) within fits last worded =
          let ranges =
          and_parts (block_in_range count (length f.expressions) b)
          (cases_in_range count (length f.expressions) cs)
          (and_parts (case_value_fits_32_bits v) _ within).1 in
          let one =
          and_parts (block_is_sound m f known true continues b)
          (cases_are_sound m f known true continues cs) fits in (
            falls_at falls cs last,
            block_at true continues b ranges.0 one.0 worded.0,
            cases_at continues falls cs ranges.1 one.1 last worded.1,
          )

    -- all statements of the function
    pub regular : block_in_range count (length f.expressions) f.body ≡ true →
        body_is_sound m f known ≡ true → AreWorded p own (function_shape m info f es).body →
        AreRegular p callees own (function_shape m info f es).body
    regular within fits worded = block_at false false f.body within fits worded
