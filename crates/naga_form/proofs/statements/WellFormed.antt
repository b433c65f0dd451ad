-- The functions of every accepted module are well-formed: conditions are truth values, selectors
-- integers, loads and stores go through pointers, and jumps lead somewhere.
use Rattle.naga_form.proofs.ModuleIndices.{shapes_at}
use Rattle.std.proofs.Common.{◌≡◌, ℕ, zero, suc, Bool, true, false, List, [], ◌∷◌, ◌+◌, ◌||◌, refl}
use Rattle.std.proofs.Common.{sym, ap, ◌∙◌, Option, Some, None, slice_get, map, subst, arith, codes}
use Rattle.std.proofs.Common.{if◌then◌else◌, ◌==◌}
use mathlib.Core.List.{reverse_aux}
use Rattle.std.specs.Prelude.{IsTrue, unwrap_or}
use Rattle.std.specs.Option.{option_map, option_map_or, is_some}
use Rattle.std.proofs.lemmas.Bool.{and_parts}
use Rattle.std.proofs.lemmas.List.{append-nil}
use Rattle.std.proofs.lemmas.Option.{same_Some, slice_get-map}
use Rattle.naga_info.proofs.Options.{then_some, map_some}
use Rattle.naga_ir.specs.StatementTree.{SimpleStatement, break, continue, store, StatementTree}
use Rattle.naga_ir.specs.StatementTree.{simple, block, branch, switch, loop, BlockTree}
use Rattle.naga_ir.specs.StatementTree.{no_statements, statement, CaseTrees, no_cases, case}
use Rattle.naga_ir.specs.declared.expression.Expression as ir
use Rattle.naga_ir.specs.declared.expression.Expression.TheVariants as expression
use Rattle.naga_ir.specs.declared.module.Function.{Function}
use Rattle.naga_ir.specs.declared.module.Module.{Module}
use Rattle.naga_ir.specs.declared.types.Scalar.{Scalar}
use Rattle.naga_ir.specs.declared.types.ScalarKind.{ScalarKind}
use Rattle.naga_ir.specs.declared.types.ScalarKind.TheVariants as kind
use Rattle.naga_ir.specs.declared.types.Type_.{Type_}
use Rattle.naga_ir.specs.declared.types.TypeInner.{TypeInner}
use Rattle.naga_ir.specs.declared.types.TypeInner.TheVariants as inner
use Rattle.naga_info.specs.Resolution.{inner_of}
use Rattle.naga_info.specs.declared.info.ExpressionInfo.{ExpressionInfo}
use Rattle.naga_info.specs.declared.info.ModuleInfo.{ModuleInfo}
use Rattle.naga_info.specs.declared.info.TypeResolution.{TypeResolution}
use Rattle.naga_info.specs.declared.info.TypeResolution.TheVariants.{Handle, Value}
use Rattle.wgsl_words.specs.Words.{scalar_word, scalar_word_of}
use Rattle.wgsl_text.specs.Reading.{printed_type}
use Rattle.wgsl_text.specs.Types.{Named}
use Rattle.wgsl_text.proofs.Text.{text-append}
use Rattle.module_semantics.specs.acceptance.Accepted.{is_accepted}
use Rattle.module_semantics.specs.ExpressionOperators.{ExpressionContext, is_atomic_pointer}
use Rattle.module_semantics.specs.ExpressionShapes.{ModuleDeclarations, shape_of, applied_shape, part_shape}
use Rattle.module_semantics.specs.ExpressionShapes.{part_selector, applied_or}
use Rattle.module_semantics.specs.acceptance.ExpressionTypes.{is_bool, is_bool_of, have_their_types}
use Rattle.module_semantics.specs.FunctionShapes.{function_shape, statement_shape, statements_shape}
use Rattle.module_semantics.specs.FunctionShapes.{cases_shape}
use Rattle.module_semantics.specs.ModuleShapes.{module_shape}
use Rattle.module_semantics.specs.acceptance.OperandDemands.{operand_is, operands_fit}
use Rattle.module_semantics.specs.acceptance.OperandDemands.{are_operands_fit}
use Rattle.module_semantics.specs.OperatorTable.{Operator, AtomicLoad, BinarySign, asks, run_word}
use Rattle.module_semantics.specs.Shapes.{operator_shape}
use Rattle.module_semantics.specs.acceptance.Soundness.{function_is_sound}
use Rattle.module_semantics.specs.StatementShapes.{simple_shape, store_shape}
use Rattle.module_semantics.specs.acceptance.StatementsFit.{value_has_type, is_condition}
use Rattle.module_semantics.specs.acceptance.StatementsFit.{is_selector_type, case_values_fit}
use Rattle.module_semantics.specs.acceptance.StatementsFit.{selection_fits, is_selection, is_stored}
use Rattle.module_semantics.specs.acceptance.StatementsFit.{simple_is_sound, statement_is_sound}
use Rattle.module_semantics.specs.acceptance.StatementsFit.{block_is_sound, cases_are_sound}
use Rattle.module_semantics.specs.acceptance.StatementsFit.{is_signed, is_unsigned}
use Rattle.module_semantics.specs.ExpressionContexts.{declared, types_known}
use Rattle.module_semantics.specs.Types.{type_of_values, word_of_values, values_of, scalar_values}
use Rattle.module_semantics.specs.Types.{type_names, spelled_resolution}
use Rattle.module_semantics.specs.TypeIdentity.{identity, word_of_unspelled_type}
use Rattle.module_semantics.specs.TypeParts.{known_inner, pointee_type, known_pointee}
use Rattle.module_semantics.proofs.Lists.{list_all_at}
use Rattle.module_semantics.proofs.Shapes.{operator_any}
use Rattle.shader_runs.specs.Program as shapes
use Rattle.shader_runs.specs.Program.{Load, Request, no_constant, expression_of, handle_type}
use Rattle.shader_runs.specs.Progress.{IsPointer, IsInteger, IsBoolean, LoadFits, BreakIfFits}
use Rattle.shader_runs.specs.Progress.{IsWellFormed, AreWellFormed, CasesAreWellFormed}
use Rattle.shader_runs.specs.Progress.{FunctionIsWellFormed, AllWellFormed}
use Rattle.shader_runs.specs.Value.{OtherType, type_at, Selector, ShortCircuit}
use Rattle.naga_form.specs.TypeTrees.{scalar_tree, type_tree, tree_within, found_tree_by}
use Rattle.naga_form.specs.TypeTrees.{named_tree_by, inner_tree}
use Rattle.naga_form.proofs.statements.AcceptedFunctions.{soundness_is, functions_known}
use Rattle.naga_form.proofs.statements.AcceptedFunctions.{accepted_at}
use Rattle.naga_form.proofs.types.TypeTrees.{type_row, inner_tree_row}

-- ---- optional values
-- what passes a test is there
pub passing : {X : Type 0} (test : X → Bool) (o : Option X) → option_map_or test o false ≡ true →
    (x : X) × (o ≡ Some x) × (test x ≡ true)
passing test None is = absurd cc
passing test (Some x) is = (x, refl, is)

-- ---- operands
-- an operand whose type a demand takes
pub record IsOperand (types : List Type_) (known : List TypeResolution) (demand : TypeInner → Bool)
    (h : ℕ) : Type 0 where
  pub type : TypeResolution
  pub there : slice_get known h ≡ Some type
  pub itself : TypeInner
  pub is : inner_of type types ≡ Some itself
  pub taken : demand itself ≡ true

pub operand_at : (types : List Type_) (known : List TypeResolution) (demand : TypeInner → Bool)
    (h : ℕ) → operand_is types known demand h ≡ true → IsOperand types known demand h
operand_at types known demand h fits =
    let one = passing demand (known_inner types known h) fits in
    let two = then_some (λ r. inner_of r types) (slice_get known h) one.0 one.1 in
    record { type = two.0; there = two.1; itself = one.0; is = two.2; taken = one.2 }

-- ---- values
-- of what has this type by itself
pub values_are : (m : Module) (r : TypeResolution) (it : TypeInner) → inner_of r m.types ≡ Some it →
    type_of_values m r ≡ values_of it (word_of_values m r)
values_are m r it is =
    let w = word_of_values m r in ap (λ o. option_map_or (λ it. values_of it w) o (OtherType w)) is

-- a scalar is spelled by its word
scalar_spelled : (m : Module) (r : TypeResolution) (s : Scalar) →
    inner_of r m.types ≡ Some (inner.Scalar s) →
    spelled_resolution (type_names m) r ≡ option_map printed_type (scalar_tree s)
unfolding type_tree
scalar_spelled m (Handle h) s is =
    let found = map_some (λ t. t.inner) (slice_get m.types h) (inner.Scalar s) is in
    type_row text-append (type_names m) (λ handle. true) h ∙
    (ap (λ o. option_map printed_type (found_tree_by (type_names m) (tree_within h (type_names m)) h o))
    found.1 ∙
    ap (λ it. option_map printed_type (named_tree_by (type_names m) (tree_within h (type_names m)) h it))
    found.2)
scalar_spelled m (Value it) s is =
    inner_tree_row text-append (type_names m) (λ handle. true) it ∙
    ap (λ it. option_map printed_type (inner_tree (type_names m) it))
    (same_Some it (inner.Scalar s) is)

-- the values of a scalar that has this word
scalar_is : (m : Module) (r : TypeResolution) (s : Scalar) (w : List ℕ) →
    inner_of r m.types ≡ Some (inner.Scalar s) → scalar_word s ≡ Some w →
    type_of_values m r ≡ scalar_values s.kind w
scalar_is m r s w is word =
    values_are m r (inner.Scalar s) is ∙
    ap (scalar_values s.kind)
    (ap (λ o. unwrap_or o (word_of_unspelled_type (identity m.types r)))
    (scalar_spelled m r s is ∙ ap (λ o. option_map printed_type (option_map Named o)) word) ∙
    append-nil w)

-- ---- which values types have
points : (types : List Type_) (it : TypeInner) (w : List ℕ) →
    is_some (pointee_type types it) ≡ true → IsPointer (values_of it w)
points types (inner.Pointer base space) w is = tt
points types (inner.ValuePointer n s space) w is = tt
points types _ w is = absurd cc

pub pointer_values : (m : Module) (r : TypeResolution) (it : TypeInner) →
    inner_of r m.types ≡ Some it → is_some (pointee_type m.types it) ≡ true →
    IsPointer (type_of_values m r)
pointer_values m r it is pointer =
    subst IsPointer (sym (values_are m r it is)) (points m.types it (word_of_values m r) pointer)

truth_word : (k : ScalarKind) (width : ℕ) → is_bool_of k width ≡ true →
    (scalar_word_of k width ≡ Some (codes "bool")) × IsBoolean (scalar_values k (codes "bool"))
truth_word kind.Bool width is = (ap (λ b. if b then Some (codes "bool") else None) is, tt)
truth_word _ width is = absurd cc

pub truth_values : (m : Module) (r : TypeResolution) (it : TypeInner) →
    inner_of r m.types ≡ Some it → is_bool it ≡ true → IsBoolean (type_of_values m r)
truth_values m r (inner.Scalar s) is truth =
    let word = truth_word s.kind s.width truth in
    subst IsBoolean (sym (scalar_is m r s (codes "bool") is word.0)) word.1
truth_values m r _ is truth = absurd cc

integers : (k : ScalarKind) (w : List ℕ) → (is_signed k || is_unsigned k) ≡ true →
    IsInteger (scalar_values k w)
integers kind.Sint w is = tt
integers kind.Uint w is = tt
integers _ w is = absurd cc

pub selector_values : (m : Module) (r : TypeResolution) (it : TypeInner) (cs : CaseTrees) →
    inner_of r m.types ≡ Some it → selection_fits cs it ≡ true → IsInteger (type_of_values m r)
selector_values m r (inner.Scalar s) cs is fits =
    let one = and_parts (is_selector_type s) (case_values_fit s cs) fits in
    let two = and_parts (is_signed s.kind || is_unsigned s.kind) (s.width == 4) one.0 in
    subst IsInteger (sym (values_are m r (inner.Scalar s) is))
    (integers s.kind (word_of_values m r) two.0)
selector_values m r _ cs is fits = absurd cc

-- ---- shapes
-- what holds of each shape that an operator gives holds of that of an operator
pub applied_any : (P : shapes.Expression → Type 0) (op : Operator) (xs : List ℕ) →
    P (Request (run_word op) xs no_constant) →
    ((j : ShortCircuit) (l r : ℕ) → P (shapes.Logical j l r)) →
    P (shapes.Operator (run_word op) xs) → P (applied_shape op xs)
applied_any P op xs request circuit word = by (asks op)
  where
    by : (b : Bool) →
        P (if b then Request (run_word op) xs no_constant else operator_shape op xs)
    by true = request
    by false = operator_any P op xs circuit word

-- ---- one function
module _ (m : Module) (info : ModuleInfo) (f : Function) (es : List ExpressionInfo) where
  abbrev own : shapes.Function
  own = function_shape m info f es

  abbrev known : List TypeResolution
  known = map (λ e. e.ty) es

  abbrev context : ExpressionContext
  context = (declared m info (types_known es)).context

  -- the type of the values of a handle of which this is known
  pub typed_known : (h : ℕ) (r : TypeResolution) → slice_get known h ≡ Some r →
      handle_type own h ≡ type_of_values m r
  typed_known h r there = by es h there
    where
      by : (es : List ExpressionInfo) (h : ℕ) → slice_get (map (λ e. e.ty) es) h ≡ Some r →
          type_at (map (λ e. type_of_values m e.ty) es) h ≡ type_of_values m r
      by [] h there = absurd cc
      by (e ∷ es) zero there = ap (type_of_values m) (same_Some e.ty r there)
      by (e ∷ es) (suc h) there = by es h there

  is_truth : (h : ℕ) → is_condition m.types known h ≡ true → IsBoolean (handle_type own h)
  is_truth h fits =
      let o = operand_at m.types known is_bool h fits in
      subst IsBoolean (sym (typed_known h o.type o.there)) (truth_values m o.type o.itself o.is o.taken)

  is_integer : (h : ℕ) (cs : CaseTrees) → is_selection m.types known h cs ≡ true →
      IsInteger (handle_type own h)
  is_integer h cs fits =
      let o = operand_at m.types known (selection_fits cs) h fits in
      subst IsInteger (sym (typed_known h o.type o.there))
      (selector_values m o.type o.itself cs o.is o.taken)

  is_pointer_at : (h : ℕ) → operand_is m.types known (λ it. is_some (pointee_type m.types it)) h ≡ true →
      IsPointer (handle_type own h)
  is_pointer_at h fits =
      let o = operand_at m.types known (λ it. is_some (pointee_type m.types it)) h fits in
      subst IsPointer (sym (typed_known h o.type o.there))
      (pointer_values m o.type o.itself o.is o.taken)

  is_stored_to : (p v : ℕ) → is_stored m.types known p v ≡ true → IsPointer (handle_type own p)
  is_stored_to p v fits =
      let one =
      passing (λ wanted. value_has_type m.types known v wanted) (known_pointee m.types known p) fits in
      let two = then_some (pointee_type m.types) (known_inner m.types known p) one.0 one.1 in
      let three = then_some (λ r. inner_of r m.types) (slice_get known p) two.0 two.1 in
      subst IsPointer (sym (typed_known p three.0 three.1))
      (pointer_values m three.0 two.0 three.2 (ap is_some two.2))

  -- ---- expressions
  abbrev whole_context : ModuleDeclarations
  whole_context = declared m info (types_known es)

  pub shape_there : (h : ℕ) (e : ir.Expression) → slice_get f.expressions h ≡ Some e →
      expression_of own h ≡ Some (shape_of whole_context f.expressions h e)
  shape_there h e at =
      let from : 0 + h ≡ h = omega arith in
      shapes_at whole_context f.expressions 0 f.expressions h ∙
      (ap (λ k. option_map (shape_of whole_context f.expressions k) (slice_get f.expressions h))
      from ∙
      ap (option_map (shape_of whole_context f.expressions h)) at)

  -- what holds of no shape and of each expression's holds of the shape of any handle
  pub any_shape : (h : ℕ) (P : Option shapes.Expression → Type 0) → P None →
      ((e : ir.Expression) → slice_get f.expressions h ≡ Some e →
      P (Some (shape_of whole_context f.expressions h e))) →
      P (expression_of own h)
  any_shape h P none some =
      let at : 0 + h ≡ h = omega arith in
      subst P
      (sym
      (shapes_at whole_context f.expressions 0 f.expressions h ∙
      ap (λ k. option_map (shape_of whole_context f.expressions k) (slice_get f.expressions h)) at))
      (by (slice_get f.expressions h) refl)
    where
      by : (o : Option ir.Expression) → slice_get f.expressions h ≡ o →
          P (option_map (shape_of whole_context f.expressions h) o)
      by None is = none
      by (Some e) is = some e is

  applied_loads : (op : Operator) (xs : List ℕ) → LoadFits own (Some (applied_shape op xs))
  applied_loads op xs = applied_any (λ s. LoadFits own (Some s)) op xs tt (λ j l r. tt) tt

  load_is : (h : ℕ) (e : ir.Expression) → operands_fit m.types known e ≡ true →
      LoadFits own (Some (shape_of whole_context f.expressions h e))
  load_is h (expression.Load pointer) fits = by (is_atomic_pointer context pointer)
    where
      by : (atomic : Bool) →
          LoadFits own
          (Some
          (applied_or (Load pointer) (pointer ∷ []) (if atomic then Some AtomicLoad else None)))
      by true = tt
      by false = is_pointer_at pointer fits
  load_is h (expression.Compose ty components) fits = applied_loads _ _
  load_is h (expression.AccessIndex base index) fits = by (part_selector whole_context base index)
    where
      by : (s : Option Selector) → LoadFits own (Some (part_shape base index s))
      by None = tt
      by (Some s) = tt
  load_is h (expression.ImageQuery image query) fits = applied_loads _ _
  load_is h (expression.Binary op left right) fits = applied_loads (BinarySign op) _
  load_is h (expression.As expr kind convert) fits = applied_loads _ _
  load_is h (expression.CooperativeLoad columns rows role place) fits = applied_loads _ _
  load_is h _ fits = tt

  -- ---- statements
  is_break_if : (v : Option ℕ) → option_map_or (is_condition m.types known) v true ≡ true →
      BreakIfFits own v
  is_break_if None fits = tt
  is_break_if (Some h) fits = is_truth h fits

  stored : (p v : ℕ) (breaks continues : Bool) → is_stored m.types known p v ≡ true →
      IsWellFormed own breaks continues (simple_shape context (store p v))
  stored p v breaks continues fits = by (is_atomic_pointer context p)
    where
      by : (atomic : Bool) → IsWellFormed own breaks continues (store_shape atomic p v)
      by true = tt
      by false = is_stored_to p v fits

  line_is : (breaks continues : Bool) (s : SimpleStatement) →
      simple_is_sound m f known breaks continues s ≡ true →
      IsWellFormed own breaks continues (simple_shape context s)
  line_is breaks continues break fits = fits
  line_is breaks continues continue fits = fits
  line_is breaks continues (store pointer value) fits = stored pointer value breaks continues fits
  line_is breaks continues _ fits = tt

  mutual
    statement_is : (breaks continues : Bool) (s : StatementTree) →
        statement_is_sound m f known breaks continues s ≡ true →
        IsWellFormed own breaks continues (statement_shape context s)
    statement_is breaks continues (simple s) fits = line_is breaks continues s fits
    statement_is breaks continues (block b) fits = block_is breaks continues b fits
    statement_is breaks continues (branch condition accept reject) fits =
        let one = and_parts (is_condition m.types known condition) _ fits in
        let two =
        and_parts (block_is_sound m f known breaks continues accept)
        (block_is_sound m f known breaks continues reject) one.1 in (
          is_truth condition one.0,
          block_is breaks continues accept two.0,
          block_is breaks continues reject two.1,
        )
    statement_is breaks continues (switch selector cs) fits =
        let one =
        and_parts (is_selection m.types known selector cs)
        (cases_are_sound m f known true continues cs) fits in
        (is_integer selector cs one.0, cases_are continues cs one.1)
    statement_is breaks continues (loop body continuing break_if) fits =
        let one = and_parts (block_is_sound m f known true true body) _ fits in
        let two =
        and_parts (block_is_sound m f known false false continuing)
        (option_map_or (is_condition m.types known) break_if true) one.1 in (
          block_is true true body one.0,
          block_is false false continuing two.0,
          is_break_if break_if two.1,
        )

    block_is : (breaks continues : Bool) (b : BlockTree) →
        block_is_sound m f known breaks continues b ≡ true →
        AreWellFormed own breaks continues (statements_shape context b)
    block_is breaks continues no_statements fits = tt
    block_is breaks continues (statement s b) fits =
        let one =
        and_parts (statement_is_sound m f known breaks continues s)
        (block_is_sound m f known breaks continues b) fits in
        (statement_is breaks continues s one.0, block_is breaks continues b one.1)

    cases_are : (continues : Bool) (cs : CaseTrees) →
        cases_are_sound m f known true continues cs ≡ true →
        CasesAreWellFormed own continues (cases_shape context cs)
    cases_are continues no_cases fits = tt
    cases_are continues (case v b falls cs) fits =
        let one =
        and_parts (block_is_sound m f known true continues b)
        (cases_are_sound m f known true continues cs) fits in
        (block_is true continues b one.0, cases_are continues cs one.1)

  -- what acceptance says of its operands
  demands : function_is_sound m f es ≡ true → (h : ℕ) (e : ir.Expression) →
      slice_get f.expressions h ≡ Some e → operands_fit m.types known e ≡ true
  demands sound h e at =
      let parts =
      and_parts (have_their_types m (Some f) known f.expressions)
      (are_operands_fit m.types known f.expressions) (soundness_is m f es sound).0 in
      list_all_at (operands_fit m.types known) f.expressions h e parts.1 at

  pub function_well_formed : function_is_sound m f es ≡ true → FunctionIsWellFormed own
  function_well_formed sound = record {
    loads = λ h.
        any_shape h (λ o. LoadFits own o) tt (λ e at. load_is h e (demands sound h e at));
    body = block_is false false f.body (soundness_is m f es sound).1;
  }

-- ---- a module
-- what is well-formed is so turned round
turned : (xs following : List shapes.Function) →
    ((k : ℕ) (f : shapes.Function) → slice_get xs k ≡ Some f → FunctionIsWellFormed f) →
    AllWellFormed following → AllWellFormed (reverse_aux xs following)
turned [] following each all = all
turned (f ∷ xs) following each all =
    turned xs (f ∷ following) (λ k g at. each (suc k) g at) (each 0 f refl, all)

pub all_well_formed : (m : Module) (info : ModuleInfo) → IsTrue (is_accepted m info) →
    AllWellFormed (module_shape m info).functions
all_well_formed m info accepted = turned (map shape (functions_known m info)) [] each tt
  where
    shape : Function × List ExpressionInfo → shapes.Function
    shape p = function_shape m info p.0 p.1

    each : (k : ℕ) (f : shapes.Function) →
        slice_get (map shape (functions_known m info)) k ≡ Some f → FunctionIsWellFormed f
    each k f at =
        let found =
        map_some shape (slice_get (functions_known m info) k) f
        (sym (slice_get-map shape (functions_known m info) k) ∙ at) in
        subst FunctionIsWellFormed found.2
        (function_well_formed m info found.0.0 found.0.1
        (accepted_at m info accepted k found.0.0 found.0.1 found.1).sound)
