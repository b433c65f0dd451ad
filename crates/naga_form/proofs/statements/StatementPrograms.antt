-- The statements that are written for a block are statements of the grammar, where they fit and what they
-- write has forms.
use Rattle.std.proofs.Common.{◌≡◌, ℕ, ◌<◌, ◌≤◌, Bool, true, false, ◌&&◌, List, [], ◌∷◌, ◌++◌}
use Rattle.std.proofs.Common.{length, refl, sym, ap, subst, ◌∙◌, arith, nat_eq, ◌+◌, Option, Some}
use Rattle.std.proofs.Common.{None, ◌^◌, true≢false, length-append}
use Rattle.std.specs.Prelude.{slice_get, cond, if◌then◌else◌}
use Rattle.std.specs.List.{AllByRecursion, filter}
use Rattle.std.specs.Option.{is_some, option_map, option_to_list}
use Rattle.std.proofs.lemmas.Option.{slice_get_within}
use Rattle.naga_ir.specs.StatementTree.{SimpleStatement, store, StatementTree, simple, block}
use Rattle.naga_ir.specs.StatementTree.{branch, switch, loop, BlockTree, no_statements, statement}
use Rattle.naga_ir.specs.StatementTree.{CaseTrees, no_cases, case}
use Rattle.naga_ir.specs.declared.expression.Expression as ir
use Rattle.naga_ir.specs.declared.module.Function as ir_function
use Rattle.naga_ir.specs.declared.module.Module.{Module}
use Rattle.naga_info.specs.declared.info.ExpressionInfo.{ExpressionInfo}
use Rattle.naga_info.specs.declared.info.ModuleInfo.{ModuleInfo}
use Rattle.module_semantics.specs.ExpressionOperators.{is_atomic_pointer}
use Rattle.module_semantics.specs.ExpressionLabels.{block_labels, cases_labels, expression_labels}
use Rattle.module_semantics.specs.ExpressionLabels.{label_of, labels_in, labels_of_each}
use Rattle.module_semantics.specs.ExpressionShapes.{ModuleDeclarations, shape_of}
use Rattle.module_semantics.specs.FunctionShapes.{statement_shape, statements_shape}
use Rattle.module_semantics.specs.Names.{module_names, numbered_name}
use Rattle.module_semantics.specs.Namings.{function_naming}
use Rattle.module_semantics.specs.StatementShapes.{simple_shape, store_shape}
use Rattle.module_semantics.specs.Written.{block_handles, cases_handles, statement_handles}
use Rattle.shader_runs.specs.Form.{word_of}
use Rattle.shader_runs.specs.Program as shapes
use Rattle.shader_runs.specs.Program.{Act, Barrier, Emit, Return, Store, binds, binds_as}
use Rattle.shader_runs.specs.Program.{expression_of, from, holds_continue, operands_of, is_pure}
use Rattle.shader_runs.specs.Program.{Jumps}
use Rattle.shader_runs.specs.ProgramRun.{barrier_words}
use Rattle.shader_runs.specs.Scope.{Absent, Availability, Barred, Bound, Everywhere, Handles}
use Rattle.shader_runs.specs.Scope.{Inline, Naming, after, after_all, after_emit, after_one}
use Rattle.shader_runs.specs.Scope.{at_start, availability_without_name, bound_name, forgotten_if}
use Rattle.shader_runs.specs.Scope.{is_constant_below, named_after, named_by, named_by_all}
use Rattle.shader_runs.specs.Scope.{start_availability, usable_all, with_emitted_handle}
use Rattle.shader_runs.specs.World.{update}
use Rattle.shader_runs.proofs.Sources.{forgotten_bound}
use Rattle.wgsl_text.specs.Expressions as tree_expressions
use Rattle.wgsl_text.specs.Expressions.{Call, IsCallee, IsExpression, operands}
use Rattle.wgsl_text.specs.Functions.{Each}
use Rattle.wgsl_text.specs.Statements as tree
use Rattle.wgsl_text.specs.Statements.{IsCases, IsCaseValue, IsOptionalBlock, IsStatement}
use Rattle.wgsl_text.specs.Statements.{IsStatements}
use Rattle.wgsl_text.specs.Types.{IsType, Named, TypeSpecifier}
use Rattle.wgsl_text.specs.Words.{IsIdentifier}
use Rattle.wgsl_text.proofs.Building.{called_words}
use Rattle.naga_form.specs.Expressions.{Source, as_value, function_source, plain_form, unnamed_form}
use Rattle.naga_form.specs.Expressions.{value_form, value_forms}
use Rattle.naga_form.specs.Statements.{act_line, barrier_lines, cases_form, case_value_form}
use Rattle.naga_form.specs.Statements.{let_form, lets_form, line_form, lines_form, loop_form}
use Rattle.naga_form.specs.Statements.{optional_form, return_line, shape_form, then_if}
use Rattle.naga_form.proofs.operators.CalledWords.{AreCalled, barriers_called}
use Rattle.naga_form.proofs.Fits.{named_by_all_is, named_by_is, named_is, named_one}
use Rattle.naga_form.proofs.statements.FittingStatements.{AllFit, CasesFit, ResultIs, ShapeFits}
use Rattle.naga_form.proofs.statements.FittingStatements.{StatementFits}
use Rattle.naga_form.proofs.ModuleIndices.{expression_is}
use Rattle.naga_form.proofs.names.NumberedNames.{numbered_is}
use Rattle.naga_form.proofs.operators.PlainForms.{IsPlainForm, NamesAre, reference_is_one}
use Rattle.naga_form.proofs.operators.PlainForms.{value_is_one, values_are}
use Rattle.naga_form.proofs.statements.SimpleShapes.{handles_are, shape_handles}
use Rattle.naga_form.proofs.statements.Switches.{case_values_are, case_values_more, one_is_written}
use Rattle.naga_form.proofs.statements.WrittenHandles.{all_front, all_map, all_rest}
use Rattle.naga_back.specs.declared.flags.WriterFlags.{WriterFlags}

-- ---- lines
-- a line for each word that may be called
barriers_are : (words : List (List ℕ)) → AreCalled words → (rest : tree.Statements) → IsStatements rest →
    IsStatements (barrier_lines words rest)
barriers_are [] called rest is = is
barriers_are (w ∷ words) called rest is =
    (called_words.statement (Named w) [] called.0 tt, barriers_are words called.1 rest is)

let_is : (annotated : Option TypeSpecifier) →
    ((t : TypeSpecifier) → annotated ≡ Some t → IsType t) →
    (x : List ℕ) (e : tree_expressions.Expression) → IsIdentifier x → IsExpression e →
    IsStatement (let_form annotated x e)
let_is None annotated_well x e name is = (name, is)
let_is (Some t) annotated_well x e name is = (name, annotated_well t refl, is)

optional_is : (b : BlockTree) (ss : tree.Statements) → IsStatements ss →
    IsOptionalBlock (optional_form b ss)
optional_is no_statements ss is = tt
optional_is (statement st b) ss is = is

-- the name of an availability, if it has one
abbrev name_in_scope : List ℕ → Availability → List ℕ
name_in_scope y (Bound x) = x
name_in_scope y _ = y

-- one more name in scope
name_given : (s : Handles) → NamesAre s → (h : ℕ) (y : List ℕ) → IsIdentifier y → NamesAre (update s h (Bound y))
name_given s well h y is j x at = by (nat_eq j h) at
  where
    by : (b : Bool) → cond b (Bound y) (s j) ≡ Bound x → IsIdentifier x
    by true e = subst IsIdentifier (ap (name_in_scope y) e) is
    by false e = well j x e

-- ---- what is in scope
module _ (flags : WriterFlags) (m : Module) (info : ModuleInfo) (g : ℕ) (f : ir_function.Function)
    (es : List ExpressionInfo)
    (named : ℕ → List ℕ) (identifiers : (k : ℕ) → k < length (expression_labels f) →
    IsIdentifier (named k)) (few : length f.expressions ≤ 2 ^ 64) where
  abbrev own : Naming
  own = function_naming (module_names m) named m info g f es

  abbrev source : Source
  source = function_source flags m info f es

  abbrev d : ModuleDeclarations
  d = source.declared

  abbrev bound : ℕ → Bool
  bound = binds own.function

  -- as many labels as these, from the one with this number on, are given in this function
  abbrev HasRoom : ℕ → List (List ℕ) → Type 0
  HasRoom k labels = k + length labels ≤ length (expression_labels f)

  room_front : (k : ℕ) (xs ys : List (List ℕ)) → HasRoom k (xs ++ ys) → HasRoom k xs
  room_front k xs ys room = let both = length-append xs ys in omega (arith, room, both)

  room_rest : (k j : ℕ) (xs ys : List (List ℕ)) → HasRoom k (xs ++ ys) → j ≡ k + length xs → HasRoom j ys
  room_rest k j xs ys room is = let both = length-append xs ys in omega (arith, room, both, is)

  -- a bound handle's name
  bound_is : (k h : ℕ) → binds own.function h ≡ true → HasRoom k (option_to_list (label_of f h)) →
      IsIdentifier (bound_name own k h)
  bound_is k h bound room = subst (λ b. IsIdentifier (cond b (named k) (numbered_name h)))
      (sym (named_is m info f es h)) (by (label_of f h) room)
    where
      within : (o : Option ir.Expression) → slice_get f.expressions h ≡ o → h < 2 ^ 64
      within (Some e) at = let lt = slice_get_within f.expressions h e at in omega (arith, lt, few)
      within None at =
          absurd (true≢false (sym bound ∙ ap (binds_as own.function h)
          (expression_is m info f es h ∙ ap (option_map (shape_of d f.expressions h)) at)))

      by : (o : Option (List ℕ)) → HasRoom k (option_to_list o) →
          IsIdentifier (cond (is_some o) (named k) (numbered_name h))
      by (Some label) room = identifiers k (omega (arith, room))
      by None room = numbered_is h (within (slice_get f.expressions h) refl)

  -- one more handle
  after_one_is : (k h : ℕ) (s : Handles) → NamesAre s → HasRoom k (option_to_list (label_of f h)) →
      NamesAre (after_one own k h s)
  after_one_is k h s well room = emitted_is (binds own.function h) refl (is_pure (expression_of own.function h))
      (usable_all own.function s (operands_of (expression_of own.function h)))
    where
      updated : (a : Availability) → ((x : List ℕ) → a ≡ Bound x → IsIdentifier x) → NamesAre (update s h a)
      updated a here j x is = by (nat_eq j h) is
        where
          by : (b : Bool) → cond b a (s j) ≡ Bound x → IsIdentifier x
          by true e = here x e
          by false e = well j x e

      unbound_is : (u : Bool) (a : Availability) → ((x : List ℕ) → a ≡ Bound x → IsIdentifier x) →
          (x : List ℕ) → availability_without_name u a ≡ Bound x → IsIdentifier x
      unbound_is true a here x e = absurd (cc)
      unbound_is false Absent here x e = absurd (cc)
      unbound_is false Barred here x e = here x e
      unbound_is false Everywhere here x e = here x e
      unbound_is false Inline here x e = here x e
      unbound_is false (Bound y) here x e = here x e

      emitted_is : (b : Bool) → binds own.function h ≡ b → (o u : Bool) →
          NamesAre (with_emitted_handle b o u (bound_name own k h) s h)
      emitted_is true bound o u = name_given s well h (bound_name own k h) (bound_is k h bound room)
      emitted_is false bound true u = updated (availability_without_name u (s h)) (unbound_is u (s h) (well h))
      emitted_is false bound false u = well

  after_emit_is : (k : ℕ) (hs : List ℕ) (s : Handles) → NamesAre s → HasRoom k (labels_of_each f hs) →
      NamesAre (after_emit own k hs s)
  after_emit_is k [] s well room = well
  after_emit_is k (h ∷ hs) s well room =
      let here = option_to_list (label_of f h) in
      after_emit_is (named_after own.function h k) hs (after_one own k h s)
      (after_one_is k h s well (room_front k here (labels_of_each f hs) room))
      (room_rest k (named_after own.function h k) here (labels_of_each f hs) room (named_one m info f es h k))

  -- the labels that a statement without blocks gives
  abbrev shape_labels : shapes.Statement → List (List ℕ)
  shape_labels (Emit first count) = labels_of_each f (from first count)
  shape_labels s = []

  labels_given : (st : SimpleStatement) → labels_in f (simple st) ≡ shape_labels (simple_shape d.context st)
  labels_given (store pointer value) = by (is_atomic_pointer d.context pointer)
    where
      by : (to_atomic : Bool) → [] ≡ shape_labels (store_shape to_atomic pointer value)
      by true = refl
      by false = refl
  labels_given _ = refl

  after_shape_is : (k : ℕ) (shape : shapes.Statement) → ShapeFits own shape → (s : Handles) → NamesAre s →
      HasRoom k (shape_labels shape) → NamesAre (after own k shape s)
  after_shape_is k (Emit first count) fit s well room = after_emit_is k (from first count) s well room
  after_shape_is k (Act action xs None) fit s well room = well
  after_shape_is k (Act action xs (Some h)) fit s well room = name_given s well h (own.names.numbered h) fit.1
  after_shape_is k _ fit s well room = well

  after_is : (k : ℕ) (st : StatementTree) → StatementFits own d.context st → (s : Handles) → NamesAre s →
      HasRoom k (labels_in f st) → NamesAre (after own k (statement_shape d.context st) s)
  after_is k (simple st) fit s well room =
      after_shape_is k (simple_shape d.context st) fit s well (subst (HasRoom k) (labels_given st) room)
  after_is k _ fit s well room = well

  -- after a statement, and after a block
  room_after : (k : ℕ) (st : StatementTree) (b : BlockTree) → HasRoom k (labels_in f st ++ block_labels f b) →
      HasRoom (named_by own.function (statement_shape d.context st) k) (block_labels f b)
  room_after k st b room = room_rest k (named_by own.function (statement_shape d.context st) k) (labels_in f st)
      (block_labels f b) room (named_by_is m info f es st k)

  room_beyond : (k : ℕ) (b : BlockTree) (rest : List (List ℕ)) → HasRoom k (block_labels f b ++ rest) →
      HasRoom (named_by_all own.function (statements_shape d.context b) k) rest
  room_beyond k b rest room = room_rest k (named_by_all own.function (statements_shape d.context b) k)
      (block_labels f b) rest room (named_by_all_is m info f es b k)

  after_all_is : (k : ℕ) (b : BlockTree) → AllFit own d.context b → (s : Handles) → NamesAre s →
      HasRoom k (block_labels f b) → NamesAre (after_all own k (statements_shape d.context b) s)
  after_all_is k no_statements fit s well room = well
  after_all_is k (statement st b) fit s well room =
      by (holds_continue (statement_shape d.context st))
      (after_all_is (named_by own.function (statement_shape d.context st) k) b fit.1
      (after own k (statement_shape d.context st) s)
      (after_is k st fit.0 s well (room_front k (labels_in f st) (block_labels f b) room))
      (room_after k st b room))
    where
      last : Handles
      last = after_all own (named_by own.function (statement_shape d.context st) k)
          (statements_shape d.context b) (after own k (statement_shape d.context st) s)

      by : (continues : Bool) → NamesAre last → NamesAre (forgotten_if continues s last)
      by true last_well = λ h x e. well h x (forgotten_bound (s h) (last h) x e)
      by false last_well = last_well

  pub start_is : NamesAre (at_start own.function)
  start_is h x e = by (is_pure (expression_of own.function h) && is_constant_below own.function
      (length own.function.expressions) h) e
    where
      by : (b : Bool) → start_availability b ≡ Bound x → IsIdentifier x
      by true e = absurd (cc)
      by false e = absurd (cc)

  -- ---- statements, where what is written has forms and types are told by types
  module _ (W : ℕ → Type 0)
      (plain_is : (s : Handles) → NamesAre s → (h : ℕ) → W h → IsPlainForm (plain_form own source s h))
      (unnamed_is : (s : Handles) → NamesAre s → (h : ℕ) → W h →
      IsPlainForm (unnamed_form own source s h)) (annotated : ℕ → Option TypeSpecifier)
      (annotated_well : (h : ℕ) (t : TypeSpecifier) → annotated h ≡ Some t → IsType t) where
    -- the handles that statements write are written
    abbrev Writes : List ℕ → Type 0
    Writes hs = AllByRecursion W hs

    value_at_is : (s : Handles) → NamesAre s → (h : ℕ) → W h → IsExpression (value_form own source s h)
    value_at_is s well h w = value_is_one (plain_form own source s h) (plain_is s well h w)

    lets_are : (k : ℕ) (hs : List ℕ) (s : Handles) → NamesAre s → HasRoom k (labels_of_each f hs) →
        (rest : tree.Statements) → IsStatements rest → Writes (filter bound hs) →
        IsStatements (lets_form own annotated source k hs s rest)
    lets_are k [] s well room rest is w = is
    lets_are k (h ∷ hs) s well room rest is w =
        then_is (bound h) refl w
        (lets_are (named_after own.function h k) hs (after_one own k h s) (after_one_is k h s well here)
        (room_rest k (named_after own.function h k) (option_to_list (label_of f h)) (labels_of_each f hs) room
        (named_one m info f es h k)) rest is)
      where
        here : HasRoom k (option_to_list (label_of f h))
        here = room_front k (option_to_list (label_of f h)) (labels_of_each f hs) room

        e : tree_expressions.Expression
        e = as_value (unnamed_form own source s h)

        following : tree.Statements
        following = lets_form own annotated source (named_after own.function h k) hs (after_one own k h s) rest

        then_is : (b : Bool) → bound h ≡ b →
            Writes (if b then h ∷ filter bound hs else filter bound hs) →
            (Writes (filter bound hs) → IsStatements following) →
            IsStatements (then_if b (let_form (annotated h) (bound_name own k h) e) following)
        then_is true is_bound w more = (
          let_is (annotated h) (annotated_well h) (bound_name own k h) e (bound_is k h is_bound here)
              (value_is_one (unnamed_form own source s h) (unnamed_is s well h w.0)),
          more w.1,
        )
        then_is false is_bound w more = more w

    return_is : (s : Handles) → NamesAre s → (v : Option ℕ) → Writes (option_to_list v) →
        IsStatement (return_line own source s v)
    return_is s well None w = tt
    return_is s well (Some h) w = value_at_is s well h w.0

    act_is : (word : List ℕ) → IsCallee (Named word) → (outcome : Option ℕ) → ResultIs own outcome →
        (xs : List tree_expressions.Expression) → Each IsExpression xs →
        IsStatement (act_line own annotated word (operands xs) outcome)
    act_is word called None name xs are = called_words.statement (Named word) xs called are
    act_is word called (Some h) name xs are =
        let_is (annotated h) (annotated_well h) (own.names.numbered h) (Call (Named word) (operands xs)) name
        (called_words.expression (Named word) xs called are)

    shape_is : (k : ℕ) (shape : shapes.Statement) → ShapeFits own shape → (s : Handles) → NamesAre s →
        HasRoom k (shape_labels shape) → (rest : tree.Statements) → IsStatements rest →
        Writes (shape_handles bound shape) → IsStatements (shape_form own annotated source k shape s rest)
    shape_is k (Emit first count) fit s well room rest is w = lets_are k (from first count) s well room rest is w
    shape_is k (Store pointer value) fit s well room rest is w =
        let r = reference_is_one (plain_form own source s pointer) (plain_is s well pointer w.0) in
        ((r.0, value_at_is s well value w.1.0, r.1), is)
    shape_is k (Act action xs outcome) fit s well room rest is w =
        let operand = plain_form own source s in (
          act_is (word_of own.names action) fit.0 outcome fit.1 (value_forms operand xs)
              (values_are operand xs (all_map (plain_is s well) xs w)),
          is,
        )
    shape_is k (Barrier bits) fit s well room rest is w =
        barriers_are (barrier_words bits) (barriers_called bits) rest is
    shape_is k (Jumps (Return v)) fit s well room rest is w = (return_is s well v w, is)
    shape_is k (Jumps _) fit s well room rest is w = (tt, is)
    shape_is k _ fit s well room rest is w = is

    loop_is : (body : tree.Statements) (b : BlockTree) (continuing : tree.Statements)
        (s : Handles) → NamesAre s → (e : Option ℕ) → Writes (option_to_list e) →
        IsStatements body → IsStatements continuing →
        IsStatement (loop_form body b continuing (option_map (value_form own source s) e))
    loop_is body b continuing s well None w is next = (is, optional_is b continuing next)
    loop_is body b continuing s well (Some h) w is next = (is, next, value_at_is s well h w.0)

    mutual
      line_is : (k : ℕ) (st : StatementTree) → StatementFits own d.context st → (s : Handles) → NamesAre s →
          HasRoom k (labels_in f st) → (rest : tree.Statements) → IsStatements rest →
          Writes (statement_handles bound st) → IsStatements (line_form own annotated source k st s rest)
      line_is k (simple st) fit s well room rest is w =
          shape_is k (simple_shape d.context st) fit s well (subst (HasRoom k) (labels_given st) room) rest is
          (subst Writes (handles_are bound d.context st) w)
      line_is k (block b) fit s well room rest is w = (lines_are k b fit s well room w, is)
      line_is k (branch condition accept reject) fit s well room rest is w =
          let following = named_by_all own.function (statements_shape d.context accept) k in
          let one = all_front W (block_handles bound accept) (block_handles bound reject) w.1 in
          let other = all_rest W (block_handles bound accept) (block_handles bound reject) w.1 in (
            (
              value_at_is s well condition w.0,
              lines_are k accept fit.0 s well (room_front k (block_labels f accept) (block_labels f reject) room) one,
              optional_is reject _ (lines_are following reject fit.1 s well
                  (room_beyond k accept (block_labels f reject) room) other),
            ),
            is,
          )
      line_is k (switch selector cs) fit s well room rest is w = (
        (
          value_at_is s well selector w.0,
          cases_are k [] tt cs fit.1 s well room w.1,
          one_is_written own annotated source k cs fit.0 s,
        ),
        is,
      )
      line_is k (loop body continuing break_if) fit s well room rest is w =
          let front = room_front k (block_labels f body) (block_labels f continuing) room in
          let beyond = room_beyond k body (block_labels f continuing) room in
          let following = named_by_all own.function (statements_shape d.context body) k in
          let inside = after_all own k (statements_shape d.context body) s in
          let inside_well = after_all_is k body fit.0 s well front in
          let one = all_front W (block_handles bound body)
          (block_handles bound continuing ++ option_to_list break_if) w in
          let more = all_rest W (block_handles bound body)
          (block_handles bound continuing ++ option_to_list break_if) w in
          let other = all_front W (block_handles bound continuing) (option_to_list break_if) more in
          let value = all_rest W (block_handles bound continuing) (option_to_list break_if) more in (
            loop_is _ continuing _ (after_all own following (statements_shape d.context continuing) inside)
                (after_all_is following continuing fit.1 inside inside_well beyond) break_if value
                (lines_are k body fit.0 s well front one)
                (lines_are following continuing fit.1 inside inside_well beyond other),
            is,
          )

      pub lines_are : (k : ℕ) (b : BlockTree) → AllFit own d.context b → (s : Handles) → NamesAre s →
          HasRoom k (block_labels f b) → Writes (block_handles bound b) →
          IsStatements (lines_form own annotated source k b s)
      lines_are k no_statements fit s well room w = tt
      lines_are k (statement st b) fit s well room w =
          let here = room_front k (labels_in f st) (block_labels f b) room in
          let one = all_front W (statement_handles bound st) (block_handles bound b) w in
          let more = all_rest W (statement_handles bound st) (block_handles bound b) w in
          let following = named_by own.function (statement_shape d.context st) k in
          let after_it = after own k (statement_shape d.context st) s in
          line_is k st fit.0 s well here (lines_form own annotated source following b after_it)
          (lines_are following b fit.1 after_it (after_is k st fit.0 s well here) (room_after k st b room) more) one

      cases_are : (k : ℕ) (case_values : List tree.CaseValue) → Each IsCaseValue case_values → (cs : CaseTrees) →
          CasesFit own d.context cs → (s : Handles) → NamesAre s → HasRoom k (cases_labels f cs) →
          Writes (cases_handles bound cs) → IsCases (cases_form own annotated source k case_values cs s)
      cases_are k case_values are no_cases fit s well room w = tt
      cases_are k case_values are (case value body true cs) fit s well room w =
          cases_are (named_by_all own.function (statements_shape d.context body) k)
          (case_values ++ case_value_form value ∷ []) (case_values_more case_values value are fit.0) cs fit.2 s well
          (room_beyond k body (cases_labels f cs) room)
          (all_rest W (block_handles bound body) (cases_handles bound cs) w)
      cases_are k case_values are (case value body false cs) fit s well room w = (
        case_values_are case_values value are fit.0,
        lines_are k body fit.1 s well (room_front k (block_labels f body) (cases_labels f cs) room)
            (all_front W (block_handles bound body) (cases_handles bound cs) w),
        cases_are (named_by_all own.function (statements_shape d.context body) k) [] tt cs fit.2 s well
            (room_beyond k body (cases_labels f cs) room)
            (all_rest W (block_handles bound body) (cases_handles bound cs) w),
      )
