-- The `let`s of what is written are those of the bound handles.
use Rattle.std.proofs.Common.{◌≡◌, ℕ, ◌+◌, Bool, true, false, List, [], ◌∷◌, ◌++◌, map, Option}
use Rattle.std.proofs.Common.{Some, None, refl, sym, ap, ◌∙◌}
use Rattle.std.specs.Prelude.{IsTrue, slice_get, cond, if◌then◌else◌}
use Rattle.module_semantics.specs.Undeclared.{names_undeclared}
use Rattle.std.proofs.lemmas.List.{map-append}
use Rattle.naga_ir.specs.StatementTree.{StatementTree, simple, block, branch, switch, loop}
use Rattle.naga_ir.specs.StatementTree.{BlockTree, no_statements, statement, CaseTrees, no_cases}
use Rattle.naga_ir.specs.StatementTree.{case}
use Rattle.naga_ir.specs.declared.module.Function as ir_function
use Rattle.naga_ir.specs.declared.module.Module.{Module}
use Rattle.naga_info.specs.declared.info.ExpressionInfo.{ExpressionInfo}
use Rattle.naga_info.specs.declared.info.ModuleInfo.{ModuleInfo}
use Rattle.module_semantics.specs.acceptance.Accepted.{is_accepted}
use Rattle.module_semantics.specs.DeclarationForms.{DeclarationsHaveForms}
use Rattle.naga_naming.specs.Keys.{NameMap}
use Rattle.naga_spelling.specs.Contexts.{names_of, Names as TypeNames}
use Rattle.shader_runs.specs.Program.{binds, from}
use Rattle.shader_runs.specs.Scope.{Handles, Naming, at_start, bound_name, named_after, named_by}
use Rattle.shader_runs.specs.Scope.{named_by_all, after_one, after, after_all}
use Rattle.shader_runs.specs.NamedLets.{text_lets, NamedLet, function_named_lets, emit_named_lets}
use Rattle.shader_runs.specs.NamedLets.{statement_named_lets, statements_named_lets}
use Rattle.shader_runs.specs.NamedLets.{cases_named_lets, result_named_lets}
use Rattle.shader_runs.specs.Form.{word_of}
use Rattle.shader_runs.specs.Program as shapes
use Rattle.shader_runs.specs.ProgramRun.{barrier_words}
use Rattle.shader_runs.proofs.NamedLets.{binds_as_meant}
use Rattle.wgsl_text.specs.Expressions.{operands}
use Rattle.wgsl_text.specs.Types.{Named, TypeSpecifier}
use Rattle.naga_form.specs.Expressions.{Source, as_value, function_source, plain_form, value_forms}
use Rattle.naga_form.specs.Expressions.{unnamed_form}
use Rattle.naga_form.specs.Statements.{let_form, then_if, lets_form, return_line, shape_form}
use Rattle.naga_form.specs.Statements.{act_line, barrier_lines, optional_form, loop_form}
use Rattle.naga_form.specs.Statements.{case_value_form, line_form, lines_form, cases_form}
use Rattle.naga_form.proofs.statements.SimpleShapes.{has_no_blocks, no_blocks}
use Rattle.naga_form.specs.Functions.{functions_under}
use Rattle.naga_form.specs.Declarations.{program_under, written_program}
use Rattle.wgsl_text.proofs.Text.{text-append}
use Rattle.naga_form.proofs.types.TypeTrees.{resolution_row}
use Rattle.wgsl_text.specs.Expressions as tree_expressions
use Rattle.wgsl_text.specs.Functions as tree_functions
use Rattle.wgsl_text.specs.Statements as tree
use Rattle.wgsl_text.specs.Reading.{printed_type}
use Rattle.std.specs.Option.{option_map, option_and_then}
use Rattle.naga_info.specs.declared.info.TypeResolution.{TypeResolution}
use Rattle.naga_form.specs.TypeTrees.{resolution_tree}
use Rattle.naga_form.specs.Types.{annotated_type}
use Rattle.module_semantics.specs.Types.{annotated_spelling, spelled_resolution}
use Rattle.module_semantics.specs.Names.{expression_name, LabelNames, module_names}
use Rattle.module_semantics.specs.FunctionShapes.{statement_shape, statements_shape, cases_shape}
use Rattle.module_semantics.specs.FunctionShapes.{function_shapes}
use Rattle.module_semantics.specs.ModuleShapes.{module_shape}
use Rattle.module_semantics.specs.Namings.{function_naming, namings_from, namings_under, outer_names}
use Rattle.module_semantics.specs.StatementShapes.{simple_shape}
use Rattle.text_semantics.specs.LetTypes.{statement_annotations, statements_annotations}
use Rattle.text_semantics.specs.LetTypes.{optional_annotations, cases_annotations}
use Rattle.module_semantics.specs.FunctionLets.{BindsAs, BindsUnder, lets_read, module_annotations}
use Rattle.module_semantics.specs.FunctionLets.{module_lets}
use Rattle.module_semantics.specs.FunctionNumbers.{all_functions, all_infos}
use Rattle.naga_form.proofs.statements.AcceptedFunctions.{functions_counted}
use Rattle.naga_form.proofs.Runs.{reads_as_shapes_under}
use Rattle.naga_form.proofs.statements.WrittenFunctions.{all_functions_under}
use Rattle.module_semantics.specs.Written.{AllWrittenHaveForms}
use Rattle.naga_back.specs.declared.flags.WriterFlags.{WriterFlags}
use Rattle.naga_back.specs.Flags.{annotates_types}

module _ (n : Naming) (annotated : ℕ → Option TypeSpecifier) (source : Source) where
  -- what the `let`s of bound handles tell
  abbrev annotated_of : List NamedLet → List (Option (List ℕ))
  annotated_of bs = map (λ b. option_map printed_type (annotated b.handle)) bs

  annotated_both : {us vs : List (Option (List ℕ))} (first second : List NamedLet) → us ≡ annotated_of first →
      vs ≡ annotated_of second → us ++ vs ≡ annotated_of (first ++ second)
  annotated_both first second a b = (λ i. a i ++ b i)
      ∙ sym (map-append (λ b. option_map printed_type (annotated b.handle)) first second)

  let_tells : (t : Option TypeSpecifier) (x : List ℕ) (e : tree_expressions.Expression) →
      statement_annotations (let_form t x e) ≡ option_map printed_type t ∷ []
  let_tells None x e = refl
  let_tells (Some t) x e = refl

  return_tells : (s : Handles) (v : Option ℕ) → statement_annotations (return_line n source s v) ≡ []
  return_tells s None = refl
  return_tells s (Some h) = refl

  optional_tells : (k : ℕ) (b : BlockTree) (s : Handles) →
      optional_annotations (optional_form b (lines_form n annotated source k b s))
      ≡ statements_annotations (lines_form n annotated source k b s)
  optional_tells k no_statements s = refl
  optional_tells k (statement st b) s = refl

  loop_tells : (body : tree.Statements) (b : BlockTree) (continuing : tree.Statements)
      (e : Option tree_expressions.Expression) →
      optional_annotations (optional_form b continuing) ≡ statements_annotations continuing →
      statement_annotations (loop_form body b continuing e)
      ≡ statements_annotations body ++ statements_annotations continuing
  loop_tells body b continuing None same = ap (λ ts. statements_annotations body ++ ts) same
  loop_tells body b continuing (Some e) same = refl

  lets_tell : (k : ℕ) (hs : List ℕ) (s : Handles) (rest : tree.Statements) →
      statements_annotations (lets_form n annotated source k hs s rest) ≡ annotated_of
      (emit_named_lets n k hs) ++ statements_annotations rest
  lets_tell k [] s rest = refl
  lets_tell k (h ∷ hs) s rest = by (binds n.function h) (lets_tell (named_after n.function h k) hs
      (after_one n k h s) rest)
    where
      line : tree.Statement
      line = let_form (annotated h) (bound_name n k h) (as_value (unnamed_form n source s h))

      later : List NamedLet
      later = emit_named_lets n (named_after n.function h k) hs

      following : tree.Statements
      following = lets_form n annotated source (named_after n.function h k) hs (after_one n k h s) rest

      by : (b : Bool) → statements_annotations following ≡ annotated_of later ++
          statements_annotations rest → statements_annotations (then_if b line following) ≡
          annotated_of (cond b (record { handle = h; name = bound_name n k h } ∷ later) later) ++
          statements_annotations rest
      by true more = λ i. let_tells (annotated h) (bound_name n k h) (as_value (unnamed_form n source s h)) i ++ more i
      by false more = more

  act_tells : (word : List ℕ) (args : tree_expressions.Arguments) (outcome : Option ℕ) →
      statement_annotations (act_line n annotated word args outcome) ≡
      annotated_of (result_named_lets n.names outcome)
  act_tells word args None = refl
  act_tells word args (Some h) = let_tells (annotated h) (n.names.numbered h) (tree_expressions.Call (Named word) args)

  barriers_tell : (words : List (List ℕ)) (rest : tree.Statements) →
      statements_annotations (barrier_lines words rest) ≡ statements_annotations rest
  barriers_tell [] rest = refl
  barriers_tell (word ∷ words) rest = barriers_tell words rest

  shape_tells : (k : ℕ) (st : shapes.Statement) → has_no_blocks st ≡ true →
      (s : Handles) (rest : tree.Statements) →
      statements_annotations (shape_form n annotated source k st s rest) ≡
      annotated_of (statement_named_lets n k st) ++ statements_annotations rest
  shape_tells k (shapes.Emit first count) none s rest = lets_tell k (from first count) s rest
  shape_tells k (shapes.Store pointer value) none s rest = refl
  shape_tells k (shapes.Act action xs outcome) none s rest =
      ap (λ ts. ts ++ statements_annotations rest)
      (act_tells (word_of n.names action) (operands (value_forms (plain_form n source s) xs)) outcome)
  shape_tells k (shapes.Barrier bits) none s rest = barriers_tell (barrier_words bits) rest
  shape_tells k (shapes.Jumps (shapes.Return v)) none s rest = ap (λ ts. ts ++ statements_annotations rest)
      (return_tells s v)
  shape_tells k (shapes.Jumps _) none s rest = refl
  shape_tells k _ none s rest = absurd cc

  mutual
    line_tells : (k : ℕ) (st : StatementTree) (s : Handles) (rest : tree.Statements) →
        statements_annotations (line_form n annotated source k st s rest) ≡ annotated_of
        (statement_named_lets n k (statement_shape source.declared.context st)) ++
        statements_annotations rest
    line_tells k (simple st) s rest =
        shape_tells k (simple_shape source.declared.context st) (no_blocks source.declared.context st) s rest
    line_tells k (block b) s rest = ap (λ ts. ts ++ statements_annotations rest) (lines_tell k b s)
    line_tells k (branch condition accept reject) s rest =
        let k1 = named_by_all n.function (statements_shape source.declared.context accept) k in
        ap (λ ts. ts ++ statements_annotations rest)
        (annotated_both
        (statements_named_lets n k (statements_shape source.declared.context accept))
        (statements_named_lets n k1 (statements_shape source.declared.context reject))
        (lines_tell k accept s)
        (optional_tells k1 reject s ∙ lines_tell k1 reject s))
    line_tells k (switch selector cs) s rest = ap (λ ts. ts ++ statements_annotations rest) (cases_tell k [] cs s)
    line_tells k (loop body continuing break_if) s rest =
        let k1 = named_by_all n.function (statements_shape source.declared.context body) k in
        let inside = after_all n k (statements_shape source.declared.context body) s in
        ap (λ ts. ts ++ statements_annotations rest)
        (loop_tells (lines_form n annotated source k body s) continuing
        (lines_form n annotated source k1 continuing inside) _
        (optional_tells k1 continuing inside)
        ∙ annotated_both (statements_named_lets n k (statements_shape source.declared.context body))
        (statements_named_lets n k1 (statements_shape source.declared.context continuing))
        (lines_tell k body s) (lines_tell k1 continuing inside))

    lines_tell : (k : ℕ) (b : BlockTree) (s : Handles) →
        statements_annotations (lines_form n annotated source k b s) ≡ annotated_of
        (statements_named_lets n k (statements_shape source.declared.context b))
    lines_tell k no_statements s = refl
    lines_tell k (statement st b) s =
        let k1 = named_by n.function (statement_shape source.declared.context st) k in
        line_tells k st s (lines_form n annotated source k1 b
        (after n k (statement_shape source.declared.context st) s))
        ∙ annotated_both (statement_named_lets n k (statement_shape source.declared.context st))
        (statements_named_lets n k1 (statements_shape source.declared.context b)) refl
        (lines_tell k1 b (after n k (statement_shape source.declared.context st) s))

    cases_tell : (k : ℕ) (case_values : List tree.CaseValue) (cs : CaseTrees) (s : Handles) →
        cases_annotations (cases_form n annotated source k case_values cs s) ≡
        annotated_of (cases_named_lets n k (cases_shape source.declared.context cs))
    cases_tell k case_values no_cases s = refl
    cases_tell k case_values (case value body true cs) s =
        cases_tell (named_by_all n.function (statements_shape source.declared.context body) k)
        (case_values ++ case_value_form value ∷ []) cs s
    cases_tell k case_values (case value body false cs) s =
        let k1 = named_by_all n.function (statements_shape source.declared.context body) k in
        annotated_both (statements_named_lets n k (statements_shape source.declared.context body))
        (cases_named_lets n k1 (cases_shape source.declared.context cs))
        (lines_tell k body s) (cases_tell k1 [] cs s)

-- a type that a `let` tells is printed as the spelling of its handle's type
annotated_spells : (explicit : Bool) (m : Module) (t : TypeNames) (es : List ExpressionInfo)
    (h : ℕ) →
    option_map printed_type (annotated_type explicit m t es h) ≡ annotated_spelling explicit m t es h
annotated_spells false m t es h = refl
annotated_spells true m t es h = by (slice_get es h)
  where
    row : (r : TypeResolution) → (undeclared : Bool) →
        option_map printed_type (if undeclared then None else resolution_tree t r) ≡
        (if undeclared then None else spelled_resolution t r)
    row r true = refl
    row r false = sym (resolution_row text-append t (λ handle. true) r)

    by : (e : Option ExpressionInfo) →
        option_map printed_type
        (option_and_then (λ k. if names_undeclared m k.ty then None else resolution_tree t k.ty) e) ≡
        option_and_then (λ k. if names_undeclared m k.ty then None else spelled_resolution t k.ty) e
    by None = refl
    by (Some k) = row k.ty (names_undeclared m k.ty)

functions_tell : (flags : WriterFlags) (named : LabelNames) (names : NameMap) (m : Module)
    (info : ModuleInfo) (g : ℕ) (fs : List ir_function.Function) (ess : List (List ExpressionInfo)) →
    map (λ (f : tree_functions.Function). statements_annotations f.body)
    (functions_under named flags names m info g fs ess) ≡ module_annotations (annotates_types flags) m
    (names_of m.types names) (namings_from named names m g (function_shapes m info fs ess)) ess
functions_tell flags named names m info g [] ess = refl
functions_tell flags named names m info g (f ∷ fs) [] = refl
functions_tell flags named names m info g (f ∷ fs) (es ∷ ess) =
    let n = function_naming names (named g) m info g f es in
    let t = names_of m.types names in
    let line = lines_tell n (annotated_type (annotates_types flags) m t es) (function_source flags m info f es)
    0 f.body (at_start n.function)
    ∙ (λ i. map (λ b. annotated_spells (annotates_types flags) m t es b.handle i) (function_named_lets n)) in
    λ i. line i ∷ functions_tell flags named names m info (g + 1) fs ess i

-- what the `let`s of each function tell
pub annotations_are : (m : Module) (info : ModuleInfo) (flags : WriterFlags) (named : LabelNames) →
    IsTrue (is_accepted m info) →
    (lets_read (program_under named m info flags)).annotations
    ≡ (module_lets named m info (annotates_types flags)).annotations
annotations_are m info flags named accepted =
    ap (map (λ (f : tree_functions.Function). statements_annotations f.body))
    (all_functions_under m info flags named (functions_counted m info accepted))
    ∙ functions_tell flags named (module_names m) m info 0 (all_functions m) (all_infos info)

-- under whatever names labels have
pub binds_as_under : (m : Module) (info : ModuleInfo) (flags : WriterFlags) (named : LabelNames) →
    IsTrue (is_accepted m info) → DeclarationsHaveForms m → AllWrittenHaveForms (annotates_types flags) m info →
    BindsUnder named m info (annotates_types flags) (program_under named m info flags)
binds_as_under m info flags named accepted declarations have =
    let names =
    ap text_lets (reads_as_shapes_under m info flags named accepted declarations have)
    ∙ binds_as_meant (module_shape m info) (outer_names (module_names m) m)
    (namings_under named (module_names m) m info) in
    let annotations = annotations_are m info flags named accepted in
    λ i. record { names = names i; annotations = annotations i }

pub binds_as : (m : Module) (info : ModuleInfo) (flags : WriterFlags) → IsTrue (is_accepted m info) →
    DeclarationsHaveForms m → AllWrittenHaveForms (annotates_types flags) m info →
    BindsAs m info (annotates_types flags) (written_program m info flags)
binds_as m info flags accepted declarations have =
    binds_as_under m info flags (expression_name m) accepted declarations have
