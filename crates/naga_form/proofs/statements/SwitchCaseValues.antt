-- The case values of the switches that are written for a block are those of the block's own, where
-- no switch's last case falls through, nor one with statements. So it is with accepted functions
-- that have a form.
--
-- Throughout, k is how many names have been given, case_values are those that wait for the next case, s
-- are the handles in scope, and rest is what follows.
use Rattle.std.proofs.Common.{◌≡◌, ℕ, Bool, true, false, not, ◌&&◌, ◌||◌, List, [], ◌∷◌, ◌++◌}
use Rattle.std.proofs.Common.{Option, Some, None, map, refl, sym, ap, ◌∙◌, true≢false, append_assoc}
use Rattle.std.proofs.Common.{pos, negsuc}
use Rattle.std.specs.Option.{option_map, option_map_or}
use Rattle.std.proofs.lemmas.Bool.{and_parts}
use Rattle.std.proofs.lemmas.List.{map-append}
use Rattle.naga_ir.specs.StatementTree.{StatementTree, simple, block, branch, switch, loop}
use Rattle.naga_ir.specs.StatementTree.{BlockTree, no_statements, statement, has_no_statements}
use Rattle.naga_ir.specs.StatementTree.{CaseTrees, no_cases, case}
use Rattle.naga_ir.specs.declared.module.Function.{Function}
use Rattle.naga_ir.specs.declared.module.Module.{Module}
use Rattle.naga_ir.specs.declared.statement.SwitchValue.{SwitchValue}
use Rattle.naga_ir.specs.declared.statement.SwitchValue.TheVariants as switch_value
use Rattle.naga_info.specs.declared.info.TypeResolution.{TypeResolution}
use Rattle.module_semantics.specs.FunctionShapes.{statement_shape, statements_shape}
use Rattle.module_semantics.specs.StatementForms.{block_has_forms, cases_have_forms}
use Rattle.module_semantics.specs.StatementForms.{statement_has_form}
use Rattle.module_semantics.specs.StatementShapes.{simple_shape}
use Rattle.module_semantics.specs.acceptance.StatementsFit.{block_is_sound, cases_are_sound}
use Rattle.module_semantics.specs.acceptance.StatementsFit.{is_condition, is_selection}
use Rattle.module_semantics.specs.acceptance.StatementsFit.{last_falls_through, statement_is_sound}
use Rattle.module_semantics.specs.Switches.{block_switches, own_case_values, case_switches}
use Rattle.module_semantics.specs.Switches.{case_value_interface, switches_in}
use Rattle.shader_runs.specs.Form.{word_of}
use Rattle.shader_runs.specs.Program as shapes
use Rattle.shader_runs.specs.Program.{binds, from}
use Rattle.shader_runs.specs.ProgramRun.{barrier_words}
use Rattle.shader_runs.specs.Scope.{Handles, Naming, after, after_all, after_one, bound_name}
use Rattle.shader_runs.specs.Scope.{named_after, named_by, named_by_all}
use Rattle.text_semantics.specs.Switches.{all_case_values_read, own_case_values_read, cases_switches}
use Rattle.text_semantics.specs.Switches.{case_value_interface_read, optional_switches}
use Rattle.text_semantics.specs.Switches.{statement_switches, statements_switches}
use Rattle.wgsl_text.specs.Expressions.{Arguments, Call, Expression, operands}
use Rattle.wgsl_text.specs.Statements as tree
use Rattle.wgsl_text.specs.Types.{Named, TypeSpecifier}
use Rattle.naga_form.specs.Expressions.{Source, as_value, plain_form, unnamed_form, value_form}
use Rattle.naga_form.specs.Expressions.{value_forms}
use Rattle.naga_form.specs.Statements.{act_line, barrier_lines, cases_form, case_value_form}
use Rattle.naga_form.specs.Statements.{case_values_form, let_form, lets_form, line_form, lines_form}
use Rattle.naga_form.specs.Statements.{loop_form, optional_form, return_line, shape_form, then_if}
use Rattle.naga_form.proofs.statements.Switches.{last_stays}

-- ---- cases that end
-- the last case of each switch does not fall through, nor does one with statements
abbrev mutual
  pub SwitchesEnd : StatementTree → Type 0
  SwitchesEnd (simple s) = Unit {0}
  SwitchesEnd (block b) = AllEnd b
  SwitchesEnd (branch condition accept reject) = AllEnd accept × AllEnd reject
  SwitchesEnd (switch selector cs) = (last_falls_through false cs ≡ false) × CasesEnd cs
  SwitchesEnd (loop body continuing break_if) = AllEnd body × AllEnd continuing

  pub AllEnd : BlockTree → Type 0
  AllEnd no_statements = Unit {0}
  AllEnd (statement s b) = SwitchesEnd s × AllEnd b

  pub CasesEnd : CaseTrees → Type 0
  CasesEnd no_cases = Unit {0}
  CasesEnd (case value body falls cs) = ((not falls || has_no_statements body) ≡ true) × AllEnd body × CasesEnd cs

module _ (m : Module) (f : Function) (known : List TypeResolution) where
  mutual
    statement_ends : (breaks continues : Bool) (s : StatementTree) →
        statement_is_sound m f known breaks continues s ≡ true → statement_has_form s ≡ true →
        SwitchesEnd s
    statement_ends breaks continues (simple s) sound has = tt
    statement_ends breaks continues (block b) sound has = block_ends breaks continues b sound has
    statement_ends breaks continues (branch condition accept reject) sound has =
        let one = and_parts (is_condition m.types known condition) _ sound in
        let two =
        and_parts (block_is_sound m f known breaks continues accept)
        (block_is_sound m f known breaks continues reject) one.1 in
        let forms = and_parts (block_has_forms accept) (block_has_forms reject) has in
        (block_ends breaks continues accept two.0 forms.0, block_ends breaks continues reject two.1 forms.1)
    statement_ends breaks continues (switch selector cs) sound has =
        let one = and_parts (is_selection m.types known selector cs)
        (cases_are_sound m f known true continues cs) sound in
        (last_stays m.types known selector cs one.0, each_ends continues cs one.1 has)
    statement_ends breaks continues (loop body continuing break_if) sound has =
        let one = and_parts (block_is_sound m f known true true body) _ sound in
        let two =
        and_parts (block_is_sound m f known false false continuing)
        (option_map_or (is_condition m.types known) break_if true) one.1 in
        let forms = and_parts (block_has_forms body) (block_has_forms continuing) has in
        (block_ends true true body one.0 forms.0, block_ends false false continuing two.0 forms.1)

    pub block_ends : (breaks continues : Bool) (b : BlockTree) →
        block_is_sound m f known breaks continues b ≡ true → block_has_forms b ≡ true → AllEnd b
    block_ends breaks continues no_statements sound has = tt
    block_ends breaks continues (statement s b) sound has =
        let one = and_parts (statement_is_sound m f known breaks continues s)
        (block_is_sound m f known breaks continues b) sound in
        let forms = and_parts (statement_has_form s) (block_has_forms b) has in
        (statement_ends breaks continues s one.0 forms.0, block_ends breaks continues b one.1 forms.1)

    each_ends : (continues : Bool) (cs : CaseTrees) →
        cases_are_sound m f known true continues cs ≡ true → cases_have_forms cs ≡ true → CasesEnd cs
    each_ends continues no_cases sound has = tt
    each_ends continues (case value body falls cs) sound has =
        let one = and_parts (block_is_sound m f known true continues body)
        (cases_are_sound m f known true continues cs) sound in
        let empty = and_parts (not falls || has_no_statements body) (block_has_forms body && cases_have_forms cs) has in
        let forms = and_parts (block_has_forms body) (cases_have_forms cs) empty.1 in
        (empty.0, block_ends true continues body one.0 forms.0, each_ends continues cs one.1 forms.1)

-- ---- case values
case_value_told : (value : SwitchValue) → case_value_interface_read (case_value_form value) ≡ case_value_interface value
case_value_told (switch_value.I32 (pos n)) = refl
case_value_told (switch_value.I32 (negsuc n)) = refl
case_value_told (switch_value.U32 n) = refl
case_value_told switch_value.Default = refl

-- a case value after those that wait
waiting_told : (case_values : List tree.CaseValue) (value : SwitchValue) →
    map case_value_interface_read (case_values ++ case_value_form value ∷ []) ≡
    map case_value_interface_read case_values ++ case_value_interface value ∷ []
waiting_told case_values value =
    map-append case_value_interface_read case_values (case_value_form value ∷ [])
    ∙ ap (λ l. map case_value_interface_read case_values ++ l ∷ []) (case_value_told value)

group_told : (case_values : List tree.CaseValue) (value : SwitchValue) →
    own_case_values_read (case_values_form case_values (case_value_form value)) ≡
    map case_value_interface_read case_values ++ case_value_interface value ∷ []
group_told [] value = ap (λ l. l ∷ []) (case_value_told value)
group_told (l ∷ ls) value = ap (λ more. case_value_interface_read l ∷ more) (group_told ls value)

-- what has no statements has no switch
empty_tells : (b : BlockTree) → has_no_statements b ≡ true → block_switches b ≡ []
empty_tells no_statements empty = refl
empty_tells (statement s b) empty = absurd cc

-- ---- what is written
module _ (n : Naming) (annotated : ℕ → Option TypeSpecifier) (source : Source) where
  -- values wait only where a case before fell through
  cases_told : (k : ℕ) (case_values : List tree.CaseValue) (before : Bool) → (before ≡ false → case_values ≡ []) →
      (cs : CaseTrees) → last_falls_through before cs ≡ false → (s : Handles) →
      all_case_values_read (cases_form n annotated source k case_values cs s) ≡
      map case_value_interface_read case_values ++ own_case_values cs
  cases_told k case_values before none no_cases last s =
      ap (λ ls. map case_value_interface_read ls ++ []) (sym (none last))
  cases_told k case_values before none (case value body true cs) last s =
      let following = named_by_all n.function (statements_shape source.declared.context body) k in
      cases_told following (case_values ++ case_value_form value ∷ []) true (λ e. absurd (true≢false e)) cs last s
      ∙ ap (λ ls. ls ++ own_case_values cs) (waiting_told case_values value)
      ∙ append_assoc (map case_value_interface_read case_values) (case_value_interface value ∷ []) (own_case_values cs)
  cases_told k case_values before none (case value body false cs) last s =
      let following = named_by_all n.function (statements_shape source.declared.context body) k in
      let more = cases_told following [] false (λ e. refl) cs last s in
      (λ i. group_told case_values value i ++ more i)
      ∙ append_assoc (map case_value_interface_read case_values) (case_value_interface value ∷ []) (own_case_values cs)

  let_tells : (type : Option TypeSpecifier) (x : List ℕ) (e : Expression) →
      statement_switches (let_form type x e) ≡ []
  let_tells None x e = refl
  let_tells (Some t) x e = refl

  then_if_tells : (b : Bool) (type : Option TypeSpecifier) (x : List ℕ) (e : Expression)
      (rest : tree.Statements) →
      statements_switches (then_if b (let_form type x e) rest) ≡ statements_switches rest
  then_if_tells true type x e rest = ap (λ l. l ++ statements_switches rest) (let_tells type x e)
  then_if_tells false type x e rest = refl

  lets_tell : (k : ℕ) (hs : List ℕ) (s : Handles) (rest : tree.Statements) →
      statements_switches (lets_form n annotated source k hs s rest) ≡ statements_switches rest
  lets_tell k [] s rest = refl
  lets_tell k (h ∷ hs) s rest =
      let next = named_after n.function h k in
      then_if_tells (binds n.function h) (annotated h) (bound_name n k h)
      (as_value (unnamed_form n source s h))
      (lets_form n annotated source next hs (after_one n k h s) rest)
      ∙ lets_tell next hs (after_one n k h s) rest

  return_tells : (s : Handles) (v : Option ℕ) → statement_switches (return_line n source s v) ≡ []
  return_tells s None = refl
  return_tells s (Some h) = refl

  act_tells : (word : List ℕ) (args : Arguments) (outcome : Option ℕ) →
      statement_switches (act_line n annotated word args outcome) ≡ []
  act_tells word args None = refl
  act_tells word args (Some h) =
      let_tells (annotated h) (n.names.numbered h) (Call (Named word) args)

  barriers_tell : (words : List (List ℕ)) (rest : tree.Statements) →
      statements_switches (barrier_lines words rest) ≡ statements_switches rest
  barriers_tell [] rest = refl
  barriers_tell (word ∷ words) rest = barriers_tell words rest

  shape_tells : (k : ℕ) (st : shapes.Statement) (s : Handles) (rest : tree.Statements) →
      statements_switches (shape_form n annotated source k st s rest) ≡ statements_switches rest
  shape_tells k (shapes.Emit first count) s rest = lets_tell k (from first count) s rest
  shape_tells k (shapes.Act action xs outcome) s rest =
      ap (λ l. l ++ statements_switches rest)
      (act_tells (word_of n.names action) (operands (value_forms (plain_form n source s) xs)) outcome)
  shape_tells k (shapes.Barrier bits) s rest = barriers_tell (barrier_words bits) rest
  shape_tells k (shapes.Jumps (shapes.Return v)) s rest = ap (λ l. l ++ statements_switches rest) (return_tells s v)
  shape_tells k _ s rest = refl

  -- what is left out where a block has no statements has no switch
  optional_tells : (k : ℕ) (b : BlockTree) (s : Handles) →
      optional_switches (optional_form b (lines_form n annotated source k b s)) ≡
      statements_switches (lines_form n annotated source k b s)
  optional_tells k no_statements s = refl
  optional_tells k (statement st b) s = refl

  loop_tells : (body : tree.Statements) (b : BlockTree) (continuing : tree.Statements)
      (e : Option Expression) →
      optional_switches (optional_form b continuing) ≡ statements_switches continuing →
      statement_switches (loop_form body b continuing e) ≡
      statements_switches body ++ statements_switches continuing
  loop_tells body b continuing None same = ap (λ l. statements_switches body ++ l) same
  loop_tells body b continuing (Some e) same = refl

  mutual
    line_tells : (k : ℕ) (st : StatementTree) → SwitchesEnd st → (s : Handles)
        (rest : tree.Statements) →
        statements_switches (line_form n annotated source k st s rest) ≡
        switches_in st ++ statements_switches rest
    line_tells k (simple st) ends s rest = shape_tells k (simple_shape source.declared.context st) s rest
    line_tells k (block b) ends s rest =
        ap (λ l. l ++ statements_switches rest) (lines_tell k b ends s)
    line_tells k (branch condition accept reject) ends s rest =
        let following = named_by_all n.function (statements_shape source.declared.context accept) k in
        let other = optional_tells following reject s ∙ lines_tell following reject ends.1 s in
        λ i. (lines_tell k accept ends.0 s i ++ other i) ++ statements_switches rest
    line_tells k (switch selector cs) ends s rest =
        let case_values = cases_told k [] false (λ e. refl) cs ends.0 s in
        λ i. (case_values i ∷ cases_tell k [] cs ends.1 s i) ++ statements_switches rest
    line_tells k (loop body continuing break_if) ends s rest =
        let following = named_by_all n.function (statements_shape source.declared.context body) k in
        let inside = after_all n k (statements_shape source.declared.context body) s in
        let last = after_all n following (statements_shape source.declared.context continuing) inside in
        let both =
        loop_tells (lines_form n annotated source k body s) continuing
        (lines_form n annotated source following continuing inside)
        (option_map (value_form n source last) break_if) (optional_tells following continuing inside)
        ∙ λ i. lines_tell k body ends.0 s i ++ lines_tell following continuing ends.1 inside i in
        ap (λ l. l ++ statements_switches rest) both

    pub lines_tell : (k : ℕ) (b : BlockTree) → AllEnd b → (s : Handles) →
        statements_switches (lines_form n annotated source k b s) ≡ block_switches b
    lines_tell k no_statements ends s = refl
    lines_tell k (statement st b) ends s =
        let shape = statement_shape source.declared.context st in
        let following = named_by n.function shape k in
        line_tells k st ends.0 s (lines_form n annotated source following b (after n k shape s))
        ∙ ap (λ l. switches_in st ++ l) (lines_tell following b ends.1 (after n k shape s))

    cases_tell : (k : ℕ) (case_values : List tree.CaseValue) (cs : CaseTrees) → CasesEnd cs → (s : Handles) →
        cases_switches (cases_form n annotated source k case_values cs s) ≡ case_switches cs
    cases_tell k case_values no_cases ends s = refl
    cases_tell k case_values (case value body true cs) ends s =
        let following = named_by_all n.function (statements_shape source.declared.context body) k in
        cases_tell following (case_values ++ case_value_form value ∷ []) cs ends.2 s
        ∙ ap (λ l. l ++ case_switches cs) (sym (empty_tells body ends.0))
    cases_tell k case_values (case value body false cs) ends s =
        let following = named_by_all n.function (statements_shape source.declared.context body) k in
        λ i. lines_tell k body ends.1 s i ++ cases_tell following [] cs ends.2 s i
