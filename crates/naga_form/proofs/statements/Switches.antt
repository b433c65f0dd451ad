-- The cases of a switch that is accepted: their values are of the grammar, and what is written has
-- exactly one default, since one value is the default and the last case does not fall through.
use Rattle.std.proofs.Common.{◌≡◌, ℕ, Bool, true, false, not, ◌&&◌, List, [], ◌∷◌, ◌++◌, ◌^◌, refl}
use Rattle.std.proofs.Common.{pos, negsuc, ◌+◌, ◌==◌, sym, ap, ◌∙◌, true≢false, add-zero, zero-add}
use Rattle.std.proofs.Common.{Option}
use Rattle.std.specs.Prelude.{IsTrue}
use Rattle.std.proofs.Math.Nat.{add_assoc}
use Rattle.std.proofs.lemmas.Bool.{and_parts, ltb-true, not-true}
use Rattle.naga_ir.specs.StatementTree.{CaseTrees, no_cases, case}
use Rattle.naga_ir.specs.declared.statement.SwitchValue.{SwitchValue}
use Rattle.naga_ir.specs.declared.statement.SwitchValue.TheVariants as switch_value
use Rattle.naga_ir.specs.declared.types.TypeInner.{TypeInner}
use Rattle.naga_ir.specs.declared.types.TypeInner.TheVariants as inner
use Rattle.naga_ir.specs.declared.types.Type_.{Type_}
use Rattle.naga_info.specs.declared.info.TypeResolution.{TypeResolution}
use Rattle.module_semantics.specs.acceptance.Numbers.{case_value_fits_32_bits}
use Rattle.module_semantics.specs.acceptance.StatementsFit.{has_case_value, is_selection}
use Rattle.module_semantics.specs.acceptance.StatementsFit.{case_values_are_of, case_values_differ}
use Rattle.module_semantics.specs.acceptance.StatementsFit.{case_values_fit, last_falls_through}
use Rattle.module_semantics.specs.acceptance.StatementsFit.{selection_fits, is_selector_type}
use Rattle.wgsl_text.specs.Functions.{Each}
use Rattle.module_semantics.specs.FunctionShapes.{statements_shape}
use Rattle.shader_runs.specs.Scope.{Handles, Naming, named_by_all}
use Rattle.wgsl_text.specs.Statements.{IsCaseValue, AreCaseValues, default_count, defaults_among}
use Rattle.wgsl_text.specs.Statements.{defaults_at}
use Rattle.wgsl_text.specs.Statements as tree
use Rattle.wgsl_text.specs.Types.{TypeSpecifier}
use Rattle.naga_form.specs.Expressions.{Source}
use Rattle.naga_form.specs.Statements.{cases_form, case_value_form, case_values_form}
use Rattle.naga_form.proofs.statements.WellFormed.{operand_at}

-- ---- case values
case_value_is : (value : SwitchValue) → case_value_fits_32_bits value ≡ true → IsCaseValue (case_value_form value)
case_value_is (switch_value.I32 (pos n)) fits = ltb-true n (2 ^ 31) fits
case_value_is (switch_value.I32 (negsuc n)) fits = ltb-true n (2 ^ 31) fits
case_value_is (switch_value.U32 n) fits = ltb-true n (2 ^ 32) fits
case_value_is switch_value.Default fits = tt

-- a case value after those that wait for it
pub case_values_are : (case_values : List tree.CaseValue) (value : SwitchValue) → Each IsCaseValue case_values →
    case_value_fits_32_bits value ≡ true → AreCaseValues (case_values_form case_values (case_value_form value))
case_values_are [] value are fits = case_value_is value fits
case_values_are (l ∷ ls) value are fits = (are.0, case_values_are ls value are.1 fits)

pub case_values_more : (case_values : List tree.CaseValue) (value : SwitchValue) → Each IsCaseValue case_values →
    case_value_fits_32_bits value ≡ true → Each IsCaseValue (case_values ++ case_value_form value ∷ [])
case_values_more [] value are fits = (case_value_is value fits, tt)
case_values_more (l ∷ ls) value are fits = (are.0, case_values_more ls value are.1 fits)

-- ---- the default
-- how many of the case values are the default
abbrev pub defaults_in : CaseTrees → ℕ
defaults_in no_cases = 0
defaults_in (case value body falls cs) = defaults_at (case_value_form value) + defaults_in cs

no_default : (cs : CaseTrees) → has_case_value switch_value.Default cs ≡ false → defaults_in cs ≡ 0
no_default no_cases has = refl
no_default (case (switch_value.I32 (pos n)) body falls cs) has = zero-add (defaults_in cs) ∙ no_default cs has
no_default (case (switch_value.I32 (negsuc n)) body falls cs) has = zero-add (defaults_in cs) ∙ no_default cs has
no_default (case (switch_value.U32 n) body falls cs) has = zero-add (defaults_in cs) ∙ no_default cs has
no_default (case switch_value.Default body falls cs) has = absurd cc

-- case values that differ have one at most
one_default : (cs : CaseTrees) → case_values_differ cs ≡ true → has_case_value switch_value.Default cs ≡ true →
    defaults_in cs ≡ 1
one_default no_cases differ has = absurd cc
one_default (case (switch_value.I32 (pos n)) body falls cs) differ has =
    let rest = and_parts (not (has_case_value (switch_value.I32 (pos n)) cs)) (case_values_differ cs) differ in
    zero-add (defaults_in cs) ∙ one_default cs rest.1 has
one_default (case (switch_value.I32 (negsuc n)) body falls cs) differ has =
    let rest = and_parts (not (has_case_value (switch_value.I32 (negsuc n)) cs)) (case_values_differ cs) differ in
    zero-add (defaults_in cs) ∙ one_default cs rest.1 has
one_default (case (switch_value.U32 n) body falls cs) differ has =
    let rest = and_parts (not (has_case_value (switch_value.U32 n) cs)) (case_values_differ cs) differ in
    zero-add (defaults_in cs) ∙ one_default cs rest.1 has
one_default (case switch_value.Default body falls cs) differ has =
    let only = and_parts (not (has_case_value switch_value.Default cs)) (case_values_differ cs) differ in
    ap (λ count. 1 + count) (no_default cs (not-true (has_case_value switch_value.Default cs) only.0))

-- the last case does not fall through, and one value is the default
abbrev pub HasOneDefault : CaseTrees → Type 0
HasOneDefault cs = (last_falls_through false cs ≡ false) × (defaults_in cs ≡ 1)

module _ (types : List Type_) (known : List TypeResolution) (selector : ℕ) (cs : CaseTrees)
    (fits : is_selection types known selector cs ≡ true) where
  pub has_one_default : HasOneDefault cs
  has_one_default = let o = operand_at types known (selection_fits cs) selector fits in by o.itself o.taken
    where
      by : (it : TypeInner) → selection_fits cs it ≡ true → HasOneDefault cs
      by (inner.Scalar s) fits =
          let one = and_parts (is_selector_type s) (case_values_fit s cs) fits in
          let two =
          and_parts (case_values_are_of s cs)
          (case_values_differ cs && (has_case_value switch_value.Default cs
          && not (last_falls_through false cs))) one.1 in
          let three =
          and_parts (case_values_differ cs)
          (has_case_value switch_value.Default cs && not (last_falls_through false cs)) two.1 in
          let four = and_parts (has_case_value switch_value.Default cs) (not (last_falls_through false cs)) three.1 in
          (not-true (last_falls_through false cs) four.1, one_default cs three.0 four.0)
      by _ fits = absurd cc

  -- the last case does not fall through
  pub last_stays : last_falls_through false cs ≡ false
  last_stays = has_one_default.0

-- ---- the default of what is written
-- how many of the case values that wait are the default
abbrev waiting_defaults : List tree.CaseValue → ℕ
waiting_defaults [] = 0
waiting_defaults (l ∷ ls) = defaults_at l + waiting_defaults ls

-- a case value after those that wait
waiting_more : (case_values : List tree.CaseValue) (l : tree.CaseValue) →
    waiting_defaults (case_values ++ l ∷ []) ≡ waiting_defaults case_values + defaults_at l
waiting_more [] l = add-zero (defaults_at l) ∙ sym (zero-add (defaults_at l))
waiting_more (one ∷ case_values) l =
    ap (λ count. defaults_at one + count) (waiting_more case_values l)
    ∙ sym (add_assoc (defaults_at one) (waiting_defaults case_values) (defaults_at l))

group_defaults : (case_values : List tree.CaseValue) (l : tree.CaseValue) →
    defaults_among (case_values_form case_values l) ≡ waiting_defaults case_values + defaults_at l
group_defaults [] l = sym (zero-add (defaults_at l))
group_defaults (one ∷ case_values) l =
    ap (λ count. defaults_at one + count) (group_defaults case_values l)
    ∙ sym (add_assoc (defaults_at one) (waiting_defaults case_values) (defaults_at l))

module _ (n : Naming) (annotated : ℕ → Option TypeSpecifier) (source : Source) where
  -- values wait only where a case before fell through
  defaults_kept : (k : ℕ) (case_values : List tree.CaseValue) (before : Bool) → (before ≡ false → case_values ≡ []) →
      (cs : CaseTrees) → last_falls_through before cs ≡ false → (s : Handles) →
      default_count (cases_form n annotated source k case_values cs s) ≡
      waiting_defaults case_values + defaults_in cs
  defaults_kept k case_values before none no_cases last s =
      ap (λ ls. waiting_defaults ls + 0) (sym (none last))
  defaults_kept k case_values before none (case value body true cs) last s =
      let following = named_by_all n.function (statements_shape source.declared.context body) k in
      defaults_kept following (case_values ++ case_value_form value ∷ []) true (λ e. absurd (true≢false e)) cs last s
      ∙ ap (λ count. count + defaults_in cs) (waiting_more case_values (case_value_form value))
      ∙ add_assoc (waiting_defaults case_values) (defaults_at (case_value_form value)) (defaults_in cs)
  defaults_kept k case_values before none (case value body false cs) last s =
      let following = named_by_all n.function (statements_shape source.declared.context body) k in
      let more = defaults_kept following [] false (λ e. refl) cs last s ∙ zero-add (defaults_in cs) in
      (λ i. group_defaults case_values (case_value_form value) i + more i)
      ∙ add_assoc (waiting_defaults case_values) (defaults_at (case_value_form value)) (defaults_in cs)

  -- what is written has one default
  pub one_is_written : (k : ℕ) (cs : CaseTrees) → HasOneDefault cs → (s : Handles) →
      IsTrue (default_count (cases_form n annotated source k [] cs s) == 1)
  one_is_written k cs has s =
      let all = defaults_kept k [] false (λ e. refl) cs has.0 s in
      ap (λ count. count == 1) (all ∙ zero-add (defaults_in cs) ∙ has.1)
