-- Steps of the search for why an expression has no value.
use Rattle.std.proofs.Common.{◌≡◌, ℕ, zero, suc, ◌+◌, ◌-◌, ◌<◌, List, [], ◌∷◌, ◌++◌, ap, ◌∙◌, sym}
use Rattle.std.proofs.Common.{arith, add-one, Bool, Some, None}
use Rattle.std.proofs.lemmas.List.{drop_more}
use Rattle.std.proofs.lemmas.Option.{slice_get_within, get_or_from_slice_get}
use Rattle.std.specs.Prelude.{drop, slice_get}
use Rattle.std.specs.Result.{result_err}
use Rattle.naga_ir.specs.InOrder.{trees_in}
use Rattle.naga_ir.specs.StatementTree.{StatementTree, BlockTree, statement, CaseTrees, case}
use Rattle.naga_ir.specs.declared.expression.Expression.{Expression}
use Rattle.naga_ir.specs.declared.statement.SwitchValue.{SwitchValue}
use Rattle.naga_listing.specs.Named.{sought, statement_trees}
use Rattle.module_positions.specs.Roots.{first_value, given, given_each, given_one, given_range, in_block}
use Rattle.module_positions.specs.Roots.{in_cases, in_or_past, in_statement, left_after, left_after_each}
use Rattle.module_positions.specs.Roots.{skipped, with_first}
use Rattle.module_positions.specs.Roots.{skipped_each, skipped_one, skipped_range}
use Rattle.module_positions.specs.declared.roots.Stop.{Stop}
use Rattle.module_positions.specs.declared.roots.Value.{Value}

-- ---- ranges
one_more : (i e : ℕ) → i < e → e - i ≡ suc (e - (i + 1))
one_more i e lt = omega (arith, lt)

pub given_step : (es : List Expression) (n i e : ℕ) (values : List Value) → i < e →
    given_range es n i (e - i) values ≡ given_range es n (i + 1) (e - (i + 1)) (given_one es n i values)
given_step es n i e values lt =
    ap (λ c. given_range es n i c values) (one_more i e lt)
    ∙ ap (λ k. given_range es n k (e - (i + 1)) (given_one es n i values)) (sym (add-one i))

pub skipped_step : (n i e : ℕ) (values : List Value) → i < e →
    skipped_range n i (e - i) values ≡ skipped_range n (i + 1) (e - (i + 1)) (skipped_one n i values)
skipped_step n i e values lt =
    ap (λ c. skipped_range n i c values) (one_more i e lt)
    ∙ ap (λ k. skipped_range n k (e - (i + 1)) (skipped_one n i values)) (sym (add-one i))

-- where none are left
none_left : (i e : ℕ) → e < i + 1 → e - i ≡ zero
none_left i e le = omega (arith, le)

-- ---- expressions
pub first_more : (es : List Expression) (i : ℕ) (e : Expression) (values now : List Value) (v : Value) →
    slice_get es i ≡ Some e → v ≡ first_value values e → now ≡ values ++ (v ∷ []) →
    with_first now (drop (i + 1) es) ≡ with_first values (drop i es)
first_more es i e values now v here is added =
    ap (λ vs. with_first vs (drop (i + 1) es)) (added ∙ ap (λ v. values ++ (v ∷ [])) is)
    ∙ ap (with_first values) (sym (drop_more es i e (slice_get_within es i e here)
    ∙ ap (λ x. x ∷ drop (i + 1) es) (get_or_from_slice_get es i e e here)))

-- ---- lists of statements
pub left_step : (left next : ℕ) (b b' : BlockTree) (s : StatementTree) → b ≡ statement s b' →
    next ≡ left_after left s → left_after_each left b ≡ left_after_each next b'
left_step left next b b' s split is =
    ap (left_after_each left) split ∙ ap (λ k. left_after_each k b') (sym is)

pub given_each_step : (es : List Expression) (end left next : ℕ) (b b' : BlockTree) (s : StatementTree)
    (values now : List Value) → b ≡ statement s b' → next ≡ left_after left s →
    now ≡ given es (end - left) s values →
    given_each es end left b values ≡ given_each es end next b' now
given_each_step es end left next b b' s values now split is after =
    ap (λ d. given_each es end left d values) split
    ∙ ap (λ k. given_each es end k b' (given es (end - left) s values)) (sym is)
    ∙ ap (given_each es end next b') (sym after)

pub skipped_each_step : (end left next : ℕ) (b b' : BlockTree) (s : StatementTree)
    (values now : List Value) → b ≡ statement s b' → next ≡ left_after left s →
    now ≡ skipped (end - left) s values →
    skipped_each end left b values ≡ skipped_each end next b' now
skipped_each_step end left next b b' s values now split is after =
    ap (λ d. skipped_each end left d values) split
    ∙ ap (λ k. skipped_each end k b' (skipped (end - left) s values)) (sym is)
    ∙ ap (skipped_each end next b') (sym after)

-- ---- to the point
pub block_here : (es : List Expression) (end : ℕ) (at : Stop) (left : ℕ) (b b' : BlockTree)
    (s : StatementTree) (values : List Value) → b ≡ statement s b' →
    None ≡ result_err (sought left (statement_trees s)) →
    in_block es end at left b values ≡ in_statement es end at left s values
block_here es end at left b b' s values split none =
    ap (λ d. in_block es end at left d values) split
    ∙ ap (in_or_past (in_statement es end at left s values)
    (λ rest. in_block es end at rest b' (given es (end - left) s values))) (sym none)

pub block_past : (es : List Expression) (end : ℕ) (at : Stop) (left rest : ℕ) (b b' : BlockTree)
    (s : StatementTree) (values now : List Value) → b ≡ statement s b' →
    Some rest ≡ result_err (sought left (statement_trees s)) → now ≡ given es (end - left) s values →
    in_block es end at left b values ≡ in_block es end at rest b' now
block_past es end at left rest b b' s values now split some after =
    ap (λ d. in_block es end at left d values) split
    ∙ ap (in_or_past (in_statement es end at left s values)
    (λ rest. in_block es end at rest b' (given es (end - left) s values))) (sym some)
    ∙ ap (in_block es end at rest b') (sym after)

pub case_here : (es : List Expression) (end : ℕ) (at : Stop) (left : ℕ) (cs cs' : CaseTrees)
    (v : SwitchValue) (b : BlockTree) (falls : Bool) (values : List Value) → cs ≡ case v b falls cs' →
    None ≡ result_err (sought left (trees_in b)) →
    in_cases es end at left cs values ≡ in_block es end at left b values
case_here es end at left cs cs' v b falls values split none =
    ap (λ d. in_cases es end at left d values) split
    ∙ ap (in_or_past (in_block es end at left b values) (λ rest. in_cases es end at rest cs' values)) (sym none)

pub case_past : (es : List Expression) (end : ℕ) (at : Stop) (left rest : ℕ) (cs cs' : CaseTrees)
    (v : SwitchValue) (b : BlockTree) (falls : Bool) (values : List Value) → cs ≡ case v b falls cs' →
    Some rest ≡ result_err (sought left (trees_in b)) →
    in_cases es end at left cs values ≡ in_cases es end at rest cs' values
case_past es end at left rest cs cs' v b falls values split some =
    ap (λ d. in_cases es end at left d values) split
    ∙ ap (in_or_past (in_block es end at left b values) (λ rest. in_cases es end at rest cs' values)) (sym some)
