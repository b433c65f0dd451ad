-- Each operand has a role, and roles are found field by field.
use Rattle.std.proofs.Common.{◌≡◌, ℕ, ◌+◌, ◌≤◌, zero, suc, lit≤, Bool, true, false, cond, ◌||◌}
use Rattle.std.proofs.Common.{List, [], ◌∷◌, ◌++◌, length, get_or, drop, refl, sym, ap, ◌∙◌, arith, rules, inl, inr}
use Rattle.std.proofs.Math.Bool.{or-true}
use Rattle.std.proofs.Math.Seq.{drop-nil}
use Rattle.std.proofs.lemmas.Bool.{eq-eqb, false≢true, or_left, or_right}
use Rattle.std.proofs.lemmas.Bool.Decides.{leb_tells}
use Rattle.std.proofs.lemmas.List.{drop_all}
use Rattle.std.proofs.lemmas.List.Folds.{list_all-append}
use Rattle.std.proofs.lemmas.List.Sums.{AllPass-from_list_all, fails_before_first, list_all-from_AllPass}
use Rattle.std.specs.List.{list_all, position_or_len}
use Rattle.std.specs.Option.{is_some, option_and_then, option_or, option_to_list}
use Rattle.std.specs.Prelude.{All, IsSome, None, Option, Some, codes, slice_get, ◌==◌}
use Rattle.module_positions.specs.Roles.{Role, component_role, expression_role, field_role}
use Rattle.module_positions.specs.Roles.{first_role, level_fields, level_role, list_role, statement_role}
use Rattle.naga_fields.specs.Fields.{Field, expression_fields, simple_fields, statement_fields}
use Rattle.naga_ir.specs.Operands.{expression_operands, level_operands, own_operands, simple_operands}
use Rattle.naga_ir.specs.StatementTree.{SimpleStatement, return, image_store, atomic, StatementTree, simple, loop}
use Rattle.naga_ir.specs.StatementTree.{image_atomic, call, subgroup_ballot, subgroup_gather, ray_pipeline_function}
use Rattle.naga_ir.specs.declared.expression.Expression.{Expression}
use Rattle.naga_ir.specs.declared.expression.Expression.TheVariants as expression
use Rattle.naga_ir.specs.declared.expression.ImageQuery.TheVariants.{Size}
use Rattle.naga_ir.specs.declared.expression.SampleLevel.{SampleLevel}
use Rattle.naga_ir.specs.declared.expression.SwizzleComponent.{SwizzleComponent}
use Rattle.naga_ir.specs.declared.expression.SampleLevel.TheVariants.{Exact, Bias, Gradient}
use Rattle.naga_ir.specs.declared.operators.AtomicFunction.TheVariants.{Exchange}
use Rattle.naga_ir.specs.declared.operators.GatherMode.TheVariants.{Broadcast}
use Rattle.naga_ir.specs.declared.statement.RayPipelineFunction.TheVariants.{TraceRay}

-- ---- field by field
-- the first role from a field on is the one in it, or else the first after it
pub first_from : (h n : ℕ) (fs : List Field) → first_role h (drop n fs)
    ≡ option_or (option_and_then (field_role h) (slice_get fs n)) (first_role h (drop (n + 1) fs))
first_from h n [] = simp drop-nil refl
first_from h zero (f ∷ fs) = refl
first_from h (suc n) (f ∷ fs) = let e : suc n + 1 ≡ suc (n + 1) = omega arith in rw e (first_from h n fs)

pub found_at : (h n : ℕ) (fs all : List Field) (r : Role)
    → Some r ≡ option_and_then (field_role h) (slice_get fs n)
    → first_role h (drop n fs) ≡ first_role h all → Some r ≡ first_role h all
found_at h n fs all r here so_far =
    ap (λ o. option_or o (first_role h (drop (n + 1) fs))) here ∙ sym (first_from h n fs) ∙ so_far

pub found_later : (h n : ℕ) (fs all : List Field)
    → None ≡ option_and_then (field_role h) (slice_get fs n)
    → first_role h (drop n fs) ≡ first_role h all → first_role h (drop (n + 1) fs) ≡ first_role h all
found_later h n fs all here so_far =
    ap (λ o. option_or o (first_role h (drop (n + 1) fs))) here ∙ sym (first_from h n fs) ∙ so_far

pub found_nowhere : (h n : ℕ) (fs all : List Field) → length fs ≤ n
    → first_role h (drop n fs) ≡ first_role h all → None ≡ first_role h all
found_nowhere h n fs all le so_far = sym (ap (first_role h) (drop_all n fs le)) ∙ so_far

-- there are six fields at most
pub six_of_expression : (e : Expression) → length (expression_fields e) ≤ 6
six_of_expression (expression.Compose ty components) = lit≤ tt
six_of_expression _ = lit≤ tt

six_of_simple : (s : SimpleStatement) → length (simple_fields s) ≤ 6
six_of_simple (ray_pipeline_function (TraceRay structure descriptor payload)) = lit≤ tt
six_of_simple _ = lit≤ tt

pub six_of_statement : (s : StatementTree) → length (statement_fields s) ≤ 6
six_of_statement (simple s) = six_of_simple s
six_of_statement _ = lit≤ tt

-- ---- each operand has one
same : (h : ℕ) → (h == h) ≡ true
same h = eq-eqb h h refl

some_or : (a b : Option Role) → is_some (option_or a b) ≡ (is_some a || is_some b)
some_or None b = refl
some_or (Some r) b = refl

some_field : (h : ℕ) (name : List ℕ) (held : ℕ) → is_some (field_role h (name, Some held)) ≡ (held == h)
some_field h name held = let r : Role = (name, None) in
    elim (held == h) as (λ b. is_some (cond b (Some r) None) ≡ b) [ true ↦ refl | false ↦ refl ]

-- where the first of two roles is there, or the second
from_first : (a b : Option Role) → IsSome a → IsSome (option_or a b)
from_first a b is = some_or a b ∙ or_left (is_some a) (is_some b) is

from_second : (a b : Option Role) → IsSome b → IsSome (option_or a b)
from_second a b is = some_or a b ∙ or_right (is_some a) (is_some b) is

-- an item of a list
listed : (name : List ℕ) (xs : List ℕ) → All (λ h. IsSome (list_role name h xs)) xs
listed name xs k d lt = let h = get_or xs k d in
    elim (leb_tells (suc (position_or_len (λ x. x == h) xs)) (length xs)) [
      | inl within ↦ rw within.0 refl
      | inr past ↦
          let fails = fails_before_first (λ x. x == h) xs k d (omega (arith, past.1)) in
          absurd (false≢true (sym fails ∙ same h))
    ]

-- what a field holds
held : (h : ℕ) (i : ℕ) (fs : List Field) (name : List ℕ) → slice_get fs i ≡ Some (name, Some h)
    → IsSome (first_role h fs)
held h i [] name is = cc
held h zero (f ∷ fs) name is =
    from_first (field_role h f) (first_role h fs)
    (ap (λ o. is_some (option_and_then (field_role h) o)) is ∙ some_field h name h ∙ same h)
held h (suc i) (f ∷ fs) name is = from_second (field_role h f) (first_role h fs) (held h i fs name is)

module _ (e : Expression) where
  abbrev in_it : ℕ → Bool
  in_it h = is_some (expression_role h e)

  -- what a field of it holds, if it holds one
  of_field : (i : ℕ) (name : List ℕ) (o : Option ℕ) → slice_get (expression_fields e) i ≡ Some (name, o)
      → list_all in_it (option_to_list o) ≡ true
  of_field i name None is = refl
  of_field i name (Some h) is = let l = level_role h e in
      let f = first_role h (expression_fields e) in
      let first = from_first f l (held h i (expression_fields e) name is) in
      rw (from_second (component_role h e) (option_or f l) first) refl

  -- what its level of detail holds
  in_level : (fs : List Field) → ((h : ℕ) → level_role h e ≡ first_role h fs) → (h i : ℕ) (name : List ℕ)
      → slice_get fs i ≡ Some (name, Some h) → in_it h ≡ true
  in_level fs is h i name at =
      let l = level_role h e in
      let f = first_role h (expression_fields e) in
      from_second (component_role h e) (option_or f l) (from_second f l (ap is_some (is h) ∙ held h i fs name at))

  both : (xs ys : List ℕ) → list_all in_it xs ≡ true → list_all in_it ys ≡ true → list_all in_it (xs ++ ys) ≡ true
  both xs ys a b = list_all-append in_it xs ys ∙ rw a b

of_level : (image sampler : ℕ) (gather : Option SwizzleComponent) (coordinate : ℕ) (array_index offset : Option ℕ)
    (level : SampleLevel) (depth_ref : Option ℕ) (clamp : Bool)
    → list_all (in_it (expression.ImageSample image sampler gather coordinate array_index offset level depth_ref clamp))
    (level_operands level) ≡ true
of_level image sampler gather coordinate array_index offset (Exact level) depth_ref clamp =
    let e = expression.ImageSample image sampler gather coordinate array_index offset (Exact level) depth_ref clamp in
    rw (in_level e (level_fields (Exact level)) (λ h. refl) level 0 _ refl) refl
of_level image sampler gather coordinate array_index offset (Bias bias) depth_ref clamp =
    let e = expression.ImageSample image sampler gather coordinate array_index offset (Bias bias) depth_ref clamp in
    rw (in_level e (level_fields (Bias bias)) (λ h. refl) bias 0 _ refl) refl
of_level image sampler gather coordinate array_index offset (Gradient x y) depth_ref clamp =
    let e = expression.ImageSample image sampler gather coordinate array_index offset (Gradient x y) depth_ref clamp in
    let fields = level_fields (Gradient x y) in
    rw (in_level e fields (λ h. refl) x 0 _ refl) (rw (in_level e fields (λ h. refl) y 1 _ refl) refl)
of_level image sampler gather coordinate array_index offset _ depth_ref clamp = refl

ruleset tables = (some_or, some_field, same, or-true)

-- what each operand of an expression passes
passes : (e : Expression) → list_all (in_it e) (expression_operands e) ≡ true
passes (expression.Compose ty components) =
    list_all-from_AllPass _ components.items
    (λ k d lt. from_first _ _ (listed (codes "components") components.items k d lt))
passes (expression.Math fun arg arg1 arg2 arg3) =
    let e = expression.Math fun arg arg1 arg2 arg3 in
    let first = both e (arg ∷ []) (option_to_list arg1) (of_field e 0 _ (Some arg) refl) (of_field e 1 _ arg1 refl) in
    let second = both e (arg ∷ option_to_list arg1) (option_to_list arg2) first (of_field e 2 _ arg2 refl) in
    both e ((arg ∷ option_to_list arg1) ++ option_to_list arg2) (option_to_list arg3) second (of_field e 3 _ arg3 refl)
passes (expression.ImageLoad image coordinate array_index sample level) =
    let e = expression.ImageLoad image coordinate array_index sample level in
    let places = image ∷ coordinate ∷ option_to_list array_index in
    let two = image ∷ coordinate ∷ [] in
    let first = both e two (option_to_list array_index) (simp tables refl) (of_field e 2 _ array_index refl) in
    let second = both e places (option_to_list sample) first (of_field e 3 _ sample refl) in
    both e (places ++ option_to_list sample) (option_to_list level) second (of_field e 4 _ level refl)
passes (expression.ImageSample image sampler gather coordinate array_index offset level depth_ref clamp) =
    let e = expression.ImageSample image sampler gather coordinate array_index offset level depth_ref clamp in
    let places = image ∷ sampler ∷ coordinate ∷ option_to_list array_index in
    let three = image ∷ sampler ∷ coordinate ∷ [] in
    let first = both e three (option_to_list array_index) (simp tables refl) (of_field e 3 _ array_index refl) in
    let second = both e places (option_to_list depth_ref) first (of_field e 5 _ depth_ref refl) in
    let third = both e (places ++ option_to_list depth_ref) (level_operands level) second
    (of_level image sampler gather coordinate array_index offset level depth_ref clamp) in
    both e ((places ++ option_to_list depth_ref) ++ level_operands level) (option_to_list offset) third
    (of_field e 4 _ offset refl)
passes (expression.ImageQuery image (Size (Some level))) = simp tables refl
passes _ = search (rules, tables)

pub expression_operands_have_roles : (e : Expression) → All (λ h. IsSome (expression_role h e)) (expression_operands e)
expression_operands_have_roles e = AllPass-from_list_all _ _ (passes e)

-- the same of a statement by itself
simple_passes : (s : SimpleStatement) → list_all (λ h. is_some (statement_role h (simple s))) (simple_operands s) ≡ true
simple_passes (call function arguments outcome) =
    list_all-from_AllPass _ arguments (λ k d lt. from_first _ _ (listed (codes "arguments") arguments k d lt))
simple_passes (return (Some value)) = simp tables refl
simple_passes (image_store image coordinate (Some array_index) value) = simp tables refl
simple_passes (atomic pointer (Exchange (Some compare)) value outcome) = simp tables refl
simple_passes (image_atomic image coordinate (Some array_index) (Exchange (Some compare)) value) = simp tables refl
simple_passes (image_atomic image coordinate None (Exchange (Some compare)) value) = simp tables refl
simple_passes (subgroup_ballot outcome (Some predicate)) = simp tables refl
simple_passes (subgroup_gather (Broadcast index) argument outcome) = simp tables refl
simple_passes (ray_pipeline_function (TraceRay structure descriptor payload)) = simp tables refl
simple_passes _ = search (rules, tables)

statement_passes : (s : StatementTree) → list_all (λ h. is_some (statement_role h s)) (own_operands s) ≡ true
statement_passes (simple s) = simple_passes s
statement_passes (loop body continuing (Some value)) = simp tables refl
statement_passes _ = search (rules, tables)

pub statement_operands_have_roles : (s : StatementTree) → All (λ h. IsSome (statement_role h s)) (own_operands s)
statement_operands_have_roles s = AllPass-from_list_all _ _ (statement_passes s)
