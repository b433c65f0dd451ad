-- Lemmas of lists that are made from others, and of how many names front ends gave.
use Rattle.std.proofs.Common.{[], ◌≡◌, ℕ, suc, zero, Bool, true, false, List, ◌∷◌, map, ◌++◌, ◌&&◌}
use Rattle.std.proofs.Common.{length, Some, None, Option, refl, sym, ap, ◌∙◌, ◌+◌, ◌<◌, nat_eq, nat_lt}
use Rattle.std.proofs.Common.{◌-◌, arith, add-one, add-zero, zero-add, length-append, string_bytes}
use Rattle.std.specs.Prelude.{slice_get, unwrap_or, get_or, cond, if◌then◌else◌}
use Rattle.std.specs.List.{list_any}
use Rattle.std.specs.Option.{is_some, option_map, option_to_list}
use Rattle.std.proofs.lemmas.Bool.{ltb-true, ltb-false, lt-ltb, le-ltb}
use Rattle.std.proofs.lemmas.Map.Made.{is_some-lookup}
use Rattle.naga_info.proofs.Options.{some_kept}
use Rattle.naga_ir.specs.StatementTree.{emit, store, StatementTree, simple, block, branch}
use Rattle.naga_ir.specs.StatementTree.{switch, loop, BlockTree, no_statements, statement}
use Rattle.naga_ir.specs.StatementTree.{CaseTrees, no_cases, case}
use Rattle.naga_ir.specs.declared.expression.Expression as ir
use Rattle.naga_ir.specs.declared.module.Function as ir_function
use Rattle.naga_ir.specs.declared.module.Module.{Module}
use Rattle.naga_info.specs.declared.info.ExpressionInfo.{ExpressionInfo}
use Rattle.naga_info.specs.declared.info.ModuleInfo.{ModuleInfo}
use Rattle.shader_runs.specs.Value.{ValueType, BooleanType, type_at}
use Rattle.shader_runs.specs.Program as shapes
use Rattle.shader_runs.specs.Program.{is_named, from}
use Rattle.shader_runs.specs.Scope.{named_by_all, named_by_cases, named_after}
use Rattle.shader_runs.specs.Scope.{named_after_all, named_by}
use Rattle.module_semantics.specs.ExpressionOperators.{ExpressionContext, is_atomic_pointer}
use Rattle.module_semantics.specs.FunctionShapes.{function_shape, statement_shape, statements_shape}
use Rattle.module_semantics.specs.FunctionShapes.{cases_shape}
use Rattle.module_semantics.specs.ExpressionLabels.{block_labels, cases_labels, label_of, labels_in}
use Rattle.module_semantics.specs.ExpressionLabels.{labels_of_each}
use Rattle.module_semantics.specs.Shapes.{named_from}
use Rattle.module_semantics.specs.StatementShapes.{store_shape}
use Rattle.module_semantics.specs.ExpressionContexts.{declared, types_known}
use Rattle.indexmap.specs.IndexMap.{get, keys}

-- what stands at an index of a list made from other things
pub mapped_at : {X Y : Type 0} (t : X → Y) (d : Y) (xs : List X) (i : ℕ) (x : X) → slice_get xs i ≡ Some x →
    get_or (map t xs) i d ≡ t x
mapped_at t d [] i x found = absurd (cc)
mapped_at t d (y ∷ xs) zero x found = ap t (ap (λ o. unwrap_or o y) found)
mapped_at t d (y ∷ xs) (suc i) x found = mapped_at t d xs i x found

-- the type at an index of a list of types made from other things
pub type_at_mapped : {X : Type 0} (t : X → ValueType) (xs : List X) (i : ℕ) (x : X) → slice_get xs i ≡ Some x →
    type_at (map t xs) i ≡ t x
type_at_mapped t xs i x found = mapped_at t BooleanType xs i x found

pub mapped_length : {X Y : Type 0} (f : X → Y) (xs : List X) → length (map f xs) ≡ length xs
mapped_length f [] = refl
mapped_length f (x ∷ xs) = ap suc (mapped_length f xs)

-- ---- front ends' names
lt_suc : (a b : ℕ) → nat_lt (suc a) (suc b) ≡ nat_lt a b
lt_suc a b = by (nat_lt a b) refl
  where
    by : (t : Bool) → nat_lt a b ≡ t → nat_lt (suc a) (suc b) ≡ t
    by true e = let lt = ltb-true a b e in lt-ltb (suc a) (suc b) (omega (arith, lt))
    by false e = let le = ltb-false a b e in le-ltb (suc a) (suc b) (omega (arith, le))

-- a handle of these expressions is given where it is one of these keys
named_at : (ks : List ℕ) (n : ℕ) (es : List ir.Expression) (h : ℕ) →
    get_or (named_from ks n es) h false ≡ (nat_lt h (length es) && list_any (nat_eq (n + h)) ks)
named_at ks n [] h =
    sym (ap (λ b. b && list_any (nat_eq (n + h)) ks) (le-ltb h 0 (omega arith)))
named_at ks n (e ∷ es) zero =
    let some : 0 < length (e ∷ es) = omega arith in
    ap (λ j. list_any (nat_eq j) ks) (sym (add-zero n))
    ∙ sym (ap (λ b. b && list_any (nat_eq (n + 0)) ks) (lt-ltb 0 (length (e ∷ es)) some))
named_at ks n (e ∷ es) (suc h) =
    let same : n + 1 + h ≡ n + suc h = omega arith in
    named_at ks (n + 1) es h
    ∙ (λ i. sym (lt_suc h (length es)) i && list_any (nat_eq (same i)) ks)

-- ---- how many names front ends gave in front of a point
joined : (k : ℕ) (xs ys : List (List ℕ)) → k + length xs + length ys ≡ k + length (xs ++ ys)
joined k xs ys = let both = length-append xs ys in omega (arith, both)

module _ (m : Module) (info : ModuleInfo) (f : ir_function.Function) (es : List ExpressionInfo) where
  abbrev own_shape : shapes.Function
  own_shape = function_shape m info f es

  abbrev context : ExpressionContext
  context = (declared m info (types_known es)).context

  -- a handle is given a name where it has a label
  pub named_is : (h : ℕ) → is_named own_shape h ≡ is_some (label_of f h)
  named_is h =
      named_at (keys f.named_expressions) 0 f.expressions h
      ∙ (ap (λ j. nat_lt h (length f.expressions) && list_any (nat_eq j) (keys f.named_expressions)) (zero-add h)
      ∙ by (nat_lt h (length f.expressions)))
    where
      found : is_some (option_map string_bytes (get nat_eq f.named_expressions h))
          ≡ list_any (nat_eq h) (keys f.named_expressions)
      found = some_kept string_bytes (get nat_eq f.named_expressions h)
          ∙ is_some-lookup (nat_eq h) f.named_expressions.entries

      by : (b : Bool) → (b && list_any (nat_eq h) (keys f.named_expressions))
          ≡ is_some (if b then option_map string_bytes (get nat_eq f.named_expressions h) else None)
      by true = sym found
      by false = refl

  pub named_one : (h k : ℕ) → named_after own_shape h k ≡ k + length (option_to_list (label_of f h))
  named_one h k = ap (λ b. cond b (suc k) k) (named_is h) ∙ by (label_of f h)
    where
      by : (o : Option (List ℕ)) → cond (is_some o) (suc k) k ≡ k + length (option_to_list o)
      by None = sym (add-zero k)
      by (Some label) = sym (add-one k)

  pub named_some : (hs : List ℕ) (k : ℕ) → named_after_all own_shape hs k ≡ k + length (labels_of_each f hs)
  named_some [] k = sym (add-zero k)
  named_some (h ∷ hs) k =
      named_some hs (named_after own_shape h k)
      ∙ (ap (λ n. n + length (labels_of_each f hs)) (named_one h k)
      ∙ joined k (option_to_list (label_of f h)) (labels_of_each f hs))

  mutual
    pub named_by_is : (st : StatementTree) (k : ℕ) → named_by own_shape (statement_shape context st) k
        ≡ k + length (labels_in f st)
    named_by_is (simple (emit first last)) k = named_some (from first (last - first)) k
    named_by_is (simple (store pointer value)) k = stored (is_atomic_pointer context pointer)
      where
        stored : (b : Bool) → named_by own_shape (store_shape b pointer value) k ≡ k + 0
        stored true = sym (add-zero k)
        stored false = sym (add-zero k)
    named_by_is (simple _) k = sym (add-zero k)
    named_by_is (block b) k = named_by_all_is b k
    named_by_is (branch condition accept reject) k =
        named_by_all_is reject (named_by_all own_shape (statements_shape context accept) k)
        ∙ (ap (λ n. n + length (block_labels f reject)) (named_by_all_is accept k)
        ∙ joined k (block_labels f accept) (block_labels f reject))
    named_by_is (switch selector cases) k = named_by_cases_is cases k
    named_by_is (loop body continuing break_if) k =
        named_by_all_is continuing (named_by_all own_shape (statements_shape context body) k)
        ∙ (ap (λ n. n + length (block_labels f continuing)) (named_by_all_is body k)
        ∙ joined k (block_labels f body) (block_labels f continuing))

    pub named_by_all_is : (b : BlockTree) (k : ℕ) → named_by_all own_shape (statements_shape context b) k
        ≡ k + length (block_labels f b)
    named_by_all_is no_statements k = sym (add-zero k)
    named_by_all_is (statement st b) k =
        named_by_all_is b (named_by own_shape (statement_shape context st) k)
        ∙ (ap (λ n. n + length (block_labels f b)) (named_by_is st k)
        ∙ joined k (labels_in f st) (block_labels f b))

    named_by_cases_is : (cs : CaseTrees) (k : ℕ) → named_by_cases own_shape (cases_shape context cs) k
        ≡ k + length (cases_labels f cs)
    named_by_cases_is no_cases k = sym (add-zero k)
    named_by_cases_is (case value body falls cs) k =
        named_by_cases_is cs (named_by_all own_shape (statements_shape context body) k)
        ∙ (ap (λ n. n + length (cases_labels f cs)) (named_by_all_is body k)
        ∙ joined k (block_labels f body) (cases_labels f cs))
