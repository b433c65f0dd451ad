-- Operators of an accepted module that the runs call by one word, over operands of equal types, have
-- results of equal types, wherever they stand in it.
use Rattle.std.proofs.Common.{◌≡◌, ℕ, zero, suc, ◌+◌, true, List, [], ◌∷◌, ◌++◌, refl, sym, ap, ◌∙◌}
use Rattle.std.proofs.Common.{length, subst, Some, slice_get, get_or, map, arith, drop}
use Rattle.std.specs.List.{flat_map, enumerate_from}
use Rattle.std.specs.Option.{option_map, option_map_or, option_to_list}
use Rattle.std.proofs.lemmas.Option.{same_Some}
use Rattle.std.proofs.lemmas.List.{length-map}
use Rattle.naga_ir.specs.Operands.{expression_operands}
use Rattle.naga_ir.specs.declared.expression.Expression.{Expression}
use Rattle.naga_ir.specs.declared.module.Module.{Module}
use Rattle.naga_info.specs.declared.info.ModuleInfo.{ModuleInfo}
use Rattle.naga_info.specs.declared.info.TypeResolution.{TypeResolution}
use Rattle.shader_runs.specs.Value.{ValueType, BooleanType, type_at}
use Rattle.module_semantics.specs.acceptance.AgreeingOperators.{operator_key, identity_at}
use Rattle.module_semantics.specs.acceptance.AgreeingOperators.{expression_use, Group, uses_of}
use Rattle.module_semantics.specs.acceptance.AgreeingOperators.{groups_of, module_uses}
use Rattle.module_semantics.specs.acceptance.AgreeingOperators.{module_operators_agree}
use Rattle.module_semantics.specs.AlikeTypes.{type_identity}
use Rattle.module_semantics.specs.ExpressionOperators.{applied_operator}
use Rattle.module_semantics.specs.acceptance.Operations.{Operation}
use Rattle.module_semantics.specs.OperatorTable.{Operator, run_word}
use Rattle.module_semantics.specs.ExpressionContexts.{expression_context}
use Rattle.module_semantics.specs.Types.{type_of_values}
use Rattle.module_semantics.proofs.FunctionNumbers.{in_left}
use Rattle.module_semantics.proofs.Operations.{all_agree_at}
use Rattle.naga_form.proofs.operators.OperatorKeys.{IsFormed, IsKeyed, keyed, one_key_of_word}
use Rattle.naga_form.proofs.types.SameValues.{TypesAreCounted, IsFit, numbers_by_values}
use Rattle.naga_form.proofs.types.SameValues.{values_by_numbers}

-- ---- where an item of a list of lists stands
abbrev pub IsIn : {X : Type 0} → List X → X → Type 0
IsIn xs x = (i : ℕ) × (slice_get xs i ≡ Some x)

pub in_right : {X : Type 0} (xs ys : List X) (x : X) → IsIn ys x → IsIn (xs ++ ys) x
in_right [] ys x there = there
in_right (y ∷ xs) ys x there = let k = in_right xs ys x there in (suc k.0, k.1)

pub in_flat_map : {X Y : Type 0} (f : X → List Y) (xs : List X) (i : ℕ) (x : X) (y : Y) → slice_get xs i
    ≡ Some x → IsIn (f x) y → IsIn (flat_map f xs) y
in_flat_map f [] i x y here there = absurd cc
in_flat_map {Y = Y} f (z ∷ xs) zero x y here there =
    let moved : IsIn (f z) y = subst (λ w. IsIn (f w) y) (sym (same_Some z x here)) there in
    (moved.0, in_left (f z) (flat_map f xs) moved.0 y moved.1)
in_flat_map f (z ∷ xs) (suc i) x y here there = in_right (f z) (flat_map f xs) y (in_flat_map f xs i x y here there)

in_enumerated : {X : Type 0} (n : ℕ) (xs : List X) (i : ℕ) (x : X) → slice_get xs i ≡ Some x →
    slice_get (enumerate_from n xs) i ≡ Some (n + i, x)
in_enumerated n [] i x here = absurd cc
in_enumerated n (y ∷ xs) zero x here = let at : n ≡ n + 0 = omega arith in λ i. Some (at i, same_Some y x here i)
in_enumerated n (y ∷ xs) (suc i) x here = let at : (n + 1) + i ≡ n + suc i = omega arith in
    in_enumerated (n + 1) xs i x here ∙ ap (λ k. Some (k, x)) at

-- ---- uses of operators
-- an expression that is one
pub record IsUse (m : Module) (info : ModuleInfo) : Type 0 where
  pub number : ℕ
  pub group : Group
  pub handle : ℕ
  pub expression : Expression
  pub key : List ℕ
  pub group_there : slice_get (groups_of m info) number ≡ Some group
  pub expression_there : slice_get group.expressions handle ≡ Some expression
  pub key_is : operator_key m.types group.known expression ≡ Some key

module _ (m : Module) (info : ModuleInfo) where
  abbrev operation_of_use : IsUse m info → Operation
  operation_of_use u = record {
    operator = u.key;
    operands = map (identity_at m.types u.group.known) (expression_operands u.expression);
    answer = identity_at m.types u.group.known u.handle;
  }

  stands : (u : IsUse m info) → IsIn (module_uses m info) (operation_of_use u)
  stands u =
      in_flat_map (uses_of m.types) (groups_of m info) u.number u.group (operation_of_use u) u.group_there
      (in_flat_map (λ p. option_to_list (expression_use m.types u.group.known p.0 p.1))
      (enumerate_from 0 u.group.expressions) u.handle (u.handle, u.expression) (operation_of_use u)
      (in_enumerated 0 u.group.expressions u.handle u.expression u.expression_there
      ∙ (let at : 0 + u.handle ≡ u.handle = omega arith in ap (λ k. Some (k, u.expression)) at)) (
        0,
        ap (λ o. slice_get (option_to_list (option_map (λ operator. record {
          operator = operator;
          operands = map (identity_at m.types u.group.known) (expression_operands u.expression);
          answer = identity_at m.types u.group.known u.handle;
        }) o)) 0) u.key_is,
      ))

  -- uses of one key over operands that are told alike have answers that are told alike
  pub uses_agree : module_operators_agree m info ≡ true → (a b : IsUse m info) → a.key ≡ b.key →
      map (identity_at m.types a.group.known) (expression_operands a.expression)
      ≡ map (identity_at m.types b.group.known) (expression_operands b.expression) →
      identity_at m.types a.group.known a.handle ≡ identity_at m.types b.group.known b.handle
  uses_agree agree a b keys operands =
      let one = stands a in let two = stands b in
      all_agree_at (module_uses m info) agree one.0 two.0 (operation_of_use a) (operation_of_use b) one.1 two.1
      keys operands

  -- ---- the same over values
  -- the type of the values of a handle
  abbrev pub value_at : List TypeResolution → ℕ → ValueType
  value_at known h = type_at (map (type_of_values m) known) h

  -- all of these are known
  abbrev pub AreKnown : List TypeResolution → List ℕ → Type 0
  AreKnown known [] = Unit {0}
  AreKnown known (h ∷ hs) = ((r : TypeResolution) × (slice_get known h ≡ Some r)) × AreKnown known hs

  -- each known type is fit
  abbrev pub AllFit : List TypeResolution → Type 0
  AllFit known = (h : ℕ) (r : TypeResolution) → slice_get known h ≡ Some r → IsFit m r

  pub value_is : (known : List TypeResolution) (h : ℕ) (r : TypeResolution) → slice_get known h ≡ Some r →
      value_at known h ≡ type_of_values m r
  value_is [] h r at = absurd cc
  value_is (k ∷ known) zero r at = ap (type_of_values m) (same_Some k r at)
  value_is (k ∷ known) (suc h) r at = value_is known h r at

  identity_is : (known : List TypeResolution) (h : ℕ) (r : TypeResolution) → slice_get known h ≡ Some r →
      identity_at m.types known h ≡ type_identity m.types r
  identity_is known h r at = ap (λ o. option_map_or (type_identity m.types) o []) at

  module _ (are : TypesAreCounted m) where
    -- handles whose values are of one type are told alike
    pub distinguished_alike : (ks ls : List TypeResolution) → AllFit ks → AllFit ls → (h k : ℕ) →
        (r : TypeResolution) → slice_get ks h ≡ Some r → (s : TypeResolution) →
        slice_get ls k ≡ Some s → value_at ks h ≡ value_at ls k →
        identity_at m.types ks h ≡ identity_at m.types ls k
    distinguished_alike ks ls p q h k r at s bt e =
        identity_is ks h r at
        ∙ (numbers_by_values m are r s (p h r at) (q k s bt)
        (sym (value_is ks h r at) ∙ (e ∙ value_is ls k s bt)) ∙ sym (identity_is ls k s bt))

    pub valued_alike : (ks ls : List TypeResolution) → AllFit ks → AllFit ls → (h k : ℕ) →
        (r : TypeResolution) → slice_get ks h ≡ Some r → (s : TypeResolution) →
        slice_get ls k ≡ Some s → identity_at m.types ks h ≡ identity_at m.types ls k →
        value_at ks h ≡ value_at ls k
    valued_alike ks ls p q h k r at s bt e =
        value_is ks h r at
        ∙ (values_by_numbers m are r s (p h r at) (q k s bt)
        (sym (identity_is ks h r at) ∙ (e ∙ identity_is ls k s bt)) ∙ sym (value_is ls k s bt))

    pub all_distinguished_alike : (ks ls : List TypeResolution) → AllFit ks → AllFit ls →
        (hs is : List ℕ) → AreKnown ks hs → AreKnown ls is →
        map (value_at ks) hs ≡ map (value_at ls) is →
        map (identity_at m.types ks) hs ≡ map (identity_at m.types ls) is
    all_distinguished_alike ks ls p q [] [] known other e = refl
    all_distinguished_alike ks ls p q [] (k ∷ is) known other e = absurd cc
    all_distinguished_alike ks ls p q (h ∷ hs) [] known other e = absurd cc
    all_distinguished_alike ks ls p q (h ∷ hs) (k ∷ is) known other e =
        let first : value_at ks h ≡ value_at ls k = ap (λ xs. get_or xs 0 BooleanType) e in
        let rest : map (value_at ks) hs ≡ map (value_at ls) is = ap (drop 1) e in
        (λ i. distinguished_alike ks ls p q h k known.0.0 known.0.1 other.0.0 other.0.1 first i
        ∷ all_distinguished_alike ks ls p q hs is known.1 other.1 rest i)

    -- a use that applies an operator over known operands
    pub record IsApplied (u : IsUse m info) : Type 0 where
      pub operator : Operator
      pub applied : applied_operator (expression_context m (λ h. slice_get u.group.known h)) u.expression
          ≡ Some operator
      pub formed : IsFormed m are u.expression
      pub fits : AllFit u.group.known
      pub operands : AreKnown u.group.known (expression_operands u.expression)
      pub own : TypeResolution
      pub own_there : slice_get u.group.known u.handle ≡ Some own

    -- what the runs call by one word, over operands of equal types, has results of equal types
    pub results_agree : module_operators_agree m info ≡ true →
        (a b : IsUse m info) (x : IsApplied a) (y : IsApplied b) → run_word x.operator ≡ run_word y.operator →
        map (value_at a.group.known) (expression_operands a.expression) ≡ map (value_at b.group.known)
        (expression_operands b.expression) →
        value_at a.group.known a.handle ≡ value_at b.group.known b.handle
    results_agree agree a b x y words operands =
        let count : length (expression_operands a.expression) ≡ length (expression_operands b.expression) =
        sym (length-map (expression_operands a.expression) (value_at a.group.known))
        ∙ (ap length operands ∙ length-map (expression_operands b.expression) (value_at b.group.known)) in
        let one = keyed m are a.group.known a.expression a.key x.operator a.key_is x.applied x.formed in
        let two = keyed m are b.group.known b.expression b.key y.operator b.key_is y.applied y.formed in
        let keys = one_key_of_word m are x.operator y.operator (length (expression_operands b.expression)) a.key b.key
        (subst (λ n. IsKeyed m are x.operator n a.key) count one) two words in
        valued_alike a.group.known b.group.known x.fits y.fits a.handle b.handle x.own x.own_there y.own y.own_there
        (uses_agree agree a b keys
        (all_distinguished_alike a.group.known b.group.known x.fits y.fits
        (expression_operands a.expression) (expression_operands b.expression) x.operands
        y.operands operands))
