-- The named constants of an accepted module have an order in which each stands after those that
-- its initialiser names: that of their initialisers among the module's own expressions.
use Rattle.module_semantics.specs.Names.{TypesAreDistinguished}
use Rattle.std.proofs.Common.{◌≡◌, ℕ, zero, suc, ◌<◌, ◌≤◌, Bool, true, false, List, [], ◌∷◌, refl}
use Rattle.std.proofs.Common.{sym, ap, ◌∙◌, length, subst}
use Rattle.std.proofs.Common.{Option, Some, None, slice_get, arith, nat_lt, if◌then◌else◌}
use Rattle.std.specs.List.{AllByRecursion}
use Rattle.std.specs.Prelude.{IsTrue, unwrap_or}
use Rattle.std.specs.Option.{option_map, option_map_or, is_some}
use Rattle.std.proofs.lemmas.Bool.{and_parts, ltb-true}
use Rattle.std.proofs.lemmas.List.{length-map}
use Rattle.std.proofs.lemmas.Option.{same_Some}
use Rattle.naga_ir.specs.Operands.{expression_operands}
use Rattle.naga_ir.specs.declared.expression.Expression.{Expression}
use Rattle.naga_ir.specs.declared.expression.Expression.TheVariants as expression
use Rattle.naga_ir.specs.declared.module.Constant.{Constant}
use Rattle.naga_ir.specs.declared.module.Module.{Module}
use Rattle.naga_info.specs.declared.info.ModuleInfo.{ModuleInfo}
use Rattle.naga_info.specs.declared.info.TypeResolution.TheVariants.{Handle}
use Rattle.naga_info.proofs.Options.{then_some, map_some}
use Rattle.shader_runs.specs.Program.{ConstantTree, Fixed, NamedConstant, Composed}
use Rattle.shader_runs.specs.Program.{ConstantTrees, no_constant, constant, constant_count}
use Rattle.shader_runs.specs.Program.{Indexing, Picking, Joining}
use Rattle.shader_runs.specs.Program as program
use Rattle.shader_runs.specs.Premises.{EachLeaf, EachLeafOf}
use Rattle.shader_runs.specs.Value.{Value}
use Rattle.module_semantics.specs.acceptance.Accepted.{is_accepted}
use Rattle.module_semantics.specs.ExpressionOperators.{constructor}
use Rattle.module_semantics.specs.ExpressionShapes.{ModuleDeclarations, trees, tree_then, trees_of, built}
use Rattle.module_semantics.specs.ExpressionShapes.{tree_over, computed_over}
use Rattle.module_semantics.specs.ModuleShapes.{module_shape, named_constants, initialiser}
use Rattle.module_semantics.specs.OperatorTable.{Operator, Splat, run_word}
use Rattle.module_semantics.specs.acceptance.Ranges.{all_below}
use Rattle.module_semantics.specs.ExpressionContexts.{constant_over, declared_over, global_tree}
use Rattle.module_semantics.specs.ExpressionContexts.{global_tree_within, constant_number}
use Rattle.module_semantics.specs.ExpressionContexts.{override_number}
use Rattle.module_semantics.specs.ExpressionContexts.{global_types_known, zero_of_type}
use Rattle.naga_form.proofs.declarations.ConstantInitialisers.{initialiser_of}
use Rattle.naga_form.proofs.operators.ComputedTrees.{HoldsOfMade, of_computed}
use Rattle.naga_form.proofs.operators.ConstantTrees.{availability_tree}
use Rattle.naga_form.proofs.declarations.NamedConstants.{constants_counted, named_at, types_count}
use Rattle.naga_form.proofs.declarations.NamedConstants.{types_of_constants}
use Rattle.naga_form.proofs.declarations.OwnExpressions.{Own, own_is, constant_named}
use Rattle.naga_form.proofs.declarations.OwnExpressions.{initialiser_stands_before}

abbrev AnyValue : Value → Type 0
AnyValue v = Unit {0}

mutual
  -- leaves that are as one says are as another says that follows
  leaves_follow : (P Q : ℕ → Type 0) → ((k : ℕ) → P k → Q k) → (t : ConstantTree) → EachLeaf AnyValue P t →
      EachLeaf AnyValue Q t
  leaves_follow P Q more (Fixed v) are = tt
  leaves_follow P Q more (NamedConstant k) are = more k are
  leaves_follow P Q more (Composed w ty ts) are = all_leaves_follow P Q more ts are
  leaves_follow P Q more (Indexing ty b i) are = (leaves_follow P Q more b are.0, leaves_follow P Q more i are.1)
  leaves_follow P Q more (Picking x ty b) are = leaves_follow P Q more b are
  leaves_follow P Q more (Joining j ty l r) are = (leaves_follow P Q more l are.0, leaves_follow P Q more r are.1)

  all_leaves_follow : (P Q : ℕ → Type 0) → ((k : ℕ) → P k → Q k) → (ts : ConstantTrees) →
      EachLeafOf AnyValue P ts → EachLeafOf AnyValue Q ts
  all_leaves_follow P Q more no_constant are = tt
  all_leaves_follow P Q more (constant t ts) are = (leaves_follow P Q more t are.0, all_leaves_follow P Q more ts are.1)

trees_leaves : (P : ℕ → Type 0) (tree_of : ℕ → Option ConstantTree) (bound : ℕ) →
    ((h : ℕ) → h < bound → (t : ConstantTree) → tree_of h ≡ Some t → EachLeaf AnyValue P t) →
    (hs : List ℕ) → all_below bound hs ≡ true → (ts : List ConstantTree) → trees_of tree_of hs ≡ Some ts →
    EachLeafOf AnyValue P (trees ts)
trees_leaves P tree_of bound are [] below ts is = subst (λ us. EachLeafOf AnyValue P (trees us)) (same_Some [] ts is) tt
trees_leaves P tree_of bound are (h ∷ hs) below ts is =
    let low = and_parts (nat_lt h bound) (all_below bound hs) below in
    by (tree_of h) (are h (ltb-true h bound low.0)) (trees_of tree_of hs) (trees_leaves P tree_of bound are hs low.1) is
  where
    by : (o : Option ConstantTree) → ((t : ConstantTree) → o ≡ Some t → EachLeaf AnyValue P t) →
        (os : Option (List ConstantTree)) →
        ((us : List ConstantTree) → os ≡ Some us → EachLeafOf AnyValue P (trees us)) →
        tree_then o os ≡ Some ts → EachLeafOf AnyValue P (trees ts)
    by None one os more is = absurd cc
    by (Some t) one None more is = absurd cc
    by (Some t) one (Some us) more is = subst (λ vs. EachLeafOf AnyValue P (trees vs))
        (same_Some (t ∷ us) ts is) (one t refl, more us refl)

module _ (m : Module) (info : ModuleInfo) where
  abbrev shape : program.Module
  shape = module_shape m info

  -- a named constant's index in the order
  abbrev pub constant_rank : ℕ → ℕ
  constant_rank i = option_map_or (λ c. c.init) (slice_get (named_constants m) i) 0

  abbrev Before : ℕ → ℕ → Type 0
  Before bound k = k < constant_count shape → constant_rank k < bound

  pub constants_within_types : constant_count shape ≤ length shape.constant_types
  constants_within_types =
      let own = length-map (named_constants m) (initialiser m info) in
      let named : length (types_of_constants m info) ≡ length (named_constants m) = length-map (named_constants m) _ in
      let all = types_count m info in
      omega (arith, own, named, all)

  override_before : (bound o : ℕ) → Before bound (override_number m o)
  override_before bound o lt = let count = constants_counted m info in absurd (omega (arith, lt, count))

  before_more : (a b : ℕ) → a ≤ b → (t : ConstantTree) → EachLeaf AnyValue (Before a) t → EachLeaf AnyValue (Before b) t
  before_more a b le t are = leaves_follow (Before a) (Before b) (λ k before lt. let low = before lt in omega
      (arith, le, low)) t are

  -- a constant's tree names none after its initialiser
  abbrev AreBefore : (ℕ → Option ConstantTree) → Type 0
  AreBefore written = (h : ℕ) (c : Constant) → slice_get m.constants h ≡ Some c → (t : ConstantTree) →
      written h ≡ Some t → EachLeaf AnyValue (Before (suc c.init)) t

  module _ (accepted : IsTrue (is_accepted m info)) (distinguished : TypesAreDistinguished m) where
    module _ (written : ℕ → Option ConstantTree) (are : AreBefore written) where
      abbrev inside : ModuleDeclarations
      inside = declared_over m written (global_types_known info)

      built_before : (h bound : ℕ) (o : Operator) (ts : List ConstantTree) →
          EachLeafOf AnyValue (Before bound) (trees ts) → (t : ConstantTree) →
          built inside h o ts ≡ Some t → EachLeaf AnyValue (Before bound) t
      built_before h bound o ts before t made =
          let parts = map_some (λ r. Composed (run_word o) (inside.value_type r) (trees ts))
          (global_types_known info h) t made in
          subst (EachLeaf AnyValue (Before bound)) parts.2 before

      over_before : (tree_of : ℕ → Option ConstantTree) (h : ℕ) (e : Expression) →
          slice_get m.global_expressions h ≡ Some e →
          ((k : ℕ) → k < h → (t : ConstantTree) → tree_of k ≡ Some t → EachLeaf AnyValue (Before h) t) →
          (t : ConstantTree) → tree_over inside tree_of h e ≡ Some t → EachLeaf AnyValue (Before h) t
      over_before tree_of h (expression.Literal v) at below t found =
          subst (EachLeaf AnyValue (Before h)) (same_Some _ t found) tt
      over_before tree_of h (expression.Constant c) at below t found =
          let item = constant_named m info accepted None (Own m info accepted) (own_is m info accepted) h c at in
          let lt = initialiser_stands_before m info accepted h c at item.0 item.1 in
          before_more (suc item.0.init) h (omega (arith, lt)) t (are c item.0 item.1 t found)
      over_before tree_of h (expression.Override o) at below t found =
          subst (EachLeaf AnyValue (Before h)) (same_Some (NamedConstant (override_number m o)) t found)
          (override_before h o)
      over_before tree_of h (expression.ZeroValue ty) at below t found =
          built_before h h (constructor inside.context (Handle ty) 0) [] tt t found
      over_before tree_of h (expression.Compose ty components) at below t found =
          let o = constructor inside.context (Handle ty) (length components.items) in
          let parts = then_some (built inside h o) (trees_of tree_of components.items) t found in
          built_before h h o parts.0 (trees_leaves (Before h) tree_of h below components.items
          ((own_is m info accepted).below h (expression.Compose ty components) at) parts.0 parts.1) t parts.2
      over_before tree_of h (expression.Splat size v) at below t found =
          let parts = then_some (λ u. built inside h (Splat size) (u ∷ [])) (tree_of v) t found in
          let low = and_parts (nat_lt v h) true ((own_is m info accepted).below h (expression.Splat size v) at) in
          built_before h h (Splat size) (parts.0 ∷ []) (below v (ltb-true v h low.0) parts.0 parts.1, tt) t parts.2
      over_before tree_of h _ at below t found = absurd cc

      made_before : (bound : ℕ) → HoldsOfMade (EachLeaf AnyValue (Before bound)) (EachLeafOf AnyValue (Before bound))
      made_before bound = record {
        no_trees = tt;
        more = λ t ts one all. (one, all);
        indexing = λ ty b i one two. (one, two);
        picking = λ x ty b one. one;
        joining = λ j ty l r one two. (one, two);
      }

      computed_before : (tree_of : ℕ → Option ConstantTree) (h : ℕ) (e : Expression) →
          slice_get m.global_expressions h ≡ Some e →
          ((k : ℕ) → k < h → (t : ConstantTree) → tree_of k ≡ Some t → EachLeaf AnyValue (Before h) t) →
          (t : ConstantTree) → computed_over inside tree_of h e ≡ Some t → EachLeaf AnyValue (Before h) t
      computed_before tree_of h e at below t found =
          of_computed inside tree_of (EachLeaf AnyValue (Before h)) (EachLeafOf AnyValue (Before h)) (made_before h) h e
          (over_before tree_of h e at below) (each_below (expression_operands e)
          ((own_is m info accepted).below h e at))
          (λ a applied silent ty ts all. all) t found
        where
          each_below : (hs : List ℕ) → all_below h hs ≡ true →
              AllByRecursion (λ k. (t : ConstantTree) → tree_of k ≡ Some t → EachLeaf AnyValue (Before h) t) hs
          each_below [] are = tt
          each_below (k ∷ hs) are =
              let low = and_parts (nat_lt k h) (all_below h hs) are in
              (below k (ltb-true k h low.0), each_below hs low.1)

    named_before : (h : ℕ) (c : Constant) → slice_get m.constants h ≡ Some c → is_some c.name ≡ true →
        Before (suc c.init) (constant_number m h)
    named_before h c at named lt =
        let rank : constant_rank (constant_number m h) ≡ c.init =
        ap (λ o. option_map_or (λ c. c.init) o 0) (named_at m.constants h c at named) in
        omega (arith, rank)

    -- each of the module's own expressions names none after it
    abbrev GlobalsBefore : (ℕ → Option ConstantTree) → Type 0
    GlobalsBefore global = (h : ℕ) (t : ConstantTree) → global h ≡ Some t → EachLeaf AnyValue (Before h) t

    constants_before : (global : ℕ → Option ConstantTree) → GlobalsBefore global → AreBefore (constant_over m global)
    constants_before global are h c at t found =
        subst (EachLeaf AnyValue (Before (suc c.init)))
        (same_Some (availability_tree m info accepted distinguished global h c) t
        (sym (ap (option_map (availability_tree m info accepted distinguished global h)) at) ∙ found))
        (by (is_some c.name) refl)
      where
        or_zero : (o : Option ConstantTree) → global c.init ≡ o →
            EachLeaf AnyValue (Before (suc c.init)) (unwrap_or o (zero_of_type m c.ty))
        or_zero None is = tt
        or_zero (Some t) is = before_more c.init (suc c.init) (omega arith) t (are c.init t is)

        by : (b : Bool) → is_some c.name ≡ b →
            EachLeaf AnyValue (Before (suc c.init))
            (if b then NamedConstant (constant_number m h) else unwrap_or (global c.init) (zero_of_type m c.ty))
        by true named = named_before h c at named
        by false named = or_zero (global c.init) refl

    globals_before : (levels : ℕ) → GlobalsBefore (global_tree_within levels m info)
    globals_before zero h t found = absurd cc
    globals_before (suc levels) h t found =
        let global = global_tree_within levels m info in
        let parts = then_some
        (computed_over (declared_over m (constant_over m global) (global_types_known info)) global h)
        (slice_get m.global_expressions h) t found in
        computed_before (constant_over m global) (constants_before global (globals_before levels)) global h
        parts.0 parts.1
        (λ k lt u is. before_more k h (omega (arith, lt)) u (globals_before levels k u is)) t parts.2

    -- an initialiser names constants of smaller ranks alone
    pub initialiser_before : (i : ℕ) (e : ConstantTree) → slice_get shape.initialisers i ≡ Some e →
        EachLeaf (λ v. Unit {0}) (λ k. k < constant_count shape → constant_rank k < constant_rank i) e
    initialiser_before i e at =
        let k = initialiser_of m info accepted distinguished i e at in
        let rank : constant_rank i ≡ k.constant.init = ap (λ o. option_map_or (λ c. c.init) o 0) k.named in
        subst (λ n. EachLeaf AnyValue (Before n) e) (sym rank)
        (subst (EachLeaf AnyValue (Before k.constant.init)) k.is
        (by k.constant (global_tree m info k.constant.init) refl))
      where
        by : (c : Constant) (o : Option ConstantTree) → global_tree m info c.init ≡ o →
            EachLeaf AnyValue (Before c.init) (unwrap_or o (zero_of_type m c.ty))
        by c None found = tt
        by c (Some t) found = globals_before (suc c.init) c.init t found
