-- Constant trees of an accepted module: each has the type that is known of its expression, its
-- operators are those of expressions of sound groups, and what it names is there. A constant that
-- counts as a zero value is such a tree wherever an expression names it.
use Rattle.naga_form.proofs.operators.AgreeingUses.{value_is, value_at}
use Rattle.module_semantics.specs.Names.{TypesAreDistinguished}
use Rattle.shader_runs.proofs.Typing.{no_signature}
use Rattle.naga_form.proofs.operators.Signatures.{either_signature, only_signature, group_context}
use Rattle.naga_form.proofs.operators.Signatures.{declared_for, IsCalled, by_constant, by_operator}
use Rattle.naga_form.proofs.operators.Signatures.{by_zero, IsOfExpression, by_index, by_letters}
use Rattle.naga_form.proofs.operators.Signatures.{by_part}
use Rattle.std.proofs.Common.{◌≡◌, ℕ, zero, suc, Bool, true, false, List, [], ◌∷◌, refl, sym, ap}
use Rattle.std.proofs.Common.{◌∙◌, length, subst, Option, Some, None, slice_get, map, ◌&&◌, ◌++◌}
use Rattle.std.proofs.Common.{if◌then◌else◌}
use Rattle.std.specs.List.{list_all}
use Rattle.std.specs.Prelude.{IsTrue, unwrap_or}
use Rattle.std.specs.Option.{option_map, option_map_or, option_and_then, is_some}
use Rattle.std.proofs.lemmas.Bool.{and_parts}
use Rattle.std.proofs.lemmas.Option.{same_Some}
use Rattle.std.proofs.lemmas.Slice.Eq.{bytes_eq-Decides}
use Rattle.naga_ir.specs.Operands.{expression_operands}
use Rattle.naga_ir.specs.declared.expression.Expression.{Expression}
use Rattle.naga_ir.specs.declared.expression.Expression.TheVariants as expression
use Rattle.naga_ir.specs.declared.operators.BinaryOperator.{BinaryOperator}
use Rattle.naga_ir.specs.declared.operators.BinaryOperator.TheVariants as binary
use Rattle.naga_ir.specs.declared.module.Constant.{Constant}
use Rattle.naga_ir.specs.declared.module.Function.{Function}
use Rattle.naga_ir.specs.declared.module.Module.{Module}
use Rattle.naga_ir.specs.declared.types.TypeInner.TheVariants as inner
use Rattle.naga_info.specs.declared.info.ModuleInfo.{ModuleInfo}
use Rattle.naga_info.specs.declared.info.TypeResolution.{TypeResolution}
use Rattle.naga_info.specs.declared.info.TypeResolution.TheVariants.{Handle, Value}
use Rattle.naga_info.proofs.Options.{then_some, map_some}
use Rattle.shader_runs.specs.Program.{ConstantTree, Fixed, NamedConstant, Composed}
use Rattle.shader_runs.specs.Program.{ConstantTrees, no_constant, constant, Indexing, Picking}
use Rattle.shader_runs.specs.Program.{Joining}
use Rattle.shader_runs.specs.Program as program
use Rattle.shader_runs.specs.Premises.{constant_type, constant_types_of, ConstantInRange}
use Rattle.shader_runs.specs.Premises.{ConstantsInRange, IsNoPointer}
use Rattle.shader_runs.specs.Typing.{Signature, constant_signatures, constants_signatures, IsOneOf}
use Rattle.shader_runs.specs.Typing.{first_of, later_of, LogicalFits, TreeFits, TreesFit}
use Rattle.shader_runs.specs.Value.{ValueType, PointerType, Word, Spelled, PartWord, IndexWord}
use Rattle.shader_runs.specs.Value.{Selector, MemberNamed, ShortCircuit, ShortCircuitAnd}
use Rattle.shader_runs.specs.Value.{ShortCircuitOr, short_circuit_word}
use Rattle.module_semantics.specs.acceptance.Accepted.{is_accepted}
use Rattle.module_semantics.specs.acceptance.AgreeingOperators.{Group, module_operators_agree}
use Rattle.module_semantics.specs.AlikeTypes.{type_identity, are_alike}
use Rattle.module_semantics.specs.ExpressionOperators.{constructor, applied_operator, part_operator}
use Rattle.module_semantics.specs.ExpressionShapes.{ModuleDeclarations, trees, tree_then, trees_of, built}
use Rattle.module_semantics.specs.ExpressionShapes.{tree_over, tree_within, constant_tree}
use Rattle.module_semantics.specs.ExpressionShapes.{computed_over, has_values, indexed, is_value_type}
use Rattle.module_semantics.specs.ExpressionShapes.{joined, operated, over_two, part_selector}
use Rattle.module_semantics.specs.ExpressionShapes.{part_tree, picked, swizzle_letters}
use Rattle.module_semantics.specs.acceptance.ExpressionTypes.{only, is_expected, binary_type}
use Rattle.module_semantics.specs.acceptance.ExpressionTypes.{logical_type}
use Rattle.module_semantics.specs.TypeParts.{known_inner}
use Rattle.naga_ir.specs.Literals.{literal_scalar}
use Rattle.module_semantics.specs.acceptance.ExpressionTypes as types
use Rattle.module_semantics.specs.acceptance.InfoSizes.{all_paired}
use Rattle.module_semantics.specs.acceptance.Initialisers.{initialisers_fit, constant_is_sound}
use Rattle.module_semantics.specs.acceptance.Initialisers.{override_is_sound, global_is_sound}
use Rattle.module_semantics.specs.Literals.{literal_value}
use Rattle.module_semantics.specs.ModuleShapes.{module_shape}
use Rattle.module_semantics.specs.OperatorTable.{Operator, run_word, Splat, BinarySign, asks}
use Rattle.module_semantics.specs.acceptance.Ranges.{module_ranges_fit}
use Rattle.module_semantics.specs.acceptance.Soundness.{module_is_sound, function_is_sound}
use Rattle.module_semantics.specs.acceptance.Soundness.{entry_point_is_sound, declarations_are_sound}
use Rattle.module_semantics.specs.acceptance.Soundness.{expressions_are_sound}
use Rattle.module_semantics.specs.ExpressionContexts.{declared_over, constant_over, global_tree}
use Rattle.module_semantics.specs.ExpressionContexts.{global_tree_within, written_constant}
use Rattle.module_semantics.specs.ExpressionContexts.{constant_number, override_number}
use Rattle.module_semantics.specs.ExpressionContexts.{global_types_known, zero_of_type}
use Rattle.module_semantics.specs.Types.{type_of_values}
use Rattle.module_semantics.proofs.ExpressionShapes.{constructor_asks}
use Rattle.module_semantics.proofs.Lists.{list_all_at}
use Rattle.naga_form.proofs.declarations.AcceptedGroups.{IsSoundGroup, own_known, types_are_counted}
use Rattle.naga_form.proofs.declarations.AcceptedGroups.{own_group, declarations_are}
use Rattle.naga_form.proofs.types.LiteralTypes.{literal_typed, literal_is_none}
use Rattle.naga_form.proofs.declarations.NamedConstants.{named_typed, named_within, override_typed}
use Rattle.naga_form.proofs.declarations.NamedConstants.{override_within}
use Rattle.naga_form.proofs.types.SameValues.{IsFit, values_by_numbers}
use Rattle.naga_form.proofs.types.LogicalTypes.{logical_fits}

-- ---- trees
module _ (m : Module) (info : ModuleInfo) where
  abbrev shape : program.Module
  shape = module_shape m info

  -- a tree of this type, whose operators are those of expressions and whose names are there
  pub record IsTreeOf (k : ValueType) (t : ConstantTree) : Type 0 where
    pub type : constant_type shape t ≡ k
    pub spelled : (x : Signature) → IsOneOf x (constant_signatures shape t) → IsOfExpression m info x
    pub range : ConstantInRange shape t
    pub fits : TreeFits shape t

  -- trees of these types
  pub record AreTreesOf (ks : List ValueType) (ts : ConstantTrees) : Type 0 where
    pub types : constant_types_of shape ts ≡ ks
    pub spelled : (x : Signature) → IsOneOf x (constants_signatures shape ts) → IsOfExpression m info x
    pub range : ConstantsInRange shape ts
    pub fits : TreesFit shape ts

  no_trees : AreTreesOf [] no_constant
  no_trees = record { types = refl; spelled = λ x one. absurd (no_signature x one); range = tt; fits = tt }

  tree_and : (k : ValueType) (ks : List ValueType) (t : ConstantTree) (ts : ConstantTrees) → IsTreeOf k t →
      AreTreesOf ks ts → AreTreesOf (k ∷ ks) (constant t ts)
  tree_and k ks t ts one more = record {
    types = λ i. one.type i ∷ more.types i;
    spelled = λ x is. either_signature x (constant_signatures shape t) (constants_signatures shape ts)
        (one.spelled x) (more.spelled x) is;
    range = (one.range, more.range);
    fits = (one.fits, more.fits);
  }

  trees_found : (value : ℕ → ValueType) (tree_of : ℕ → Option ConstantTree) →
      ((h : ℕ) (t : ConstantTree) → tree_of h ≡ Some t → IsTreeOf (value h) t) →
      (hs : List ℕ) (ts : List ConstantTree) → trees_of tree_of hs ≡ Some ts → AreTreesOf (map value hs) (trees ts)
  trees_found value tree_of are [] ts is = subst (λ us. AreTreesOf [] (trees us)) (same_Some [] ts is) no_trees
  trees_found value tree_of are (h ∷ hs) ts is =
      by (tree_of h) refl (trees_of tree_of hs) (trees_found value tree_of are hs) is
    where
      by : (o : Option ConstantTree) → tree_of h ≡ o → (os : Option (List ConstantTree)) →
          ((us : List ConstantTree) → os ≡ Some us → AreTreesOf (map value hs) (trees us)) →
          tree_then o os ≡ Some ts → AreTreesOf (value h ∷ map value hs) (trees ts)
      by None at os more is = absurd cc
      by (Some t) at None more is = absurd cc
      by (Some t) at (Some us) more is =
          subst (λ vs. AreTreesOf (value h ∷ map value hs) (trees vs)) (same_Some (t ∷ us) ts is)
          (tree_and (value h) (map value hs) t (trees us) (are h t at) (more us refl))

  -- what is wanted of a type that there may be
  pub expected_there : (o : Option TypeResolution) (r : TypeResolution) → is_expected m.types (only o) r
      ≡ true → (s : TypeResolution) × (o ≡ Some s) × (are_alike m.types r s ≡ true)
  expected_there None r is = absurd cc
  expected_there (Some s) r is = (s, refl, is)

  -- what stands for a constant of this type: a tree, or the zero value
  pub data StandsFor (ty : ℕ) (t : ConstantTree) : Type 0 where
    OfTree : IsTreeOf (type_of_values m (Handle ty)) t → StandsFor ty t
    OfZero : zero_of_type m ty ≡ t → StandsFor ty t

  -- so it is of each constant, where something stands for it
  abbrev pub ConstantsAre : (ℕ → Option ConstantTree) → Type 0
  ConstantsAre tree_of = (h : ℕ) (c : Constant) → slice_get m.constants h ≡ Some c → (t : ConstantTree) →
      tree_of h ≡ Some t → StandsFor c.ty t

  retyped : (k l : ValueType) (t : ConstantTree) → k ≡ l → IsTreeOf k t → IsTreeOf l t
  retyped k l t e is = record { type = is.type ∙ e; spelled = is.spelled; range = is.range; fits = is.fits }

  -- what is the first of a list, or one of the others
  first_or : (s : Signature) → IsOfExpression m info s → (xs : List Signature) →
      ((x : Signature) → IsOneOf x xs → IsOfExpression m info x) →
      (x : Signature) → IsOneOf x (s ∷ xs) → IsOfExpression m info x
  first_or s first xs more x first_of = first
  first_or s first xs more x (later_of one) = more x one

  no_pointer : (k : ValueType) → is_value_type k ≡ true → IsNoPointer k
  no_pointer (PointerType spelling) is = absurd cc
  no_pointer k is = tt

  module _ (accepted : IsTrue (is_accepted m info)) (distinguished : TypesAreDistinguished m) where
    -- types that are alike have values of one type
    alike : (a b : TypeResolution) → IsFit m a → IsFit m b → are_alike m.types a b ≡ true → type_of_values m a
        ≡ type_of_values m b
    alike a b p q e = values_by_numbers m (types_are_counted m info accepted distinguished) a b p q
        ((bytes_eq-Decides (type_identity m.types a) (type_identity m.types b)).0 e)

    -- ---- of expressions that stand together
    module _ (f : Option Function) (g : Group) (is : IsSoundGroup m info f g)
        (written : ℕ → Option ConstantTree) (constants : ConstantsAre written) where
      abbrev inside : ModuleDeclarations
      inside = declared_over m written (λ h. slice_get g.known h)

      abbrev value : ℕ → ValueType
      value = value_at m info g.known

      -- an expression is of the type that it has by what it stands for
      like_expected : (h : ℕ) (e : Expression) → slice_get g.expressions h ≡ Some e →
          (r : TypeResolution) → slice_get g.known h ≡ Some r → (s : TypeResolution) → IsFit m s →
          are_alike m.types r s ≡ true → type_of_values m s ≡ value h
      like_expected h e at r there s fit e1 = sym (alike r s (is.fits h r there) fit e1)
          ∙ sym (value_is m info g.known h r there)

      literal_is : (h : ℕ) (v : _) → slice_get g.expressions h ≡ Some (expression.Literal v) →
          IsTreeOf (value h) (Fixed (literal_value v))
      literal_is h v at =
          let own = own_known m info f g is h (expression.Literal v) at in
          record {
            type = literal_typed m v ∙ like_expected h (expression.Literal v) at own.0 own.1
                (Value (inner.Scalar (literal_scalar v))) (refl, tt, refl)
                (is.typed h (expression.Literal v) own.0 at own.1);
            spelled = λ x one. absurd (no_signature x one);
            range = literal_is_none v;
            fits = tt;
          }

      -- the zero value that stands for a constant that an expression names
      zero_is : (h c : ℕ) → slice_get g.expressions h ≡ Some (expression.Constant c) → (k : Constant) →
          slice_get m.constants c ≡ Some k →
          type_of_values m (Handle k.ty) ≡ value h → IsTreeOf (value h) (zero_of_type m k.ty)
      zero_is h c at k there like = record { type = like; spelled = spelled; range = tt; fits = tt }
        where
          spelled : (x : Signature) → IsOneOf x (constant_signatures shape (zero_of_type m k.ty)) →
              IsOfExpression m info x
          spelled x one =
              subst (IsOfExpression m info)
              (sym (only_signature x
              (record {
                word = Spelled (run_word (constructor (group_context m info g) (Handle k.ty) 0));
                operands = [];
                result = type_of_values m (Handle k.ty);
              }) one))
              (record {
                function = f;
                group = g;
                sound = is;
                handle = h;
                expression = expression.Constant c;
                there = at;
                called = by_constant c k refl there;
                operands = refl;
                result = like;
              })

      constant_is : (h c : ℕ) → slice_get g.expressions h ≡ Some (expression.Constant c) → (t : ConstantTree) →
          written c ≡ Some t → IsTreeOf (value h) t
      constant_is h c at t found =
          let own = own_known m info f g is h (expression.Constant c) at in
          let there = expected_there (types.constant_type m c) own.0
          (is.typed h (expression.Constant c) own.0 at own.1) in
          let item = map_some (λ c. Handle c.ty) (slice_get m.constants c) there.0 there.1 in
          let same : are_alike m.types own.0 (Handle item.0.ty) ≡ true = ap (are_alike m.types own.0) item.2
          ∙ there.2 in
          let like = like_expected h (expression.Constant c) at own.0 own.1 (Handle item.0.ty) tt same in
          by item.0 item.1 like (constants c item.0 item.1 t found)
        where
          by : (k : Constant) → slice_get m.constants c ≡ Some k → type_of_values m (Handle k.ty) ≡ value h →
              StandsFor k.ty t → IsTreeOf (value h) t
          by k there like (OfTree is) = retyped (type_of_values m (Handle k.ty)) (value h) t like is
          by k there like (OfZero is) = subst (IsTreeOf (value h)) is (zero_is h c at k there like)

      override_is : (h o : ℕ) → slice_get g.expressions h ≡ Some (expression.Override o) →
          IsTreeOf (value h) (NamedConstant (override_number m o))
      override_is h o at =
          let own = own_known m info f g is h (expression.Override o) at in
          let there = expected_there (types.override_type m o) own.0
          (is.typed h (expression.Override o) own.0 at own.1) in
          let item = map_some (λ o. Handle o.ty) (slice_get m.overrides o) there.0 there.1 in
          let same : are_alike m.types own.0 (Handle item.0.ty) ≡ true = ap (are_alike m.types own.0) item.2
          ∙ there.2 in
          record {
            type = override_typed m info o item.0 item.1
                ∙ like_expected h (expression.Override o) at own.0 own.1 (Handle item.0.ty) tt same;
            spelled = λ x one. absurd (no_signature x one);
            range = override_within m info o item.0 item.1;
            fits = tt;
          }

      built_is : (h : ℕ) (e : Expression) → slice_get g.expressions h ≡ Some e → (o : Operator) →
          IsCalled m info g e (Spelled (run_word o)) → (ts : List ConstantTree) →
          AreTreesOf (map value (expression_operands e)) (trees ts) → (t : ConstantTree) → built inside h o ts
          ≡ Some t → IsTreeOf (value h) t
      built_is h e at o called ts are t made =
          let parts = map_some (λ r. Composed (run_word o) (type_of_values m r) (trees ts))
          (slice_get g.known h) t made in
          subst (IsTreeOf (value h)) parts.2 (record {
            type = sym (value_is m info g.known h parts.0 parts.1);
            spelled = spelled parts.0 parts.1;
            range = are.range;
            fits = are.fits;
          })
        where
          spelled : (r : TypeResolution) → slice_get g.known h ≡ Some r →
              (x : Signature) →
              IsOneOf x (constant_signatures shape
              (Composed (run_word o) (type_of_values m r) (trees ts))) → IsOfExpression m info x
          spelled r there x one =
              first_or (record {
                word = Spelled (run_word o);
                operands = constant_types_of shape (trees ts);
                result = type_of_values m r;
              }) (record {
                function = f;
                group = g;
                sound = is;
                handle = h;
                expression = e;
                there = at;
                called = called;
                operands = are.types;
                result = sym (value_is m info g.known h r there);
              }) (constants_signatures shape (trees ts)) are.spelled x one

      -- a tree over trees
      tree_over_is : (tree_of : ℕ → Option ConstantTree) →
          ((h : ℕ) (t : ConstantTree) → tree_of h ≡ Some t → IsTreeOf (value h) t) →
          (h : ℕ) (e : Expression) → slice_get g.expressions h ≡ Some e → (t : ConstantTree) →
          tree_over inside tree_of h e ≡ Some t → IsTreeOf (value h) t
      tree_over_is tree_of are h (expression.Literal v) at t found =
          subst (IsTreeOf (value h)) (same_Some (Fixed (literal_value v)) t found) (literal_is h v at)
      tree_over_is tree_of are h (expression.Constant c) at t found = constant_is h c at t found
      tree_over_is tree_of are h (expression.Override o) at t found =
          subst (IsTreeOf (value h)) (same_Some (NamedConstant (override_number m o)) t found) (override_is h o at)
      tree_over_is tree_of are h (expression.ZeroValue ty) at t found =
          built_is h (expression.ZeroValue ty) at (constructor (group_context m info g) (Handle ty) 0)
          (by_zero ty refl) [] no_trees t found
      tree_over_is tree_of are h (expression.Compose ty components) at t found =
          let o = constructor (group_context m info g) (Handle ty) (length components.items) in
          let parts = then_some (built inside h o) (trees_of tree_of components.items) t found in
          built_is h (expression.Compose ty components) at o
          (by_operator o refl (constructor_asks (group_context m info g) (Handle ty)
          (length components.items))) parts.0
          (trees_found value tree_of are components.items parts.0 parts.1) t parts.2
      tree_over_is tree_of are h (expression.Splat size v) at t found =
          let parts = then_some (λ u. built inside h (Splat size) (u ∷ [])) (tree_of v) t found in
          built_is h (expression.Splat size v) at (Splat size) (by_operator (Splat size) refl refl) (parts.0 ∷ [])
          (tree_and (value v) [] parts.0 no_constant (are v parts.0 parts.1) no_trees) t parts.2
      tree_over_is tree_of are h _ at t found = absurd cc

      -- ---- computed trees
      -- the signature of an expression, over operands of these types
      own_signature : (h : ℕ) (e : Expression) → slice_get g.expressions h ≡ Some e → (w : Word) →
          IsCalled m info g e w → (ks : List ValueType) →
          ks ≡ map value (expression_operands e) → (r : TypeResolution) → slice_get g.known h ≡ Some r →
          IsOfExpression m info (record { word = w; operands = ks; result = type_of_values m r })
      own_signature h e at w called ks same r there = record {
        function = f;
        group = g;
        sound = is;
        handle = h;
        expression = e;
        there = at;
        called = called;
        operands = same;
        result = sym (value_is m info g.known h r there);
      }

      -- what has values is no pointer
      value_fits : (base : ℕ) (t : ConstantTree) → IsTreeOf (value base) t → has_values inside base ≡ true →
          IsNoPointer (constant_type shape t)
      value_fits base t tree has = subst IsNoPointer (sym tree.type) (by (slice_get g.known base) refl has)
        where
          by : (o : Option TypeResolution) → slice_get g.known base ≡ o →
              option_map_or (λ r. is_value_type (type_of_values m r)) o false ≡ true → IsNoPointer (value base)
          by None at has = absurd cc
          by (Some r) at has = subst IsNoPointer (sym (value_is m info g.known base r at))
              (no_pointer (type_of_values m r) has)

      indexed_is : (h base index : ℕ) → slice_get g.expressions h ≡ Some (expression.Access base index) →
          (b i : ConstantTree) →
          IsTreeOf (value base) b → IsTreeOf (value index) i → has_values inside base ≡ true →
          (t : ConstantTree) → indexed inside h b i ≡ Some t → IsTreeOf (value h) t
      indexed_is h base index at b i of_b of_i has t made =
          let parts = map_some (λ r. Indexing (type_of_values m r) b i) (slice_get g.known h) t made in
          let ks = constant_type shape b ∷ constant_type shape i ∷ [] in
          subst (IsTreeOf (value h)) parts.2 (record {
            type = sym (value_is m info g.known h parts.0 parts.1);
            spelled =
                first_or (record { word = IndexWord; operands = ks; result = type_of_values m parts.0 })
                (own_signature h (expression.Access base index) at IndexWord (by_index base index refl) ks
                (λ j. of_b.type j ∷ of_i.type j ∷ []) parts.0 parts.1)
                (constant_signatures shape b ++ constant_signatures shape i)
                (λ x. either_signature x (constant_signatures shape b) (constant_signatures shape i)
                (of_b.spelled x) (of_i.spelled x));
            range = (of_b.range, of_i.range);
            fits = (value_fits base b of_b has, of_b.fits, of_i.fits);
          })

      picked_is : (h base : ℕ) (e : Expression) → slice_get g.expressions h ≡ Some e → expression_operands e
          ≡ base ∷ [] → (s : Selector) → IsCalled m info g e (PartWord s) →
          (b : ConstantTree) → IsTreeOf (value base) b → has_values inside base ≡ true →
          (t : ConstantTree) → picked inside h s b ≡ Some t → IsTreeOf (value h) t
      picked_is h base e at operands s called b of_b has t made =
          let parts = map_some (λ r. Picking s (type_of_values m r) b) (slice_get g.known h) t made in
          let ks = constant_type shape b ∷ [] in
          subst (IsTreeOf (value h)) parts.2 (record {
            type = sym (value_is m info g.known h parts.0 parts.1);
            spelled =
                first_or (record { word = PartWord s; operands = ks; result = type_of_values m parts.0 })
                (own_signature h e at (PartWord s) called ks
                ((λ j. of_b.type j ∷ []) ∙ ap (map value) (sym operands)) parts.0 parts.1)
                (constant_signatures shape b) of_b.spelled;
            range = of_b.range;
            fits = (value_fits base b of_b has, of_b.fits);
          })

      joined_is : (h left right : ℕ) (op : BinaryOperator) → slice_get g.expressions h
          ≡ Some (expression.Binary op left right) → (j : ShortCircuit) →
          IsCalled m info g (expression.Binary op left right) (Spelled (short_circuit_word j)) →
          binary_type op (known_inner m.types g.known left) ≡ logical_type (known_inner m.types g.known left) →
          (l r : ConstantTree) → IsTreeOf (value left) l → IsTreeOf (value right) r →
          (t : ConstantTree) → joined inside h j l r ≡ Some t → IsTreeOf (value h) t
      joined_is h left right op at j called wanted l r of_l of_r t made =
          let parts = map_some (λ k. Joining j (type_of_values m k) l r) (slice_get g.known h) t made in
          let ks = constant_type shape l ∷ constant_type shape r ∷ [] in
          let own = value_is m info g.known h parts.0 parts.1 in
          subst (IsTreeOf (value h)) parts.2 (record {
            type = sym own;
            spelled =
                first_or (record {
                  word = Spelled (short_circuit_word j);
                  operands = ks;
                  result = type_of_values m parts.0;
                })
                (own_signature h (expression.Binary op left right) at (Spelled (short_circuit_word j)) called ks
                (λ j. of_l.type j ∷ of_r.type j ∷ []) parts.0 parts.1)
                (constant_signatures shape l ++ constant_signatures shape r)
                (λ x. either_signature x (constant_signatures shape l) (constant_signatures shape r)
                (of_l.spelled x) (of_r.spelled x));
            range = (of_l.range, of_r.range);
            fits = (
              subst (λ k. LogicalFits k (type_of_values m parts.0)) (sym of_l.type)
                  (subst (LogicalFits (value left)) own
                  (logical_fits m info (types_are_counted m info accepted distinguished) f g is h op left right
                  at wanted)),
              of_l.fits,
              of_r.fits,
            );
          })

      operated_is : (tree_of : ℕ → Option ConstantTree) →
          ((h : ℕ) (t : ConstantTree) → tree_of h ≡ Some t → IsTreeOf (value h) t) →
          (h : ℕ) (e : Expression) → slice_get g.expressions h ≡ Some e → (o : Option Operator) →
          applied_operator (group_context m info g) e ≡ o →
          (t : ConstantTree) → operated inside tree_of h (expression_operands e) o ≡ Some t → IsTreeOf (value h) t
      operated_is tree_of are h e at None applied t found = absurd cc
      operated_is tree_of are h e at (Some o) applied t found = by (asks o) refl found
        where
          by : (b : Bool) → asks o ≡ b →
              (if b then None else option_and_then (built inside h o)
              (trees_of tree_of (expression_operands e))) ≡ Some t → IsTreeOf (value h) t
          by true asked found = absurd cc
          by false asked found =
              let parts = then_some (built inside h o) (trees_of tree_of (expression_operands e)) t found in
              built_is h e at o (by_operator o applied asked) parts.0
              (trees_found value tree_of are (expression_operands e) parts.0 parts.1) t parts.2

      logic_is : (tree_of : ℕ → Option ConstantTree) →
          ((h : ℕ) (t : ConstantTree) → tree_of h ≡ Some t → IsTreeOf (value h) t) →
          (h left right : ℕ) (op : BinaryOperator) → slice_get g.expressions h
          ≡ Some (expression.Binary op left right) → (j : ShortCircuit) →
          IsCalled m info g (expression.Binary op left right) (Spelled (short_circuit_word j)) →
          binary_type op (known_inner m.types g.known left) ≡ logical_type (known_inner m.types g.known left) →
          (t : ConstantTree) → over_two (joined inside h j) (tree_of left) (tree_of right) ≡ Some t →
          IsTreeOf (value h) t
      logic_is tree_of are h left right op at j called wanted t found =
          let one = then_some (λ l. option_and_then (joined inside h j l) (tree_of right)) (tree_of left) t found in
          let two = then_some (joined inside h j one.0) (tree_of right) t one.2 in
          joined_is h left right op at j called wanted one.0 two.0 (are left one.0 one.1)
          (are right two.0 two.1) t two.2

      part_is : (tree_of : ℕ → Option ConstantTree) →
          ((h : ℕ) (t : ConstantTree) → tree_of h ≡ Some t → IsTreeOf (value h) t) →
          (h base : ℕ) (e : Expression) → slice_get g.expressions h ≡ Some e → expression_operands e
          ≡ base ∷ [] → (s : Selector) → IsCalled m info g e (PartWord s) →
          (b : Bool) → has_values inside base ≡ b → (t : ConstantTree) →
          (if b then option_and_then (picked inside h s) (tree_of base) else None) ≡ Some t → IsTreeOf (value h) t
      part_is tree_of are h base e at operands s called false has t found = absurd cc
      part_is tree_of are h base e at operands s called true has t found =
          let one = then_some (picked inside h s) (tree_of base) t found in
          picked_is h base e at operands s called one.0 (are base one.0 one.1) has t one.2

      -- a tree that is computed over trees
      computed_is : (tree_of : ℕ → Option ConstantTree) →
          ((h : ℕ) (t : ConstantTree) → tree_of h ≡ Some t → IsTreeOf (value h) t) →
          (h : ℕ) (e : Expression) → slice_get g.expressions h ≡ Some e → (t : ConstantTree) →
          computed_over inside tree_of h e ≡ Some t → IsTreeOf (value h) t
      computed_is tree_of are h (expression.Literal v) at t found =
          tree_over_is tree_of are h (expression.Literal v) at t found
      computed_is tree_of are h (expression.Constant c) at t found =
          tree_over_is tree_of are h (expression.Constant c) at t found
      computed_is tree_of are h (expression.Override o) at t found =
          tree_over_is tree_of are h (expression.Override o) at t found
      computed_is tree_of are h (expression.ZeroValue ty) at t found =
          tree_over_is tree_of are h (expression.ZeroValue ty) at t found
      computed_is tree_of are h (expression.Compose ty components) at t found =
          tree_over_is tree_of are h (expression.Compose ty components) at t found
      computed_is tree_of are h (expression.Splat size v) at t found =
          tree_over_is tree_of are h (expression.Splat size v) at t found
      computed_is tree_of are h (expression.Access base index) at t found = by (has_values inside base) refl found
        where
          by : (b : Bool) → has_values inside base ≡ b →
              (if b then over_two (indexed inside h) (tree_of base) (tree_of index) else None) ≡ Some t →
              IsTreeOf (value h) t
          by false has found = absurd cc
          by true has found =
              let one = then_some (λ b. option_and_then (indexed inside h b) (tree_of index)) (tree_of base) t found in
              let two = then_some (indexed inside h one.0) (tree_of index) t one.2 in
              indexed_is h base index at one.0 two.0 (are base one.0 one.1) (are index two.0 two.1) has t two.2
      computed_is tree_of are h (expression.AccessIndex base index) at t found =
          by (part_selector inside base index) refl found
        where
          by : (o : Option Selector) → part_selector inside base index ≡ o →
              part_tree inside tree_of h base o (part_operator inside.context base index) ≡ Some t →
              IsTreeOf (value h) t
          by (Some s) selected found =
              part_is tree_of are h base (expression.AccessIndex base index) at refl s
              (by_part base index s refl selected) (has_values inside base) refl t found
          by None selected found =
              operated_is tree_of are h (expression.AccessIndex base index) at
              (part_operator inside.context base index) refl t found
      computed_is tree_of are h (expression.Swizzle size vector pattern) at t found =
          part_is tree_of are h vector (expression.Swizzle size vector pattern) at refl
          (MemberNamed (swizzle_letters size pattern))
          (by_letters size vector pattern refl) (has_values inside vector) refl t found
      computed_is tree_of are h (expression.Binary binary.LogicalAnd left right) at t found =
          logic_is tree_of are h left right binary.LogicalAnd at ShortCircuitAnd
          (by_operator (BinarySign binary.LogicalAnd) refl refl) refl t found
      computed_is tree_of are h (expression.Binary binary.LogicalOr left right) at t found =
          logic_is tree_of are h left right binary.LogicalOr at ShortCircuitOr
          (by_operator (BinarySign binary.LogicalOr) refl refl) refl t found
      computed_is tree_of are h e at t found =
          operated_is tree_of are h e at (applied_operator inside.context e) refl t found

      within_is : (levels : ℕ) (h : ℕ) (t : ConstantTree) → tree_within levels inside g.expressions h ≡ Some t →
          IsTreeOf (value h) t
      within_is zero h t found = absurd cc
      within_is (suc levels) h t found =
          let parts = then_some (tree_over inside (tree_within levels inside g.expressions) h)
          (slice_get g.expressions h) t found in
          tree_over_is (tree_within levels inside g.expressions) (within_is levels) h parts.0 parts.1 t parts.2

    -- ---- constants
    all_sound : module_is_sound m info ≡ true
    unfolding is_accepted
    all_sound =
        let one = and_parts (module_ranges_fit m info) (module_is_sound m info && module_operators_agree m info)
        accepted in
        (and_parts (module_is_sound m info) (module_operators_agree m info) one.1).0

    own_sound : declarations_are_sound m info.const_expression_types.items ≡ true
    unfolding module_is_sound
    own_sound =
        (and_parts (declarations_are_sound m info.const_expression_types.items)
        (all_paired (function_is_sound m) m.functions info.functions.items
        && all_paired (entry_point_is_sound m) m.entry_points.items info.entry_points.items) all_sound).0

    -- what is known of the module's own expressions
    abbrev own : List TypeResolution
    own = info.const_expression_types.items

    constants_sound : list_all (constant_is_sound m.types own) m.constants ≡ true
    constants_sound =
        let one = and_parts (expressions_are_sound m None own m.global_expressions)
        (initialisers_fit m own) own_sound in
        (and_parts (list_all (constant_is_sound m.types own) m.constants)
        (list_all (override_is_sound m.types own) m.overrides
        && list_all (global_is_sound m.types own) m.global_variables) one.1).0

    -- the initialiser of a constant has its type
    initialiser_known : (h : ℕ) (c : Constant) → slice_get m.constants h ≡ Some c → value_at m info own c.init
        ≡ type_of_values m (Handle c.ty)
    initialiser_known h c at =
        by (slice_get own c.init) refl (list_all_at (constant_is_sound m.types own) m.constants h c constants_sound at)
      where
        by : (o : Option TypeResolution) → slice_get own c.init ≡ o →
            option_map_or (λ r. are_alike m.types r (Handle c.ty)) o false ≡ true →
            value_at m info own c.init ≡ type_of_values m (Handle c.ty)
        by None there same = absurd cc
        by (Some r) there same =
            value_is m info own c.init r there
            ∙ alike r (Handle c.ty) ((declarations_are m info accepted).fits c.init r there) tt same

    -- a constant by its name, or by its initialiser
    abbrev pub availability_tree : (ℕ → Option ConstantTree) → ℕ → Constant → ConstantTree
    availability_tree global h c = if is_some c.name then NamedConstant (constant_number m h) else unwrap_or
        (global c.init) (zero_of_type m c.ty)

    -- each of the module's own expressions has a tree of its type, where it has one
    abbrev pub GlobalsAre : (ℕ → Option ConstantTree) → Type 0
    GlobalsAre global = (h : ℕ) (t : ConstantTree) → global h ≡ Some t → IsTreeOf (value_at m info own h) t

    constants_over : (global : ℕ → Option ConstantTree) → GlobalsAre global → ConstantsAre (constant_over m global)
    constants_over global are h c at t found =
        subst (StandsFor c.ty) (same_Some (availability_tree global h c) t
        (sym (ap (option_map (availability_tree global h)) at) ∙ found)) (by (is_some c.name) refl)
      where
        unnamed : (o : Option ConstantTree) → global c.init ≡ o → StandsFor c.ty (unwrap_or o (zero_of_type m c.ty))
        unnamed None found = OfZero refl
        unnamed (Some t) found = OfTree (retyped (value_at m info own c.init) (type_of_values m (Handle c.ty)) t
            (initialiser_known h c at) (are c.init t found))

        by : (b : Bool) → is_some c.name ≡ b →
            StandsFor c.ty (if b then NamedConstant (constant_number m h) else unwrap_or (global c.init)
            (zero_of_type m c.ty))
        by true named = OfTree (record {
          type = named_typed m info h c at named;
          spelled = λ x one. absurd (no_signature x one);
          range = named_within m info h c at named;
          fits = tt;
        })
        by false named = unnamed (global c.init) refl

    globals_within : (levels : ℕ) → GlobalsAre (global_tree_within levels m info)
    globals_within zero h t found = absurd cc
    globals_within (suc levels) h t found =
        let global = global_tree_within levels m info in
        let parts = then_some
        (computed_over (declared_over m (constant_over m global) (global_types_known info)) global h)
        (slice_get m.global_expressions h) t found in
        computed_is None (own_group m info accepted) (declarations_are m info accepted)
        (constant_over m global) (constants_over global (globals_within levels)) global
        (globals_within levels) h parts.0 parts.1 t parts.2

    -- ---- what is said of constant trees
    pub globals_are : GlobalsAre (global_tree m info)
    globals_are h t found = globals_within (suc h) h t found

    pub global_tree_in_range : (h : ℕ) (t : ConstantTree) → global_tree m info h ≡ Some t →
        ConstantInRange shape t
    global_tree_in_range h t found = (globals_are h t found).range

    -- a constant as it is written
    constants_are : ConstantsAre (written_constant m info)
    constants_are = constants_over (global_tree m info) globals_are

    -- a tree of a sound group
    pub trees_are : (f : Option Function) (g : Group) → IsSoundGroup m info f g →
        (h : ℕ) (t : ConstantTree) → constant_tree (declared_for m info g) g.expressions h ≡
        Some t → IsTreeOf (value_at m info g.known h) t
    trees_are f g is h t found = within_is f g is (written_constant m info) constants_are (suc h) h t found

    -- the initialiser of a constant, if it has a tree
    pub initialiser_is : (h : ℕ) (c : Constant) → slice_get m.constants h ≡ Some c → (t : ConstantTree) →
        global_tree m info c.init ≡ Some t → IsTreeOf (type_of_values m (Handle c.ty)) t
    initialiser_is h c at t found =
        retyped (value_at m info own c.init) (type_of_values m (Handle c.ty)) t (initialiser_known h c at)
        (globals_are c.init t found)
