-- What the program of shapes of an accepted module has for its constants: the trees of a group and
-- the initialisers of the named constants spell signatures of expressions, or of the zero value
-- that one without a tree counts as, and name what is there. A tree has its expression's type, and
-- an initialiser its constant's.
use Rattle.module_semantics.specs.Names.{TypesAreDistinguished}
use Rattle.std.proofs.Common.{◌≡◌, ℕ, zero, suc, Bool, true, false, List, [], ◌∷◌, refl, sym, ap}
use Rattle.std.proofs.Common.{◌∙◌, subst}
use Rattle.std.proofs.Common.{Option, Some, None, ◌⊎◌, inl, inr, slice_get, if◌then◌else◌}
use Rattle.std.specs.List.{filter}
use Rattle.std.specs.Prelude.{IsTrue, unwrap_or}
use Rattle.std.proofs.lemmas.Option.{same_Some, slice_get-map}
use Rattle.naga_ir.specs.declared.module.Constant.{Constant}
use Rattle.naga_ir.specs.declared.module.Function.{Function}
use Rattle.naga_ir.specs.declared.module.Module.{Module}
use Rattle.naga_info.specs.declared.info.ModuleInfo.{ModuleInfo}
use Rattle.naga_info.specs.declared.info.TypeResolution.TheVariants.{Handle}
use Rattle.naga_info.proofs.Options.{map_some}
use Rattle.shader_runs.specs.Program.{ConstantTree}
use Rattle.shader_runs.specs.Premises.{constant_type, ConstantInRange}
use Rattle.shader_runs.specs.Typing.{Signature, constant_signatures, IsOneOf, TreeFits}
use Rattle.shader_runs.specs.Value.{Spelled, type_at}
use Rattle.module_semantics.specs.acceptance.Accepted.{is_accepted}
use Rattle.module_semantics.specs.acceptance.AgreeingOperators.{Group}
use Rattle.module_semantics.specs.ExpressionShapes.{constant_tree}
use Rattle.module_semantics.specs.ModuleShapes.{module_shape, named_constants, initialiser}
use Rattle.module_semantics.specs.ExpressionContexts.{expression_context, global_tree, zero_of_type}
use Rattle.module_semantics.specs.ExpressionOperators.{constructor}
use Rattle.module_semantics.specs.OperatorTable.{run_word}
use Rattle.module_semantics.specs.Types.{type_of_values}
use Rattle.naga_form.proofs.declarations.AcceptedGroups.{IsSoundGroup}
use Rattle.naga_form.proofs.operators.AgreeingUses.{value_at}
use Rattle.naga_form.proofs.operators.ConstantTrees.{IsTreeOf, trees_are, initialiser_is}
use Rattle.naga_form.proofs.declarations.NamedConstants.{is_named, index_typed}
use Rattle.naga_form.proofs.operators.Signatures.{declared_for, only_signature, IsOfExpression}
use Rattle.naga_form.proofs.operators.Signatures.{IsOfZero}

-- a named constant is one of all, and has a name
abbrev IsNamedOf : List Constant → Constant → Type 0
IsNamedOf cs c = (h : ℕ) × (slice_get cs h ≡ Some c) × (is_named c ≡ true)

pub named_stands : (cs : List Constant) (i : ℕ) (c : Constant) → slice_get (filter is_named cs) i ≡ Some c →
    IsNamedOf cs c
named_stands [] i c here = absurd cc
named_stands (d ∷ cs) i c here = by (named_stands cs) (is_named d) refl here
  where
    further : IsNamedOf cs c → IsNamedOf (d ∷ cs) c
    further k = (suc k.0, k.1, k.2)

    by : ((i : ℕ) (c : Constant) → slice_get (filter is_named cs) i ≡ Some c → IsNamedOf cs c) →
        (b : Bool) → is_named d ≡ b → slice_get (if b then d ∷ filter is_named cs else filter is_named cs) i
        ≡ Some c → IsNamedOf (d ∷ cs) c
    by rest false named here = further (rest i c here)
    by rest true named here = at i here
      where
        at : (i : ℕ) → slice_get (d ∷ filter is_named cs) i ≡ Some c → IsNamedOf (d ∷ cs) c
        at zero here = (0, here, subst (λ x. is_named x ≡ true) (same_Some d c here) named)
        at (suc i) here = further (rest i c here)

module _ (m : Module) (info : ModuleInfo) (accepted : IsTrue (is_accepted m info))
    (distinguished : TypesAreDistinguished m) where
  -- ---- trees of a sound group
  pub tree_typed : (f : Option Function) (g : Group) → IsSoundGroup m info f g → (h : ℕ) (t : ConstantTree) →
      constant_tree (declared_for m info g) g.expressions h ≡ Some t →
      constant_type (module_shape m info) t ≡ value_at m info g.known h
  tree_typed f g is h t found = (trees_are m info accepted distinguished f g is h t found).type

  pub tree_spelled : (f : Option Function) (g : Group) → IsSoundGroup m info f g → (h : ℕ) (t : ConstantTree) →
      constant_tree (declared_for m info g) g.expressions h ≡ Some t →
      (x : Signature) → IsOneOf x (constant_signatures (module_shape m info) t) → IsOfExpression m info x
  tree_spelled f g is h t found = (trees_are m info accepted distinguished f g is h t found).spelled

  pub tree_in_range : (f : Option Function) (g : Group) → IsSoundGroup m info f g → (h : ℕ) (t : ConstantTree) →
      constant_tree (declared_for m info g) g.expressions h ≡ Some t →
      ConstantInRange (module_shape m info) t
  tree_in_range f g is h t found = (trees_are m info accepted distinguished f g is h t found).range

  pub tree_fits : (f : Option Function) (g : Group) → IsSoundGroup m info f g → (h : ℕ) (t : ConstantTree) →
      constant_tree (declared_for m info g) g.expressions h ≡ Some t →
      TreeFits (module_shape m info) t
  tree_fits f g is h t found = (trees_are m info accepted distinguished f g is h t found).fits

  -- ---- initialisers of named constants
  -- the named constant that an initialiser is of, among all constants
  pub record IsInitialiser (i : ℕ) (e : ConstantTree) : Type 0 where
    pub constant : Constant
    pub named : slice_get (named_constants m) i ≡ Some constant
    pub handle : ℕ
    pub there : slice_get m.constants handle ≡ Some constant
    pub is : initialiser m info constant ≡ e

  pub initialiser_of : (i : ℕ) (e : ConstantTree) → slice_get (module_shape m info).initialisers i ≡ Some e →
      IsInitialiser i e
  initialiser_of i e at =
      let found = map_some (initialiser m info) (slice_get (named_constants m) i) e
      (sym (slice_get-map (initialiser m info) (named_constants m) i) ∙ at) in
      let all = named_stands m.constants i found.0 found.1 in
      record { constant = found.0; named = found.1; handle = all.0; there = all.1; is = found.2 }

  -- what holds of each tree of the constant's type and of the zero value holds of the initialiser
  initialiser_by : (P : ConstantTree → Type 0) (h : ℕ) (c : Constant) →
      slice_get m.constants h ≡ Some c → P (zero_of_type m c.ty) →
      ((t : ConstantTree) → IsTreeOf m info (type_of_values m (Handle c.ty)) t → P t) →
      P (initialiser m info c)
  initialiser_by P h c at of_zero some = by (global_tree m info c.init) refl
    where
      by : (o : Option ConstantTree) → global_tree m info c.init ≡ o →
          P (unwrap_or o (zero_of_type m c.ty))
      by None found = of_zero
      by (Some t) found = some t (initialiser_is m info accepted distinguished h c at t found)

  -- what the zero value of a type spells
  zero_spelled : (ty : ℕ) (x : Signature) →
      IsOneOf x (constant_signatures (module_shape m info) (zero_of_type m ty)) → IsOfZero m info x
  zero_spelled ty x one =
      let same =
      only_signature x
      (record {
        word = Spelled (run_word (constructor (expression_context m (λ h. None)) (Handle ty) 0));
        operands = [];
        result = type_of_values m (Handle ty);
      }) one in
      record {
        ty = ty;
        word = ap (λ y. y.word) same;
        operands = ap (λ y. y.operands) same;
        result = ap (λ y. y.result) same;
      }

  -- if a tree spells it, it is of an expression or of a zero value
  abbrev Told : Signature → ConstantTree → Type 0
  Told x t =
      IsOneOf x (constant_signatures (module_shape m info) t) →
      IsOfExpression m info x ⊎ IsOfZero m info x

  pub initialiser_spelled : (i : ℕ) (e : ConstantTree) →
      slice_get (module_shape m info).initialisers i ≡ Some e →
      (x : Signature) → IsOneOf x (constant_signatures (module_shape m info) e) →
      IsOfExpression m info x ⊎ IsOfZero m info x
  initialiser_spelled i e at x =
      let k = initialiser_of i e at in
      subst (Told x) k.is
      (initialiser_by (Told x) k.handle k.constant k.there
      (λ one. inr (zero_spelled k.constant.ty x one)) (λ t is one. inl (is.spelled x one)))

  pub initialiser_in_range : (i : ℕ) (e : ConstantTree) → slice_get (module_shape m info).initialisers i
      ≡ Some e → ConstantInRange (module_shape m info) e
  initialiser_in_range i e at =
      let k = initialiser_of i e at in
      subst (ConstantInRange (module_shape m info)) k.is
      (initialiser_by (ConstantInRange (module_shape m info)) k.handle k.constant k.there tt
      (λ t is. is.range))

  pub initialiser_fits : (i : ℕ) (e : ConstantTree) → slice_get (module_shape m info).initialisers i ≡ Some e →
      TreeFits (module_shape m info) e
  initialiser_fits i e at =
      let k = initialiser_of i e at in
      subst (TreeFits (module_shape m info)) k.is
      (initialiser_by (TreeFits (module_shape m info)) k.handle k.constant k.there tt
      (λ t is. is.fits))

  -- it has its constant's type
  pub initialiser_typed : (i : ℕ) (e : ConstantTree) →
      slice_get (module_shape m info).initialisers i ≡ Some e →
      type_at (module_shape m info).constant_types i ≡ constant_type (module_shape m info) e
  initialiser_typed i e at =
      let k = initialiser_of i e at in
      index_typed m info i k.constant k.named
      ∙ (initialiser_by
      (λ t. type_of_values m (Handle k.constant.ty) ≡ constant_type (module_shape m info) t)
      k.handle k.constant k.there refl (λ t is. sym is.type)
      ∙ ap (constant_type (module_shape m info)) k.is)
