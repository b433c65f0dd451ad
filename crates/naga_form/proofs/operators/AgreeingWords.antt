-- Expressions of an accepted module that the runs call by one spelled word, over operands of equal
-- types, are of one type: by the type whose value they are, or by the operator that they apply.
use Rattle.module_semantics.specs.Names.{TypesAreDistinguished}
use Rattle.std.proofs.Common.{◌≡◌, ℕ, Bool, true, false, List, [], ◌∷◌, refl, sym, ap, ◌∙◌, subst}
use Rattle.std.proofs.Common.{Option, Some, None, map, drop, if◌then◌else◌, nat_eq}
use Rattle.std.specs.Prelude.{IsTrue, slice_get, get_or, unwrap_or, ◌&&◌, take}
use Rattle.std.specs.Option.{option_map, option_map_or, is_some}
use Rattle.std.proofs.lemmas.Bool.{false≢true, true≢false}
use Rattle.std.proofs.lemmas.Option.{same_Some}
use Rattle.naga_ir.specs.Operands.{expression_operands}
use Rattle.naga_ir.specs.declared.expression.Expression.{Expression}
use Rattle.naga_ir.specs.declared.expression.Expression.TheVariants as expression
use Rattle.naga_ir.specs.declared.expression.ImageQuery.{ImageQuery}
use Rattle.naga_ir.specs.declared.expression.ImageQuery.TheVariants as query
use Rattle.naga_ir.specs.declared.expression.SwizzleComponent.{SwizzleComponent}
use Rattle.naga_ir.specs.declared.module.Constant.{Constant}
use Rattle.naga_ir.specs.declared.module.Function.{Function}
use Rattle.naga_ir.specs.declared.module.Module.{Module}
use Rattle.naga_ir.specs.declared.types.CooperativeRole.{CooperativeRole}
use Rattle.naga_ir.specs.declared.types.CooperativeSize.{CooperativeSize}
use Rattle.naga_ir.specs.declared.types.TypeInner.{TypeInner}
use Rattle.naga_ir.specs.declared.types.Type_.{Type_}
use Rattle.naga_ir.specs.declared.types.VectorSize.{VectorSize}
use Rattle.naga_info.specs.declared.info.ModuleInfo.{ModuleInfo}
use Rattle.naga_info.specs.declared.info.TypeResolution.{TypeResolution}
use Rattle.naga_info.specs.declared.info.TypeResolution.TheVariants.{Handle, Value}
use Rattle.shader_runs.specs.Typing.{Signature}
use Rattle.shader_runs.specs.Value.{Word, Spelled, PartWord, IndexWord, Selector, MemberNamed}
use Rattle.std.specs.List.{flat_map}
use Rattle.module_semantics.specs.acceptance.Accepted.{is_accepted}
use Rattle.module_semantics.specs.acceptance.AgreeingOperators.{Group, operator_key}
use Rattle.module_semantics.specs.AlikeTypes.{type_identity}
use Rattle.module_semantics.specs.ExpressionOperators.{applied_operator, constructor, matrix_load}
use Rattle.module_semantics.specs.ExpressionOperators.{is_atomic_pointer, image_sample_operator}
use Rattle.module_semantics.specs.ExpressionOperators.{query_operator}
use Rattle.module_semantics.specs.ExpressionShapes.{part_selector, letter}
use Rattle.module_semantics.specs.acceptance.ExpressionTypes.{expected_type, LikeThis, only}
use Rattle.module_semantics.specs.OperatorTable.{Operator, AtomicLoad, CooperativeLoad, MatrixLoad}
use Rattle.module_semantics.specs.OperatorTable.{WithoutForm, ValueOf, MakeSpelled, Level, run_word}
use Rattle.module_semantics.specs.OperatorTable.{one_word, asks}
use Rattle.module_semantics.specs.Types.{word_of_values, called_spelling, type_names}
use Rattle.module_semantics.specs.Types.{spelled_resolution}
use Rattle.module_semantics.specs.TypeIdentity.{identity, identity_at, identity_code, Itself, Nothing}
use Rattle.module_semantics.specs.TypeIdentity.{StructAt, word_of_unspelled_type, component_count}
use Rattle.module_semantics.specs.Undeclared.{is_undeclared, is_undeclared_struct}
use Rattle.module_semantics.proofs.ExpressionForms.{called_spelled}
use Rattle.naga_spelling.specs.Spelling.{is_struct}
use Rattle.naga_form.proofs.declarations.AcceptedGroups.{agree}
use Rattle.naga_form.proofs.operators.AgreeingExpressions.{are, own_type, operands_are, own_is}
use Rattle.naga_form.proofs.operators.AgreeingExpressions.{use_of, by_identity, same_values}
use Rattle.naga_form.proofs.operators.AgreeingUses.{IsApplied, value_at, value_is, results_agree}
use Rattle.naga_form.proofs.operators.OperatorKeys.{IsFormed, IsKeyed, Negated, Keyed, KeyIn, keyed}
use Rattle.naga_form.proofs.operators.OperatorKeys.{sound, spells}
use Rattle.naga_form.proofs.types.SameValues.{IsFit, numbers_by_words, values_by_numbers}
use Rattle.naga_form.proofs.operators.Signatures.{IsCalled, by_operator, by_zero, by_constant}
use Rattle.naga_form.proofs.operators.Signatures.{by_index, by_part, by_letters, IsOfExpression}
use Rattle.naga_form.proofs.operators.Signatures.{IsOfZero, group_context, declared_for}
use Rattle.naga_form.proofs.operators.TypedWords.{no_blank, have_one_word}

module _ (m : Module) (info : ModuleInfo) (accepted : IsTrue (is_accepted m info))
    (distinguished : TypesAreDistinguished m) where
  -- how the runs call an expression: as a value of a type, from components or none; as an operator
  -- over operands; or as a part
  pub data Call (g : Group) (e : Expression) (w : Word) : Type 0 where
    Composed : (ty n : ℕ) (k : List ℕ) → ((f : Option Function) → expected_type m f g.known e ≡ LikeThis (Handle ty)) →
        applied_operator (group_context m info g) e
        ≡ Some (constructor (group_context m info g) (Handle ty) n) → operator_key m.types g.known e ≡ Some k →
        (is_some (called_spelling m (Handle ty)) ≡ true → IsFormed m (are m info accepted distinguished) e) →
        w ≡ Spelled (run_word (constructor (group_context m info g) (Handle ty) n)) → Call g e w
    Zeroed : (ty : ℕ) → ((f : Option Function) → expected_type m f g.known e ≡ LikeThis (Handle ty)) →
        expression_operands e ≡ [] →
        w ≡ Spelled (run_word (constructor (group_context m info g) (Handle ty) 0)) → Call g e w
    Applied : (o : Operator) (k : List ℕ) → applied_operator (group_context m info g) e ≡ Some o →
        operator_key m.types g.known e ≡ Some k →
        IsFormed m (are m info accepted distinguished) e → (h : ℕ) (hs : List ℕ) → expression_operands e
        ≡ h ∷ hs → w ≡ Spelled (run_word o) → Call g e w
    Indexed : (base index : ℕ) → e ≡ expression.Access base index → w ≡ IndexWord → Call g e w
    Selected : (base index : ℕ) (s : Selector) → e ≡ expression.AccessIndex base index →
        part_selector (declared_for m info g) base index ≡ Some s → w ≡ PartWord s → Call g e w
    Lettered : (size : VectorSize) (vector : ℕ) (pattern : List SwizzleComponent) →
        e ≡ expression.Swizzle size vector pattern →
        w ≡ PartWord (MemberNamed (flat_map letter (take (component_count size) pattern))) → Call g e w

  -- ---- what applies an operator without asking
  asking : (o p : Operator) → Some p ≡ Some o → asks p ≡ true → asks o ≡ false → ⊥
  asking o p e is not_so = true≢false (sym is ∙ (ap asks (same_Some p o e) ∙ not_so))

  samples_ask : (of_depths : Bool) (gather : Option SwizzleComponent) (level : Level)
      (compares clamped arrayed offset : Bool) →
      asks (image_sample_operator of_depths gather level compares clamped arrayed offset) ≡ true
  samples_ask of_depths None level compares clamped arrayed offset = refl
  samples_ask of_depths (Some component) level compares clamped arrayed offset = refl

  queries_ask : (q : ImageQuery) → asks (query_operator q) ≡ true
  queries_ask (query.Size level) = refl
  queries_ask _ = refl

  loads_ask : (columns rows : CooperativeSize) (role : CooperativeRole) (row_major : Bool)
      (o : Option (List ℕ)) →
      asks (option_map_or (CooperativeLoad row_major) o
      (WithoutForm (MatrixLoad columns rows role row_major))) ≡ true
  loads_ask columns rows role row_major None = refl
  loads_ask columns rows role row_major (Some w) = refl

  applied : (g : Group) (e : Expression) (o : Operator) → applied_operator (group_context m info g) e ≡ Some o →
      asks o ≡ false → Call g e (Spelled (run_word o))
  applied g (expression.Compose ty parts) o a silent = Composed ty _ _ (λ f. refl) refl refl (λ has. has)
      (ap (λ o. Spelled (run_word o)) (sym (same_Some _ o a)))
  applied g (expression.As operand kind convert) o a silent = Applied o _ a refl tt operand [] refl refl
  applied g (expression.AccessIndex base index) o a silent = Applied o _ a refl tt base [] refl refl
  applied g (expression.Load pointer) o a silent = by (is_atomic_pointer (group_context m info g) pointer) a
    where
      by : (b : Bool) → (if b then Some AtomicLoad else None) ≡ Some o →
          Call g (expression.Load pointer) (Spelled (run_word o))
      by true a = absurd (asking o AtomicLoad a refl silent)
      by false a = absurd cc
  applied g (expression.ImageSample image sampler gather coordinate array_index offset level depth_ref clamp) o
      a silent =
      absurd (asking o _ a (samples_ask _ gather _ _ _ _ _) silent)
  applied g (expression.ImageQuery image q) o a silent = absurd (asking o (query_operator q) a (queries_ask q) silent)
  applied g (expression.CooperativeLoad columns rows role place) o a silent =
      absurd (asking o (matrix_load (group_context m info g) columns rows role place) a
      (loads_ask columns rows role place.row_major _) silent)
  -- any other has a key and operands, or applies none that does not ask
  applied g e o a silent =
      Applied o (unwrap_or (operator_key m.types g.known e) []) a (cc) tt
      (get_or (expression_operands e) 0 0) (drop 1 (expression_operands e)) (cc) refl

  zeroed : (g : Group) (e : Expression) (ty : ℕ) → e ≡ expression.ZeroValue ty →
      Call g e (Spelled (run_word (constructor (group_context m info g) (Handle ty) 0)))
  zeroed g e ty is = Zeroed ty (λ f. ap (expected_type m f g.known) is) (ap expression_operands is) refl

  -- a constant that counts as the zero value of its type
  constant_zeroed : (g : Group) (e : Expression) (c : ℕ) (k : Constant) → e ≡ expression.Constant c →
      slice_get m.constants c ≡ Some k →
      Call g e (Spelled (run_word (constructor (group_context m info g) (Handle k.ty) 0)))
  constant_zeroed g e c k is there =
      Zeroed k.ty (λ f. ap (expected_type m f g.known) is
      ∙ ap (λ o. only (option_map (λ c. Handle c.ty) o)) there) (ap expression_operands is) refl

  pub call : (g : Group) (e : Expression) (w : Word) → IsCalled m info g e w → Call g e w
  call g e _ (by_operator o a silent) = applied g e o a silent
  call g e _ (by_zero ty is) = zeroed g e ty is
  call g e _ (by_constant c k is there) = constant_zeroed g e c k is there
  call g e _ (by_index base index is) = Indexed base index is refl
  call g e _ (by_part base index s is selected) = Selected base index s is selected refl
  call g e _ (by_letters size vector pattern is) = Lettered size vector pattern is refl

  -- ---- the types of values
  abbrev value_word : Option (List ℕ) → TypeResolution → (components : ℕ) → List ℕ
  value_word o r n =
      run_word (option_map_or (λ spelling. MakeSpelled spelling n) o
      (WithoutForm (ValueOf (identity_code (identity m.types r)) n)))

  -- what is called by its type has the type's word
  called_word : (r : TypeResolution) (w : List ℕ) → called_spelling m r ≡ Some w →
      word_of_values m r ≡ w
  called_word r w at =
      ap (λ o. unwrap_or o (word_of_unspelled_type (identity m.types r))) (called_spelled m r w at).1

  -- a struct is told from all other types
  struct_code : (r : TypeResolution) (h : ℕ) → identity_code (identity m.types r) ≡ 1 ∷ h ∷ [] →
      r ≡ Handle h
  struct_code (Value it) h e = by (is_struct it) e
    where
      by : (b : Bool) → identity_code (if b then Nothing else Itself it) ≡ 1 ∷ h ∷ [] →
          Value it ≡ Handle h
      by true e = absurd (false≢true (ap (λ xs. nat_eq (get_or xs 0 0) 1) e))
      by false e = absurd (false≢true (ap (λ xs. nat_eq (get_or xs 0 0) 1) e))
  struct_code (Handle k) h e = by (slice_get m.types k) e
    where
      told : (it : TypeInner) (b : Bool) →
          identity_code (if b then StructAt k else Itself it) ≡ 1 ∷ h ∷ [] → Handle k ≡ Handle h
      told it true e = ap (λ xs. Handle (get_or xs 1 0)) e
      told it false e = absurd (false≢true (ap (λ xs. nat_eq (get_or xs 0 0) 1) e))

      by : (o : Option Type_) → identity_code (identity_at k (option_map (λ t. t.inner) o)) ≡ 1 ∷ h ∷ [] →
          Handle k ≡ Handle h
      by None e = absurd (false≢true (ap (λ xs. nat_eq (get_or xs 0 0) 1) e))
      by (Some t) e = told t.inner (is_struct t.inner) e

  undeclared_code : (r : TypeResolution) → is_undeclared_struct m r ≡ true →
      (h : ℕ) × (r ≡ Handle h) × (identity_code (identity m.types r) ≡ 1 ∷ h ∷ [])
  undeclared_code (Value it) is = absurd (false≢true is)
  undeclared_code (Handle h) is = by (slice_get m.types h) is
    where
      told : (it : TypeInner) (b : Bool) → (b && is_undeclared m.special_types h) ≡ true →
          identity_code (if b then StructAt h else Itself it) ≡ 1 ∷ h ∷ []
      told it true is = refl
      told it false is = absurd (false≢true is)

      by : (o : Option Type_) →
          option_map_or (λ t. is_struct t.inner && is_undeclared m.special_types h) o false ≡ true →
          (k : ℕ) × (Handle h ≡ Handle k)
          × (identity_code (identity_at h (option_map (λ t. t.inner) o)) ≡ 1 ∷ k ∷ [])
      by None is = absurd (false≢true is)
      by (Some t) is = (h, refl, told t.inner (is_struct t.inner) is)

  one_struct : (r s : TypeResolution) → is_undeclared_struct m r ≡ true →
      identity_code (identity m.types r) ≡ identity_code (identity m.types s) → r ≡ s
  one_struct r s is e =
      let told = undeclared_code r is in
      told.1 ∙ sym (struct_code s told.0 (sym e ∙ told.2))

  -- types by which nothing is called have one word where they are told by the same
  not_called_alike : (r s : TypeResolution) → called_spelling m r ≡ None → called_spelling m s ≡ None →
      identity_code (identity m.types r) ≡ identity_code (identity m.types s) →
      word_of_values m r ≡ word_of_values m s
  not_called_alike r s at bt e = by (is_undeclared_struct m r) refl (is_undeclared_struct m s) refl at bt
    where
      by : (a : Bool) → is_undeclared_struct m r ≡ a → (b : Bool) → is_undeclared_struct m s ≡ b →
          (if a then None else spelled_resolution (type_names m) r) ≡ None →
          (if b then None else spelled_resolution (type_names m) s) ≡ None →
          word_of_values m r ≡ word_of_values m s
      by true is b is_b at bt = ap (word_of_values m) (one_struct r s is e)
      by false is true is_b at bt = sym (ap (word_of_values m) (one_struct s r is_b (sym e)))
      by false is false is_b at bt =
          ap (λ o. unwrap_or o (word_of_unspelled_type (identity m.types r))) at
          ∙ (ap (λ c. 32 ∷ c) e
          ∙ sym (ap (λ o. unwrap_or o (word_of_unspelled_type (identity m.types s))) bt))

  -- the word of a type's value tells the type's word
  pub one_type : (r s : TypeResolution) (n k : ℕ) → IsFit m r → IsFit m s →
      value_word (called_spelling m r) r n ≡ value_word (called_spelling m s) s k →
      word_of_values m r ≡ word_of_values m s
  one_type r s n k p q e = by (called_spelling m r) refl (called_spelling m s) refl e
    where
      by : (x : Option (List ℕ)) → called_spelling m r ≡ x → (y : Option (List ℕ)) →
          called_spelling m s ≡ y → value_word x r n ≡ value_word y s k →
          word_of_values m r ≡ word_of_values m s
      by (Some v) at (Some w) bt e = called_word r v at ∙ (e ∙ sym (called_word s w bt))
      by (Some v) at None bt e =
          absurd (no_blank v _ (spells m (are m info accepted distinguished) r p v (called_spelled m r v at).1) e)
      by None at (Some w) bt e =
          absurd (no_blank w _ (spells m (are m info accepted distinguished) s q w (called_spelled m s w bt).1) (sym e))
      by None at None bt e = not_called_alike r s at bt (ap (drop 2) e)

  -- an operator over operands is not a value of a type without a form
  not_unsupported : (o : Operator) (count : ℕ) (k numbers : List ℕ) (n : ℕ) →
      IsKeyed m (are m info accepted distinguished) o count k →
      run_word o ≡ run_word (WithoutForm (ValueOf numbers n)) → ⊥
  not_unsupported o count k numbers n keyed e =
      by keyed (have_one_word o (WithoutForm (ValueOf numbers n))
      (sound m (are m info accepted distinguished) o count k keyed) tt e)
    where
      no_key : None ≡ Some k → ⊥
      no_key none = absurd cc

      by : IsKeyed m (are m info accepted distinguished) o count k → one_word o ≡ WithoutForm (ValueOf numbers 1) → ⊥
      by (Negated sign one key) is = absurd cc
      by (Keyed key) is = no_key (subst (λ p. KeyIn m (are m info accepted distinguished) p count k) is key)

  -- types whose values have one word have values of one type
  types_agree : (r s : TypeResolution) (n k : ℕ) → IsFit m r → IsFit m s →
      value_word (called_spelling m r) r n ≡ value_word (called_spelling m s) s k →
      type_identity m.types r ≡ type_identity m.types s
  types_agree r s n k p q e =
      numbers_by_words m (are m info accepted distinguished) r s p q (one_type r s n k p q e)

  -- ---- a zero value
  pub zeros_agree : (x y : Signature) → IsOfZero m info x → IsOfZero m info y → x.word ≡ y.word →
      x.result ≡ y.result
  zeros_agree x y a b word =
      a.result
      ∙ (values_by_numbers m (are m info accepted distinguished) (Handle a.ty) (Handle b.ty) tt tt
      (types_agree (Handle a.ty) (Handle b.ty) 0 0 tt tt
      (spelled_word _ _ (sym a.word ∙ (word ∙ b.word))))
      ∙ sym b.result)
    where
      spelled_word : (v w : List ℕ) → Spelled v ≡ Spelled w → v ≡ w
      spelled_word v w e = cc

  -- an expression of a type by its word, and a zero value
  pub value_and_zero : {x y : Signature} (a : IsOfExpression m info x) (b : IsOfZero m info y)
      (r : TypeResolution) (n : ℕ) → IsFit m r →
      expected_type m a.function a.group.known a.expression ≡ LikeThis r →
      value_word (called_spelling m r) r n
      ≡ value_word (called_spelling m (Handle b.ty)) (Handle b.ty) 0 →
      x.result ≡ y.result
  value_and_zero a b r n fit wanted e =
      let own = own_type m info accepted distinguished a in
      a.result
      ∙ (value_is m info a.group.known a.handle own.0 own.1
      ∙ (values_by_numbers m (are m info accepted distinguished) own.0 (Handle b.ty)
      (a.sound.fits a.handle own.0 own.1) tt
      (sym (ap (λ o. option_map_or (type_identity m.types) o []) own.1)
      ∙ (own_is m info accepted distinguished a r wanted
      ∙ types_agree r (Handle b.ty) n 0 fit tt e))
      ∙ sym b.result))

  -- ---- two of one word
  module _ {x y : Signature} (a : IsOfExpression m info x) (b : IsOfExpression m info y) where
    -- values of types with one word
    pub both_values : (r s : TypeResolution) (n k : ℕ) → IsFit m r → IsFit m s →
        expected_type m a.function a.group.known a.expression ≡ LikeThis r →
        expected_type m b.function b.group.known b.expression ≡ LikeThis s →
        value_word (called_spelling m r) r n ≡ value_word (called_spelling m s) s k → x.result ≡ y.result
    both_values r s n k p q wanted other e =
        by_identity m info accepted distinguished a b
        (own_is m info accepted distinguished a r wanted
        ∙ (numbers_by_words m (are m info accepted distinguished) r s p q
        (one_type r s n k p q e) ∙ sym (own_is m info accepted distinguished b s other)))

    module _ (operands : x.operands ≡ y.operands) where
      abbrev applies : {z : Signature} (c : IsOfExpression m info z) (k : List ℕ)
          (at : operator_key m.types c.group.known c.expression ≡ Some k) (o : Operator) →
          applied_operator (group_context m info c.group) c.expression ≡ Some o →
          IsFormed m (are m info accepted distinguished) c.expression →
          IsApplied m info (are m info accepted distinguished)
          (use_of m info accepted distinguished c k at)
      applies c k at o applied formed = record {
        operator = o;
        applied = applied;
        formed = formed;
        fits = c.sound.fits;
        operands = operands_are m info accepted distinguished c;
        own = (own_type m info accepted distinguished c).0;
        own_there = (own_type m info accepted distinguished c).1;
      }

      -- operators of one word
      pub both_applied : (o p : Operator) (k l : List ℕ) →
          applied_operator (group_context m info a.group) a.expression ≡ Some o →
          operator_key m.types a.group.known a.expression ≡ Some k →
          IsFormed m (are m info accepted distinguished) a.expression →
          applied_operator (group_context m info b.group) b.expression ≡ Some p →
          operator_key m.types b.group.known b.expression ≡ Some l →
          IsFormed m (are m info accepted distinguished) b.expression →
          run_word o ≡ run_word p → x.result ≡ y.result
      both_applied o p k l ao ak af bo bk bf e =
          a.result
          ∙ (results_agree m info (are m info accepted distinguished) (agree m info accepted)
          (use_of m info accepted distinguished a k ak) (use_of m info accepted distinguished b l bk)
          (applies a k ak o ao af) (applies b l bk p bo bf) e
          (same_values m info accepted distinguished a b operands) ∙ sym b.result)

      -- a composition and an operator
      pub composed_applied : (ty n : ℕ) (k : List ℕ) →
          applied_operator (group_context m info a.group) a.expression ≡
          Some (constructor (group_context m info a.group) (Handle ty) n) →
          operator_key m.types a.group.known a.expression ≡ Some k →
          (is_some (called_spelling m (Handle ty)) ≡ true →
          IsFormed m (are m info accepted distinguished) a.expression) →
          (p : Operator) (l : List ℕ) →
          applied_operator (group_context m info b.group) b.expression ≡ Some p →
          operator_key m.types b.group.known b.expression ≡ Some l →
          IsFormed m (are m info accepted distinguished) b.expression →
          run_word (constructor (group_context m info a.group) (Handle ty) n) ≡ run_word p → x.result ≡ y.result
      composed_applied ty n k ao ak formed p l bo bk bf e = by (called_spelling m (Handle ty)) refl
        where
          by : (o : Option (List ℕ)) → called_spelling m (Handle ty) ≡ o → x.result ≡ y.result
          by (Some w) at = both_applied _ p k l ao ak (formed (ap is_some at)) bo bk bf e
          by None at =
              absurd (not_unsupported p _ l (identity_code (identity m.types (Handle ty))) n
              (keyed m (are m info accepted distinguished) b.group.known b.expression l p bk bo bf)
              (sym e ∙ ap (λ o. value_word o (Handle ty) n) at))

      -- an operator has operands
      pub zeroed_applied : expression_operands a.expression ≡ [] → (h : ℕ) (hs : List ℕ) →
          expression_operands b.expression ≡ h ∷ hs → ⊥
      zeroed_applied none h hs some =
          let values = same_values m info accepted distinguished a b operands in
          let empty : [] ≡ value_at m info b.group.known h ∷ map (value_at m info b.group.known) hs =
          ap (map (value_at m info a.group.known)) (sym none)
          ∙ (values ∙ ap (map (value_at m info b.group.known)) some) in
          absurd cc
