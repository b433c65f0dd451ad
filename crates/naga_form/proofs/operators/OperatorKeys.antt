-- Operators that the runs call by one word, over as many operands, are told by one key.
use Rattle.std.proofs.Common.{◌≡◌, ℕ, Bool, true, false, List, ◌∷◌, refl, sym, ap, ◌∙◌, length}
use Rattle.std.proofs.Common.{subst, Option, Some, None, slice_get, if◌then◌else◌, arith, suc, zero}
use Rattle.std.specs.Option.{option_and_then, option_map, option_map_or, is_some}
use Rattle.std.proofs.lemmas.Option.{same_Some}
use denote.Enum.Declared.{tag_of}
use Rattle.naga_ir.specs.contracts.operators.UnaryOperator.{the_type as unary_operators}
use Rattle.naga_ir.specs.Operands.{expression_operands}
use Rattle.naga_ir.specs.declared.expression.Expression.{Expression}
use Rattle.naga_ir.specs.declared.expression.Expression.TheVariants as expression
use Rattle.naga_ir.specs.declared.module.Module.{Module}
use Rattle.naga_ir.specs.declared.operators.BinaryOperator.TheVariants as binary
use Rattle.naga_ir.specs.declared.operators.UnaryOperator.TheVariants as unary
use Rattle.naga_ir.specs.declared.operators.UnaryOperator.{UnaryOperator}
use Rattle.naga_ir.specs.declared.types.ScalarKind.{ScalarKind}
use Rattle.naga_ir.specs.declared.types.TypeInner.{TypeInner}
use Rattle.naga_ir.specs.declared.types.TypeInner.TheVariants as inner
use Rattle.naga_info.specs.declared.info.TypeResolution.{TypeResolution}
use Rattle.naga_info.specs.declared.info.TypeResolution.TheVariants.{Handle, Value}
use Rattle.wgsl_text.specs.Reading.{printed_type}
use Rattle.wgsl_text.specs.Types.{TypeSpecifier}
use Rattle.module_semantics.specs.acceptance.AgreeingOperators.{operator_key, own_key, one_key}
use Rattle.module_semantics.specs.acceptance.AgreeingOperators.{typed_key, unsupported_key}
use Rattle.module_semantics.specs.acceptance.AgreeingOperators.{constructor_key, conversion_key}
use Rattle.module_semantics.specs.acceptance.AgreeingOperators.{target_key}
use Rattle.module_semantics.specs.AlikeTypes.{type_key, has_type_form}
use Rattle.module_semantics.specs.Conversions.{converted_scalar}
use Rattle.module_semantics.specs.ExpressionOperators.{ExpressionContext, applied_operator}
use Rattle.module_semantics.specs.ExpressionOperators.{constructor, cast, cast_to}
use Rattle.module_semantics.specs.OperatorTable.{Operator, BinarySign, UnarySign, MakeSpelled, Texel}
use Rattle.module_semantics.specs.OperatorTable.{Convert, Reinterpret, WithoutForm, Cast, PartAt}
use Rattle.module_semantics.specs.OperatorTable.{ValueOf, CooperativeLoad, run_word, one_word}
use Rattle.module_semantics.specs.OperatorTable.{TypeIsSound, SpellsAType}
use Rattle.module_semantics.specs.ExpressionContexts.{expression_context}
use Rattle.module_semantics.specs.Types.{word_of_values, called_spelling, type_names}
use Rattle.module_semantics.specs.Types.{spelled_resolution}
use Rattle.module_semantics.specs.TypeIdentity.{truth_number, word_of_unspelled_type, identity}
use Rattle.module_semantics.specs.TypeIdentity.{identity_code}
use Rattle.std.specs.Prelude.{unwrap_or}
use Rattle.naga_form.specs.TypeTrees.{resolution_tree}
use Rattle.module_semantics.specs.TypeParts.{known_inner}
use Rattle.module_semantics.proofs.ExpressionForms.{called_spelled}
use Rattle.naga_form.proofs.types.AlikeTypes.{key_read}
use Rattle.naga_form.proofs.types.SameValues.{TypesAreCounted, IsFit, numbers_by_words, tree_of}
use Rattle.naga_form.proofs.types.SameValues.{spelling_of, tree_is}
use Rattle.naga_form.proofs.operators.TypedWords.{have_one_word}

module _ (m : Module) (are : TypesAreCounted m) where
  -- a spelled type, of which the operator is told
  pub record IsTyped (w : List ℕ) (bits : Bool) (x : List ℕ) : Type 0 where
    pub typed : TypeResolution
    pub fit : IsFit m typed
    pub spelled : spelled_resolution (type_names m) typed ≡ Some w
    pub key : x ≡ typed_key m.types bits typed

  -- the key of an operator that stands for all of its word, over so many operands
  abbrev pub KeyIn : Operator → (count : ℕ) → List ℕ → Type 0
  KeyIn (BinarySign op) n x = (n ≡ 2) × (own_key (BinarySign op) ≡ Some x)
  KeyIn (MakeSpelled w components) n x = IsTyped w false x
  KeyIn (Reinterpret w) n x = IsTyped w true x
  KeyIn (WithoutForm (Cast kind width)) n x = x ≡ unsupported_key kind width
  KeyIn (WithoutForm (PartAt index)) n x = x ≡ one_key 4 index
  KeyIn op n x = own_key op ≡ Some x

  -- the key of an operator: a negation shares its word with a difference, and has one operand
  pub data IsKeyed (o : Operator) (count : ℕ) (x : List ℕ) : Type 0 where
    Negated : one_word o ≡ BinarySign binary.Subtract → count ≡ 1 →
        x ≡ one_key 6 (tag_of unary_operators unary.Negate) → IsKeyed o count x
    Keyed : KeyIn (one_word o) count x → IsKeyed o count x

  spelled_word : (r : TypeResolution) (w : List ℕ) → spelled_resolution (type_names m) r ≡ Some w →
      word_of_values m r ≡ w
  spelled_word r w at = ap (λ o. unwrap_or o (word_of_unspelled_type (identity m.types r))) at

  typed_once : (w : List ℕ) (bits : Bool) (x y : List ℕ) → IsTyped w bits x → IsTyped w bits y → x ≡ y
  typed_once w bits x y a b =
      let words = spelled_word a.typed w a.spelled ∙ sym (spelled_word b.typed w b.spelled) in
      a.key ∙ (ap (λ numbers. 0 ∷ truth_number bits ∷ numbers)
      (numbers_by_words m are a.typed b.typed a.fit b.fit words) ∙ sym b.key)

  key_once : (o : Operator) (n : ℕ) (x y : List ℕ) → KeyIn o n x → KeyIn o n y → x ≡ y
  key_once (BinarySign op) n x y a b = same_Some x y (sym a.1 ∙ b.1)
  key_once (MakeSpelled w components) n x y a b = typed_once w false x y a b
  key_once (Reinterpret w) n x y a b = typed_once w true x y a b
  key_once (WithoutForm (Cast kind width)) n x y a b = a ∙ sym b
  key_once (WithoutForm (PartAt index)) n x y a b = a ∙ sym b
  key_once (WithoutForm _) n x y a b = absurd cc
  key_once _ n x y a b = same_Some x y (sym a ∙ b)

  one_two : suc zero ≡ suc (suc zero) → ⊥
  one_two e = omega (arith, e)

  -- operators that one operator stands for have one key, over as many operands
  one_key_each : (o p : Operator) (n : ℕ) (x y : List ℕ) → IsKeyed o n x → IsKeyed p n y →
      one_word o ≡ one_word p → x ≡ y
  one_key_each o p n x y (Negated a one k) (Negated b two l) e = k ∙ sym l
  one_key_each o p n x y (Keyed k) (Keyed l) e = key_once (one_word p) n x y (subst (λ c. KeyIn c n x) e k) l
  one_key_each o p n x y (Negated a one k) (Keyed l) e =
      let of_sign : KeyIn (BinarySign binary.Subtract) n y = subst (λ c. KeyIn c n y) (sym e ∙ a) l in
      let same : 1 ≡ 2 = sym one ∙ of_sign.0 in absurd (one_two same)
  one_key_each o p n x y (Keyed k) (Negated b two l) e =
      let of_sign : KeyIn (BinarySign binary.Subtract) n x = subst (λ c. KeyIn c n x) (e ∙ b) k in
      let same : 1 ≡ 2 = sym two ∙ of_sign.0 in absurd (one_two same)

  -- ---- the keys of expressions
  abbrev known_of : List TypeResolution → ℕ → Option TypeResolution
  known_of known h = slice_get known h

  -- a type has a form where it is spelled
  pub form_spelled : (r : TypeResolution) → is_some (spelled_resolution (type_names m) r) ≡ has_type_form m.types r
  form_spelled r = ap is_some (spelling_of m are r ∙ ap (option_map printed_type) (tree_of m are r))
      ∙ by (type_key m.types r)
    where
      by : (o : Option (List ℕ)) → is_some (option_map printed_type (option_map (key_read (type_names m)) o))
          ≡ is_some o
      by None = refl
      by (Some w) = refl

  -- its word is a type of the grammar
  pub spells : (r : TypeResolution) → IsFit m r → (w : List ℕ) → spelled_resolution (type_names m) r ≡ Some w →
      SpellsAType w
  spells r fit w at = by (resolution_tree (type_names m) r) refl (sym (spelling_of m are r) ∙ at)
    where
      by : (o : Option TypeSpecifier) → resolution_tree (type_names m) r ≡ o → option_map printed_type o
          ≡ Some w → SpellsAType w
      by (Some t) is e = (t, (tree_is m are.types r fit t is, same_Some (printed_type t) w e))
      by None is e = absurd (cc)

  -- what a conversion is to, or what it is where that has no form
  target_keyed : (it : TypeInner) → IsFit m (Value it) →
      (bits : Bool) (kind : ScalarKind) (convert : Option ℕ) →
      IsKeyed (option_map_or (cast_to bits) (spelled_resolution (type_names m) (Value it))
      (WithoutForm (Cast kind convert))) 1 (target_key m.types kind convert bits it)
  target_keyed it fit bits kind convert = by (spelled_resolution (type_names m) (Value it)) refl
      (has_type_form m.types (Value it)) (form_spelled (Value it))
    where
      typed : (b : Bool) (w : List ℕ) → spelled_resolution (type_names m) (Value it) ≡ Some w →
          IsKeyed (cast_to b w) 1 (typed_key m.types b (Value it))
      typed false w at = Keyed (record { typed = Value it; fit = fit; spelled = at; key = refl })
      typed true w at = Keyed (record { typed = Value it; fit = fit; spelled = at; key = refl })

      by : (o : Option (List ℕ)) → spelled_resolution (type_names m) (Value it) ≡ o →
          (f : Bool) → is_some o ≡ f →
          IsKeyed (option_map_or (cast_to bits) o (WithoutForm (Cast kind convert))) 1
          (if f then typed_key m.types bits (Value it) else unsupported_key kind convert)
      by (Some w) at true is = typed bits w at
      by (Some w) at false is = absurd (cc)
      by None at true is = absurd (cc)
      by None at false is = Keyed refl

  abbrev context : List TypeResolution → ExpressionContext
  context known = expression_context m (λ h. slice_get known h)

  cast_keyed : (known : List TypeResolution) (kind : ScalarKind) (convert : Option ℕ)
      (it : Option TypeInner) →
      IsKeyed (cast (context known) kind convert it) 1 (conversion_key m.types kind convert it)
  cast_keyed known kind None (Some (inner.Scalar s)) =
      target_keyed (inner.Scalar (converted_scalar s kind None)) (refl, tt, refl) true kind None
  cast_keyed known kind (Some width) (Some (inner.Scalar s)) =
      target_keyed (inner.Scalar (converted_scalar s kind (Some width))) (refl, tt, refl) false kind (Some width)
  cast_keyed known kind None (Some (inner.Vector n s)) =
      target_keyed (inner.Vector n (converted_scalar s kind None)) (refl, tt, refl) true kind None
  cast_keyed known kind (Some width) (Some (inner.Vector n s)) =
      target_keyed (inner.Vector n (converted_scalar s kind (Some width))) (refl, tt, refl) false kind (Some width)
  cast_keyed known kind None (Some (inner.Matrix c r s)) =
      target_keyed (inner.Matrix c r (converted_scalar s kind None)) (refl, tt, refl) false kind None
  cast_keyed known kind (Some width) (Some (inner.Matrix c r s)) =
      target_keyed (inner.Matrix c r (converted_scalar s kind (Some width))) (refl, tt, refl) false kind (Some width)
  cast_keyed known kind convert _ = Keyed refl

  -- a constructor that is called by its type
  constructor_keyed : (known : List TypeResolution) (ty components : ℕ) →
      is_some (called_spelling m (Handle ty)) ≡ true →
      IsKeyed (constructor (context known) (Handle ty) components) components
      (constructor_key m.types ty)
  constructor_keyed known ty components is = by (called_spelling m (Handle ty)) refl is
    where
      by : (o : Option (List ℕ)) → called_spelling m (Handle ty) ≡ o → is_some o ≡ true →
          IsKeyed (option_map_or (λ spelling. MakeSpelled spelling components) o
          (WithoutForm (ValueOf (identity_code (identity m.types (Handle ty))) components)))
          components (constructor_key m.types ty)
      by (Some w) at is =
          let spelled = (called_spelled m (Handle ty) w at).1 in
          let has : has_type_form m.types (Handle ty) ≡ true =
          sym (form_spelled (Handle ty)) ∙ ap is_some spelled in
          Keyed (record {
            typed = Handle ty;
            fit = tt;
            spelled = spelled;
            key = ap (λ b. if b then typed_key m.types false (Handle ty) else one_key 0 ty) has;
          })
      by None at is = absurd (cc)

  -- what is composed is called by its type
  abbrev pub IsFormed : Expression → Type 0
  IsFormed (expression.Compose ty parts) = is_some (called_spelling m (Handle ty)) ≡ true
  IsFormed _ = Unit {0}

  same_keyed : (o p : Operator) (n : ℕ) (x y : List ℕ) → IsKeyed o n x → Some x ≡ Some y → Some o ≡ Some p →
      IsKeyed p n y
  same_keyed o p n x y k e f =
      subst (λ q. IsKeyed q n y) (same_operator f) (subst (λ z. IsKeyed o n z) (same_Some x y e) k)
    where
      same_operator : Some o ≡ Some p → o ≡ p
      same_operator f = cc

  unary_keyed : (op : UnaryOperator) → IsKeyed (UnarySign op) 1 (one_key 6 (tag_of unary_operators op))
  unary_keyed unary.Negate = Negated refl refl refl
  unary_keyed unary.LogicalNot = Keyed refl
  unary_keyed unary.BitwiseNot = Keyed refl

  abbrev is_sign : Operator → Bool
  is_sign (BinarySign op) = true
  is_sign (UnarySign op) = true
  is_sign _ = false

  -- an operator without a sign that takes no type
  own_keyed : (o : Operator) (n : ℕ) (x : List ℕ) → is_sign o ≡ false → own_key o ≡ Some x →
      IsKeyed o n x
  own_keyed (BinarySign op) n x other key = absurd cc
  own_keyed (UnarySign op) n x other key = absurd cc
  own_keyed (Texel arrayed texel) n x other key = absurd cc
  own_keyed (MakeSpelled spelling components) n x other key = absurd cc
  own_keyed (Convert spelling) n x other key = absurd cc
  own_keyed (Reinterpret spelling) n x other key = absurd cc
  own_keyed (WithoutForm what) n x other key = absurd cc
  own_keyed _ n x other key = Keyed key

  -- the key of an expression is that of the operator that it applies
  pub keyed : (known : List TypeResolution) (e : Expression) (x : List ℕ) (o : Operator) →
      operator_key m.types known e ≡ Some x → applied_operator (context known) e ≡ Some o →
      IsFormed e → IsKeyed o (length (expression_operands e)) x
  keyed known (expression.Compose ty parts) x o k a is =
      same_keyed _ o _ _ x (constructor_keyed known ty (length parts.items) is) k a
  keyed known (expression.As operand kind convert) x o k a is =
      same_keyed _ o _ _ x (cast_keyed known kind convert (known_inner m.types known operand)) k a
  keyed known (expression.Access base index) x o k a is = absurd cc
  keyed known (expression.AccessIndex base index) x o k a is = by _ a
    where
      by : (b : Bool) → (if b then None else Some (WithoutForm (PartAt index))) ≡ Some o → IsKeyed o 1 x
      by true a = absurd (cc)
      by false a = same_keyed (WithoutForm (PartAt index)) o 1 (one_key 4 index) x (Keyed refl) k a
  keyed known (expression.Swizzle size vector pattern) x o k a is = absurd cc
  keyed known (expression.Load pointer) x o k a is = absurd cc
  keyed known (expression.ImageSample image sampler gather coordinate array_index offset l depth clamp) x o k a
      is = absurd cc
  keyed known (expression.ImageQuery image query) x o k a is = absurd cc
  keyed known (expression.Unary op operand) x o k a is = same_keyed (UnarySign op) o 1 _ x (unary_keyed op) k a
  keyed known (expression.Binary op left right) x o k a is = same_keyed (BinarySign op) o 2 _ x (Keyed (refl, refl)) k a
  keyed known (expression.CooperativeLoad columns rows role place) x o k a is = absurd cc
  keyed known e x o k a is =
      own_keyed o _ x (sym (ap (λ p. option_map_or is_sign p false) a))
      (sym (ap (option_and_then own_key) a) ∙ k)

  -- the type of such an operator, if it takes one, is one of the grammar
  pub sound : (o : Operator) (n : ℕ) (x : List ℕ) → IsKeyed o n x → TypeIsSound o
  sound (MakeSpelled w c) n x (Keyed k) = spells k.typed k.fit w k.spelled
  sound (MakeSpelled w c) n x (Negated a b d) = absurd (cc)
  sound (Convert w) n x (Keyed k) = spells k.typed k.fit w k.spelled
  sound (Convert w) n x (Negated a b d) = absurd (cc)
  sound (Reinterpret w) n x (Keyed k) = spells k.typed k.fit w k.spelled
  sound (Reinterpret w) n x (Negated a b d) = absurd (cc)
  sound (CooperativeLoad r w) n x (Keyed k) = absurd cc
  sound (CooperativeLoad r w) n x (Negated a b d) = absurd (cc)
  sound _ n x k = tt

  -- operators that the runs call by one word, over as many operands, have one key
  pub one_key_of_word : (o p : Operator) (n : ℕ) (x y : List ℕ) → IsKeyed o n x → IsKeyed p n y →
      run_word o ≡ run_word p → x ≡ y
  one_key_of_word o p n x y k l e = one_key_each o p n x y k l (have_one_word o p (sound o n x k) (sound p n y l) e)
