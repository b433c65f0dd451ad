-- Signatures of an accepted module that are called alike, over operands of equal types, have
-- results of one type, wherever they stand in it.
use Rattle.module_semantics.specs.Names.{ItemsAreDistinguished}
use Rattle.std.proofs.Common.{◌≡◌, ℕ, true, false, List, [], ◌∷◌, refl, sym, ap, ◌∙◌, subst, length}
use Rattle.std.proofs.Common.{Option, Some, None, ◌⊎◌, inl, inr, slice_get, get_or, map}
use Rattle.std.specs.Prelude.{IsTrue}
use Rattle.std.specs.Option.{option_map_or, option_and_then}
use Rattle.std.proofs.lemmas.Bool.{and_parts}
use Rattle.naga_ir.specs.Operands.{expression_operands}
use Rattle.naga_ir.specs.declared.expression.Expression.{Expression}
use Rattle.naga_ir.specs.declared.expression.Expression.TheVariants as expression
use Rattle.naga_ir.specs.declared.expression.SwizzleComponent.{SwizzleComponent}
use Rattle.naga_ir.specs.declared.module.Module.{Module}
use Rattle.naga_ir.specs.declared.types.TypeInner.{TypeInner}
use Rattle.naga_ir.specs.declared.types.TypeInner.TheVariants as inner
use Rattle.naga_ir.specs.declared.types.VectorSize.{VectorSize}
use Rattle.naga_info.specs.Resolution.{inner_of, handle_of}
use Rattle.naga_info.specs.declared.info.ModuleInfo.{ModuleInfo}
use Rattle.naga_info.specs.declared.info.TypeResolution.{TypeResolution}
use Rattle.naga_info.specs.declared.info.TypeResolution.TheVariants.{Handle, Value}
use Rattle.shader_runs.specs.Typing.{Signature}
use Rattle.shader_runs.specs.Value.{Spelled, PartWord, IndexWord, Selector, MemberNamed}
use Rattle.module_semantics.specs.acceptance.Accepted.{is_accepted}
use Rattle.module_semantics.specs.acceptance.AgreeingOperators.{operator_key, identity_at, one_key}
use Rattle.module_semantics.specs.acceptance.AgreeingOperators.{swizzle_key}
use Rattle.module_semantics.specs.AlikeTypes.{type_identity}
use Rattle.module_semantics.specs.ExpressionShapes.{part_selector, selector, swizzle_letters}
use Rattle.module_semantics.specs.acceptance.InfoSizes.{resolution_is_fit}
use Rattle.module_semantics.specs.acceptance.OperandDemands.{operands_fit, is_swizzled}
use Rattle.module_semantics.specs.TypeParts.{is_part_number}
use Rattle.naga_form.proofs.declarations.AcceptedGroups.{types_range}
use Rattle.naga_form.proofs.operators.AgreeingExpressions.{operands_are, same_operands, by_key}
use Rattle.module_semantics.proofs.KeyDepths.{PartsStand, parts_stand}
use Rattle.naga_form.proofs.operators.AgreeingParts.{Named, part_named, one_number, no_part}
use Rattle.naga_form.proofs.operators.AgreeingParts.{vector_is_none, struct_told, key_read}
use Rattle.naga_form.proofs.operators.AgreeingParts.{swizzle_distinguished, letters_are_several}
use Rattle.naga_form.proofs.operators.AgreeingWords.{Call, Composed, Zeroed, Applied, Indexed}
use Rattle.naga_form.proofs.operators.AgreeingWords.{Selected, Lettered, call, both_values}
use Rattle.naga_form.proofs.operators.AgreeingWords.{both_applied, composed_applied, zeroed_applied}
use Rattle.naga_form.proofs.operators.AgreeingWords.{value_and_zero, zeros_agree}
use Rattle.naga_form.proofs.operators.AgreeingUses.{AreKnown, value_at}
use Rattle.naga_form.proofs.types.SameValues.{IsFit}
use Rattle.naga_form.proofs.operators.Signatures.{IsOfExpression, IsOfZero, declared_for}

module _ (m : Module) (info : ModuleInfo) (accepted : IsTrue (is_accepted m info))
    (distinguished : ItemsAreDistinguished m) where
  -- a type's parts stand before it
  pub types_stand : PartsStand m.types
  types_stand = parts_stand m.types (and_parts _ _ (types_range m info accepted)).0

  fit : (r : TypeResolution) → IsFit m r → resolution_is_fit r ≡ true
  fit (Handle h) is = refl
  fit (Value it) is = is.0

  -- ---- bases of parts
  -- the one operand of an expression, with its type
  record IsBase {x : Signature} (a : IsOfExpression m info x) (base : ℕ) : Type 0 where
    r : TypeResolution
    there : slice_get a.group.known base ≡ Some r
    operands : expression_operands a.expression ≡ base ∷ []

  module _ {x : Signature} (a : IsOfExpression m info x) where
    base_of : (base : ℕ) → expression_operands a.expression ≡ base ∷ [] → IsBase a base
    base_of base is =
        let known = subst (AreKnown m info a.group.known) is (operands_are m info accepted distinguished.types a) in
        record { r = known.0.0; there = known.0.1; operands = is }

    -- what an expression asks of its operands
    demanded : (e : Expression) → a.expression ≡ e → operands_fit m.types a.group.known e ≡ true
    demanded e is = sym (ap (operands_fit m.types a.group.known) is) ∙ a.sound.demands a.handle a.expression a.there

    part_is : (base index : ℕ) (s : Selector) → a.expression ≡ expression.AccessIndex base index →
        part_selector (declared_for m info a.group) base index ≡ Some s → (b : IsBase a base) →
        Named m info b.r index s
    part_is base index s is selected b =
        part_named m info a.group types_stand b.r (fit b.r (a.sound.fits base b.r b.there)) index s
        (sym (ap (λ o. option_and_then (λ r. option_and_then
        (λ it. selector (declared_for m info a.group) (handle_of r) it index) (inner_of r m.types)) o)
        b.there) ∙ selected)
        (sym (ap (λ o. option_map_or (λ it. is_part_number m.types it index)
        (option_and_then (λ r. inner_of r m.types) o) false) b.there)
        ∙ demanded (expression.AccessIndex base index) is)

    -- what is swizzled is a vector
    swizzled_is_none : (size : VectorSize) (vector : ℕ) (pattern : List SwizzleComponent) →
        a.expression ≡ expression.Swizzle size vector pattern → (b : IsBase a vector) →
        struct_told (type_identity m.types b.r) ≡ None
    swizzled_is_none size vector pattern is b =
        by (inner_of b.r m.types) refl
        (sym (ap (λ o. option_map_or (is_swizzled size pattern)
        (option_and_then (λ r. inner_of r m.types) o) false) b.there)
        ∙ demanded (expression.Swizzle size vector pattern) is)
      where
        by : (o : Option TypeInner) → inner_of b.r m.types ≡ o →
            option_map_or (is_swizzled size pattern) o false ≡ true →
            struct_told (type_identity m.types b.r) ≡ None
        by (Some (inner.Vector n scalar)) at fits = vector_is_none m info b.r n scalar at
        by (Some _) at fits = absurd cc
        by None at fits = absurd cc

    four : (size : VectorSize) (vector : ℕ) (pattern : List SwizzleComponent) →
        a.expression ≡ expression.Swizzle size vector pattern → length pattern ≡ 4
    four size vector pattern is = a.sound.patterns a.handle size vector pattern (a.there ∙ ap Some is)

  -- ---- two of one word
  spelled_word : (v w : List ℕ) → Spelled v ≡ Spelled w → v ≡ w
  spelled_word v w e = cc

  part_word : (s t : Selector) → PartWord s ≡ PartWord t → s ≡ t
  part_word s t e = cc

  member_word : (v w : List ℕ) → MemberNamed v ≡ MemberNamed w → v ≡ w
  member_word v w e = cc

  spelled_part : {A : Type 0} (v : List ℕ) (s : Selector) → Spelled v ≡ PartWord s → A
  spelled_part v s e = absurd cc

  spelled_index : {A : Type 0} (v : List ℕ) → Spelled v ≡ IndexWord → A
  spelled_index v e = absurd cc

  part_index : {A : Type 0} (s : Selector) → PartWord s ≡ IndexWord → A
  part_index s e = absurd cc

  module _ {x y : Signature} (a : IsOfExpression m info x) (b : IsOfExpression m info y)
      (operands : x.operands ≡ y.operands) where
    bases_alike : (i j : ℕ) (p : IsBase a i) (q : IsBase b j) → type_identity m.types p.r ≡ type_identity m.types q.r
    bases_alike i j p q =
        let all : identity_at m.types a.group.known i ∷ [] ≡ identity_at m.types b.group.known j ∷ [] =
        ap (map (identity_at m.types a.group.known)) (sym p.operands)
        ∙ (same_operands m info accepted distinguished.types a b operands
        ∙ ap (map (identity_at m.types b.group.known)) q.operands) in
        sym (ap (λ o. option_map_or (type_identity m.types) o []) p.there)
        ∙ (ap (λ xs. get_or xs 0 []) all ∙ ap (λ o. option_map_or (type_identity m.types) o []) q.there)

    key_of : {z : Signature} (c : IsOfExpression m info z) (e : Expression) (k : List ℕ) →
        c.expression ≡ e → operator_key m.types c.group.known e ≡ Some k →
        operator_key m.types c.group.known c.expression ≡ Some k
    key_of c e k is at = ap (operator_key m.types c.group.known) is ∙ at

    both_parts : (i j k l : ℕ) (s : Selector) → a.expression ≡ expression.AccessIndex i k →
        b.expression ≡ expression.AccessIndex j l →
        part_selector (declared_for m info a.group) i k ≡ Some s →
        part_selector (declared_for m info b.group) j l ≡ Some s → x.result ≡ y.result
    both_parts i j k l s one two first second =
        let p = base_of a i (ap expression_operands one) in let q = base_of b j (ap expression_operands two) in
        let same = one_number m info distinguished p.r q.r k l s (bases_alike i j p q)
        (part_is a i k s one first p) (part_is b j l s two second q) in
        by_key m info accepted distinguished.types a b operands (one_key 4 k) (one_key 4 l)
        (key_of a _ _ one refl) (key_of b _ _ two refl) (ap (one_key 4) same)

    -- a part is not a swizzle
    part_swizzle : (i j k : ℕ) (s : Selector) (size : VectorSize)
        (pattern : List SwizzleComponent) → a.expression ≡ expression.AccessIndex i k →
        b.expression ≡ expression.Swizzle size j pattern →
        part_selector (declared_for m info a.group) i k ≡ Some s →
        s ≡ MemberNamed (swizzle_letters size pattern) → ⊥
    part_swizzle i j k s size pattern one two selected is =
        let p = base_of a i (ap expression_operands one) in let q = base_of b j (ap expression_operands two) in
        no_part m info p.r q.r k s (swizzle_letters size pattern) (bases_alike i j p q)
        (swizzled_is_none b size j pattern two q) is
        (letters_are_several size pattern (four b size j pattern two)) (part_is a i k s one selected p)

    both_swizzles : (i j : ℕ) (n k : VectorSize) (v w : List SwizzleComponent) →
        a.expression ≡ expression.Swizzle n i v → b.expression ≡ expression.Swizzle k j w →
        swizzle_letters n v ≡ swizzle_letters k w → x.result ≡ y.result
    both_swizzles i j n k v w one two e =
        by_key m info accepted distinguished.types a b operands (swizzle_key n v) (swizzle_key k w)
        (key_of a _ _ one refl) (key_of b _ _ two refl)
        (sym (swizzle_distinguished n v (four a n i v one))
        ∙ (ap key_read e ∙ swizzle_distinguished k w (four b k j w two)))

    both_indexed : (i j k l : ℕ) → a.expression ≡ expression.Access i k → b.expression ≡ expression.Access j l →
        x.result ≡ y.result
    both_indexed i j k l one two = by_key m info accepted distinguished.types a b operands (one_key 3 0)
        (one_key 3 0) (key_of a _ _ one refl) (key_of b _ _ two refl) refl

  -- the same, by how they are called
  calls_agree : {x y : Signature} (a : IsOfExpression m info x) (b : IsOfExpression m info y) →
      x.operands ≡ y.operands → x.word ≡ y.word →
      Call m info accepted distinguished.types a.group a.expression x.word →
      Call m info accepted distinguished.types b.group b.expression y.word → x.result ≡ y.result
  calls_agree a b operands e (Composed ty n k wanted ao ak formed v) (Composed uy l h other bo bk bf w) =
      both_values m info accepted distinguished.types a b (Handle ty) (Handle uy) n l tt tt (wanted a.function)
      (other b.function) (spelled_word _ _ (sym v ∙ (e ∙ w)))
  calls_agree a b operands e (Composed ty n k wanted ao ak formed v) (Zeroed uy other none w) =
      both_values m info accepted distinguished.types a b (Handle ty) (Handle uy) n 0 tt tt (wanted a.function)
      (other b.function) (spelled_word _ _ (sym v ∙ (e ∙ w)))
  calls_agree a b operands e (Composed ty n k wanted ao ak formed v) (Applied p l bo bk bf h hs some w) =
      composed_applied m info accepted distinguished.types a b operands ty n k ao ak formed p l bo bk bf
      (spelled_word _ _ (sym v ∙ (e ∙ w)))
  calls_agree a b operands e (Zeroed ty wanted none v) (Composed uy l h other bo bk bf w) =
      both_values m info accepted distinguished.types a b (Handle ty) (Handle uy) 0 l tt tt (wanted a.function)
      (other b.function) (spelled_word _ _ (sym v ∙ (e ∙ w)))
  calls_agree a b operands e (Zeroed ty wanted none v) (Zeroed uy other nothing w) =
      both_values m info accepted distinguished.types a b (Handle ty) (Handle uy) 0 0 tt tt (wanted a.function)
      (other b.function) (spelled_word _ _ (sym v ∙ (e ∙ w)))
  calls_agree a b operands e (Zeroed ty wanted none v) (Applied p l bo bk bf h hs some w) =
      absurd (zeroed_applied m info accepted distinguished.types a b operands none h hs some)
  calls_agree a b operands e (Applied o k ao ak af h hs some v) (Composed uy l i other bo bk bf w) =
      sym (composed_applied m info accepted distinguished.types b a (sym operands) uy l i bo bk bf o k ao ak af
      (spelled_word _ _ (sym w ∙ (sym e ∙ v))))
  calls_agree a b operands e (Applied o k ao ak af h hs some v) (Zeroed uy other none w) =
      absurd (zeroed_applied m info accepted distinguished.types b a (sym operands) none h hs some)
  calls_agree a b operands e (Applied o k ao ak af h hs some v) (Applied p l bo bk bf i is more w) =
      both_applied m info accepted distinguished.types a b operands o p k l ao ak af bo bk bf
      (spelled_word _ _ (sym v ∙ (e ∙ w)))
  calls_agree a b operands e (Indexed i k one v) (Indexed j l two w) = both_indexed a b operands i j k l one two
  calls_agree a b operands e (Selected i k s one first v) (Selected j l t two second w) =
      both_parts a b operands i j k l s one two first (second ∙ ap Some (part_word _ _ (sym w ∙ (sym e ∙ v))))
  calls_agree a b operands e (Selected i k s one first v) (Lettered n j pattern two w) =
      absurd (part_swizzle a b operands i j k s n pattern one two first (part_word _ _ (sym v ∙ (e ∙ w))))
  calls_agree a b operands e (Lettered n i pattern one v) (Selected j l t two second w) =
      absurd (part_swizzle b a (sym operands) j i l t n pattern two one second (part_word _ _ (sym w ∙ (sym e ∙ v))))
  calls_agree a b operands e (Lettered n i pattern one v) (Lettered k j other two w) =
      both_swizzles a b operands i j n k pattern other one two (member_word _ _ (part_word _ _ (sym v ∙ (e ∙ w))))
  calls_agree a b operands e (Composed ty n k wanted ao ak formed v) (Indexed j l two w) =
      spelled_index _ (sym v ∙ (e ∙ w))
  calls_agree a b operands e (Zeroed ty wanted none v) (Indexed j l two w) = spelled_index _ (sym v ∙ (e ∙ w))
  calls_agree a b operands e (Applied o k ao ak af h hs some v) (Indexed j l two w) = spelled_index _ (sym v ∙ (e ∙ w))
  calls_agree a b operands e (Indexed i k one v) (Composed uy l h other bo bk bf w) =
      spelled_index _ (sym w ∙ (sym e ∙ v))
  calls_agree a b operands e (Indexed i k one v) (Zeroed uy other none w) = spelled_index _ (sym w ∙ (sym e ∙ v))
  calls_agree a b operands e (Indexed i k one v) (Applied p l bo bk bf h hs some w) =
      spelled_index _ (sym w ∙ (sym e ∙ v))
  calls_agree a b operands e (Composed ty n k wanted ao ak formed v) (Selected j l t two second w) =
      spelled_part _ _ (sym v ∙ (e ∙ w))
  calls_agree a b operands e (Zeroed ty wanted none v) (Selected j l t two second w) =
      spelled_part _ _ (sym v ∙ (e ∙ w))
  calls_agree a b operands e (Applied o k ao ak af h hs some v) (Selected j l t two second w) =
      spelled_part _ _ (sym v ∙ (e ∙ w))
  calls_agree a b operands e (Selected i k s one first v) (Composed uy l h other bo bk bf w) =
      spelled_part _ _ (sym w ∙ (sym e ∙ v))
  calls_agree a b operands e (Selected i k s one first v) (Zeroed uy other none w) =
      spelled_part _ _ (sym w ∙ (sym e ∙ v))
  calls_agree a b operands e (Selected i k s one first v) (Applied p l bo bk bf h hs some w) =
      spelled_part _ _ (sym w ∙ (sym e ∙ v))
  calls_agree a b operands e (Composed ty n k wanted ao ak formed v) (Lettered l j other two w) =
      spelled_part _ _ (sym v ∙ (e ∙ w))
  calls_agree a b operands e (Zeroed ty wanted none v) (Lettered l j other two w) = spelled_part _ _ (sym v ∙ (e ∙ w))
  calls_agree a b operands e (Applied o k ao ak af h hs some v) (Lettered l j other two w) =
      spelled_part _ _ (sym v ∙ (e ∙ w))
  calls_agree a b operands e (Lettered n i pattern one v) (Composed uy l h other bo bk bf w) =
      spelled_part _ _ (sym w ∙ (sym e ∙ v))
  calls_agree a b operands e (Lettered n i pattern one v) (Zeroed uy other none w) =
      spelled_part _ _ (sym w ∙ (sym e ∙ v))
  calls_agree a b operands e (Lettered n i pattern one v) (Applied p l bo bk bf h hs some w) =
      spelled_part _ _ (sym w ∙ (sym e ∙ v))
  calls_agree a b operands e (Selected i k s one first v) (Indexed j l two w) = part_index _ (sym v ∙ (e ∙ w))
  calls_agree a b operands e (Lettered n i pattern one v) (Indexed j l two w) = part_index _ (sym v ∙ (e ∙ w))
  calls_agree a b operands e (Indexed i k one v) (Selected j l t two second w) = part_index _ (sym w ∙ (sym e ∙ v))
  calls_agree a b operands e (Indexed i k one v) (Lettered n j pattern two w) = part_index _ (sym w ∙ (sym e ∙ v))

  -- called alike over operands of equal types, signatures of expressions have results of one type
  pub signatures_agree : (x y : Signature) → IsOfExpression m info x → IsOfExpression m info y →
      x.word ≡ y.word → x.operands ≡ y.operands → x.result ≡ y.result
  signatures_agree x y a b word operands =
      calls_agree a b operands word
      (call m info accepted distinguished.types a.group a.expression x.word a.called)
      (call m info accepted distinguished.types b.group b.expression y.word b.called)

  -- so has an expression that is called as a zero value is
  zero_agrees : {x y : Signature} (a : IsOfExpression m info x) (b : IsOfZero m info y) →
      x.operands ≡ y.operands → x.word ≡ y.word →
      Call m info accepted distinguished.types a.group a.expression x.word → x.result ≡ y.result
  zero_agrees a b operands e (Composed ty n k wanted ao ak formed v) =
      value_and_zero m info accepted distinguished.types a b (Handle ty) n tt (wanted a.function)
      (spelled_word _ _ (sym v ∙ (e ∙ b.word)))
  zero_agrees a b operands e (Zeroed ty wanted none v) =
      value_and_zero m info accepted distinguished.types a b (Handle ty) 0 tt (wanted a.function)
      (spelled_word _ _ (sym v ∙ (e ∙ b.word)))
  zero_agrees a b operands e (Applied o k ao ak af h hs some v) =
      let empty : [] ≡ value_at m info a.group.known h ∷ map (value_at m info a.group.known) hs =
      sym b.operands
      ∙ (sym operands ∙ (a.operands ∙ ap (map (value_at m info a.group.known)) some)) in
      absurd cc
  zero_agrees a b operands e (Indexed i k one v) = spelled_index _ (sym b.word ∙ (sym e ∙ v))
  zero_agrees a b operands e (Selected i k s one first v) =
      spelled_part _ _ (sym b.word ∙ (sym e ∙ v))
  zero_agrees a b operands e (Lettered n i pattern one v) =
      spelled_part _ _ (sym b.word ∙ (sym e ∙ v))

  -- of all that is spelled
  pub all_agree : (x y : Signature) → (IsOfExpression m info x ⊎ IsOfZero m info x) →
      (IsOfExpression m info y ⊎ IsOfZero m info y) → x.word ≡ y.word → x.operands ≡ y.operands →
      x.result ≡ y.result
  all_agree x y (inl a) (inl b) word operands = signatures_agree x y a b word operands
  all_agree x y (inl a) (inr b) word operands =
      zero_agrees a b operands word
      (call m info accepted distinguished.types a.group a.expression x.word a.called)
  all_agree x y (inr a) (inl b) word operands =
      sym (zero_agrees b a (sym operands) (sym word)
      (call m info accepted distinguished.types b.group b.expression y.word b.called))
  all_agree x y (inr a) (inr b) word operands =
      zeros_agree m info accepted distinguished.types x y a b word
