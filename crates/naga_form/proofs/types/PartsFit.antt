-- What an expression over pointers or truth values gives in an accepted module: a part of a pointer
-- is a pointer to the part, as the program's table of parts spells it, and `&&` and `||` on `bool`
-- give `bool`.
use Rattle.naga_form.proofs.operators.AgreeingUses.{value_at, value_is}
use Rattle.naga_form.proofs.types.LogicalTypes.{logical_fits as values_are_logical}
use Rattle.module_semantics.specs.Names.{ItemsAreDistinguished}
use Rattle.std.proofs.Common.{◌≡◌, ℕ, Bool, true, false, List, [], ◌∷◌, refl, sym, ap, ◌∙◌, subst}
use Rattle.std.proofs.Common.{length, Option, Some, None, slice_get, if◌then◌else◌}
use Rattle.std.specs.Prelude.{IsTrue, ℤ, pos}
use Rattle.std.specs.Option.{option_map, option_map_or, option_and_then}
use Rattle.std.proofs.lemmas.Bool.{and_parts}
use Rattle.std.proofs.lemmas.Slice.Eq.{bytes_eq-Decides}
use Rattle.naga_ir.specs.declared.expression.Expression as ir
use Rattle.naga_ir.specs.declared.expression.Expression.TheVariants as expression
use Rattle.naga_ir.specs.declared.expression.ImageQuery.{ImageQuery}
use Rattle.naga_ir.specs.declared.expression.ImageQuery.TheVariants as query
use Rattle.naga_ir.specs.declared.module.Function as ir_function
use Rattle.naga_ir.specs.declared.module.Module as ir_module
use Rattle.naga_ir.specs.declared.operators.BinaryOperator.{BinaryOperator}
use Rattle.naga_ir.specs.declared.operators.BinaryOperator.TheVariants as binary
use Rattle.naga_ir.specs.declared.types.ScalarKind.{ScalarKind}
use Rattle.naga_ir.specs.declared.types.ScalarKind.TheVariants as kind
use Rattle.naga_ir.specs.declared.types.TypeInner.{TypeInner}
use Rattle.naga_ir.specs.declared.types.TypeInner.TheVariants as inner
use Rattle.naga_info.specs.Resolution.{inner_of, handle_of}
use Rattle.naga_info.specs.declared.info.ExpressionInfo.{ExpressionInfo}
use Rattle.naga_info.specs.declared.info.ModuleInfo.{ModuleInfo}
use Rattle.naga_info.specs.declared.info.TypeResolution.{TypeResolution}
use Rattle.naga_info.specs.declared.info.TypeResolution.TheVariants.{Handle, Value}
use Rattle.shader_runs.specs.Program.{Expression, Function, Load, Request, Result, no_constant}
use Rattle.shader_runs.specs.Program.{expression_of, handle_type}
use Rattle.shader_runs.specs.Typing.{AccessFits, AccessIndexFits, IsPart, LogicalFits, PartsFit}
use Rattle.shader_runs.specs.Value.{Bytes, Selector, step_at, step_to, PartTypes, ValueType}
use Rattle.shader_runs.specs.Value.{IntegerType, PointerType}
use Rattle.module_semantics.specs.acceptance.Accepted.{is_accepted}
use Rattle.module_semantics.specs.acceptance.AgreeingOperators.{Group, function_group}
use Rattle.module_semantics.specs.AlikeTypes.{type_identity}
use Rattle.module_semantics.specs.ExpressionOperators.{constructor, cast, cast_to, type_known}
use Rattle.module_semantics.specs.ExpressionOperators.{is_atomic_pointer, matrix_load, query_operator}
use Rattle.module_semantics.specs.ExpressionShapes.{part_selector, selector, part_shape, shape_of}
use Rattle.module_semantics.specs.ExpressionShapes.{applied_or}
use Rattle.module_semantics.specs.acceptance.ExpressionTypes.{logical_type, binary_type}
use Rattle.module_semantics.specs.acceptance.ExpressionTypes.{expected_type, LikeThis, is_expected}
use Rattle.module_semantics.specs.acceptance.ExpressionTypes.{if_any, only}
use Rattle.module_semantics.specs.FunctionShapes.{function_shape}
use Rattle.module_semantics.specs.acceptance.OperandDemands.{operand_is, is_integer, is_integer_kind}
use Rattle.module_semantics.specs.OperatorTable.{Operator as TableOperator, BinarySign, WithoutForm}
use Rattle.module_semantics.specs.OperatorTable.{Unsupported, ValueOf, MakeSpelled, CooperativeLoad}
use Rattle.module_semantics.specs.OperatorTable.{AtomicLoad, asks, run_word}
use Rattle.module_semantics.specs.Shapes.{operator_shape}
use Rattle.module_semantics.specs.ExpressionContexts.{declared, expression_context, types_known}
use Rattle.module_semantics.specs.Types.{scalar_values, type_of_values, word_of_values}
use Rattle.module_semantics.specs.Types.{called_spelling}
use Rattle.module_semantics.specs.TypeIdentity.{identity, identity_code, level}
use Rattle.module_semantics.specs.TypeParts.{known_inner, has_computed_parts, is_part_number}
use Rattle.module_semantics.specs.TypeParts.{part_type}
use Rattle.naga_form.proofs.declarations.AcceptedGroups.{IsSoundGroup, types_are_counted}
use Rattle.naga_form.proofs.declarations.AcceptedGroups.{operands_known, own_known}
use Rattle.naga_form.proofs.ModuleIndices.{expression_is, handle_type_is}
use Rattle.naga_form.proofs.types.SameValues.{TypesAreCounted, IsFit}
use Rattle.module_semantics.specs.ModuleShapes.{module_shape}
use Rattle.module_semantics.specs.PlaceParts.{place_parts}
use Rattle.naga_form.proofs.types.PlaceParts.{IsPointer, element_at, element_to, member_to}
use Rattle.naga_form.proofs.types.PointerParts.{points_as, some_there, part_of, IsPart as NamedPart}
use Rattle.naga_form.proofs.types.PointerParts.{ElementPart, MemberPart, member_is}
use Rattle.naga_form.proofs.statements.WellFormed.{values_are}

-- ---- scalars
module _ (m : ir_module.Module) where
  integer_of : (k : ScalarKind) (w : Bytes) → is_integer_kind k ≡ true → scalar_values k w ≡ IntegerType w
  integer_of kind.Sint w is = refl
  integer_of kind.Uint w is = refl
  integer_of _ w is = absurd cc

  -- an index is an integer
  integer_values : (r : TypeResolution) → option_map_or is_integer (inner_of r m.types) false ≡ true →
      (w : Bytes) × (type_of_values m r ≡ IntegerType w)
  integer_values r is = by (inner_of r m.types) refl is
    where
      by : (o : Option TypeInner) → inner_of r m.types ≡ o → option_map_or is_integer o false ≡ true →
          (w : Bytes) × (type_of_values m r ≡ IntegerType w)
      by None at is = absurd cc
      by (Some (inner.Scalar s)) at is = (
        word_of_values m r,
        values_are m r (inner.Scalar s) at
            ∙ integer_of s.kind (word_of_values m r) is,
      )
      by (Some _) at is = absurd cc

module _ (m : ir_module.Module) (info : ModuleInfo) (accepted : IsTrue (is_accepted m info))
    (distinguished : ItemsAreDistinguished m) where
  abbrev are : TypesAreCounted m
  are = types_are_counted m info accepted distinguished.types

  -- ---- expressions
  module _ (function : ir_function.Function) (es : List ExpressionInfo)
      (sound : IsSoundGroup m info (Some function) (function_group function es)) (h : ℕ) where
    abbrev g : Group
    g = function_group function es

    abbrev shape : Function
    shape = function_shape m info function es

    abbrev parts : PartTypes
    parts = place_parts m info

    -- the type that is known of an expression
    record IsKnown (k : ℕ) : Type 0 where
      r : TypeResolution
      there : slice_get g.known k ≡ Some r
      fit : IsFit m r
      values : handle_type shape k ≡ type_of_values m r

    known_as : (k : ℕ) (r : TypeResolution) → slice_get g.known k ≡ Some r → IsKnown k
    known_as k r at = record {
      r = r;
      there = at;
      fit = sound.fits k r at;
      values = handle_type_is m info function es k ∙ value_is m info g.known k r at;
    }

    module _ (e : ir.Expression) (at : slice_get function.expressions h ≡ Some e) where
      own : IsKnown h
      own = let k = own_known m info (Some function) g sound h e at in known_as h k.0 k.1

      -- where one type is wanted, its own is alike to it
      own_alike : (p : TypeResolution) → expected_type m (Some function) g.known e ≡ LikeThis p →
          type_identity m.types own.r ≡ type_identity m.types p
      own_alike p wanted =
          (bytes_eq-Decides (type_identity m.types own.r) (type_identity m.types p)).0
          (sym (ap (λ w. is_expected m.types w own.r) wanted) ∙ sound.typed h e own.r at own.there)

    -- a pointer
    pointer_is : (base : ℕ) (b : IsKnown base) (whole : Bytes) → type_of_values m b.r ≡ PointerType whole →
        IsPointer m info accepted distinguished b.r whole
    pointer_is base b whole values =
        let k = points_as m b.r whole values in
        record {
          group = g;
          group_there = sound.among;
          handle = base;
          known = b.there;
          fit = b.fit;
          values = values;
          it = k.it;
          itself = k.itself;
          points = k.points;
        }

    -- an index that is computed
    module _ (base index : ℕ) (at : slice_get function.expressions h ≡ Some (expression.Access base index))
        (b : IsKnown base) (i : IsKnown index) where
      abbrev accessed : ir.Expression
      accessed = expression.Access base index

      demanded : (operand_is m.types g.known (has_computed_parts m.types) base ≡ true)
          × (operand_is m.types g.known is_integer index ≡ true)
      demanded = and_parts (operand_is m.types g.known (has_computed_parts m.types) base)
          (operand_is m.types g.known is_integer index) (sound.demands h accessed at)

      index_values : (w : Bytes) × (type_of_values m i.r ≡ IntegerType w)
      index_values =
          integer_values m i.r
          (sym (ap (λ o. option_map_or is_integer (option_and_then (λ r. inner_of r m.types) o) false) i.there)
          ∙ demanded.1)

      element_fits : (whole : Bytes) → type_of_values m b.r ≡ PointerType whole → (n : ℤ) →
          IsPart (parts whole) (step_at (parts whole) n) (type_of_values m (own accessed at).r)
      element_fits whole is =
          let a = pointer_is base b whole is in
          let p = some_there (part_type m.types a.it None)
          (sym (ap (λ o. option_map_or (has_computed_parts m.types)
          (option_and_then (λ r. inner_of r m.types) o) false) b.there
          ∙ ap (λ o. option_map_or (has_computed_parts m.types) o false) a.itself) ∙ demanded.0) in
          element_at m info accepted distinguished b.r whole a p.0 p.1 (own accessed at).r (own accessed at).fit
          (own_alike accessed at p.0
          (ap (λ o. only (option_and_then (λ it. part_type m.types it None)
          (option_and_then (λ r. inner_of r m.types) o))) b.there
          ∙ (ap (λ o. only (option_and_then (λ it. part_type m.types it None) o)) a.itself ∙ ap only p.1)))

      access_by : (x : ValueType) → type_of_values m b.r ≡ x → (y : ValueType) → type_of_values m i.r ≡ y →
          (z : ValueType) → type_of_values m (own accessed at).r ≡ z → AccessFits parts x y z
      access_by (PointerType whole) is (IntegerType w) index_is z gives =
          λ n. subst (IsPart (parts whole) (step_at (parts whole) n)) gives (element_fits whole is n)
      access_by (PointerType whole) is y index_is z gives =
          let same : y ≡ IntegerType index_values.0 = sym index_is ∙ index_values.1 in absurd cc
      access_by x is y index_is z gives = tt

    access_fits : (base index : ℕ) → slice_get function.expressions h ≡ Some (expression.Access base index) →
        AccessFits parts (handle_type shape base) (handle_type shape index) (handle_type shape h)
    access_fits base index at =
        let operands = operands_known m info (Some function) g sound h (expression.Access base index) at in
        let b = known_as base operands.0.0 operands.0.1 in let i = known_as index operands.1.0.0 operands.1.0.1 in
        access_by base index at b i (handle_type shape base) (sym b.values) (handle_type shape index)
        (sym i.values) (handle_type shape h) (sym (own (expression.Access base index) at).values)

    -- a part that is named
    module _ (base index : ℕ)
        (at : slice_get function.expressions h ≡ Some (expression.AccessIndex base index))
        (b : IsKnown base) (s : Selector)
        (selected : part_selector (declared m info (types_known es)) base index ≡ Some s) where
      abbrev named : ir.Expression
      named = expression.AccessIndex base index

      part_fits_by : (whole : Bytes) → type_of_values m b.r ≡ PointerType whole →
          IsPart (parts whole) (step_to (parts whole) s) (type_of_values m (own named at).r)
      part_fits_by whole is =
          supported
          (part_of m info (types_known es) index s a.it a.points (handle_of b.r)
          (sym (ap (option_and_then (λ r. option_and_then
          (λ it. selector (declared m info (types_known es)) (handle_of r) it index) (inner_of r m.types))) b.there
          ∙ ap (option_and_then (λ it. selector (declared m info (types_known es)) (handle_of b.r) it index))
          a.itself) ∙ selected)
          (sym (ap (λ o. option_map_or (λ it. is_part_number m.types it index)
          (option_and_then (λ r. inner_of r m.types) o) false) b.there
          ∙ ap (λ o. option_map_or (λ it. is_part_number m.types it index) o false) a.itself)
          ∙ sound.demands h named at))
        where
          a : IsPointer m info accepted distinguished b.r whole
          a = pointer_is base b whole is

          part_expected : (p : TypeResolution) → part_type m.types a.it (Some index) ≡ Some p →
              type_identity m.types (own named at).r ≡ type_identity m.types p
          part_expected p part =
              own_alike named at p
              (ap (λ o. if_any (option_and_then (λ it. part_type m.types it (Some index))
              (option_and_then (λ r. inner_of r m.types) o))) b.there
              ∙ (ap (λ o. if_any (option_and_then (λ it. part_type m.types it (Some index)) o)) a.itself
              ∙ ap if_any part))

          supported : NamedPart m info (types_known es) a.it index s →
              IsPart (parts whole) (step_to (parts whole) s) (type_of_values m (own named at).r)
          supported (ElementPart p there any step) =
              element_to m info accepted distinguished b.r whole a p any (own named at).r (own named at).fit
              (part_expected p there) s (pos index) step
          supported (MemberPart k) =
              member_to m info accepted distinguished b.r whole a index s (types_known es) k (own named at).r
              (own named at).fit
              (part_expected (Value (inner.Pointer k.member.ty k.at))
              (member_is m info (types_known es) a.it index s k)) (record {
                function = Some function;
                group = g;
                sound = sound;
                handle = h;
                base = base;
                index = index;
                there = at;
                known = (own named at).there;
                pointer = b.r;
                base_known = b.there;
                points = is;
                selected = selected ∙ ap Some k.selected;
              })

      named_by : (x : ValueType) → type_of_values m b.r ≡ x → (z : ValueType) →
          type_of_values m (own named at).r ≡ z → AccessIndexFits parts s x z
      named_by (PointerType whole) is z gives = subst (IsPart (parts whole) (step_to (parts whole) s)) gives
          (part_fits_by whole is)
      named_by x is z gives = tt

    part_fits : (base index : ℕ) →
        slice_get function.expressions h ≡ Some (expression.AccessIndex base index) →
        (s : Selector) → part_selector (declared m info (types_known es)) base index ≡ Some s →
        AccessIndexFits parts s (handle_type shape base) (handle_type shape h)
    part_fits base index at s selected =
        let operands = operands_known m info (Some function) g sound h (expression.AccessIndex base index) at in
        let b = known_as base operands.0.0 operands.0.1 in
        named_by base index at b s selected (handle_type shape base) (sym b.values) (handle_type shape h)
        (sym (own (expression.AccessIndex base index) at).values)

    -- `&&` and `||`
    logical_fits : (op : BinaryOperator) (left right : ℕ) → slice_get function.expressions h
        ≡ Some (expression.Binary op left right) →
        binary_type op (known_inner m.types g.known left) ≡ logical_type (known_inner m.types g.known left) →
        LogicalFits (handle_type shape left) (handle_type shape h)
    logical_fits op left right at wanted =
        let same = λ (k : ℕ). handle_type_is m info function es k in
        subst (λ k. LogicalFits k (handle_type shape h)) (sym (same left))
        (subst (LogicalFits (value_at m info g.known left)) (sym (same h))
        (values_are_logical m info are (Some function) g sound h op left right at wanted))

    -- ---- shapes
    -- what is no sign between operands is no short circuit
    abbrev IsNoSign : Option TableOperator → Type 0
    IsNoSign (Some (BinarySign op)) = ⊥
    IsNoSign _ = Unit {0}

    applied_fits : (otherwise : Expression) (hs : List ℕ) →
        PartsFit parts shape (handle_type shape h) (Some otherwise) → (o : Option TableOperator) →
        IsNoSign o → PartsFit parts shape (handle_type shape h) (Some (applied_or otherwise hs o))
    applied_fits otherwise hs fits None no_sign = fits
    applied_fits otherwise hs fits (Some (BinarySign op)) no_sign = absurd no_sign
    applied_fits otherwise hs fits (Some (WithoutForm what)) no_sign = by (asks (WithoutForm what))
      where
        by : (b : Bool) →
            PartsFit parts shape (handle_type shape h)
            (Some (if b then Request (run_word (WithoutForm what)) hs
            no_constant else operator_shape (WithoutForm what) hs))
        by true = tt
        by false = tt
    applied_fits otherwise hs fits (Some o) no_sign = tt

    no_constructor : (r : TypeResolution) (n : ℕ) →
        IsNoSign (Some (constructor (expression_context m (types_known es)) r n))
    no_constructor r n = by (called_spelling m r)
      where
        by : (o : Option Bytes) →
            IsNoSign (Some (option_map_or (λ spelling. MakeSpelled spelling n) o
            (WithoutForm (ValueOf (identity_code (identity m.types r)) n))))
        by None = tt
        by (Some w) = tt

    no_cast : (bits : Bool) (o : Option Bytes) (what : Unsupported) →
        IsNoSign (Some (option_map_or (cast_to bits) o (WithoutForm what)))
    no_cast bits None what = tt
    no_cast true (Some w) what = tt
    no_cast false (Some w) what = tt

    no_matrix_load : (row_major : Bool) (o : Option Bytes) (what : Unsupported) →
        IsNoSign (Some (option_map_or (CooperativeLoad row_major) o (WithoutForm what)))
    no_matrix_load row_major None what = tt
    no_matrix_load row_major (Some w) what = tt

    no_query : (q : ImageQuery) → IsNoSign (Some (query_operator q))
    no_query (query.Size level) = tt
    no_query _ = tt

    sign_fits : (op : BinaryOperator) (left right : ℕ) →
        slice_get function.expressions h ≡ Some (expression.Binary op left right) →
        PartsFit parts shape (handle_type shape h)
        (Some (applied_or Result (left ∷ right ∷ []) (Some (BinarySign op))))
    sign_fits binary.LogicalAnd left right at = logical_fits binary.LogicalAnd left right at refl
    sign_fits binary.LogicalOr left right at = logical_fits binary.LogicalOr left right at refl
    sign_fits op left right at = tt

    shape_fits : (e : ir.Expression) → slice_get function.expressions h ≡ Some e →
        PartsFit parts shape (handle_type shape h)
        (Some (shape_of (declared m info (types_known es)) function.expressions h e))
    shape_fits (expression.Access base index) at = access_fits base index at
    shape_fits (expression.AccessIndex base index) at =
        by (part_selector (declared m info (types_known es)) base index) refl
      where
        by : (o : Option Selector) → part_selector (declared m info (types_known es)) base index ≡ o →
            PartsFit parts shape (handle_type shape h) (Some (part_shape base index o))
        by None is = tt
        by (Some s) is = part_fits base index at s is
    shape_fits (expression.Binary op left right) at = sign_fits op left right at
    shape_fits (expression.Compose ty components) at =
        applied_fits Result components.items tt
        (Some (constructor (expression_context m (types_known es)) (Handle ty)
        (length components.items))) (no_constructor (Handle ty) (length components.items))
    shape_fits (expression.As operand to convert) at =
        applied_fits Result (operand ∷ []) tt
        (Some (cast (expression_context m (types_known es)) to convert
        (type_known (expression_context m (types_known es)) operand))) (no_cast _ _ _)
    shape_fits (expression.Load pointer) at = by (is_atomic_pointer (expression_context m (types_known es)) pointer)
      where
        by : (b : Bool) → PartsFit parts shape (handle_type shape h)
            (Some (applied_or (Load pointer) (pointer ∷ []) (if b then Some AtomicLoad else None)))
        by true = tt
        by false = tt
    shape_fits (expression.ImageQuery image q) at = applied_fits Result _ tt (Some (query_operator q)) (no_query q)
    shape_fits (expression.CooperativeLoad columns rows role place) at =
        applied_fits Result _ tt
        (Some (matrix_load (expression_context m (types_known es)) columns rows role place))
        (no_matrix_load place.row_major _ _)
    shape_fits (expression.ImageSample image sampler gather coordinate array_index offset level depth_ref clamp) at = tt
    shape_fits e at = tt

    -- what stands at a handle fits the table
    pub parts_fit : PartsFit (module_shape m info).parts shape (handle_type shape h) (expression_of shape h)
    parts_fit =
        subst (PartsFit parts shape (handle_type shape h)) (sym (expression_is m info function es h))
        (by (slice_get function.expressions h) refl)
      where
        by : (o : Option ir.Expression) → slice_get function.expressions h ≡ o →
            PartsFit parts shape (handle_type shape h)
            (option_map (shape_of (declared m info (types_known es)) function.expressions h) o)
        by None at = tt
        by (Some e) at = shape_fits e at
