-- What acceptance says of the expressions that stand together in a function, in an entry point or in
-- the module itself.
use Rattle.module_semantics.specs.Names.{TypesAreDistinguished}
use Rattle.module_semantics.proofs.SideBySide.{in_groups, paired_at}
use Rattle.std.proofs.Common.{◌≡◌, ℕ, zero, suc, ◌<◌, ◌+◌, Bool, true, false, List, [], ◌∷◌, refl}
use Rattle.std.proofs.Common.{sym, ap, ◌∙◌, length, ◌&&◌, Option, Some, None, slice_get, map, arith}
use Rattle.std.proofs.Common.{nat_lt, ◌^◌, ◌≤◌, eqb-true, ◌⊎◌, inl, inr}
use Rattle.std.specs.List.{list_all}
use Rattle.std.specs.Prelude.{IsTrue}
use Rattle.std.specs.Option.{option_map, option_map_or}
use Rattle.std.specs.Int.NonZero.{non_zero_u32_get}
use Rattle.std.proofs.lemmas.Bool.{and_parts, ltb-true}
use Rattle.std.proofs.lemmas.List.{length-map}
use Rattle.std.proofs.lemmas.Option.{same_Some, slice_get-map, slice_get_within}
use Rattle.naga_ir.specs.Operands.{expression_operands}
use Rattle.naga_ir.specs.declared.expression.Expression.{Expression}
use Rattle.naga_ir.specs.declared.expression.Expression.TheVariants as expression
use Rattle.naga_ir.specs.declared.expression.SwizzleComponent.{SwizzleComponent}
use Rattle.naga_ir.specs.declared.module.EntryPoint.{EntryPoint}
use Rattle.naga_ir.specs.declared.module.Function.{Function}
use Rattle.naga_ir.specs.declared.module.Module.{Module}
use Rattle.naga_ir.specs.declared.types.ArraySize.{ArraySize}
use Rattle.naga_ir.specs.declared.types.ArraySize.TheVariants as size
use Rattle.naga_ir.specs.declared.types.Type_.{Type_}
use Rattle.naga_ir.specs.declared.types.TypeInner.{TypeInner}
use Rattle.naga_ir.specs.declared.types.TypeInner.TheVariants as inner
use Rattle.naga_ir.specs.declared.types.VectorSize.{VectorSize}
use Rattle.naga_info.specs.Resolution.{InRange}
use Rattle.naga_info.specs.declared.info.ExpressionInfo.{ExpressionInfo}
use Rattle.naga_info.specs.declared.info.ModuleInfo.{ModuleInfo}
use Rattle.naga_info.specs.declared.info.TypeResolution.{TypeResolution}
use Rattle.naga_info.specs.declared.info.TypeResolution.TheVariants.{Handle, Value}
use Rattle.naga_spelling.specs.Spelling.{length_within}
use Rattle.module_semantics.specs.acceptance.Accepted.{is_accepted}
use Rattle.module_semantics.specs.acceptance.AgreeingOperators.{Group, function_group}
use Rattle.module_semantics.specs.acceptance.AgreeingOperators.{function_groups, further_groups_of}
use Rattle.module_semantics.specs.acceptance.AgreeingOperators.{groups_of, module_operators_agree}
use Rattle.module_semantics.specs.acceptance.ExpressionTypes.{expression_type_fits, has_its_type}
use Rattle.module_semantics.specs.acceptance.ExpressionTypes.{have_their_types}
use Rattle.module_semantics.specs.acceptance.InfoSizes.{all_paired, sizes_fit, function_size_fits}
use Rattle.module_semantics.specs.acceptance.InfoSizes.{type_is_fit, resolution_is_fit, all_known}
use Rattle.module_semantics.specs.acceptance.InfoSizes.{entry_point_size_fits}
use Rattle.module_semantics.specs.acceptance.Numbers.{fits_32_bits, size_fits_32_bits}
use Rattle.module_semantics.specs.acceptance.Numbers.{type_fits_32_bits, workgroup_fits_32_bits}
use Rattle.module_semantics.specs.acceptance.OperandDemands.{operands_fit, are_operands_fit}
use Rattle.module_semantics.specs.acceptance.Ranges.{module_ranges_fit, module_in_range}
use Rattle.module_semantics.specs.acceptance.Ranges.{resolution_fits, types_in_range}
use Rattle.module_semantics.specs.acceptance.Ranges.{function_in_range, entry_point_in_range}
use Rattle.module_semantics.specs.acceptance.Ranges.{expression_in_range, all_below, all_by_handle}
use Rattle.module_semantics.specs.acceptance.Ranges.{global_expression_in_range, signature_fits}
use Rattle.module_semantics.specs.acceptance.Ranges.{names_fit, local_in_range, expressions_in_range}
use Rattle.module_semantics.specs.acceptance.Ranges.{block_in_range, declarations_in_range}
use Rattle.module_semantics.specs.acceptance.Ranges.{names_in_range, numbers_in_range, parts_before}
use Rattle.module_semantics.specs.acceptance.Ranges.{special_types_fit, constant_in_range}
use Rattle.module_semantics.specs.acceptance.Ranges.{override_in_range, global_in_range, is_below}
use Rattle.module_semantics.specs.acceptance.Soundness.{module_is_sound, function_is_sound}
use Rattle.module_semantics.specs.acceptance.Soundness.{entry_point_is_sound, declarations_are_sound}
use Rattle.module_semantics.proofs.EntryPointRanges.{entry_point_fits}
use Rattle.module_semantics.proofs.Lists.{list_all_at, numbered_at}
use Rattle.naga_naming.proofs.Refusal.{element}
use Rattle.naga_form.proofs.operators.AgreeingUses.{AreKnown, AllFit, IsIn, in_right}
use Rattle.module_semantics.proofs.FunctionNumbers.{in_append, in_left}
use Rattle.module_semantics.specs.FunctionNumbers.{all_infos}
use Rattle.naga_form.proofs.types.SameValues.{TypesAreCounted, TypesAreFit, IsFit, InnerIsCounted}
use Rattle.naga_form.proofs.types.SameValues.{LengthIsCounted}

-- ---- what is known
known_test : (test : TypeResolution → Bool) (es : List ExpressionInfo) → list_all (λ k. test k.ty) es ≡ true →
    (h : ℕ) (r : TypeResolution) → slice_get (map (λ k. k.ty) es) h ≡ Some r → test r ≡ true
known_test test [] all h r at = absurd cc
known_test test (k ∷ es) all zero r at = ap test (sym (same_Some k.ty r at))
    ∙ (and_parts (test k.ty) (list_all (λ k. test k.ty) es) all).0
known_test test (k ∷ es) all (suc h) r at =
    known_test test es (and_parts (test k.ty) (list_all (λ k. test k.ty) es) all).1 h r at

-- ---- numbers
-- a length that has 32 bits is counted
size_counted : (n : ArraySize) → size_fits_32_bits n ≡ true → LengthIsCounted n
size_counted (size.Constant number) fits = ltb-true (non_zero_u32_get number) (2 ^ 32) fits
size_counted (size.Pending o) fits = tt
size_counted size.Dynamic fits = tt

-- so is a type's
inner_counted : (it : TypeInner) → type_fits_32_bits it ≡ true → InnerIsCounted it
inner_counted (inner.Array base n stride) fits =
    size_counted n (and_parts (size_fits_32_bits n) (fits_32_bits stride) fits).0
inner_counted (inner.BindingArray base n) fits = size_counted n fits
inner_counted _ fits = tt

-- a type that is fit is one by itself or among the module's
pub fits_in_range : (overrides : ℕ) (types : List Type_) (r : TypeResolution) →
    resolution_fits overrides (length types) r ≡ true → InRange r types
fits_in_range overrides types (Handle h) fits = ltb-true h (length types) fits
fits_in_range overrides types (Value it) fits = tt

-- ---- what is known of expressions that stand together, in a function if in one
pub record IsSoundGroup (m : Module) (info : ModuleInfo) (f : Option Function) (g : Group) : Type 0 where
  pub among : IsIn (groups_of m info) g
  pub size : length g.expressions ≡ length g.known
  pub fits : AllFit m info g.known
  pub below : (h : ℕ) (e : Expression) → slice_get g.expressions h ≡ Some e → all_below h (expression_operands e) ≡ true
  pub typed : (h : ℕ) (e : Expression) (r : TypeResolution) → slice_get g.expressions h ≡ Some e →
      slice_get g.known h ≡ Some r → expression_type_fits m f g.known e r ≡ true
  pub demands : (h : ℕ) (e : Expression) → slice_get g.expressions h ≡ Some e → operands_fit m.types g.known e ≡ true
  pub indexes : (h base index : ℕ) → slice_get g.expressions h ≡ Some (expression.AccessIndex base index) →
      index < 2 ^ 32
  pub patterns : (h : ℕ) (size : VectorSize) (vector : ℕ) (pattern : List SwizzleComponent) →
      slice_get g.expressions h ≡ Some (expression.Swizzle size vector pattern) → length pattern ≡ 4

module _ (m : Module) (info : ModuleInfo) where
  -- operands that stand before are known
  known_below : (known : List TypeResolution) (h : ℕ) (hs : List ℕ) → h ≤ length known → all_below h hs ≡ true →
      AreKnown m info known hs
  known_below known h [] le all = tt
  known_below known h (x ∷ hs) le all =
      let parts = and_parts (nat_lt x h) (all_below h hs) all in
      let lt : x < h = ltb-true x h parts.0 in
      (element known x (omega (arith, lt, le)), known_below known h hs le parts.1)

  -- the operands of an expression are known
  pub operands_known : (f : Option Function) (g : Group) → IsSoundGroup m info f g → (h : ℕ) (e : Expression) →
      slice_get g.expressions h ≡ Some e → AreKnown m info g.known (expression_operands e)
  operands_known f g is h e at =
      let lt = slice_get_within g.expressions h e at in let size = is.size in
      known_below g.known h (expression_operands e) (omega (arith, lt, size)) (is.below h e at)

  -- and so is its own type
  pub own_known : (f : Option Function) (g : Group) → IsSoundGroup m info f g → (h : ℕ) (e : Expression) →
      slice_get g.expressions h ≡ Some e → (r : TypeResolution) × (slice_get g.known h ≡ Some r)
  own_known f g is h e at =
      let lt = slice_get_within g.expressions h e at in let size = is.size in
      element g.known h (omega (arith, lt, size))

  module _ (accepted : IsTrue (is_accepted m info)) where
    accepted_parts : (module_ranges_fit m info ≡ true) × (module_is_sound m info ≡ true)
        × (module_operators_agree m info ≡ true)
    unfolding is_accepted
    accepted_parts = let one = and_parts _ _ accepted in let two = and_parts _ _ one.1 in (one.0, two.0, two.1)

    pub agree : module_operators_agree m info ≡ true
    agree = accepted_parts.2

    ranges_parts : (sizes_fit m info ≡ true) × (list_all type_is_fit m.types ≡ true)
        × (module_in_range m ≡ true) × (all_known (resolution_fits (length m.overrides) (length m.types)) info ≡ true)
    unfolding module_ranges_fit
    ranges_parts =
        let one = and_parts _ _ accepted_parts.0 in let two = and_parts _ _ one.1 in let three = and_parts _ _ two.1 in
        (one.0, two.0, three.0, three.1)

    pub types_range : types_in_range (length m.overrides) m.types ≡ true
    types_range = let one = and_parts _ _ ranges_parts.2 in let two = and_parts _ _ one.0 in two.0

    -- the numbers of each type
    pub numbers_at : (h : ℕ) (t : Type_) → slice_get m.types h ≡ Some t →
        (length_within (length m.overrides) t.inner ≡ true) × (type_fits_32_bits t.inner ≡ true)
    numbers_at h t at =
        and_parts (length_within (length m.overrides) t.inner) (type_fits_32_bits t.inner)
        (list_all_at (λ t. numbers_in_range (length m.overrides) t.inner) m.types h t (and_parts _ _ types_range).1 at)

    -- the types, where names are counted
    pub types_are_fit : TypesAreFit m
    types_are_fit = record {
      fits = ranges_parts.1;
      counted = λ h t at. inner_counted t.inner (numbers_at h t at).1;
      within = λ h t at. (numbers_at h t at).0;
    }

    -- the same, where structs and overrides are told by their names
    pub types_are_counted : TypesAreDistinguished m → TypesAreCounted m
    types_are_counted distinguished = record { names = distinguished; types = types_are_fit }

    pub fit_of : (r : TypeResolution) → resolution_fits (length m.overrides) (length m.types) r ≡ true → IsFit m r
    fit_of (Handle h) fits = tt
    fit_of (Value it) fits =
        let one = and_parts (resolution_is_fit (Value it)) _ fits in
        let two = and_parts (parts_before (length m.types) it) (numbers_in_range (length m.overrides) it) one.1 in
        let three = and_parts (length_within (length m.overrides) it) (type_fits_32_bits it) two.1 in
        (one.0, inner_counted it three.1, three.0)

    sound_parts : (declarations_are_sound m info.const_expression_types.items ≡ true) ×
        (all_paired (function_is_sound m) m.functions info.functions.items ≡ true) ×
        (all_paired (entry_point_is_sound m) m.entry_points.items info.entry_points.items ≡ true)
    unfolding module_is_sound
    sound_parts = let one = and_parts _ _ accepted_parts.1 in let two = and_parts _ _ one.1 in (one.0, two.0, two.1)

    -- of expressions that are sound
    sound_group : (f : Option Function) (g : Group) (arguments locals : ℕ) → IsIn (groups_of m info) g →
        length g.expressions ≡ length g.known →
        ((h : ℕ) (r : TypeResolution) → slice_get g.known h ≡ Some r →
        resolution_fits (length m.overrides) (length m.types) r ≡ true) →
        ((h : ℕ) (e : Expression) → slice_get g.expressions h ≡ Some e →
        expression_in_range m arguments locals h e ≡ true) →
        have_their_types m f g.known g.expressions ≡ true → are_operands_fit m.types g.known g.expressions
        ≡ true → IsSoundGroup m info f g
    sound_group f g arguments locals among size fits ranges typed demands = record {
      among = among;
      size = size;
      fits = λ h r at. fit_of r (fits h r at);
      below = λ h e at. (in_range h e at).0;
      typed = λ h e r here there.
          let at : 0 + h ≡ h = omega arith in
          let one = numbered_at (has_its_type m f g.known) 0 g.expressions h e typed here in
          sym (ap (λ k. option_map_or (expression_type_fits m f g.known e) (slice_get g.known k) false) at
          ∙ ap (λ o. option_map_or (expression_type_fits m f g.known e) o false) there) ∙ one;
      demands = λ h e at. list_all_at (operands_fit m.types g.known) g.expressions h e demands at;
      indexes = λ h base index at. ltb-true index (2 ^ 32) (in_range h (expression.AccessIndex base index) at).1;
      patterns = λ h size vector pattern at. eqb-true (length pattern) 4
          (in_range h (expression.Swizzle size vector pattern) at).1;
    }
      where
        in_range : (h : ℕ) (e : Expression) → slice_get g.expressions h ≡ Some e →
            (all_below h (expression_operands e) ≡ true) × (names_in_range m arguments locals e ≡ true)
        in_range h e at = and_parts (all_below h (expression_operands e)) (names_in_range m arguments locals e)
            (ranges h e at)

    -- of a function that is in range and sound
    function_is : (callees : ℕ) (f : Function) (es : List ExpressionInfo) →
        IsIn (groups_of m info) (function_group f es) → function_size_fits f es ≡ true →
        function_in_range m callees f ≡ true →
        list_all (λ k. resolution_fits (length m.overrides) (length m.types) k.ty) es ≡ true →
        function_is_sound m f es ≡ true → IsSoundGroup m info (Some f) (function_group f es)
    function_is callees f es among size ranges known sound =
        let one = and_parts (signature_fits (length m.types) f) _ ranges in let two = and_parts (names_fit f) _ one.1 in
        let three = and_parts (list_all (local_in_range (length m.types) (length f.expressions))
        f.local_variables) _ two.1 in
        let four = and_parts (expressions_in_range m f) (block_in_range callees (length f.expressions) f.body)
        three.1 in
        let parts = and_parts _ _ sound in let typed = and_parts _ _ parts.0 in
        let test = expression_in_range m (length f.arguments.items) (length f.local_variables) in
        sound_group (Some f) (function_group f es) (length f.arguments.items)
        (length f.local_variables) among (eqb-true (length f.expressions) (length es) size
        ∙ sym (length-map es (λ e. e.ty)))
        (known_test (resolution_fits (length m.overrides) (length m.types)) es known)
        (λ h e at. let from : 0 + h ≡ h = omega arith in sym (ap (λ n. test n e) from)
        ∙ numbered_at test 0 f.expressions h e four.0 at)
        typed.0 typed.1

    -- each function
    pub functions_are : (k : ℕ) (f : Function) (es : List ExpressionInfo) →
        slice_get m.functions k ≡ Some f → slice_get info.functions.items k ≡ Some es →
        IsSoundGroup m info (Some f) (function_group f es)
    functions_are k f es here there =
        let sizes = and_parts _ _ ranges_parts.0 in
        let range = and_parts _ _ ranges_parts.2 in let functions = and_parts _ _ range.1 in
        let from : 0 + k ≡ k = omega arith in
        function_is k f es (
          k,
          in_left (function_groups m.functions info.functions.items)
              (further_groups_of m info) k (function_group f es)
              (in_groups m.functions info.functions.items k f es here there),
        )
        (paired_at function_size_fits m.functions info.functions.items sizes.0 k f es here there)
        (sym (ap (λ n. function_in_range m n f) from)
        ∙ numbered_at (function_in_range m) 0 m.functions k f functions.0 here)
        (list_all_at (list_all (λ k. resolution_fits (length m.overrides) (length m.types) k.ty))
        info.functions.items k es (and_parts _ _ ranges_parts.3).0 there)
        (paired_at (function_is_sound m) m.functions info.functions.items sound_parts.1 k f es here there)

    -- what is known of the expressions of each function and entry point is fit, and names what is there
    pub known_is_fit : (k : ℕ) (es : List ExpressionInfo) →
        slice_get (all_infos info) k ≡ Some es → (h : ℕ) (e : ExpressionInfo) →
        slice_get es h ≡ Some e → resolution_fits (length m.overrides) (length m.types) e.ty ≡ true
    known_is_fit k es there h e at =
        list_all_at fits es h e
        (by (in_append info.functions.items info.entry_points.items k es there)) at
      where
        fits : ExpressionInfo → Bool
        fits k = resolution_fits (length m.overrides) (length m.types) k.ty

        by : (slice_get info.functions.items k ≡ Some es) ⊎
            ((j : ℕ) × (k ≡ length info.functions.items + j)
            × (slice_get info.entry_points.items j ≡ Some es)) → list_all fits es ≡ true
        by (inl here) = list_all_at (list_all fits) info.functions.items k es (and_parts _ _ ranges_parts.3).0 here
        by (inr e) =
            let more = and_parts _ _ ranges_parts.3 in
            list_all_at (list_all fits) info.entry_points.items e.0 es (and_parts _ _ more.1).0 e.2

    pub known_fits : (k : ℕ) (es : List ExpressionInfo) → slice_get (all_infos info) k ≡ Some es →
        (h : ℕ) (e : ExpressionInfo) → slice_get es h ≡ Some e → IsFit m e.ty
    known_fits k es there h e at = fit_of e.ty (known_is_fit k es there h e at)

    -- each entry point
    pub entry_points_are : (k : ℕ) (p : EntryPoint) (es : List ExpressionInfo) →
        slice_get m.entry_points.items k ≡ Some p → slice_get info.entry_points.items k ≡ Some es →
        IsSoundGroup m info (Some p.function) (function_group p.function es)
    entry_points_are k p es here there =
        let sizes = and_parts _ _ ranges_parts.0 in let more = and_parts _ _ sizes.1 in
        let range = and_parts _ _ ranges_parts.2 in let functions = and_parts _ _ range.1 in
        let own = list_all_at (entry_point_in_range m) m.entry_points.items k p functions.1 here in
        let mapped = slice_get-map (λ p. p.function) m.entry_points.items k ∙ ap (option_map (λ p. p.function)) here in
        let known = and_parts _ _ ranges_parts.3 in
        let group = in_groups (map (λ p. p.function) m.entry_points.items) info.entry_points.items k p.function
        es mapped there in
        function_is (length m.functions) p.function es
        (in_right (function_groups m.functions info.functions.items) (further_groups_of m info)
        (function_group p.function es) (
          k,
          in_left (function_groups (map (λ p. p.function) m.entry_points.items)
              info.entry_points.items) _ k (function_group p.function es) group,
        ))
        (paired_at entry_point_size_fits m.entry_points.items info.entry_points.items more.0 k p es here there)
        (entry_point_fits m p own).function
        (list_all_at (list_all (λ k. resolution_fits (length m.overrides) (length m.types) k.ty))
        info.entry_points.items k es (and_parts _ _ known.1).0 there)
        (paired_at (entry_point_is_sound m) m.entry_points.items info.entry_points.items sound_parts.2 k p es
        here there)

    -- the module's own expressions
    abbrev pub own_group : Group
    own_group = record { expressions = m.global_expressions; known = info.const_expression_types.items }

    pub declarations_are : IsSoundGroup m info None own_group
    declarations_are =
        let sizes = and_parts _ _ ranges_parts.0 in let more = and_parts _ _ sizes.1 in
        let types = length m.types in let own = length m.global_expressions in
        let range = and_parts (declarations_in_range m)
        (all_by_handle (function_in_range m) m.functions
        && list_all (entry_point_in_range m) m.entry_points.items) ranges_parts.2 in
        let declared = and_parts (types_in_range (length m.overrides) m.types) _ range.0 in
        let d1 = and_parts (special_types_fit types m.special_types) _ declared.1 in
        let d2 = and_parts (list_all (constant_in_range types own) m.constants) _ d1.1 in
        let d3 = and_parts (list_all (override_in_range types own) m.overrides) _ d2.1 in
        let d4 = and_parts (list_all (global_in_range types own) m.global_variables)
        (all_by_handle (global_expression_in_range m) m.global_expressions) d3.1 in
        let known = and_parts _ _ ranges_parts.3 in let all = and_parts _ _ known.1 in
        let sound = and_parts _ _ sound_parts.0 in let typed = and_parts _ _ sound.0 in
        sound_group None own_group 0 0
        (in_right (function_groups m.functions info.functions.items) (further_groups_of m info) own_group
        (in_right (function_groups (map (λ p. p.function) m.entry_points.items) info.entry_points.items)
        (own_group ∷ []) own_group (0, refl)))
        (eqb-true (length m.global_expressions) (length info.const_expression_types.items) more.1)
        (λ h r at. list_all_at (resolution_fits (length m.overrides) (length m.types))
        info.const_expression_types.items h r all.1 at)
        (λ h e at. let from : 0 + h ≡ h = omega arith in
        (and_parts (expression_in_range m 0 0 h e)
        _ (sym (ap (λ n. global_expression_in_range m n e) from)
        ∙ numbered_at (global_expression_in_range m) 0 m.global_expressions h e d4.1 at)).0)
        typed.0 typed.1
