-- The plain forms of handles that are written are of the grammar, where the names in scope are
-- identifiers.
use Rattle.module_semantics.specs.acceptance.OperandDemands.{are_operands_fit, operands_fit}
use Rattle.module_semantics.specs.ExpressionForms.{constant_has_form, expression_has_own_form}
use Rattle.module_semantics.specs.ExpressionShapes.{part_selector, ModuleDeclarations}
use Rattle.module_semantics.specs.OperatorTable.{WithoutForm, PartAt, Operator}
use Rattle.naga_form.proofs.operators.AllowedParts.{IsWellSelected, selected, selected_well}
use Rattle.naga_form.proofs.operators.AllowedParts.{conversion, loaded_matrix, target_fit}
use Rattle.naga_form.specs.Expressions.{is_handle_variable, part_plain, is_pointer, selected_part}
use Rattle.naga_form.specs.Expressions.{variable_plain, PlainForm, ValueForm, ReferenceForm}
use Rattle.naga_form.specs.Expressions.{as_value, as_reference, applied_plain, no_form, own_plain}
use Rattle.naga_form.specs.Expressions.{own_if, availability_plain, plain_below, plain_form, Source}
use Rattle.naga_form.specs.Expressions.{function_source, constant_form, value_forms, cast_tree}
use Rattle.naga_form.specs.Expressions.{zero_is_whole, load_tree, operator_type, unnamed_form}
use Rattle.shader_runs.specs.Value.{Selector, MemberNamed, ElementAt}
use Rattle.wgsl_text.specs.Expressions.{Index, IsExpression}
use Rattle.std.specs.Option.{option_map_or, is_some, option_to_list}
use Rattle.module_semantics.specs.acceptance.Ranges.{function_in_range}
use Rattle.naga_form.proofs.statements.AcceptedFunctions.{names_are_in_range}
use Rattle.std.proofs.Common.{◌≡◌, ℕ, suc, Bool, true, false, List, [], ◌∷◌, ◌++◌, length, refl}
use Rattle.std.proofs.Common.{sym, subst, zero, Option, Some, None, ◌^◌, map}
use Rattle.std.specs.Prelude.{IsTrue, slice_get}
use Rattle.std.proofs.lemmas.Bool.{ltb-true, eqb-true}
use Rattle.naga_ir.specs.declared.expression.Expression as ir
use Rattle.naga_ir.specs.declared.module.Function as ir_function
use Rattle.naga_ir.specs.declared.module.Module.{Module}
use Rattle.naga_info.specs.declared.info.ExpressionInfo.{ExpressionInfo}
use Rattle.naga_info.specs.declared.info.ModuleInfo.{ModuleInfo}
use Rattle.module_semantics.proofs.Lists.{list_all_at}
use Rattle.module_semantics.proofs.ExpressionForms.{type_form_of_spellable, has_form_parts}
use Rattle.wgsl_text.specs.Words.{IsIdentifier}
use Rattle.wgsl_text.specs.Expressions as tree_expressions
use Rattle.wgsl_text.specs.Functions.{Each}
use Rattle.wgsl_text.specs.Statements.{is_reference}
use Rattle.wgsl_text.specs.Types.{TypeSpecifier}
use Rattle.naga_naming.proofs.Refusal.{element}
use Rattle.module_semantics.specs.Names.{global_name, module_names}
use Rattle.module_semantics.specs.Types.{type_names}
use Rattle.naga_form.proofs.types.SameValues.{IsFit, TypesAreFit, global_identifier}
use Rattle.naga_form.proofs.types.SameValues.{override_identifier, tree_is}
use Rattle.module_semantics.specs.ExpressionOperators.{applied_operator, load_operator}
use Rattle.module_semantics.specs.ExpressionOperators.{is_depth_image, type_known, constructor}
use Rattle.naga_ir.specs.Operands.{expression_operands, level_operands}
use Rattle.naga_form.specs.Operators.{notation}
use Rattle.naga_form.proofs.operators.Operators.{HasFormAt, IsNotated, TypeIsFormed, applied_is}
use Rattle.naga_form.proofs.operators.Operators.{cast_callee, constructor_notated, conversion_is}
use Rattle.naga_form.proofs.operators.Operators.{load_callee, matrix_is, load_notated, notated}
use Rattle.module_semantics.specs.Conversions.{keeps_bits}
use Rattle.module_semantics.specs.AlikeTypes.{has_type_form as type_has_form}
use Rattle.naga_form.proofs.operators.ConstantForms.{form_out_is}
use Rattle.naga_form.specs.ConstantForms.{written_constant_form}
use Rattle.naga_form.proofs.operators.Images.{offset_alone, sampling_is, without_offset}
use Rattle.naga_form.proofs.statements.Abstraction.{AreWritten}
use Rattle.module_semantics.specs.FunctionShapes.{function_shape}
use Rattle.naga_form.proofs.statements.WrittenHandles.{AreClosed, all_map}
use Rattle.std.specs.List.{AllByRecursion}
use Rattle.naga_ir.specs.declared.types.TypeInner.TheVariants as inner
use Rattle.naga_form.proofs.operators.Letters.{letters_are_a_word}
use Rattle.naga_form.specs.TypeTrees.{type_tree}
use Rattle.naga_info.specs.declared.info.TypeResolution.TheVariants.{Handle, Value}
use Rattle.naga_form.proofs.types.WrittenTypes.{tree_there}
use Rattle.naga_form.proofs.operators.Literals.{literal_is}
use Rattle.naga_form.proofs.names.Names.{item_is_identifier, argument_item, argument_there}
use Rattle.naga_form.proofs.names.Names.{local_item, local_there}
use Rattle.module_semantics.specs.FunctionNumbers.{all_functions}
use Rattle.naga_ir.specs.declared.expression.Expression.TheVariants as expression
use Rattle.shader_runs.specs.Program.{binds}
use Rattle.shader_runs.specs.Scope.{Availability, Bound, Handles, Naming}
use Rattle.module_semantics.specs.Namings.{function_naming}
use Rattle.naga_back.specs.declared.flags.WriterFlags.{WriterFlags}

-- ---- plain forms
-- a plain form of the grammar
abbrev pub IsPlainForm : PlainForm → Type 0
IsPlainForm (ValueForm e) = IsExpression e
IsPlainForm (ReferenceForm e) = IsExpression e × IsTrue (is_reference e)

pub value_is_one : (p : PlainForm) → IsPlainForm p → IsExpression (as_value p)
value_is_one (ValueForm e) is = is
value_is_one (ReferenceForm e) is = is.0

pub reference_is_one : (p : PlainForm) → IsPlainForm p → IsExpression (as_reference p)
    × IsTrue (is_reference (as_reference p))
reference_is_one (ValueForm e) is = (is, refl)
reference_is_one (ReferenceForm e) is = is

-- the names in scope are identifiers
abbrev pub NamesAre : Handles → Type 0
NamesAre s = (h : ℕ) (x : List ℕ) → s h ≡ Bound x → IsIdentifier x

-- a part of a value or of a place, where the part of an expression is one
part_is : (pointer : Bool) (part : tree_expressions.Expression → tree_expressions.Expression) →
    (base : PlainForm) → IsPlainForm base →
    ((e : tree_expressions.Expression) → IsExpression e → IsExpression (part e)) →
    ((e : tree_expressions.Expression) → IsTrue (is_reference e) → IsTrue (is_reference (part e))) →
    IsPlainForm (part_plain pointer part base)
part_is true part base is well kept =
    let r = reference_is_one base is in (well (as_reference base) r.0, kept (as_reference base) r.1)
part_is false part base is well kept = well (as_value base) (value_is_one base is)

selected_is : (pointer : Bool) (x : Selector) → IsWellSelected x → (base : PlainForm) →
    IsPlainForm base → IsPlainForm (part_plain pointer (selected_part x) base)
selected_is pointer (MemberNamed word) well base is =
    part_is pointer (selected_part (MemberNamed word)) base is (λ e is. (is, well)) (λ e is. is)
selected_is pointer (ElementAt index) well base is =
    part_is pointer (selected_part (ElementAt index)) base is (λ e is. (is, well)) (λ e is. is)

-- a variable of the module is one of the grammar, as its name is
variable_is : (is_handle : Bool) (w : List ℕ) → IsIdentifier w →
    IsPlainForm (variable_plain is_handle (tree_expressions.Name w))
variable_is true w is = is
variable_is false w is = (is, refl)

abbrev pub ArePlain : (operand : ℕ → PlainForm) → List ℕ → Type 0
ArePlain operand hs = AllByRecursion (λ x. IsPlainForm (operand x)) hs

pub values_are : (operand : ℕ → PlainForm) (hs : List ℕ) → ArePlain operand hs →
    Each IsExpression (value_forms operand hs)
values_are operand [] all = tt
values_are operand (h ∷ hs) all = (value_is_one (operand h) all.0, values_are operand hs all.1)

module _ (flags : WriterFlags) (m : Module) (info : ModuleInfo) (g : ℕ) (f : ir_function.Function)
    (found : slice_get (all_functions m) g ≡ Some f) (es : List ExpressionInfo) (callees : ℕ)
    (ranges : function_in_range m callees f ≡ true) (W : ℕ → Type 0)
    (closed : AreClosed W (binds (function_shape m info f es)) f) (written : AreWritten W m f es)
    (types : TypesAreFit m) (fits : (h : ℕ) (k : ExpressionInfo) → slice_get es h ≡ Some k →
    IsFit m k.ty)
    (demands : are_operands_fit m.types (map (λ e. e.ty) es) f.expressions ≡ true) (named : ℕ → List ℕ)
    (constants : (c : ℕ) → constant_has_form m c ≡ true →
    IsExpression (written_constant_form m (type_names m) c)) where
  abbrev own : Naming
  own = function_naming (module_names m) named m info g f es

  abbrev source : Source
  source = function_source flags m info f es

  abbrev d : ModuleDeclarations
  d = source.declared

  application_is : (otherwise : PlainForm) → IsPlainForm otherwise → (operand : ℕ → PlainForm) →
      (type : Option TypeSpecifier) (hs : List ℕ) → ArePlain operand hs →
      (o : Option Operator) → IsNotated type hs o →
      IsPlainForm (applied_plain otherwise type operand hs o)
  application_is otherwise plain operand type hs all None is = plain
  application_is otherwise plain operand type hs all (Some op) is =
      applied_is operand (notation type op) hs
      (all_map (λ h. value_is_one (operand h)) hs all) is

  -- the type of which an expression makes a value has a form
  type_at : (ty : ℕ) → type_has_form m.types (Handle ty) ≡ true → HasFormAt (type_names m) ty
  type_at ty is =
      let t = tree_there (type_names m) (Handle ty) is in
      (t.0, t.1, tree_is m types (Handle ty) tt t.0 t.1)

  type_formed : (e : ir.Expression) → expression_has_own_form m es e ≡ true →
      TypeIsFormed d.context (type_names m) e
  type_formed (expression.ZeroValue ty) is = type_at ty (type_form_of_spellable m (Handle ty) is)
  type_formed (expression.Compose ty components) is =
      type_at ty (type_form_of_spellable m (Handle ty) is)
  type_formed (expression.As operand kind convert) is =
      let c = conversion m info es operand kind convert is in
      let fit = target_fit m c.from c.to kind convert c.target in (
        cast_tree (keeps_bits c.from convert) c.tree,
        conversion_is d.context (type_names m) operand kind convert c.from c.to c.tree c.known
            c.target c.is,
        cast_callee (keeps_bits c.from convert) c.tree (tree_is m types (Value c.to) fit c.tree c.is),
      )
  type_formed (expression.CooperativeLoad columns rows role place) is =
      let c = loaded_matrix m info es columns rows role place is in (
        load_tree place.row_major c.tree,
        matrix_is d.context (type_names m) columns rows role place c.scalar c.tree c.known c.is,
        load_callee place.row_major c.tree
            (tree_is m types (Value (inner.CooperativeMatrix columns rows c.scalar role))
            (refl, tt, refl) c.tree c.is),
      )
  type_formed _ is = tt

  constants_are : (hs : List ℕ) → AllByRecursion (λ x. IsExpression (constant_form source x)) hs →
      Each IsExpression (map (constant_form source) hs)
  constants_are [] all = tt
  constants_are (h ∷ hs) all = (all.0, constants_are hs all.1)

  -- an override has an identifier
  override_is : (h o : ℕ) → slice_get f.expressions h ≡ Some (expression.Override o) →
      IsIdentifier ((type_names m).override_name o)
  override_is h o at =
      override_identifier m o
      (ltb-true o (length m.overrides)
      (names_are_in_range m callees f ranges h (expression.Override o) at))

  -- the offset of a sampling is written out as a constant of the grammar
  abbrev OffsetIs : ir.Expression → Type 0
  OffsetIs
      (expression.ImageSample
      image sampler gather coordinate array_index offset level depth_ref clamp) =
      AllByRecursion (λ x. IsExpression (constant_form source x)) (option_to_list offset)
  OffsetIs e = Unit {0}

  offset_is : (h : ℕ) (e : ir.Expression) → slice_get f.expressions h ≡ Some e → W h → OffsetIs e
  offset_is h
      (expression.ImageSample
      image sampler gather coordinate array_index offset level depth_ref clamp) at w =
      all_map (λ x w. out_is x w) (option_to_list offset)
      (offset_alone W image sampler coordinate (option_to_list array_index)
      (option_to_list depth_ref) (level_operands level) (option_to_list offset)
      (closed.operands h
      (expression.ImageSample
      image sampler gather coordinate array_index offset level depth_ref clamp) at w))
    where
      out_is : (x : ℕ) → W x → IsExpression (constant_form source x)
      out_is x w =
          form_out_is d.context (type_names m) source.constant f.expressions W closed.operands
          (λ h value at w.
          literal_is value
          (has_form_parts m es f.expressions (expression.Literal value)
          (written h (expression.Literal value) at w)).0
          (names_are_in_range m callees f ranges h (expression.Literal value) at))
          (λ h c at w.
          constants c
          (has_form_parts m es f.expressions (expression.Constant c)
          (written h (expression.Constant c) at w)).0)
          (λ h o at. override_is h o at)
          (λ h ty at w.
          type_at ty
          (type_form_of_spellable m (Handle ty)
          (has_form_parts m es f.expressions (expression.ZeroValue ty)
          (written h (expression.ZeroValue ty) at w)).0))
          (λ h ty parts at w.
          type_at ty
          (type_form_of_spellable m (Handle ty)
          (has_form_parts m es f.expressions (expression.Compose ty parts)
          (written h (expression.Compose ty parts) at w)).0))
          (suc x) x w
  offset_is h _ at w = tt

  own_is : (operand : ℕ → PlainForm) → (h : ℕ) (e : ir.Expression) →
      slice_get f.expressions h ≡ Some e → (expression_has_own_form m es e ≡ true) × OffsetIs e →
      ArePlain operand (expression_operands e) → IsPlainForm (own_plain own source operand e)
  own_is operand h (expression.Literal v) at is all =
      literal_is v is.0
      (names_are_in_range m callees f ranges h (expression.Literal v) at)
  own_is operand h (expression.Constant c) at is all = constants c is.0
  own_is operand h (expression.Override o) at is all = override_is h o at
  own_is operand h (expression.GlobalVariable v) at is all =
      variable_is (is_handle_variable m v) (global_name (module_names m) v)
      (global_identifier m v
      (ltb-true v (length m.global_variables)
      (names_are_in_range m callees f ranges h (expression.GlobalVariable v) at)))
  own_is operand h (expression.FunctionArgument n) at is all =
      let a = element f.arguments.items n (ltb-true n (length f.arguments.items)
      (names_are_in_range m callees f ranges h (expression.FunctionArgument n) at)) in
      item_is_identifier m (argument_item m g n a.0) (argument_there m g f n a.0 found a.1)
  own_is operand h (expression.LocalVariable v) at is all =
      let l = element f.local_variables v (ltb-true v (length f.local_variables)
      (names_are_in_range m callees f ranges h (expression.LocalVariable v) at)) in
      (item_is_identifier m (local_item m g v l.0) (local_there m g f v l.0 found l.1), refl)
  own_is operand h (expression.ZeroValue ty) at is all =
      let form = type_at ty (type_form_of_spellable m (Handle ty) is.0) in
      applied_is operand (notation (type_tree (type_names m) ty) (constructor d.context (Handle ty) 0)) [] tt
      (constructor_notated d.context (Handle ty) 0 [] (type_tree (type_names m) ty) form.0 form.1 form.2)
  own_is operand h (expression.Access base index) at is all =
      part_is (is_pointer d.context base) (λ e. Index e (as_value (operand index))) (operand base) all.0
      (λ e is. (is, value_is_one (operand index) all.1.0)) (λ e is. is)
  own_is operand h (expression.AccessIndex base index) at is all = by (selected m info es base index is.0)
    where
      by : (x : Selector) × (part_selector d base index ≡ Some x) →
          IsPlainForm (own_plain own source operand (expression.AccessIndex base index))
      by s =
          let lt = ltb-true index (2 ^ 32) (names_are_in_range m callees f ranges h
          (expression.AccessIndex base index) at) in
          let part = list_all_at (operands_fit m.types (map (λ e. e.ty) es)) f.expressions h
          (expression.AccessIndex base index) demands at in
          subst
          (λ o. IsPlainForm
          (option_map_or
          (λ x. part_plain (is_pointer d.context base) (selected_part x) (operand base)) o
          (applied_plain no_form None operand (base ∷ []) (Some (WithoutForm (PartAt index))))))
          (sym s.1)
          (selected_is (is_pointer d.context base) s.0
          (selected_well m info es base index is.0 part fits lt s.0 s.1) (operand base) all.0)
  own_is operand h (expression.Swizzle size v pattern) at is all =
      let whole =
      names_are_in_range m callees f ranges h (expression.Swizzle size v pattern) at in
      (value_is_one (operand v) all.0, letters_are_a_word size pattern (eqb-true (length pattern) 4 whole))
  own_is operand h (expression.Load q) at is all =
      application_is (ValueForm (as_reference (operand q))) (reference_is_one (operand q) all.0).0
      operand None (q ∷ []) all (load_operator d.context q) (load_notated d.context q)
  own_is operand h
      (expression.ImageSample
      image sampler gather coordinate array_index offset level depth_ref clamp) at is all =
      let following = option_to_list array_index ++ option_to_list depth_ref ++ level_operands level ++ [] in
      sampling_is (as_value (operand image)) (value_forms operand (sampler ∷ coordinate ∷ following))
      (map (constant_form source) (option_to_list offset))
      (values_are operand (image ∷ sampler ∷ coordinate ∷ following)
      (without_offset (λ x. IsPlainForm (operand x)) image sampler coordinate
      (option_to_list array_index) (option_to_list depth_ref) (level_operands level)
      (option_to_list offset) all))
      (constants_are (option_to_list offset) is.1) gather level (is_some depth_ref) clamp
      (is_some array_index) (is_some offset)
      (option_map_or is_depth_image (type_known d.context image) false)
      (zero_is_whole source image) is.0
  own_is operand h e at is all =
      application_is no_form tt operand (operator_type d.context (type_names m) e) (expression_operands e) all
      (applied_operator d.context e)
      (notated d.context (type_names m) m es e
      is.0 tt (type_formed e is.0))

  own_if_is : (operand : ℕ → PlainForm) → ((x : ℕ) → W x → IsPlainForm (operand x)) →
      (h : ℕ) → W h → (o : Option ir.Expression) → slice_get f.expressions h ≡ o →
      IsPlainForm (own_if own source operand o)
  own_if_is operand all h w None at = tt
  own_if_is operand all h w (Some e) at =
      own_is operand h e at
      ((has_form_parts m es f.expressions e (written h e at w)).0, offset_is h e at w)
      (all_map all (expression_operands e) (closed.operands h e at w))

  availability_is : (s : Availability) (p : PlainForm) → ((x : List ℕ) → s ≡ Bound x → IsIdentifier x) →
      IsPlainForm p → IsPlainForm (availability_plain s p)
  availability_is (Bound x) p named_well is = named_well x refl
  availability_is _ p named_well is = is

  below_is : (s : Handles) → NamesAre s → (k h : ℕ) → W h → IsPlainForm (plain_below own source s k h)
  below_is s well zero h w = tt
  below_is s well (suc k) h w =
      availability_is (s h)
      (own_if own source (plain_below own source s k) (slice_get f.expressions h)) (well h)
      (own_if_is (plain_below own source s k) (below_is s well k) h w (slice_get f.expressions h)
      refl)

  pub plain_is : (s : Handles) → NamesAre s → (h : ℕ) → W h → IsPlainForm (plain_form own source s h)
  plain_is s well h w = below_is s well (length f.expressions) h w

  -- so is the form of a handle whether it has a name or not
  pub unnamed_is : (s : Handles) → NamesAre s → (h : ℕ) → W h → IsPlainForm (unnamed_form own source s h)
  unnamed_is s well h w = own_if_is (plain_form own source s) (plain_is s well) h w (slice_get f.expressions h) refl
