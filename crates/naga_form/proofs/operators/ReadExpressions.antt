-- What is written of an expression is read as the expression's shape says, over operands of which
-- this holds.
use Rattle.std.proofs.Common.{◌≡◌, ℕ, suc, Bool, true, false, List, [], ◌∷◌, ◌++◌, refl, sym, ap}
use Rattle.std.proofs.Common.{◌∙◌, zero, map, Option, Some, None}
use Rattle.std.specs.Prelude.{codes, slice_get, unwrap_or, ◌||◌, if◌then◌else◌}
use Rattle.std.specs.Option.{option_map_or, option_map, is_some, option_and_then, option_to_list}
use Rattle.naga_info.specs.declared.info.TypeResolution.{TypeResolution}
use Rattle.naga_info.specs.declared.info.TypeResolution.TheVariants.{Handle}
use Rattle.module_semantics.specs.ExpressionOperators.{constructor, is_depth_image, level_of}
use Rattle.module_semantics.specs.ExpressionOperators.{image_sample_operator, type_known, load_operator}
use Rattle.module_semantics.specs.ExpressionOperators.{applied_operator}
use Rattle.module_semantics.specs.ExpressionShapes.{constant_shape, swizzle_letters, constant_tree}
use Rattle.module_semantics.specs.ExpressionShapes.{trees, written_zero, part_selector, part_shape}
use Rattle.module_semantics.specs.ExpressionShapes.{shape_of, applied_or}
use Rattle.shader_runs.specs.Text.{PartOf, Apply, Tree, Index, LiteralOf}
use Rattle.shader_runs.specs.Value.{MemberNamed, Truth, ValueType, BooleanType, OtherType}
use Rattle.shader_runs.specs.Value.{PointerType, Selector, ElementAt, type_at}
use Rattle.module_semantics.specs.OperatorTable.{run_word, zero_is_written, WithoutForm, PartAt}
use Rattle.module_semantics.specs.OperatorTable.{Operator}
use Rattle.shader_runs.specs.Program.{Composed, Fixed, no_constant, ConstantTree, handle_type}
use Rattle.naga_form.specs.Expressions.{operator_type, constant_form, value_forms, zero_is_whole}
use Rattle.naga_form.specs.Expressions.{is_pointer_type, part_plain, is_pointer, selected_part}
use Rattle.naga_form.specs.Expressions.{variable_plain, PlainForm, ValueForm, ReferenceForm}
use Rattle.naga_form.specs.Expressions.{as_value, as_reference, applied_plain, no_form, own_plain}
use Rattle.naga_form.specs.Expressions.{own_if, Source}
use Rattle.naga_form.proofs.operators.Operators.{SpellsIf, SpellsTypes, constructor_spelled}
use Rattle.naga_form.proofs.operators.Operators.{operator_spelled, untyped, zero_read, AllReadLike}
use Rattle.naga_form.proofs.operators.Operators.{applied_read}
use Rattle.module_semantics.proofs.ExpressionForms.{declared_of_spellable}
use Rattle.module_semantics.specs.Undeclared.{is_undeclared_struct}
use Rattle.naga_form.proofs.operators.ConstantForms.{IsReadAs}
use Rattle.naga_form.proofs.operators.Images.{sampling_read, without_offset}
use Rattle.naga_form.specs.Images.{sampling_form}
use Rattle.naga_ir.specs.Operands.{level_operands, expression_operands}
use Rattle.shader_runs.specs.Form.{constant_forms, Plain, AsValue, AsPlace}
use Rattle.shader_runs.specs.Text as trees_of_text
use Rattle.naga_ir.specs.declared.expression.Expression as ir
use Rattle.naga_ir.specs.declared.module.Module.{Module}
use Rattle.naga_ir.specs.declared.types.TypeInner.{TypeInner}
use Rattle.naga_ir.specs.declared.types.TypeInner.TheVariants as inner
use Rattle.naga_info.specs.Resolution.{inner_of}
use Rattle.std.specs.Str.{bytes_eq}
use Rattle.naga_ir.specs.declared.types.ScalarKind.{ScalarKind}
use Rattle.naga_ir.specs.declared.types.ScalarKind.TheVariants as kind
use Rattle.module_semantics.specs.Types.{scalar_values, type_of_values, values_of, word_of_values}
use Rattle.naga_info.specs.declared.info.ExpressionInfo.{ExpressionInfo}
use Rattle.std.specs.List.{AllByRecursion}
use Rattle.naga_form.proofs.statements.WrittenHandles.{all_map}
use Rattle.module_semantics.specs.ExpressionForms.{expression_has_own_form}
use Rattle.wgsl_text.specs.Types.{TypeSpecifier}
use Rattle.shader_runs.specs.Program as shapes
use Rattle.shader_runs.specs.Scope.{Naming}
use Rattle.shader_runs.specs.Form as runs
use Rattle.naga_form.specs.TypeTrees.{type_tree}
use Rattle.text_semantics.specs.Abstraction.{expression_read}
use Rattle.naga_ir.specs.declared.expression.Expression.TheVariants as expression
use Rattle.naga_form.proofs.operators.Literals.{literal_read}
use Rattle.wgsl_text.specs.Expressions as tree_expressions

-- what a plain form is read as
abbrev pub plain_read : PlainForm → Plain
plain_read (ValueForm e) = AsValue (expression_read e)
plain_read (ReferenceForm e) = AsPlace (expression_read e)

pub value_is : (p : PlainForm) → expression_read (as_value p) ≡ runs.value_form (plain_read p)
value_is (ValueForm e) = refl
value_is (ReferenceForm e) = refl

pub place_is : (p : PlainForm) → expression_read (as_reference p) ≡ runs.place_form (plain_read p)
place_is (ValueForm e) = refl
place_is (ReferenceForm e) = refl

-- a value of this type is a place
abbrev pub is_place : ValueType → Bool
is_place (PointerType spelling) = true
is_place _ = false

-- the values of a type are places where it is a pointer
inner_place : (it : TypeInner) (w : List ℕ) → is_place (values_of it w) ≡ is_pointer_type it
inner_place (inner.Scalar s) w = by s.kind
  where
    truth : (b : Bool) → is_place (if b then BooleanType else OtherType w) ≡ false
    truth true = refl
    truth false = refl

    by : (k : ScalarKind) → is_place (scalar_values k w) ≡ false
    by kind.Bool = truth (bytes_eq w (codes "bool"))
    by _ = refl
inner_place (inner.Pointer base space) w = refl
inner_place (inner.ValuePointer size s space) w = refl
inner_place _ w = refl

pub places_in : (m : Module) (es : List ExpressionInfo) (h : ℕ) →
    is_place (type_at (map (λ e. type_of_values m e.ty) es) h) ≡
    option_map_or is_pointer_type
    (option_and_then (λ r. inner_of r m.types) (slice_get (map (λ e. e.ty) es) h)) false
places_in m [] h = refl
places_in m (e ∷ es) zero = by (inner_of e.ty m.types)
  where
    by : (o : Option TypeInner) →
        is_place
        (option_map_or (λ it. values_of it (word_of_values m e.ty)) o
        (OtherType (word_of_values m e.ty))) ≡
        option_map_or is_pointer_type o false
    by (Some it) = inner_place it (word_of_values m e.ty)
    by None = refl
places_in m (e ∷ es) (suc h) = places_in m es h

-- a part is read as a part, whether it is one of a value or of a place
module _ (part : tree_expressions.Expression → tree_expressions.Expression) (like : Tree → Tree)
    (same : (e : tree_expressions.Expression) → expression_read (part e) ≡ like (expression_read e)) where
  value_part : (base : PlainForm) (b : Plain) → plain_read base ≡ b →
      plain_read (part_plain false part base) ≡ AsValue (like (runs.value_form b))
  value_part base b is =
      ap AsValue (same (as_value base) ∙ ap like (value_is base ∙ ap runs.value_form is))

  place_part : (base : PlainForm) (b : Plain) → plain_read base ≡ b →
      plain_read (part_plain true part base) ≡ AsPlace (like (runs.place_form b))
  place_part base b is =
      ap AsPlace (same (as_reference base) ∙ ap like (place_is base ∙ ap runs.place_form is))

selected_read : (x : Selector) (e : tree_expressions.Expression) →
    expression_read (selected_part x e) ≡ PartOf x (expression_read e)
selected_read (MemberNamed word) e = refl
selected_read (ElementAt index) e = refl

part_read : (k : ValueType) (pointer : Bool) → is_place k ≡ pointer → (x : Selector) →
    (base : PlainForm) (b : Plain) → plain_read base ≡ b →
    plain_read (part_plain pointer (selected_part x) base) ≡ runs.part_form k x b
part_read (PointerType spelling) true is x base b same =
    place_part (selected_part x) (PartOf x) (selected_read x) base b same
part_read (PointerType spelling) false is x base b same = absurd cc
part_read _ false is x base b same =
    value_part (selected_part x) (PartOf x) (selected_read x) base b same
part_read _ true is x base b same = absurd cc

index_read : (k : ValueType) (pointer : Bool) → is_place k ≡ pointer →
    (index : tree_expressions.Expression) (i : Plain) → expression_read index ≡ runs.value_form i →
    (base : PlainForm) (b : Plain) → plain_read base ≡ b →
    plain_read (part_plain pointer (λ e. tree_expressions.Index e index) base) ≡ runs.access_form k b i
index_read (PointerType spelling) true is index i read base b same =
    place_part (λ e. tree_expressions.Index e index) (λ e. Index e (runs.value_form i))
    (λ e. ap (Index (expression_read e)) read) base b same
index_read (PointerType spelling) false is index i read base b same = absurd cc
index_read _ false is index i read base b same =
    value_part (λ e. tree_expressions.Index e index) (λ e. Index e (runs.value_form i))
    (λ e. ap (Index (expression_read e)) read) base b same
index_read _ true is index i read base b same = absurd cc

-- a variable of the module is read as one
global_read : (held : Bool) (e : tree_expressions.Expression) →
    plain_read (variable_plain held e) ≡ runs.global_form held (expression_read e)
global_read true e = refl
global_read false e = refl

-- operands are read as what is like them
abbrev ArePlain : (operand : ℕ → PlainForm) (like : ℕ → Plain) → List ℕ → Type 0
ArePlain operand like hs = AllByRecursion (λ x. plain_read (operand x) ≡ like x) hs

module _ (m : Module) (n : Naming) (code : Source)
    (spells : SpellsTypes m code.declared.context code.type_names)
    (places : (h : ℕ) → is_place (handle_type n.function h) ≡ is_pointer code.declared.context h)
    (all : List ir.Expression) (es : List ExpressionInfo) where
  -- an operator where one is applied, and what stands there where none is
  applied_reads : (operand : ℕ → PlainForm) (like : ℕ → Plain) (hs : List ℕ) →
      ArePlain operand like hs → (otherwise : PlainForm) →
      (other : shapes.Expression) → plain_read otherwise ≡ runs.own_form n like (Some other) →
      (type : Option TypeSpecifier) (o : Option Operator) → SpellsIf type o →
      plain_read (applied_plain otherwise type operand hs o) ≡
      runs.own_form n like (Some (applied_or other hs o))
  applied_reads operand like hs same otherwise other none type None spelled = none
  applied_reads operand like hs same otherwise other none type (Some op) spelled =
      applied_read operand like n type op spelled hs
      (all_map (λ h is. value_is (operand h) ∙ ap runs.value_form is) hs same)

  applies : (operand : ℕ → PlainForm) (like : ℕ → Plain) (e : ir.Expression) →
      ArePlain operand like (expression_operands e) → expression_has_own_form m es e ≡ true →
      plain_read
      (applied_plain no_form (operator_type code.declared.context code.type_names e) operand (expression_operands e)
      (applied_operator code.declared.context e)) ≡
      runs.own_form n like
      (Some (applied_or shapes.Result (expression_operands e) (applied_operator code.declared.context e)))
  applies operand like e same written =
      applied_reads operand like (expression_operands e) same no_form shapes.Result refl
      (operator_type code.declared.context code.type_names e)
      (applied_operator code.declared.context e)
      (operator_spelled m code.declared.context code.type_names spells es e written)

  -- a zero value, where the type of its handle is known
  zero_reads : (operand : ℕ → PlainForm) (like : ℕ → Plain) (ty : ℕ) →
      is_undeclared_struct m (Handle ty) ≡ false →
      (o : Option TypeResolution) → is_some o ≡ true →
      plain_read
      (own_plain n code operand (expression.ZeroValue ty)) ≡
      runs.own_form n like
      (Some
      (constant_shape
      (option_map
      (λ r. Composed (run_word (constructor code.declared.context (Handle ty) 0))
      (code.declared.value_type r) no_constant)
      o)))
  zero_reads operand like ty declared (Some r) known =
      ap AsValue
      (zero_read operand (λ h. plain_read (operand h))
      (type_tree code.type_names ty)
      (constructor code.declared.context (Handle ty) 0)
      (constructor_spelled code.declared.context (Handle ty) 0 (type_tree code.type_names ty)
      (spells (Handle ty) declared)))
  zero_reads operand like ty declared None known = absurd cc

  -- what is written out as a constant is read as that
  abbrev pub ReadsOut : ℕ → Type 0
  ReadsOut x = IsReadAs n.names.outer (constant_tree code.declared all x) (constant_form code x)

  -- so is a constant or an override of the module, and the offset of a sampling
  abbrev pub ItemsRead : ir.Expression → Type 0
  ItemsRead (expression.Constant handle) =
      IsReadAs n.names.outer (code.declared.constant_tree handle) (code.constant handle)
  ItemsRead (expression.Override handle) =
      trees_of_text.Name (code.type_names.override_name handle) ≡
      runs.constant_form n.names.outer (code.declared.override_tree handle)
  ItemsRead
      (expression.ImageSample
      image sampler gather coordinate array_index offset level depth_ref clamp) =
      AllByRecursion ReadsOut (option_to_list offset)
  ItemsRead e = Unit {0}

  -- a type is known of the handle, and what it names of the module is read so
  abbrev pub IsKnown : (h : ℕ) → ir.Expression → Type 0
  IsKnown h e = (is_some (code.declared.context.known h) ≡ true) × ItemsRead e

  own_reads : (operand : ℕ → PlainForm) (like : ℕ → Plain) (h : ℕ)
      (e : ir.Expression) → ArePlain operand like (expression_operands e) →
      expression_has_own_form m es e ≡ true → IsKnown h e →
      plain_read (own_plain n code operand e) ≡ runs.own_form n like (Some (shape_of code.declared all h e))
  own_reads operand like h (expression.Literal value) same w known =
      ap (λ v. AsValue (LiteralOf v)) (literal_read value w)
  own_reads operand like h (expression.Constant handle) same w known =
      ap AsValue
      (known.1.2
      ∙ ap (λ o. runs.constant_form n.names.outer (unwrap_or o (Fixed (Truth false))))
      (sym known.1.1))
  own_reads operand like h (expression.Override handle) same w known = ap AsValue known.1
  own_reads operand like h (expression.GlobalVariable handle) same w known =
      global_read (code.declared.is_held handle)
      (tree_expressions.Name (n.names.outer.global handle))
  own_reads operand like h (expression.ZeroValue ty) same w known =
      zero_reads operand like ty (declared_of_spellable m (Handle ty) w) (code.declared.context.known h)
      known.0
  own_reads operand like h (expression.Access base index) same w known =
      index_read (handle_type n.function base) (is_pointer code.declared.context base) (places base)
      (as_value (operand index)) (like index)
      (value_is (operand index) ∙ ap runs.value_form same.1.0)
      (operand base) (like base) same.0
  own_reads operand like h (expression.AccessIndex base index) same w known =
      by (part_selector code.declared base index)
    where
      without : Operator
      without = WithoutForm (PartAt index)

      by : (o : Option Selector) →
          plain_read
          (option_map_or
          (λ x. part_plain (is_pointer code.declared.context base) (selected_part x) (operand base)) o
          (applied_plain no_form None operand (base ∷ []) (Some without))) ≡
          runs.own_form n like (Some (part_shape base index o))
      by (Some x) =
          part_read (handle_type n.function base) (is_pointer code.declared.context base)
          (places base) x
          (operand base) (like base) same.0
      by None =
          applied_reads operand like (base ∷ []) same no_form shapes.Result refl None
          (Some without) tt
  own_reads operand like h (expression.Swizzle size vector pattern) same w known =
      ap (λ v. AsValue (PartOf (MemberNamed (swizzle_letters size pattern)) v))
      (value_is (operand vector) ∙ ap runs.value_form same.0)
  own_reads operand like h (expression.Load pointer) same w known =
      applied_reads operand like (pointer ∷ []) same (ValueForm (as_reference (operand pointer)))
      (shapes.Load pointer)
      (ap AsValue (place_is (operand pointer) ∙ ap runs.place_form same.0))
      None (load_operator code.declared.context pointer)
      (untyped (load_operator code.declared.context pointer))
  own_reads operand like h (expression.FunctionArgument number) same w known = refl
  own_reads operand like h (expression.LocalVariable handle) same w known = refl
  own_reads operand like h
      (expression.ImageSample
      image sampler gather coordinate array_index offset level depth_ref clamp) same w known =
      ap AsValue (by offset known.1)
    where
      hs : List ℕ
      hs =
          sampler ∷ coordinate ∷ option_to_list array_index ++ option_to_list depth_ref ++
          level_operands level ++ []

      reads : AllReadLike operand like (image ∷ hs)
      reads =
          all_map (λ h is. value_is (operand h) ∙ ap runs.value_form is) (image ∷ hs)
          (without_offset (λ x. plain_read (operand x) ≡ like x) image sampler coordinate
          (option_to_list array_index) (option_to_list depth_ref) (level_operands level)
          (option_to_list offset) same)

      unwritten : Bool
      unwritten = is_some gather || (is_some depth_ref || clamp)

      of_depths : Bool
      of_depths = option_map_or is_depth_image (type_known code.declared.context image) false

      tree_of : ℕ → Option ConstantTree
      tree_of = constant_tree code.declared all

      by : (o : Option ℕ) → AllByRecursion ReadsOut (option_to_list o) →
          (let op =
          image_sample_operator of_depths gather (level_of level) (is_some depth_ref) clamp
          (is_some array_index) (is_some o) in
          let c = option_and_then tree_of o in
          expression_read
          (sampling_form op (zero_is_written (level_of level) unwritten) (zero_is_whole code image)
          (value_forms operand (image ∷ hs)) (map (constant_form code) (option_to_list o))) ≡
          Apply (run_word op)
          (runs.value_forms_then like
          (image ∷ sampler ∷ coordinate ∷ option_to_list array_index ++ option_to_list depth_ref ++
          level_operands level ++ (if is_some c then [] else option_to_list o))
          (constant_forms n.names.outer (trees (written_zero level unwritten ++ option_to_list c)))))
      by None out =
          sampling_read operand like n.names.outer gather level (is_some depth_ref) clamp
          (is_some array_index) false of_depths unwritten (zero_is_whole code image) w image hs
          reads [] None refl
      by (Some x) out =
          let op =
          image_sample_operator of_depths gather (level_of level) (is_some depth_ref) clamp
          (is_some array_index) true in
          sampling_read operand like n.names.outer gather level (is_some depth_ref) clamp
          (is_some array_index) true of_depths unwritten (zero_is_whole code image) w image hs reads
          (constant_form code x ∷ []) (Some out.0.0) (ap (λ e. trees_of_text.more e trees_of_text.no_more) out.0.2)
          ∙ ap
          (λ c. Apply (run_word op)
          (runs.value_forms_then like
          (image ∷ sampler ∷ coordinate ∷ option_to_list array_index ++ option_to_list depth_ref ++
          level_operands level ++ (if is_some c then [] else x ∷ []))
          (constant_forms n.names.outer (trees (written_zero level unwritten ++ option_to_list c)))))
          (sym out.0.1)
  own_reads operand like h e same w known = applies operand like e same w

  pub own_if_reads : (operand : ℕ → PlainForm) (like : ℕ → Plain) (h : ℕ) →
      (e : Option ir.Expression) →
      ((x : ir.Expression) → e ≡ Some x → ArePlain operand like (expression_operands x)) →
      ((x : ir.Expression) → e ≡ Some x → expression_has_own_form m es x ≡ true) →
      ((x : ir.Expression) → e ≡ Some x → IsKnown h x) →
      plain_read (own_if n code operand e) ≡
      runs.own_form n like (option_map (shape_of code.declared all h) e)
  own_if_reads operand like h (Some e) same w known =
      own_reads operand like h e (same e refl) (w e refl) (known e refl)
  own_if_reads operand like h None same w known = refl
