-- The text of an expression by its kind and by where it stands, and from what is written of it in
-- turn.
-- Serves 30 contracts, `write_address` among them.
use Rattle.module_semantics.specs.ExpressionForms.{expression_has_own_form}
use Rattle.naga_wgsl_fns.proofs.Preconditions.{IsNoOther, expression_formed, ordered}
use Rattle.std.proofs.Common.{◌≡◌, ℕ, zero, suc, ◌<◌, Bool, true, false, List, [], ◌∷◌, length}
use Rattle.std.proofs.Common.{Option, Some, None, codes, refl, sym, ap, ◌∙◌, append_assoc, arith}
use Rattle.std.proofs.Common.{get_or, map}
use Rattle.std.specs.Prelude.{IsTrue, slice_get, if◌then◌else◌, unwrap_or, ◌||◌}
use Rattle.std.specs.Option.{is_some, option_and_then, option_map, option_map_or, option_to_list}
use Rattle.std.specs.List.{AllByRecursion}
use Rattle.module_semantics.specs.ExpressionOperators.{is_depth_image, level_of, image_sample_operator}
use Rattle.module_semantics.specs.ExpressionOperators.{type_known, applied_operator, called_word}
use Rattle.module_semantics.specs.ExpressionOperators.{constructor, load_operator, own_operator}
use Rattle.module_semantics.specs.ExpressionOperators.{query_operator, is_atomic_pointer}
use Rattle.naga_form.proofs.operators.Images.{without_offset}
use Rattle.naga_form.specs.Expressions.{constant_form, sampling_operands, zero_is_whole}
use Rattle.naga_form.specs.Expressions.{operator_type, PlainForm, ValueForm, as_value, as_reference}
use Rattle.naga_form.specs.Expressions.{value_forms, applied_plain, no_form, own_plain, own_if}
use Rattle.naga_form.specs.Expressions.{availability_plain, plain_below, plain_form, unnamed_form}
use Rattle.naga_form.specs.Expressions.{value_form, Source, is_handle_variable, part_plain}
use Rattle.naga_form.specs.Expressions.{is_pointer, selected_part, variable_plain}
use Rattle.naga_form.specs.Images.{sampling_form}
use Rattle.naga_ir.specs.Operands.{level_operands, expression_operands, query_operands}
use Rattle.naga_ir.specs.declared.expression.ImageQuery.{ImageQuery}
use Rattle.naga_ir.specs.declared.expression.ImageQuery.TheVariants as image_query
use Rattle.naga_ir.specs.declared.expression.Expression as ir
use Rattle.naga_ir.specs.declared.expression.Expression.TheVariants as expression
use Rattle.naga_ir.specs.declared.operators.BinaryOperator as ir_operator
use Rattle.naga_ir.specs.declared.operators.UnaryOperator as ir_unary
use Rattle.shader_runs.specs.Premises.{AllBelow}
use Rattle.shader_runs.specs.Scope.{Handles, Naming}
use Rattle.wgsl_words.specs.Words.{operator_text, unary_text}
use Rattle.naga_form.proofs.operators.Operators.{constructor_called, operator_row, query_is_called}
use Rattle.naga_form.proofs.operators.Operators.{typed_notation, unary_row}
use Rattle.module_semantics.specs.Names.{module_names, numbered_name}
use Rattle.naga_form.proofs.types.SameValues.{or_nothing}
use Rattle.naga_naming.specs.declared.key.NameKey.TheVariants as key
use Rattle.module_semantics.specs.AlikeTypes.{has_type_form}
use Rattle.naga_info.specs.declared.info.TypeResolution.TheVariants.{Handle}
use Rattle.naga_form.proofs.types.WrittenTypes.{tree_there}
use Rattle.naga_form.specs.TypeTrees.{type_tree}
use Rattle.wgsl_text.specs.Types.{TypeSpecifier, Named as NamedType}
use Rattle.wgsl_text.specs.Expressions.{Call, Member, Constant, Expression, Name, Dereference}
use Rattle.wgsl_text.specs.Expressions.{operands as arguments_of, Index}
use Rattle.naga_wgsl_fns.specs.Types.{type_text}
use Rattle.naga_wgsl_fns.specs.Expressions.{made_text, made_type, member_text, address_text}
use Rattle.naga_wgsl_fns.specs.Expressions.{applied_text, called_text, form_at, global_address_text}
use Rattle.naga_wgsl_fns.specs.Expressions.{global_reference_text, global_value_text, load_text}
use Rattle.naga_wgsl_fns.specs.Expressions.{next_operand_text, operands_at, operands_left}
use Rattle.naga_wgsl_fns.specs.Expressions.{operands_text, own_form, own_text, pointed_text}
use Rattle.naga_wgsl_fns.specs.Expressions.{reference_text, spaced_text, value_text, accessed_base}
use Rattle.naga_wgsl_fns.specs.Expressions.{part_reference_text, part_value_text}
use Rattle.naga_wgsl_fns.specs.Expressions.{plain_address_text, plain_text, plain_tree}
use Rattle.naga_wgsl_fns.specs.FunctionText.{named_in, type_names_of, CanWrite, IsInText, context}
use Rattle.naga_wgsl_fns.specs.FunctionText.{expressions, handles_in, naming, source}
use Rattle.module_semantics.specs.OperatorTable.{AtomicLoad, Operator, operator_word, own_word}
use Rattle.module_semantics.specs.OperatorTable.{run_word, WithoutForm, zero_is_written, PartAt}
use Rattle.naga_form.specs.Operators.{Called, Infix, Notation, Prefix, applied_form, notation}
use Rattle.naga_form.specs.Operators.{operator_form, unary_form}
use Rattle.module_semantics.specs.Premises.{OperandsStandBefore}
use Rattle.module_semantics.specs.ExpressionShapes.{swizzle_letters, part_selector}
use Rattle.wgsl_text.specs.Literals.{Truth}
use Rattle.wgsl_text.proofs.Expressions.{name_text, binary_text as binary_row_text}
use Rattle.wgsl_text.proofs.Expressions.{unary_text as unary_row_text, call_text as call_row_text}
use Rattle.wgsl_text.proofs.Expressions.{argument_text as argument_row_text}
use Rattle.wgsl_text.proofs.Expressions.{next_argument_text as next_argument_row_text}
use Rattle.wgsl_text.proofs.Expressions.{address_text as address_row_text, dereference_text}
use Rattle.naga_scope.specs.Availabilities.{availability_of}
use Rattle.naga_wgsl_fns.specs.Names.{bound_text, name_of_global}
use Rattle.naga_wgsl_shared.specs.Names.{name_of_override}
use Rattle.naga_wgsl_fns.specs.Names.{name_of_argument, name_of_local}
use Rattle.naga_scope.specs.declared.points.Availability.{Availability}
use Rattle.naga_scope.specs.declared.points.Availability.TheVariants.{Absent, Barred, Everywhere}
use Rattle.naga_scope.specs.declared.points.Availability.TheVariants.{Inline, Bound}
use Rattle.naga_words.specs.Output.{joined_texts}
use Rattle.naga_wgsl_shared.specs.Constants.{constant_text}
use Rattle.naga_wgsl_shared.specs.Literals.{literal_text}
use Rattle.wgsl_text.specs.Reading.{printed_expression}
use Rattle.naga_wgsl_fns.specs.declared.functions.FunctionText.{FunctionText}
use Rattle.naga_wgsl_fns.proofs.PartForms.{part_form, referred_part, valued_part}
use Rattle.naga_wgsl_fns.proofs.VariableRows.{handle_variable_reference, memory_variable_reference}
use Rattle.wgsl_text.proofs.Types.{named_text}

-- ---- handles below another
each_below : (h : ℕ) (xs : List ℕ) → AllBelow h xs → AllByRecursion (λ x. x < h) xs
each_below h [] below = tt
each_below h (x ∷ xs) below = (below.0, each_below h xs below.1)

all_below : (h : ℕ) (xs : List ℕ) → AllByRecursion (λ x. x < h) xs → AllBelow h xs
all_below h [] below = tt
all_below h (x ∷ xs) below = (below.0, all_below h xs below.1)

-- ---- a handle's form by its operands' forms, where operands stand before it
module _ (n : Naming) (code : Source) (before : OperandsStandBefore code.expressions) (s : Handles) where
  operands_same : (a b : ℕ → PlainForm) (h : ℕ) (hs : List ℕ) → AllBelow h hs →
      ((x : ℕ) → x < h → a x ≡ b x) → value_forms a hs ≡ value_forms b hs
  operands_same a b h [] below same = refl
  operands_same a b h (x ∷ xs) below same =
      λ i. as_value (same x below.0 i) ∷ operands_same a b h xs below.1 same i

  applied_same : (a b : ℕ → PlainForm) (h : ℕ) → ((x : ℕ) → x < h → a x ≡ b x) →
      (one other : PlainForm) → one ≡ other → (type : Option TypeSpecifier) (hs : List ℕ) →
      AllBelow h hs → (o : Option Operator) →
      applied_plain one type a hs o ≡ applied_plain other type b hs o
  applied_same a b h same one other alike type hs below None = alike
  applied_same a b h same one other alike type hs below (Some op) =
      ap (λ es. ValueForm (applied_form (notation type op) es)) (operands_same a b h hs below same)

  own_same : (a b : ℕ → PlainForm) (h : ℕ) (e : ir.Expression) →
      AllBelow h (expression_operands e) → ((x : ℕ) → x < h → a x ≡ b x) →
      own_plain n code a e ≡ own_plain n code b e
  own_same a b h (expression.Load p) below same =
      applied_same a b h same (ValueForm (as_reference (a p))) (ValueForm (as_reference (b p)))
      (ap (λ q. ValueForm (as_reference q)) (same p below.0)) None (p ∷ []) below
      (load_operator code.declared.context p)
  own_same a b h (expression.ZeroValue ty) below same = refl
  own_same a b h (expression.Access base index) below same =
      λ i. part_plain (is_pointer code.declared.context base)
      (λ e. Index e (as_value (same index below.1.0 i))) (same base below.0 i)
  own_same a b h (expression.AccessIndex base index) below same =
      λ i. option_map_or
      (λ x. part_plain (is_pointer code.declared.context base) (selected_part x) (same base below.0 i))
      (part_selector code.declared base index)
      (applied_same a b h same no_form no_form refl None (base ∷ []) below
      (Some (WithoutForm (PartAt index))) i)
  own_same a b h (expression.Swizzle size v pattern) below same =
      ap (λ q. ValueForm (Member (as_value q) (swizzle_letters size pattern))) (same v below.0)
  own_same a b h
      (expression.ImageSample
      image sampler gather coordinate array_index offset level depth_ref clamp) below same =
      let e = expression.ImageSample
      image sampler gather coordinate array_index offset level depth_ref clamp in
      let of_depths = option_map_or is_depth_image (type_known code.declared.context image) false in
      let op =
      image_sample_operator of_depths gather (level_of level) (is_some depth_ref) clamp
      (is_some array_index) (is_some offset) in
      let unwritten = is_some gather || (is_some depth_ref || clamp) in
      ap
      (λ es. ValueForm
      (sampling_form op (zero_is_written (level_of level) unwritten) (zero_is_whole code image) es
      (map (constant_form code) (option_to_list offset))))
      (operands_same a b h (sampling_operands e)
      (all_below h (sampling_operands e)
      (without_offset (λ x. x < h) image sampler coordinate (option_to_list array_index)
      (option_to_list depth_ref) (level_operands level) (option_to_list offset)
      (each_below h (expression_operands e) below)))
      same)
  own_same a b h (expression.Literal value) below same = refl
  own_same a b h (expression.Constant c) below same = refl
  own_same a b h (expression.FunctionArgument number) below same = refl
  own_same a b h (expression.Override o) below same = refl
  own_same a b h (expression.GlobalVariable v) below same = refl
  own_same a b h (expression.LocalVariable handle) below same = refl
  own_same a b h e below same =
      applied_same a b h same no_form no_form refl (operator_type code.declared.context code.type_names e)
      (expression_operands e) below (applied_operator code.declared.context e)

  own_if_same : (a b : ℕ → PlainForm) (h : ℕ) (o : Option ir.Expression) →
      slice_get code.expressions h ≡ o → ((x : ℕ) → x < h → a x ≡ b x) →
      own_if n code a o ≡ own_if n code b o
  own_if_same a b h None at same = refl
  own_if_same a b h (Some e) at same = own_same a b h e (before h e at) same

  -- enough fuel gives the same
  below_same : (j k h : ℕ) → h < j → h < k → plain_below n code s j h ≡ plain_below n code s k h
  below_same zero k h lt_j lt_k = absurd (omega (arith, lt_j))
  below_same (suc j) zero h lt_j lt_k = absurd (omega (arith, lt_k))
  below_same (suc j) (suc k) h lt_j lt_k =
      ap (availability_plain (s h))
      (own_if_same (plain_below n code s j) (plain_below n code s k) h
      (slice_get code.expressions h) refl
      (λ x lt. below_same j k x (omega (arith, lt, lt_j)) (omega (arith, lt, lt_k))))

  -- a handle's form
  pub plain_level : (h : ℕ) → h < length code.expressions →
      plain_form n code s h ≡ availability_plain (s h) (unnamed_form n code s h)
  plain_level h lt = by (length code.expressions) lt
    where
      by : (k : ℕ) → h < k →
          plain_below n code s k h ≡
          availability_plain (s h)
          (own_if n code (plain_below n code s k) (slice_get code.expressions h))
      by zero lt = absurd (omega (arith, lt))
      by (suc k) lt =
          ap (availability_plain (s h))
          (own_if_same (plain_below n code s k) (plain_below n code s (suc k)) h
          (slice_get code.expressions h) refl
          (λ x x_lt. below_same k (suc k) x (omega (arith, x_lt, lt)) (omega (arith, x_lt, lt))))

-- ---- rows
-- a handle's form, by its cell in the table
pub cell_form : (f : FunctionText) (table : List Availability) (handle : ℕ) → CanWrite f →
    handle < length (expressions f)
    → plain_form (naming f) (source f) (handles_in f table) handle
    ≡ availability_plain (availability_of (named_in f) (numbered_name handle) (get_or table handle Absent))
    (own_form f table handle)
cell_form f table handle can lt = plain_level (naming f) (source f) (ordered f can) (handles_in f table) handle lt

-- a value, by its cell
abbrev pub value_at : FunctionText → (table : List Availability) → (handle : ℕ) → (cell : Availability) → List ℕ
value_at f table handle (Bound name) = bound_text f handle name
value_at f table handle _ = own_text f table handle

pub value_row : (f : FunctionText) (table : List Availability) (handle : ℕ) → CanWrite f →
    handle < length (expressions f) → value_text f table handle ≡ value_at f table handle
    (get_or table handle Absent)
unfolding value_text own_text bound_text
value_row f table handle can lt = ap (λ form. printed_expression (as_value form))
    (cell_form f table handle can lt) ∙ by (get_or table handle Absent)
  where
    by : (cell : Availability) →
        printed_expression
        (as_value (availability_plain (availability_of (named_in f) (numbered_name handle) cell)
        (own_form f table handle))) ≡ value_at f table handle cell
    by (Bound name) = name_text (bound_text f handle name)
    by Absent = refl
    by Barred = refl
    by Everywhere = refl
    by Inline = refl

-- what is applied, in its notation
abbrev pub application_at :
    FunctionText → (table : List Availability) → (type : Option TypeSpecifier) → List ℕ →
    Option Operator → List ℕ
application_at f table type hs (Some op) = applied_text f table (notation type op) hs
application_at f table type hs None = printed_expression (as_value no_form)

-- what an expression is made of, by its kind
abbrev pub own_at : FunctionText → (table : List Availability) →
    (handle : ℕ) → Option ir.Expression →
    List ℕ
own_at f table handle (Some (expression.Literal value)) = literal_text value
own_at f table handle (Some (expression.Constant c)) = constant_text f.known.shader.now c
own_at f table handle (Some (expression.Override o)) = name_of_override f.known.shader.now o
own_at f table handle (Some (expression.ZeroValue ty)) =
    applied_text f table
    (notation (type_tree (type_names_of f) ty) (constructor (context f) (Handle ty) 0)) []
own_at f table handle (Some (expression.Access base index)) =
    part_value_text f table handle base
own_at f table handle (Some (expression.AccessIndex base index)) =
    part_value_text f table handle base
own_at f table handle (Some (expression.FunctionArgument number)) = name_of_argument f number
own_at f table handle (Some (expression.GlobalVariable variable)) = global_value_text f variable
own_at f table handle (Some (expression.LocalVariable local)) = address_text f local
own_at f table handle (Some (expression.Swizzle size vector pattern)) =
    member_text f table vector (swizzle_letters size pattern)
own_at f table handle (Some (expression.Load pointer)) = load_text f table pointer
own_at f table handle
    (Some
    (expression.ImageSample
    image sampler gather coordinate array_index offset level depth_ref clamp)) =
    own_text f table handle
own_at f table handle (Some e) =
    application_at f table (operator_type (context f) (type_names_of f) e) (expression_operands e)
    (applied_operator (context f) e)
own_at f table handle None = printed_expression (as_value no_form)

pub own_row : (f : FunctionText) (table : List Availability) (handle : ℕ) → CanWrite f →
    IsInText f handle →
    own_text f table handle ≡ own_at f table handle (slice_get (expressions f) handle)
unfolding own_text literal_text constant_text name_of_argument name_of_override name_of_global
    address_text global_value_text global_address_text load_text reference_text applied_text
    member_text part_value_text plain_address_text plain_text
own_row f table handle can within = by (slice_get (expressions f) handle) refl
  where
    operand : ℕ → PlainForm
    operand = plain_form (naming f) (source f) (handles_in f table)

    applied : (type : Option TypeSpecifier) (hs : List ℕ) (o : Option Operator) →
        printed_expression (as_value (applied_plain no_form type operand hs o)) ≡
        application_at f table type hs o
    applied type hs None = refl
    applied type hs (Some op) = refl

    loaded : (pointer : ℕ) (atomic : Bool) →
        printed_expression
        (as_value
        (applied_plain (ValueForm (as_reference (operand pointer))) None operand (pointer ∷ [])
        (if atomic then Some AtomicLoad else None))) ≡
        (if atomic then applied_text f table (Called (NamedType (run_word AtomicLoad))) (pointer ∷ [])
        else reference_text f table pointer)
    loaded pointer false = refl
    loaded pointer true = refl

    parted : (e : Option ir.Expression) → slice_get (expressions f) handle ≡ e → (base : ℕ) →
        accessed_base e ≡ Some base →
        printed_expression (as_value (own_if (naming f) (source f) operand e)) ≡
        part_value_text f table handle base
    parted e at base is =
        let p = part_form f table can handle within e at base is in
        let same = ap (own_if (naming f) (source f) operand) at in
        ap (λ q. printed_expression (as_value q)) (sym same)
        ∙ valued_part (is_pointer (context f) base) p.part (operand base) (own_form f table handle)
        (same ∙ p.is)

    of_module : (variable : ℕ) (is_handle : Bool) →
        printed_expression (as_value (variable_plain is_handle (Name (name_of_global f variable)))) ≡
        (if is_handle then name_of_global f variable else global_address_text f variable)
    of_module variable true = name_text (name_of_global f variable)
    of_module variable false = refl

    by : (e : Option ir.Expression) → slice_get (expressions f) handle ≡ e →
        printed_expression (as_value (own_if (naming f) (source f) operand e)) ≡
        own_at f table handle e
    by (Some (expression.Access base index)) at =
        parted (Some (expression.Access base index)) at base refl
    by (Some (expression.AccessIndex base index)) at =
        parted (Some (expression.AccessIndex base index)) at base refl
    by (Some (expression.Literal value)) at = refl
    by (Some (expression.Constant c)) at = refl
    by (Some (expression.FunctionArgument number)) at = name_text (name_of_argument f number)
    by (Some (expression.Override o)) at =
        name_text ((type_names_of f).override_name o)
        ∙ or_nothing (module_names f.known.shader.now (key.Override o))
    by (Some (expression.GlobalVariable variable)) at =
        of_module variable (is_handle_variable f.known.shader.now variable)
    by (Some (expression.LocalVariable local)) at = refl
    by (Some (expression.Load pointer)) at =
        loaded pointer (is_atomic_pointer (context f) pointer)
    by
        (Some
        (expression.ImageSample
        image sampler gather coordinate array_index offset level depth_ref clamp)) at =
        ap (λ o. printed_expression (as_value (own_if (naming f) (source f) operand o))) (sym at)
    by (Some (expression.ZeroValue ty)) at = refl
    by (Some (expression.Swizzle size vector pattern)) at = refl
    by (Some e) at =
        applied (operator_type (context f) (type_names_of f) e) (expression_operands e)
        (applied_operator (context f) e)
    by None at = refl

-- a reference, by its cell and its kind
abbrev reference_by : FunctionText → (table : List Availability) →
    (handle : ℕ) → Option ir.Expression →
    List ℕ
reference_by f table handle (Some (expression.GlobalVariable variable)) =
    global_reference_text f table handle variable
reference_by f table handle (Some (expression.LocalVariable local)) = name_of_local f local
reference_by f table handle (Some (expression.Access base index)) =
    part_reference_text f table handle base
reference_by f table handle (Some (expression.AccessIndex base index)) =
    part_reference_text f table handle base
reference_by f table handle _ = pointed_text f table handle

abbrev pub reference_at : FunctionText → (table : List Availability) → (handle : ℕ) → (cell : Availability) →
    Option ir.Expression → List ℕ
reference_at f table handle (Bound name) e = pointed_text f table handle
reference_at f table handle _ e = reference_by f table handle e

pub reference_row : (f : FunctionText) (table : List Availability) (handle : ℕ) → CanWrite f →
    IsInText f handle →
    reference_text f table handle ≡
    reference_at f table handle (get_or table handle Absent) (slice_get (expressions f) handle)
unfolding reference_text pointed_text name_of_local name_of_global part_reference_text plain_text
reference_row f table handle can within =
    ap (λ form. printed_expression (as_reference form)) is ∙ by cell is
  where
    cell : Availability
    cell = get_or table handle Absent

    operand : ℕ → PlainForm
    operand = plain_form (naming f) (source f) (handles_in f table)

    own : Option ir.Expression → PlainForm
    own o = own_if (naming f) (source f) operand o

    e : Option ir.Expression
    e = slice_get (expressions f) handle

    form : Availability → PlainForm
    form c = availability_plain (availability_of (named_in f) (numbered_name handle) c) (own e)

    is : plain_form (naming f) (source f) (handles_in f table) handle ≡ form cell
    is = cell_form f table handle can within.there

    valued : (one : Expression) (type : Option TypeSpecifier) (hs : List ℕ) (o : Option Operator) →
        as_reference (applied_plain (ValueForm one) type operand hs o) ≡
        Dereference (as_value (applied_plain (ValueForm one) type operand hs o))
    valued one type hs None = refl
    valued one type hs (Some op) = refl

    -- where the handle's form is its own
    pointed : form_at f table handle ≡ own e →
        printed_expression (Dereference (as_value (own e))) ≡ pointed_text f table handle
    pointed mine = ap (λ q. printed_expression (Dereference (as_value q))) (sym mine)

    pointed_by : form_at f table handle ≡ own e → (o : Option ir.Expression) → e ≡ o →
        as_reference (own o) ≡ Dereference (as_value (own o)) →
        printed_expression (as_reference (own o)) ≡ pointed_text f table handle
    pointed_by mine o at value =
        ap printed_expression value
        ∙ (ap (λ o. printed_expression (Dereference (as_value (own o)))) (sym at) ∙ pointed mine)

    parted : form_at f table handle ≡ own e → (o : Option ir.Expression) → e ≡ o → (base : ℕ) → accessed_base o
        ≡ Some base →
        printed_expression (as_reference (own o)) ≡ part_reference_text f table handle base
    parted mine o at base here =
        let p = part_form f table can handle within o at base here in
        let b = is_pointer (context f) base in
        ap (λ o. printed_expression (as_reference (own o))) (sym at)
        ∙ (referred_part b p.part (operand base) (own e) (ap own at ∙ p.is)
        ∙ ap (λ w. if b then printed_expression (plain_tree (own e)) else w) (pointed mine))

    of_module : form_at f table handle ≡ own e → (variable : ℕ) →
        e ≡ Some (expression.GlobalVariable variable) → (is_handle : Bool) →
        is_handle_variable f.known.shader.now variable ≡ is_handle →
        printed_expression (as_reference (own (Some (expression.GlobalVariable variable)))) ≡
        global_reference_text f table handle variable
    of_module mine variable at true is =
        let name = Name (name_of_global f variable) in
        pointed_by mine (Some (expression.GlobalVariable variable)) at
        (ap (λ b. as_reference (variable_plain b name)) is
        ∙ sym (ap (λ b. Dereference (as_value (variable_plain b name))) is))
        ∙ handle_variable_reference f table handle variable is
    of_module mine variable at false is =
        let name = Name (name_of_global f variable) in
        ap (λ b. printed_expression (as_reference (variable_plain b name))) is
        ∙ (name_text (name_of_global f variable) ∙ memory_variable_reference f table handle variable is)

    kind : form_at f table handle ≡ own e → (o : Option ir.Expression) → e ≡ o →
        printed_expression (as_reference (own o)) ≡ reference_by f table handle o
    kind mine (Some (expression.GlobalVariable variable)) at =
        of_module mine variable at (is_handle_variable f.known.shader.now variable) refl
    kind mine (Some (expression.Override o)) at =
        pointed_by mine (Some (expression.Override o)) at refl
    kind mine (Some (expression.LocalVariable local)) at = name_text (name_of_local f local)
    kind mine (Some (expression.Access base index)) at =
        parted mine (Some (expression.Access base index)) at base refl
    kind mine (Some (expression.AccessIndex base index)) at =
        parted mine (Some (expression.AccessIndex base index)) at base refl
    kind mine (Some (expression.Literal value)) at =
        pointed_by mine (Some (expression.Literal value)) at refl
    kind mine (Some (expression.Constant c)) at = pointed_by mine (Some (expression.Constant c)) at refl
    kind mine (Some (expression.ZeroValue ty)) at = pointed_by mine (Some (expression.ZeroValue ty)) at refl
    kind mine (Some (expression.Swizzle size vector pattern)) at =
        pointed_by mine (Some (expression.Swizzle size vector pattern)) at refl
    kind mine (Some (expression.FunctionArgument number)) at =
        pointed_by mine (Some (expression.FunctionArgument number)) at refl
    kind mine (Some (expression.Load pointer)) at =
        pointed_by mine (Some (expression.Load pointer)) at
        (valued (as_reference (operand pointer)) None (pointer ∷ [])
        (load_operator (context f) pointer))
    kind mine
        (Some
        (expression.ImageSample
        image sampler gather coordinate array_index offset level depth_ref clamp)) at =
        pointed_by mine
        (Some
        (expression.ImageSample
        image sampler gather coordinate array_index offset level depth_ref clamp)) at refl
    kind mine (Some x) at =
        pointed_by mine (Some x) at
        (valued (Constant (Truth false)) (operator_type (context f) (type_names_of f) x)
        (expression_operands x) (applied_operator (context f) x))
    kind mine None at = pointed_by mine None at refl

    by : (c : Availability) → form_at f table handle ≡ form c →
        printed_expression (as_reference (form c)) ≡ reference_at f table handle c e
    by (Bound name) mine = ap (λ q. printed_expression (Dereference (as_value q))) (sym mine)
    by Absent mine = kind mine e refl
    by Barred mine = kind mine e refl
    by Everywhere mine = kind mine e refl
    by Inline mine = kind mine e refl

pub prefix_row : (f : FunctionText) (table : List Availability) (op : ir_unary.UnaryOperator)
    (operand : ℕ)
    → applied_text f table (Prefix (unary_form op)) (operand ∷ []) ≡
    joined_texts (unary_text op)
    (joined_texts (codes "(") (joined_texts (value_text f table operand) (codes ")")))
unfolding applied_text value_text joined_texts
prefix_row f table op operand =
    let form = value_form (naming f) (source f) (handles_in f table) in
    unary_row_text (unary_form op) (form operand)
    ∙ ap (λ w. joined_texts w (joined_texts (codes "(")
    (joined_texts (printed_expression (form operand)) (codes ")")))) (sym (unary_row op))

pub infix_row : (f : FunctionText) (table : List Availability) (op : ir_operator.BinaryOperator)
    (left right : ℕ)
    → applied_text f table (Infix (operator_form op)) (left ∷ right ∷ []) ≡
    joined_texts
    (codes "(")
    (joined_texts (value_text f table left)
    (joined_texts (spaced_text op) (joined_texts (value_text f table right) (codes ")"))))
unfolding applied_text value_text joined_texts
infix_row f table op left right =
    let form = value_form (naming f) (source f) (handles_in f table) in
    binary_row_text (form left) (operator_form op) (form right)
    ∙ ap (λ w. joined_texts (codes "(")
    (joined_texts (printed_expression (form left))
    (joined_texts (codes " ")
    (joined_texts w
    (joined_texts (codes " ") (joined_texts (printed_expression (form right)) (codes ")")))))))
    (sym (operator_row op))
    ∙ ap (λ w. joined_texts (codes "(") (joined_texts (printed_expression (form left)) (32 ∷ w)))
    (sym (append_assoc (operator_text op) (codes " ")
    (joined_texts (printed_expression (form right)) (codes ")"))))

-- ---- calls
pub called_row : (f : FunctionText) (table : List Availability) (word : List ℕ) (handle : ℕ)
    → called_text f table word handle ≡
    joined_texts word (joined_texts (codes "(") (operands_text f table handle))
unfolding called_text applied_text operands_text joined_texts
called_row f table word handle =
    call_row_text (NamedType word) (arguments_of (value_forms (form_at f table) (operands_at f handle)))
    ∙ ap (λ w. joined_texts w (joined_texts (codes "(") (operands_left f table true (operands_at f handle))))
    (named_text word)

pub made_row : (f : FunctionText) (table : List Availability) (ty handle : ℕ)
    → made_text f table (made_type f ty) handle ≡
    joined_texts (type_text f ty) (joined_texts (codes "(") (operands_text f table handle))
unfolding made_text type_text operands_text joined_texts
made_row f table ty handle =
    call_row_text (made_type f ty) (arguments_of (value_forms (form_at f table) (operands_at f handle)))

-- what an expression is made of whose operator is called by a type
pub own_typed : (f : FunctionText) (table : List Availability) (handle : ℕ) (e own : ir.Expression)
    (t : TypeSpecifier) (n : Notation) → CanWrite f → IsInText f handle → n ≡ Called t →
    slice_get (expressions f) handle ≡ Some e → e ≡ own →
    own_at f table handle (Some own) ≡ applied_text f table n (expression_operands own) →
    made_text f table t handle ≡ own_text f table handle
unfolding made_text applied_text
own_typed f table handle e own t n can within called here is made =
    let there = here ∙ ap Some is in
    let es : List Expression = value_forms (form_at f table) (expression_operands own) in
    ap
    (λ o. printed_expression
    (Call t (arguments_of (value_forms (form_at f table) (option_map_or expression_operands o [])))))
    there
    ∙ sym (ap (λ n. printed_expression (applied_form n es)) called)
    ∙ sym (own_row f table handle can within ∙ (ap (own_at f table handle) there ∙ made))

-- or makes a value of a type of the module
pub own_made : (f : FunctionText) (table : List Availability) {handle : ℕ} (ty components : ℕ)
    {e own : ir.Expression} → CanWrite f → IsInText f handle →
    IsTrue (has_type_form f.known.shader.now.types (Handle ty)) →
    slice_get (expressions f) handle ≡ Some e → e ≡ own →
    own_at f table handle (Some own) ≡
    applied_text f table
    (notation (type_tree (type_names_of f) ty) (constructor (context f) (Handle ty) components))
    (expression_operands own) →
    made_text f table (made_type f ty) handle ≡ own_text f table handle
own_made f table {handle} ty components {e} {own} can within value here is made =
    let tree = tree_there (type_names_of f) (Handle ty) value in
    ap (λ o. made_text f table (unwrap_or o (NamedType [])) handle) tree.1
    ∙ own_typed f table handle e own tree.0 _ can within
    (typed_notation _ (constructor_called (context f) (Handle ty) components)
    (type_tree (type_names_of f) ty) tree.0 tree.1)
    here is made

pub next_operand_row : (f : FunctionText) (table : List Availability) (first : Bool) (operand : ℕ)
    → next_operand_text f table first operand ≡
    joined_texts (if first then [] else codes ", ") (value_text f table operand)
unfolding next_operand_text joined_texts
next_operand_row f table first operand = refl

-- the next operand, and those after it
pub operands_more : (f : FunctionText) (table : List Availability) (first : Bool) (operand : ℕ)
    (more : List ℕ) →
    operands_left f table first (operand ∷ more) ≡
    joined_texts (next_operand_text f table first operand) (operands_left f table false more)
unfolding next_operand_text value_text joined_texts
operands_more f table true operand more =
    argument_row_text (as_value (form_at f table operand)) (arguments_of (value_forms (form_at f table) more))
operands_more f table false operand more =
    next_argument_row_text (as_value (form_at f table operand)) (arguments_of (value_forms (form_at f table) more))

pub operands_none : (f : FunctionText) (table : List Availability) (first : Bool) →
    operands_left f table first [] ≡ codes ")"
operands_none f table true = refl
operands_none f table false = refl

pub operands_start : (f : FunctionText) (table : List Availability) (handle : ℕ) →
    operands_text f table handle ≡ operands_left f table true (operands_at f handle)
unfolding operands_text
operands_start f table handle = refl

-- what is applied, if it is called by its word
by_its_word : (f : FunctionText) (table : List Availability) (hs : List ℕ) (o : Option Operator)
    {word : List ℕ} →
    option_map (notation None) o ≡ option_map (λ op. Called (NamedType (run_word op))) o →
    option_and_then operator_word o ≡ Some word →
    application_at f table None hs o ≡ applied_text f table (Called (NamedType word)) hs
by_its_word f table hs None called is = absurd cc
by_its_word f table hs (Some op) called is =
    ap (λ n. option_map_or (λ (n : Notation). applied_text f table n hs) n []) called
    ∙ ap (λ w. applied_text f table (Called (NamedType (unwrap_or w (own_word op)))) hs) is

-- and an expression that applies it by itself; any other is called by no word
called_at : (f : FunctionText) (table : List Availability) (handle : ℕ) (e : ir.Expression)
    {word : List ℕ} → called_word e ≡ Some word →
    own_at f table handle (Some e) ≡
    applied_text f table (Called (NamedType word)) (expression_operands e)
called_at f table handle (expression.Unary op operand) is = absurd cc
called_at f table handle (expression.Binary op left right) is = absurd cc
called_at f table handle (expression.ImageQuery image query) is =
    by_its_word f table (image ∷ query_operands query) (Some (query_operator query))
    (ap Some (query_is_called query None)) is
called_at f table handle e is =
    cc (by_its_word f table (expression_operands e) (own_operator e) refl is)

-- what is made of a word that is called with the expression's operands
pub own_called : (f : FunctionText) (table : List Availability) {handle : ℕ} {e : ir.Expression}
    {word : List ℕ} → CanWrite f → IsInText f handle → slice_get (expressions f) handle ≡ Some e →
    called_word e ≡ Some word → called_text f table word handle ≡ own_text f table handle
unfolding called_text
own_called f table {handle} {e} {word} can within here is =
    ap
    (λ o. applied_text f table (Called (NamedType word)) (option_map_or expression_operands o []))
    here
    ∙ sym (own_row f table handle can within
    ∙ (ap (own_at f table handle) here ∙ called_at f table handle e is))

pub address_row : (f : FunctionText) (local : ℕ) → address_text f local
    ≡ joined_texts (codes "(&") (joined_texts (name_of_local f local) (codes ")"))
unfolding address_text name_of_local joined_texts
address_row f local = address_row_text (Name (name_of_local f local))
    ∙ ap (λ w. joined_texts (codes "(&") (joined_texts w (codes ")"))) (name_text (name_of_local f local))

pub pointed_row : (f : FunctionText) (table : List Availability) (handle : ℕ) → pointed_text f table handle
    ≡ joined_texts (codes "(*") (joined_texts (value_text f table handle) (codes ")"))
unfolding pointed_text value_text joined_texts
pointed_row f table handle = dereference_text (value_form (naming f) (source f) (handles_in f table) handle)

query_has_word : (q : ImageQuery) → is_some (operator_word (query_operator q)) ≡ true
query_has_word (image_query.Size None) = refl
query_has_word (image_query.Size (Some level)) = refl
query_has_word image_query.NumLevels = refl
query_has_word image_query.NumLayers = refl
query_has_word image_query.NumSamples = refl

-- no other expression is written but the result of a statement, which has no value of its own
pub no_value_row : (f : FunctionText) (table : List Availability) (handle : ℕ) → CanWrite f → IsInText f handle →
    (e : ir.Expression) → slice_get (expressions f) handle ≡ Some e → IsNoOther e →
    codes "false" ≡ own_text f table handle
no_value_row f table handle can within e here none =
    sym (own_row f table handle can within
    ∙ (ap (own_at f table handle) here ∙ by e (expression_formed f can handle e here within) none))
  where
    by : (e : ir.Expression) → IsTrue (expression_has_own_form f.known.shader.now f.info.now e) → IsNoOther e →
        own_at f table handle (Some e) ≡ codes "false"
    by (expression.Literal v) is none = absurd (none.literal v refl)
    by (expression.Constant c) is none = absurd (none.constant c refl)
    by (expression.Override o) is none = absurd (none.overridden o refl)
    by (expression.ZeroValue t) is none = absurd (none.zero_value t refl)
    by (expression.Compose t xs) is none = absurd (none.composed t xs refl)
    by (expression.Access b i) is none = absurd (none.element b i refl)
    by (expression.AccessIndex b i) is none = absurd (none.part b i refl)
    by (expression.FunctionArgument n) is none = absurd (none.argument n refl)
    by (expression.GlobalVariable v) is none = absurd (none.global v refl)
    by (expression.LocalVariable v) is none = absurd (none.local_ v refl)
    by (expression.Load p) is none = absurd (none.load p refl)
    by (expression.Unary op x) is none = absurd (none.unary op x refl)
    by (expression.Binary op l r) is none = absurd (none.binary op l r refl)
    by (expression.Swizzle size x pattern) is none = absurd (none.swizzle size x pattern refl)
    by (expression.As x kind convert) is none = absurd (none.converted x kind convert refl)
    by
        (expression.ImageSample
        image sampler gather coordinate array_index offset level depth_ref clamp) is none =
        absurd (none.sampled image sampler gather coordinate array_index offset level depth_ref clamp refl)
    by (expression.CooperativeLoad columns rows role place) is none =
        absurd (none.matrix_load columns rows role place refl)
    by (expression.ImageQuery image query) is none =
        let called = none.called in let has = query_has_word query in cc
    by e is none = let called = none.called in let has : _ ≡ true = is in cc
