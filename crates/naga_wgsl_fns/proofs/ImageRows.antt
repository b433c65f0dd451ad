-- The texts of operations on images, from what is written of them in turn.
-- Serves `expression` and `write_sampling_head`.
use Rattle.std.proofs.Common.{◌≡◌, ℕ, zero, suc, ◌<◌, Bool, true, false, List, [], ◌∷◌, ◌++◌, codes}
use Rattle.std.proofs.Common.{Option, Some, None, refl, sym, ap, ap₂, ◌∙◌, arith, length, map}
use Rattle.std.proofs.Common.{append_assoc, decimal}
use Rattle.std.specs.Prelude.{slice_get, ◌||◌}
use Rattle.std.specs.List.{list_all}
use Rattle.std.specs.Option.{is_some, option_map_or, option_to_list}
use Rattle.std.proofs.lemmas.Bool.{and_parts}
use Rattle.std.proofs.lemmas.List.{append-nil}
use Rattle.module_semantics.specs.ExpressionOperators.{level_of, image_sample_operator}
use Rattle.module_semantics.specs.OperatorTable.{Sample, Splat, if_word, run_word, zero_is_written}
use Rattle.module_semantics.specs.WrittenOut.{is_written_out, written_out_over, written_out_within}
use Rattle.naga_form.specs.ConstantForms.{constant_form_over, constant_form_within}
use Rattle.naga_form.specs.ConstantForms.{no_constant_form, built_form}
use Rattle.naga_form.specs.Expressions.{as_value, constant_form, own_if, own_plain, value_forms}
use Rattle.naga_form.specs.Expressions.{zero_is_whole}
use Rattle.naga_form.specs.Images.{component_number, component_then, gathered_component}
use Rattle.naga_form.specs.Images.{operands_then, sampling_form, sampling_word, zero_then}
use Rattle.naga_form.specs.Operators.{applied_form, notation}
use Rattle.naga_ir.specs.Operands.{expression_operands, level_operands}
use Rattle.naga_ir.specs.declared.expression.Expression as ir
use Rattle.naga_ir.specs.declared.expression.Expression.TheVariants as expression
use Rattle.naga_ir.specs.declared.expression.SampleLevel.{SampleLevel}
use Rattle.naga_ir.specs.declared.expression.SwizzleComponent.{SwizzleComponent}
use Rattle.naga_ir.specs.declared.expression.SwizzleComponent.TheVariants as component
use Rattle.std.specs.Fmt.{digits}
use Rattle.naga_scope.specs.declared.points.Availability.{Availability}
use Rattle.naga_words.specs.Output.{joined_texts}
use Rattle.naga_wgsl_fns.proofs.ExpressionRows.{cell_form}
use Rattle.naga_wgsl_fns.proofs.Preconditions.{all_before}
use Rattle.naga_wgsl_fns.specs.Expressions.{form_at, next_operand_text, own_text, value_text}
use Rattle.naga_wgsl_fns.specs.FunctionText.{CanWrite, context, expressions, naming, source}
use Rattle.naga_wgsl_fns.specs.FunctionText.{type_names_of}
use Rattle.naga_wgsl_fns.specs.Images.{component_text, depths_at, furthers_text, head_text, sampled_word}
use Rattle.naga_wgsl_fns.specs.Images.{level_text, offset_text, zero_text}
use Rattle.naga_wgsl_fns.specs.declared.functions.FunctionText.{FunctionText}
use Rattle.shader_runs.specs.Premises.{AllBelow}
use Rattle.wgsl_text.proofs.Expressions.{argument_text, call_text, next_argument_text}
use Rattle.wgsl_text.proofs.Text.{plain_text}
use Rattle.wgsl_text.proofs.Types.{named_text}
use Rattle.wgsl_text.specs.Expressions.{Argument, Arguments, Call, Expression, NoArguments}
use Rattle.wgsl_text.specs.Expressions.{NumberArgument, more_arguments_pieces}
use Rattle.wgsl_text.specs.Expressions.{operands as arguments_of}
use Rattle.wgsl_text.specs.Reading.{printed_expression}
use Rattle.wgsl_text.specs.Text.{text}
use Rattle.wgsl_text.specs.Types.{Named}

-- ---- constants that are written out
-- Where nothing has a name, what may be written out has the form of a constant.
module _ (f : FunctionText) (can : CanWrite f) where
  parts_same : (part : ℕ → Expression) (may : ℕ → Bool) (h : ℕ) →
      ((x : ℕ) → x < h → may x ≡ true → as_value (form_at f [] x) ≡ part x) → (xs : List ℕ) →
      AllBelow h xs → list_all may xs ≡ true → value_forms (form_at f []) xs ≡ map part xs
  parts_same part may h same [] below is = refl
  parts_same part may h same (x ∷ xs) below is =
      let both = and_parts (may x) (list_all may xs) is in
      ap₂ (λ e es. e ∷ es) (same x below.0 both.0) (parts_same part may h same xs below.1 both.1)

  over_same : (part : ℕ → Expression) (may : ℕ → Bool) (h : ℕ) →
      ((x : ℕ) → x < h → may x ≡ true → as_value (form_at f [] x) ≡ part x) →
      (e : ir.Expression) → AllBelow h (expression_operands e) → written_out_over may e ≡ true →
      as_value (own_plain (naming f) (source f) (form_at f []) e) ≡
      constant_form_over (context f) (type_names_of f) (source f).constant part e
  over_same part may h same (expression.Literal value) below is = refl
  over_same part may h same (expression.ZeroValue ty) below is = refl
  over_same part may h same (expression.Compose ty components) below is =
      ap (built_form (context f) (type_names_of f) ty (length components.items))
      (parts_same part may h same components.items below is)
  over_same part may h same (expression.Splat size value) below is =
      ap (λ e. applied_form (notation None (Splat size)) (e ∷ [])) (same value below.0 is)
  over_same part may h same (expression.Constant handle) below is = refl
  over_same part may h same (expression.Override handle) below is = refl
  over_same part may h same _ below is = absurd cc

  pub constant_same : (levels h : ℕ) → h < length (expressions f) →
      written_out_within levels (expressions f) h ≡ true →
      as_value (form_at f [] h) ≡
      constant_form_within levels (context f) (type_names_of f) (source f).constant
      (expressions f) h
  constant_same zero h lt is = absurd cc
  constant_same (suc levels) h lt is =
      ap as_value (cell_form f [] h can lt)
      ∙ by (slice_get (expressions f) h) refl is (constant_same levels)
    where
      by : (o : Option ir.Expression) → slice_get (expressions f) h ≡ o →
          option_map_or (written_out_over (written_out_within levels (expressions f))) o false ≡ true →
          ((x : ℕ) → x < length (expressions f) →
          written_out_within levels (expressions f) x ≡ true →
          as_value (form_at f [] x) ≡
          constant_form_within levels (context f) (type_names_of f) (source f).constant (expressions f) x) →
          as_value (own_if (naming f) (source f) (form_at f []) o) ≡
          option_map_or
          (constant_form_over (context f) (type_names_of f) (source f).constant
          (constant_form_within levels (context f) (type_names_of f) (source f).constant (expressions f))) o
          no_constant_form
      by None at is each = absurd cc
      by (Some e) at is each =
          over_same (constant_form_within levels (context f) (type_names_of f) (source f).constant (expressions f))
          (written_out_within levels (expressions f)) h
          (λ x below is. each x (omega (arith, below, lt)) is) e
          (all_before f can h e at) is

-- an offset is written as an operand where nothing has a name
pub offset_row : (f : FunctionText) → CanWrite f → (h : ℕ) → h < length (expressions f) →
    is_written_out (expressions f) h ≡ true →
    next_operand_text f [] false h ≡ offset_text f (Some h)
unfolding next_operand_text value_text offset_text
offset_row f can h lt is =
    ap (λ e. codes ", " ++ printed_expression e) (constant_same f can (suc h) h lt is)

pub no_offset : (f : FunctionText) → [] ≡ offset_text f None
unfolding offset_text
no_offset f = refl

-- ---- arguments
-- an operand after others, and several
next_then : (f : FunctionText) (table : List Availability) (h : ℕ) (hs : List ℕ)
    (args : Arguments) →
    text (more_arguments_pieces (operands_then (value_forms (form_at f table) (h ∷ hs)) args)) ≡
    joined_texts (next_operand_text f table false h)
    (text (more_arguments_pieces (operands_then (value_forms (form_at f table) hs) args)))
unfolding next_operand_text value_text joined_texts
next_then f table h hs args =
    next_argument_text (as_value (form_at f table h))
    (operands_then (value_forms (form_at f table) hs) args)

furthers_then : (f : FunctionText) (table : List Availability) (hs ks : List ℕ) (args : Arguments) →
    text (more_arguments_pieces (operands_then (value_forms (form_at f table) (hs ++ ks)) args)) ≡
    joined_texts (furthers_text f table hs)
    (text (more_arguments_pieces (operands_then (value_forms (form_at f table) ks) args)))
unfolding furthers_text joined_texts
furthers_then f table [] ks args = refl
furthers_then f table (h ∷ hs) ks args =
    next_then f table h (hs ++ ks) args
    ∙ (ap (λ w. next_operand_text f table false h ++ w) (furthers_then f table hs ks args)
    ∙ sym
    (append_assoc (next_operand_text f table false h) (furthers_text f table hs)
    (text (more_arguments_pieces (operands_then (value_forms (form_at f table) ks) args)))))

zero_row : (written whole : Bool) (args : Arguments) →
    text (more_arguments_pieces (zero_then written whole args)) ≡
    zero_text written whole ++ text (more_arguments_pieces args)
unfolding digits
zero_row true false args = refl
zero_row true true args = ap (λ v. codes ", " ++ v) (plain_text 0 (more_arguments_pieces args))
zero_row false whole args = refl

level_then : (f : FunctionText) (image : ℕ) (l : SampleLevel) (by_name : Bool)
    (args : Arguments) →
    text
    (more_arguments_pieces
    (zero_then (zero_is_written (level_of l) by_name) (zero_is_whole (source f) image) args)) ≡
    joined_texts (level_text f image l by_name) (text (more_arguments_pieces args))
unfolding joined_texts
level_then f image l by_name args =
    zero_row (zero_is_written (level_of l) by_name) (zero_is_whole (source f) image) args

offset_then : (f : FunctionText) (offset : Option ℕ) →
    text
    (more_arguments_pieces
    (arguments_of (map (constant_form (source f)) (option_to_list offset)))) ≡
    joined_texts (offset_text f offset) (codes ")")
unfolding offset_text joined_texts
offset_then f None = refl
offset_then f (Some h) = next_argument_text (constant_form (source f) h) NoArguments

-- what is written of operands after others
pub furthers_none : (f : FunctionText) (table : List Availability) → [] ≡ furthers_text f table []
unfolding furthers_text
furthers_none f table = refl

pub furthers_one : (f : FunctionText) (table : List Availability) (h : ℕ) →
    next_operand_text f table false h ≡ furthers_text f table (h ∷ [])
unfolding furthers_text
furthers_one f table h = sym (append-nil (next_operand_text f table false h))

pub furthers_two : (f : FunctionText) (table : List Availability) (x y : ℕ) →
    joined_texts (next_operand_text f table false x) (next_operand_text f table false y) ≡
    furthers_text f table (x ∷ y ∷ [])
unfolding furthers_text joined_texts
furthers_two f table x y =
    ap (λ w. next_operand_text f table false x ++ w)
    (sym (append-nil (next_operand_text f table false y)))

-- the word, and in front of the first operand the component of a gather
abbrev number_text : Option ℕ → List ℕ
number_text None = []
number_text (Some n) = decimal n ++ codes ", "

number_row : (c : SwizzleComponent) →
    decimal (component_number c) ++ codes ", " ≡ component_text false (Some c)
unfolding digits
number_row component.X = refl
number_row component.Y = refl
number_row component.Z = refl
number_row component.W = refl

module _ (e : Expression) (args : Arguments) where
  abbrev first : List ℕ
  first = printed_expression e ++ text (more_arguments_pieces args)

  called_then : (w : List ℕ) (number : Option ℕ) →
      printed_expression (Call (Named w) (component_then number (Argument e args))) ≡
      (w ++ (codes "(" ++ number_text number)) ++ first
  called_then w None =
      call_text (Named w) (Argument e args)
      ∙ (ap₂ (λ w v. w ++ (codes "(" ++ v)) (named_text w) (argument_text e args)
      ∙ sym (append_assoc w (codes "(") first))
  called_then w (Some n) =
      call_text (Named w) (NumberArgument n (Argument e args))
      ∙ (ap₂ (λ w v. w ++ (codes "(" ++ v)) (named_text w)
      (plain_text n (more_arguments_pieces (Argument e args))
      ∙ (ap (λ v. decimal n ++ v) (next_argument_text e args)
      ∙ sym (append_assoc (decimal n) (codes ", ") first)))
      ∙ sym (append_assoc w (codes "(" ++ (decimal n ++ codes ", ")) first))

  head_of : (of_depths : Bool) (gather : Option SwizzleComponent) (l : SampleLevel)
      (compares clamped arrayed with_offset : Bool) →
      let op =
      image_sample_operator of_depths gather (level_of l) compares clamped arrayed with_offset in
      printed_expression
      (Call (Named (sampling_word op)) (component_then (gathered_component op) (Argument e args))) ≡
      (sampling_word (image_sample_operator of_depths gather (level_of l) compares clamped false false)
      ++ (codes "(" ++ component_text of_depths gather))
      ++ first
  head_of true None l compares clamped arrayed with_offset =
      called_then (run_word (Sample (level_of l) compares clamped false false)) None
  head_of false None l compares clamped arrayed with_offset =
      called_then (run_word (Sample (level_of l) compares clamped false false)) None
  head_of true (Some c) l compares clamped arrayed with_offset =
      called_then (codes "textureGather" ++ if_word compares (codes "Compare")) None
  head_of false (Some c) l compares clamped arrayed with_offset =
      called_then (codes "textureGather" ++ if_word compares (codes "Compare"))
      (Some (component_number c))
      ∙ ap
      (λ v. ((codes "textureGather" ++ if_word compares (codes "Compare")) ++ (codes "(" ++ v)) ++ first)
      (number_row c)

head_then : (f : FunctionText) (image : ℕ) (gather : Option SwizzleComponent) (l : SampleLevel)
    (compares clamped arrayed with_offset : Bool) (e : Expression) (args : Arguments) →
    let op =
    image_sample_operator (depths_at f image) gather (level_of l) compares clamped arrayed with_offset in
    printed_expression
    (Call (Named (sampling_word op)) (component_then (gathered_component op) (Argument e args))) ≡
    joined_texts (head_text f (sampled_word f image gather l compares clamped) image gather)
    (joined_texts (printed_expression e) (text (more_arguments_pieces args)))
unfolding head_text joined_texts
head_then f image gather l compares clamped arrayed with_offset e args =
    head_of e args (depths_at f image) gather l compares clamped arrayed with_offset

pub head_row : (f : FunctionText) (word : List ℕ) (image : ℕ) (gather : Option SwizzleComponent) →
    head_text f word image gather ≡
    joined_texts word (joined_texts (codes "(") (component_text (depths_at f image) gather))
unfolding head_text joined_texts
head_row f word image gather = refl

-- ---- samplings
-- one in turn, by its word and by the text of its level
abbrev in_turn : (f : FunctionText) (table : List Availability) (image sampler : ℕ)
    (gather : Option SwizzleComponent) (coordinate : ℕ) (array_index offset : Option ℕ)
    (l : SampleLevel) (depth_ref : Option ℕ) (word level : List ℕ) → List ℕ
in_turn f table image sampler gather coordinate array_index offset l depth_ref word level =
    joined_texts (head_text f word image gather)
    (joined_texts (value_text f table image)
    (joined_texts (next_operand_text f table false sampler)
    (joined_texts (next_operand_text f table false coordinate)
    (joined_texts (furthers_text f table (option_to_list array_index))
    (joined_texts (furthers_text f table (option_to_list depth_ref))
    (joined_texts (furthers_text f table (level_operands l))
    (joined_texts level (joined_texts (offset_text f offset) (codes ")")))))))))

pub sampling_row : (f : FunctionText) (table : List Availability) (handle : ℕ) (image sampler : ℕ)
    (gather : Option SwizzleComponent) (coordinate : ℕ) (array_index offset : Option ℕ)
    (l : SampleLevel) (depth_ref : Option ℕ) (clamp : Bool) →
    slice_get (expressions f) handle ≡
    Some
    (expression.ImageSample image sampler gather coordinate array_index offset l depth_ref clamp) →
    own_text f table handle ≡
    in_turn f table image sampler gather coordinate array_index offset l depth_ref
    (sampled_word f image gather l (is_some depth_ref) clamp)
    (level_text f image l (is_some gather || (is_some depth_ref || clamp)))
unfolding own_text value_text
sampling_row f table handle image sampler gather coordinate array_index offset l depth_ref clamp at =
    let form = form_at f table in
    let a = option_to_list array_index in
    let d = option_to_list depth_ref in
    let in_word = is_some gather || (is_some depth_ref || clamp) in
    let offsets = arguments_of (map (constant_form (source f)) (option_to_list offset)) in
    let whole = zero_is_whole (source f) image in
    let last = zero_then (zero_is_written (level_of l) in_word) whole offsets in
    let following = a ++ (d ++ (level_operands l ++ [])) in
    let word = is_some depth_ref in
    let op =
    image_sample_operator (depths_at f image) gather (level_of l) word clamp (is_some array_index)
    (is_some offset) in
    ap (λ o. printed_expression (as_value (own_if (naming f) (source f) form o))) at
    ∙ (ap
    (λ hs. printed_expression
    (sampling_form op (zero_is_written (level_of l) in_word) whole
    (value_forms form (image ∷ sampler ∷ coordinate ∷ hs))
    (map (constant_form (source f)) (option_to_list offset))))
    (append_assoc (a ++ d) (level_operands l) [] ∙ append_assoc a d (level_operands l ++ []))
    ∙ (head_then f image gather l word clamp (is_some array_index) (is_some offset)
    (as_value (form image))
    (operands_then (value_forms form (sampler ∷ coordinate ∷ following)) last)
    ∙ ap
    (λ w. joined_texts (head_text f (sampled_word f image gather l (is_some depth_ref) clamp) image gather)
    (joined_texts (printed_expression (as_value (form image))) w))
    (next_then f table sampler (coordinate ∷ following) last
    ∙ ap (joined_texts (next_operand_text f table false sampler))
    (next_then f table coordinate following last
    ∙ ap (joined_texts (next_operand_text f table false coordinate))
    (furthers_then f table a (d ++ (level_operands l ++ [])) last
    ∙ ap (joined_texts (furthers_text f table a))
    (furthers_then f table d (level_operands l ++ []) last
    ∙ ap (joined_texts (furthers_text f table d))
    (furthers_then f table (level_operands l) [] last
    ∙ ap (joined_texts (furthers_text f table (level_operands l)))
    (level_then f image l in_word offsets
    ∙ ap (joined_texts (level_text f image l in_word)) (offset_then f offset)))))))))

-- the same from what is written, where whether something is compared, and the text of the level, are
-- said in another way
pub sampling_whole : (f : FunctionText) (table : List Availability) (handle : ℕ) (image sampler : ℕ)
    (gather : Option SwizzleComponent) (coordinate : ℕ) (array_index offset : Option ℕ)
    (l : SampleLevel) (depth_ref : Option ℕ) (clamp : Bool) →
    slice_get (expressions f) handle ≡
    Some
    (expression.ImageSample image sampler gather coordinate array_index offset l depth_ref clamp) →
    (compares : Bool) → compares ≡ is_some depth_ref → (word : List ℕ) →
    word ≡ sampled_word f image gather l compares clamp → (w : List ℕ) →
    w ≡ level_text f image l (is_some gather || (compares || clamp)) →
    in_turn f table image sampler gather coordinate array_index offset l depth_ref word w ≡
    own_text f table handle
sampling_whole f table handle image sampler gather coordinate array_index offset l depth_ref clamp at
    compares is word word_is w level_is =
    ap₂
    (λ word w. in_turn f table image sampler gather coordinate array_index offset l depth_ref word w)
    (word_is ∙ ap (λ b. sampled_word f image gather l b clamp) is)
    (level_is ∙ ap (λ b. level_text f image l (is_some gather || (b || clamp))) is)
    ∙ sym
    (sampling_row f table handle image sampler gather coordinate array_index offset l depth_ref clamp
    at)
