-- How an image is sampled: what is read of the form of a sampling, and that it is of the grammar.
--
-- Throughout, es are forms of operands, offset is that of an offset, if there is one, and args are
-- the arguments of a call.
use Rattle.std.proofs.Common.{◌≡◌, ℕ, ◌<◌, Bool, true, false, List, [], ◌∷◌, ◌++◌, codes, Option}
use Rattle.std.proofs.Common.{Some, None, refl, sym, ap, ◌∙◌, subst, arith}
use Rattle.std.specs.Fmt.{digits}
use Rattle.std.specs.Prelude.{decimal, ◌||◌}
use Rattle.std.specs.List.{AllByRecursion}
use Rattle.std.specs.Option.{is_some, option_to_list}
use Rattle.module_semantics.specs.ExpressionOperators.{level_of, image_sample_operator}
use Rattle.module_semantics.specs.ExpressionShapes.{trees, written_zero}
use Rattle.module_semantics.specs.OperatorTable.{Gather, Level, Sample, run_word, image_sample_word}
use Rattle.module_semantics.specs.OperatorTable.{Automatic, Biased, Exact, Graded, Zero}
use Rattle.module_semantics.specs.OperatorTable.{zero_is_written}
use Rattle.module_semantics.specs.Sampling.{sampling_has_form}
use Rattle.naga_form.proofs.operators.CalledWords.{callee_of}
use Rattle.naga_form.proofs.operators.Operators.{AllReadLike}
use Rattle.naga_form.proofs.statements.WrittenHandles.{all_rest}
use Rattle.naga_form.specs.Expressions.{PlainForm, as_value, value_forms}
use Rattle.naga_form.specs.Images.{component_then, gathered_component, operands_then, sampling_form}
use Rattle.naga_form.specs.Images.{component_number, sampling_word, zero_then}
use Rattle.naga_ir.specs.declared.expression.SampleLevel.{SampleLevel}
use Rattle.naga_ir.specs.declared.expression.SampleLevel.TheVariants as level
use Rattle.naga_ir.specs.declared.expression.SwizzleComponent.{SwizzleComponent}
use Rattle.naga_ir.specs.declared.expression.SwizzleComponent.TheVariants as component
use Rattle.shader_runs.specs.Form as runs
use Rattle.shader_runs.specs.Form.{constant_forms}
use Rattle.shader_runs.specs.Program.{ConstantTree}
use Rattle.shader_runs.specs.Scope.{ModuleNames}
use Rattle.shader_runs.specs.Text.{Apply, LiteralOf, more}
use Rattle.shader_runs.specs.Value.{Opaque}
use Rattle.text_semantics.specs.Abstraction.{arguments_read, called_word, expression_read}
use Rattle.wgsl_text.proofs.Building.{called_words}
use Rattle.wgsl_text.proofs.Types.{named_text}
use Rattle.wgsl_text.specs.Expressions.{Argument, Arguments, Call, Expression, IsCallee}
use Rattle.wgsl_text.specs.Expressions.{IsExpression, ZeroArgument, operands, operands_with_level}
use Rattle.wgsl_text.specs.Functions.{Each}
use Rattle.wgsl_text.specs.Keywords.{builtin_words}
use Rattle.wgsl_text.specs.Reading.{printed_type}
use Rattle.wgsl_text.specs.Types.{Named}
use Rattle.wgsl_text.specs.Words.{is_builtin}

-- ---- operands
-- those that are written by their handles, and the offset
map_rest : (P : ℕ → Type 0) (xs ys zs : List ℕ) → (AllByRecursion P ys → AllByRecursion P zs) →
    AllByRecursion P (xs ++ ys) → AllByRecursion P (xs ++ zs)
map_rest P [] ys zs f all = f all
map_rest P (x ∷ xs) ys zs f all = (all.0, map_rest P xs ys zs f all.1)

pub without_offset : (P : ℕ → Type 0) (image sampler coordinate : ℕ)
    (array depth level offset : List ℕ) →
    AllByRecursion P (image ∷ sampler ∷ coordinate ∷ array ++ depth ++ level ++ offset) →
    AllByRecursion P (image ∷ sampler ∷ coordinate ∷ array ++ depth ++ level ++ [])
without_offset P image sampler coordinate array depth level offset all = (
  all.0,
  (all.1.0, (all.1.1.0, map_rest P (array ++ depth ++ level) offset [] (λ w. tt) all.1.1.1)),
)

pub offset_alone : (P : ℕ → Type 0) (image sampler coordinate : ℕ)
    (array depth level offset : List ℕ) →
    AllByRecursion P (image ∷ sampler ∷ coordinate ∷ array ++ depth ++ level ++ offset) →
    AllByRecursion P offset
offset_alone P image sampler coordinate array depth level offset all =
    all_rest P (array ++ depth ++ level) offset all.1.1.1

-- ---- words
with_number : (w : List ℕ) (n : ℕ) →
    printed_type (Named w) ++ (codes " " ++ decimal n) ≡ w ++ (codes " " ++ decimal n)
with_number w n = ap (λ v. v ++ (codes " " ++ decimal n)) (named_text w)

-- Of a gather the component belongs to the word that is read. What is sampled has operands, so that
-- an argument is the first.
gather_read : (c : SwizzleComponent) (l : SampleLevel) (compares clamped arrayed offset : Bool) →
    sampling_has_form (Some c) l compares clamped ≡ true → (of_depths : Bool) →
    (e : Expression) (args : Arguments) →
    let op = image_sample_operator of_depths (Some c) (level_of l) compares clamped arrayed offset in
    called_word (Named (sampling_word op)) (component_then (gathered_component op) (Argument e args)) ≡
    run_word op
unfolding digits
gather_read c level.Auto true false arrayed offset is true e args = named_text _
gather_read c level.Auto false false arrayed offset is true e args = named_text _
gather_read c level.Zero true false arrayed offset is true e args = named_text _
gather_read c level.Zero false false arrayed offset is true e args = named_text _
gather_read component.X level.Auto true false arrayed offset is false e args =
    with_number (codes "textureGatherCompare") 0
gather_read component.Y level.Auto true false arrayed offset is false e args =
    with_number (codes "textureGatherCompare") 1
gather_read component.Z level.Auto true false arrayed offset is false e args =
    with_number (codes "textureGatherCompare") 2
gather_read component.W level.Auto true false arrayed offset is false e args =
    with_number (codes "textureGatherCompare") 3
gather_read component.X level.Auto false false arrayed offset is false e args =
    with_number (codes "textureGather") 0
gather_read component.Y level.Auto false false arrayed offset is false e args =
    with_number (codes "textureGather") 1
gather_read component.Z level.Auto false false arrayed offset is false e args =
    with_number (codes "textureGather") 2
gather_read component.W level.Auto false false arrayed offset is false e args =
    with_number (codes "textureGather") 3
gather_read component.X level.Zero true false arrayed offset is false e args =
    with_number (codes "textureGatherCompare") 0
gather_read component.Y level.Zero true false arrayed offset is false e args =
    with_number (codes "textureGatherCompare") 1
gather_read component.Z level.Zero true false arrayed offset is false e args =
    with_number (codes "textureGatherCompare") 2
gather_read component.W level.Zero true false arrayed offset is false e args =
    with_number (codes "textureGatherCompare") 3
gather_read component.X level.Zero false false arrayed offset is false e args =
    with_number (codes "textureGather") 0
gather_read component.Y level.Zero false false arrayed offset is false e args =
    with_number (codes "textureGather") 1
gather_read component.Z level.Zero false false arrayed offset is false e args =
    with_number (codes "textureGather") 2
gather_read component.W level.Zero false false arrayed offset is false e args =
    with_number (codes "textureGather") 3
gather_read c _ compares clamped arrayed offset is of_depths e args = absurd cc

word_read : (gather : Option SwizzleComponent) (l : SampleLevel)
    (compares clamped arrayed offset of_depths : Bool) →
    sampling_has_form gather l compares clamped ≡ true → (e : Expression) (args : Arguments) →
    let op = image_sample_operator of_depths gather (level_of l) compares clamped arrayed offset in
    called_word (Named (sampling_word op)) (component_then (gathered_component op) (Argument e args)) ≡
    run_word op
word_read None l compares clamped arrayed offset of_depths is e args = named_text _
word_read (Some c) l compares clamped arrayed offset of_depths is e args =
    gather_read c l compares clamped arrayed offset is of_depths e args

-- ---- what is read
component_read : (number : Option ℕ) (args : Arguments) →
    arguments_read (component_then number args) ≡ arguments_read args
component_read None args = refl
component_read (Some number) args = refl

module _ (operand : ℕ → PlainForm) (like : ℕ → runs.Plain) (outer : ModuleNames) where
  operands_read : (hs : List ℕ) → AllReadLike operand like hs → (args : Arguments) →
      arguments_read (operands_then (value_forms operand hs) args) ≡
      runs.value_forms_then like hs (arguments_read args)
  operands_read [] same args = refl
  operands_read (h ∷ hs) same args = λ i. more (same.0 i) (operands_read hs same.1 args i)

  -- level zero, where it is written, and an offset are the constants after the operands
  after_read : (l : SampleLevel) (unwritten whole : Bool) (offset : List Expression)
      (c : Option ConstantTree) →
      arguments_read (operands offset) ≡ constant_forms outer (trees (option_to_list c)) →
      arguments_read (zero_then (zero_is_written (level_of l) unwritten) whole (operands offset)) ≡
      constant_forms outer (trees (written_zero l unwritten ++ option_to_list c))
  after_read level.Zero false whole offset c same =
      ap (more (LiteralOf (Opaque (codes "f32") 0))) same
  after_read level.Zero true whole offset c same = same
  after_read _ unwritten whole offset c same = same

  -- a sampling is read as its operator over its operands and constants
  pub sampling_read : (gather : Option SwizzleComponent) (l : SampleLevel)
      (compares clamped arrayed with_offset of_depths unwritten whole : Bool) →
      sampling_has_form gather l compares clamped ≡ true → (h : ℕ) (hs : List ℕ) →
      AllReadLike operand like (h ∷ hs) → (offset : List Expression) (c : Option ConstantTree) →
      arguments_read (operands offset) ≡ constant_forms outer (trees (option_to_list c)) →
      let op = image_sample_operator of_depths gather (level_of l) compares clamped arrayed with_offset in
      expression_read
      (sampling_form op (zero_is_written (level_of l) unwritten) whole
      (value_forms operand (h ∷ hs)) offset) ≡
      Apply (run_word op)
      (runs.value_forms_then like (h ∷ hs)
      (constant_forms outer (trees (written_zero l unwritten ++ option_to_list c))))
  sampling_read gather l compares clamped arrayed with_offset of_depths unwritten whole is h hs same
      offset c following =
      let op = image_sample_operator of_depths gather (level_of l) compares clamped arrayed with_offset in
      let last = zero_then (zero_is_written (level_of l) unwritten) whole (operands offset) in
      let args = operands_then (value_forms operand (h ∷ hs)) last in
      λ i. Apply
      (word_read gather l compares clamped arrayed with_offset of_depths is (as_value (operand h))
      (operands_then (value_forms operand hs) last) i)
      ((component_read (gathered_component op) args
      ∙ (operands_read (h ∷ hs) same last
      ∙ ap (runs.value_forms_then like (h ∷ hs)) (after_read l unwritten whole offset c following))) i)

-- ---- what is of the grammar
then_operands : (es offset : List Expression) →
    operands (es ++ offset) ≡ operands_then es (operands offset)
then_operands [] offset = refl
then_operands (e ∷ es) offset = ap (Argument e) (then_operands es offset)

then_level : (whole : Bool) (es offset : List Expression) →
    operands_with_level whole es offset ≡ operands_then es (ZeroArgument whole (operands offset))
then_level whole [] offset = refl
then_level whole (e ∷ es) offset = ap (Argument e) (then_level whole es offset)

each_both : (es offset : List Expression) → Each IsExpression es → Each IsExpression offset →
    Each IsExpression (es ++ offset)
each_both [] offset are all = all
each_both (e ∷ es) offset are all = (are.0, each_both es offset are.1 all)

low : (c : SwizzleComponent) → component_number c < 4
low component.X = omega arith
low _ = omega arith

module _ (e : Expression) (es offset : List Expression) (are : Each IsExpression (e ∷ es))
    (last : Each IsExpression offset) where
  -- a word with operands, and after them an offset
  plain_is : (w : List ℕ) → IsCallee (Named w) →
      IsExpression (Call (Named w) (operands_then (e ∷ es) (operands offset)))
  plain_is w callee =
      subst (λ args. IsExpression (Call (Named w) args)) (then_operands (e ∷ es) offset)
      (called_words.expression (Named w) ((e ∷ es) ++ offset) callee
      (each_both (e ∷ es) offset are last))

  gather_is : (compares : Bool) (c : SwizzleComponent) (l : Level) (clamped arrayed with_offset whole : Bool) →
      let op = Gather (Some c) l compares clamped arrayed with_offset in
      IsExpression (sampling_form op false whole (e ∷ es) offset)
  gather_is true c l clamped arrayed with_offset whole =
      subst
      (λ args. IsExpression
      (Call (Named (codes "textureGatherCompare")) (component_then (Some (component_number c)) args)))
      (then_operands (e ∷ es) offset)
      (called_words.gather (codes "textureGatherCompare") (component_number c) e (es ++ offset) refl
      (low c) (each_both (e ∷ es) offset are last))
  gather_is false c l clamped arrayed with_offset whole =
      subst
      (λ args. IsExpression
      (Call (Named (codes "textureGather")) (component_then (Some (component_number c)) args)))
      (then_operands (e ∷ es) offset)
      (called_words.gather (codes "textureGather") (component_number c) e (es ++ offset) refl
      (low c) (each_both (e ∷ es) offset are last))

  depths_is : (compares : Bool) (l : Level) (clamped arrayed with_offset whole : Bool) →
      let op = Gather None l compares clamped arrayed with_offset in
      IsExpression (sampling_form op false whole (e ∷ es) offset)
  unfolding is_builtin builtin_words
  depths_is true l clamped arrayed with_offset whole =
      plain_is (codes "textureGatherCompare") (callee_of (codes "textureGatherCompare") refl)
  depths_is false l clamped arrayed with_offset whole =
      plain_is (codes "textureGather") (callee_of (codes "textureGather") refl)

  level_is : (arrayed with_offset whole : Bool) →
      IsExpression
      (sampling_form (Sample Zero false false arrayed with_offset) true whole (e ∷ es) offset)
  level_is arrayed with_offset whole =
      subst (λ args. IsExpression (Call (Named (codes "textureSampleLevel")) args))
      (then_level whole (e ∷ es) offset)
      (called_words.level whole (codes "textureSampleLevel") e es offset refl are last)

  word_called : (l : Level) (compares clamped arrayed with_offset : Bool) →
      is_some (image_sample_word l compares clamped) ≡ true →
      IsCallee (Named (run_word (Sample l compares clamped arrayed with_offset)))
  unfolding is_builtin builtin_words
  word_called Automatic true false arrayed with_offset is =
      callee_of (codes "textureSampleCompare") refl
  word_called Automatic false false arrayed with_offset is = callee_of (codes "textureSample") refl
  word_called Zero true false arrayed with_offset is =
      callee_of (codes "textureSampleCompareLevel") refl
  word_called Zero false false arrayed with_offset is = callee_of (codes "textureSampleLevel") refl
  word_called Zero false true arrayed with_offset is =
      callee_of (codes "textureSampleBaseClampToEdge") refl
  word_called Zero true true arrayed with_offset is = absurd cc
  word_called Exact true false arrayed with_offset is =
      callee_of (codes "textureSampleCompareLevel") refl
  word_called Exact false false arrayed with_offset is = callee_of (codes "textureSampleLevel") refl
  word_called Biased true false arrayed with_offset is =
      callee_of (codes "textureSampleCompareBias") refl
  word_called Biased false false arrayed with_offset is = callee_of (codes "textureSampleBias") refl
  word_called Graded true false arrayed with_offset is =
      callee_of (codes "textureSampleCompareGrad") refl
  word_called Graded false false arrayed with_offset is = callee_of (codes "textureSampleGrad") refl
  word_called _ compares true arrayed with_offset is = absurd cc

  sample_is : (l : Level) (compares clamped arrayed with_offset whole : Bool) →
      is_some (image_sample_word l compares clamped) ≡ true →
      IsExpression
      (sampling_form (Sample l compares clamped arrayed with_offset) false whole (e ∷ es) offset)
  sample_is l compares clamped arrayed with_offset whole is =
      plain_is (run_word (Sample l compares clamped arrayed with_offset))
      (word_called l compares clamped arrayed with_offset is)

  none_gathered : (l : SampleLevel) → zero_is_written (level_of l) true ≡ false
  none_gathered level.Zero = refl
  none_gathered _ = refl

  -- the level is written just where `textureSampleLevel` takes it
  by_level : (l : SampleLevel) (compares clamped arrayed with_offset whole : Bool) →
      is_some (image_sample_word (level_of l) compares clamped) ≡ true →
      IsExpression
      (sampling_form (Sample (level_of l) compares clamped arrayed with_offset)
      (zero_is_written (level_of l) (compares || clamped)) whole (e ∷ es) offset)
  by_level level.Zero false false arrayed with_offset whole is = level_is arrayed with_offset whole
  by_level level.Zero false true arrayed with_offset whole is =
      sample_is Zero false true arrayed with_offset whole is
  by_level level.Zero true clamped arrayed with_offset whole is =
      sample_is Zero true clamped arrayed with_offset whole is
  by_level level.Auto compares clamped arrayed with_offset whole is =
      sample_is Automatic compares clamped arrayed with_offset whole is
  by_level (level.Exact x) compares clamped arrayed with_offset whole is =
      sample_is Exact compares clamped arrayed with_offset whole is
  by_level (level.Bias x) compares clamped arrayed with_offset whole is =
      sample_is Biased compares clamped arrayed with_offset whole is
  by_level (level.Gradient x y) compares clamped arrayed with_offset whole is =
      sample_is Graded compares clamped arrayed with_offset whole is

  -- a sampling that has a form is of the grammar
  pub sampling_is : (gather : Option SwizzleComponent) (l : SampleLevel)
      (compares clamped arrayed with_offset of_depths whole : Bool) →
      sampling_has_form gather l compares clamped ≡ true →
      IsExpression
      (sampling_form
      (image_sample_operator of_depths gather (level_of l) compares clamped arrayed with_offset)
      (zero_is_written (level_of l) (is_some gather || (compares || clamped))) whole (e ∷ es)
      offset)
  sampling_is None l compares clamped arrayed with_offset of_depths whole is =
      by_level l compares clamped arrayed with_offset whole is
  sampling_is (Some c) l compares clamped arrayed with_offset true whole is =
      subst
      (λ b. IsExpression
      (sampling_form (Gather None (level_of l) compares clamped arrayed with_offset) b whole (e ∷ es)
      offset))
      (sym (none_gathered l)) (depths_is compares (level_of l) clamped arrayed with_offset whole)
  sampling_is (Some c) l compares clamped arrayed with_offset false whole is =
      subst
      (λ b. IsExpression
      (sampling_form (Gather (Some c) (level_of l) compares clamped arrayed with_offset) b whole
      (e ∷ es) offset))
      (sym (none_gathered l)) (gather_is compares c (level_of l) clamped arrayed with_offset whole)
