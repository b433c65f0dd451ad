-- The texts of samplings of images.
use Rattle.std.specs.Prelude.{ℕ, Bool, true, false, List, [], ◌∷◌, ◌++◌, codes}
use Rattle.std.specs.Prelude.{Option, Some, None}
use Rattle.std.specs.Option.{option_map_or}
use Rattle.module_semantics.specs.ExpressionOperators.{is_depth_image, level_of, image_sample_operator}
use Rattle.module_semantics.specs.ExpressionOperators.{type_known}
use Rattle.module_semantics.specs.OperatorTable.{zero_is_written}
use Rattle.naga_form.specs.Expressions.{constant_form, zero_is_whole}
use Rattle.naga_form.specs.Images.{sampling_word}
use Rattle.naga_ir.specs.declared.expression.Expression as ir
use Rattle.naga_ir.specs.declared.expression.Expression.TheVariants as expression
use Rattle.naga_ir.specs.declared.expression.SampleLevel.{SampleLevel}
use Rattle.naga_ir.specs.declared.expression.SwizzleComponent.{SwizzleComponent}
use Rattle.naga_ir.specs.declared.expression.SwizzleComponent.TheVariants as component
use Rattle.naga_scope.specs.declared.points.Availability.{Availability}
use Rattle.naga_wgsl_fns.specs.Expressions.{next_operand_text}
use Rattle.naga_wgsl_fns.specs.FunctionText.{context, source}
use Rattle.naga_wgsl_fns.specs.declared.functions.FunctionText.{FunctionText}
use Rattle.wgsl_text.specs.Reading.{printed_expression}

-- the expression is a sampling
abbrev pub is_sampled : Option ir.Expression → Bool
is_sampled
    (Some
    (expression.ImageSample
    image sampler gather coordinate array_index offset level depth_ref clamp)) =
    true
is_sampled _ = false

-- the expression with this handle is an image of depths
abbrev pub depths_at : FunctionText → (image : ℕ) → Bool
depths_at f image = option_map_or is_depth_image (type_known (context f) image) false

-- the component of a gather, in front of its operands
abbrev pub component_text : (of_depths : Bool) → Option SwizzleComponent → List ℕ
component_text false (Some component.X) = codes "0, "
component_text false (Some component.Y) = codes "1, "
component_text false (Some component.Z) = codes "2, "
component_text false (Some component.W) = codes "3, "
component_text _ _ = []

-- what stands in front of the operands, with this word
unfoldable pub head_text : FunctionText → (word : List ℕ) → (image : ℕ) →
    (gather : Option SwizzleComponent) → List ℕ
head_text f word image gather = word ++ (codes "(" ++ component_text (depths_at f image) gather)

-- the word
abbrev pub sampled_word : FunctionText → (image : ℕ) → (gather : Option SwizzleComponent) →
    SampleLevel → (compares clamped : Bool) → List ℕ
sampled_word f image gather level compares clamped =
    sampling_word
    (image_sample_operator (depths_at f image) gather (level_of level) compares clamped false false)

-- operands after others
unfoldable pub furthers_text : FunctionText → (table : List Availability) → List ℕ → List ℕ
furthers_text f table [] = []
furthers_text f table (h ∷ hs) = next_operand_text f table false h ++ furthers_text f table hs

-- level zero, where it is written, with a point or whole
abbrev pub zero_text : (written whole : Bool) → List ℕ
zero_text true false = codes ", 0.0"
zero_text true true = codes ", 0"
zero_text false whole = []

abbrev pub level_text : FunctionText → (image : ℕ) → SampleLevel → (by_name : Bool) → List ℕ
level_text f image level by_name =
    zero_text (zero_is_written (level_of level) by_name) (zero_is_whole (source f) image)

-- an offset, as a constant
unfoldable pub offset_text : FunctionText → (offset : Option ℕ) → List ℕ
offset_text f None = []
offset_text f (Some h) = codes ", " ++ printed_expression (constant_form (source f) h)
