-- The words of the program of shapes of a module whose types are counted: no name hides one, where
-- names are free, and each that asks is a request.
use Rattle.std.proofs.Common.{◌≡◌, ℕ, zero, suc, ◌+◌, Bool, true, false, ◌||◌, List, [], ◌∷◌}
use Rattle.std.proofs.Common.{Option, Some, None, refl, ◌∙◌}
use Rattle.std.specs.Prelude.{slice_get, if◌then◌else◌}
use Rattle.std.specs.Option.{option_and_then, option_to_list, is_some}
use Rattle.naga_ir.specs.Operands.{expression_operands}
use Rattle.naga_ir.specs.declared.expression.Expression as ir
use Rattle.naga_ir.specs.declared.expression.Expression.TheVariants as expression
use Rattle.naga_ir.specs.declared.module.Constant as ir_constant
use Rattle.naga_ir.specs.declared.module.Function as ir_function
use Rattle.naga_ir.specs.declared.module.Module.{Module}
use Rattle.naga_info.specs.declared.info.ExpressionInfo.{ExpressionInfo}
use Rattle.naga_info.specs.declared.info.ModuleInfo.{ModuleInfo}
use Rattle.naga_info.specs.declared.info.TypeResolution.{TypeResolution}
use Rattle.naga_info.specs.declared.info.TypeResolution.TheVariants.{Handle}
use Rattle.naga_info.proofs.Options.{then_some}
use Rattle.module_semantics.specs.ExpressionOperators.{applied_operator, constructor, load_operator}
use Rattle.module_semantics.specs.ExpressionOperators.{level_of}
use Rattle.module_semantics.specs.ExpressionShapes.{built, constant_tree, applied_shape, applied_or}
use Rattle.module_semantics.specs.ExpressionShapes.{part_shape, part_selector, shape_of}
use Rattle.module_semantics.specs.FunctionShapes.{function_shape, shapes_from}
use Rattle.module_semantics.specs.ModuleShapes.{initialiser}
use Rattle.module_semantics.specs.OperatorTable.{Operator, WithoutForm, PartAt, run_word, asks}
use Rattle.module_semantics.specs.OperatorTable.{TypeIsSound}
use Rattle.module_semantics.specs.Shapes.{operator_shape}
use Rattle.module_semantics.specs.ExpressionContexts.{declared, types_known, written_constant}
use Rattle.module_semantics.specs.ExpressionContexts.{expression_context}
use Rattle.module_semantics.proofs.ExpressionShapes.{constructor_asks}
use Rattle.module_semantics.proofs.Shapes.{operator_any}
use Rattle.shader_runs.specs.Program as shapes
use Rattle.shader_runs.specs.Program.{Expression, Constant, Load, Request, Result, no_constant}
use Rattle.shader_runs.specs.Program.{expression_of}
use Rattle.shader_runs.specs.Scope.{Naming}
use Rattle.shader_runs.specs.Premises.{EachWord, WordFits, OperatesBy, AsksBy, OperatesOutside}
use Rattle.shader_runs.specs.Value.{Selector}
use Rattle.naga_form.proofs.names.FreeNames.{free_names, freely_named, asks_freely, operates_freely}
use Rattle.naga_form.proofs.names.FreeNames.{operates_outside}
use Rattle.naga_form.proofs.names.FreeWords.{free_request, word_is_distinguished}
use Rattle.naga_form.proofs.types.SameValues.{TypesAreCounted}
use Rattle.naga_form.proofs.operators.SoundOperators.{constructor_is_sound, atomic_is_sound}
use Rattle.naga_form.proofs.operators.SoundOperators.{sampling_is_sound, applied_is_sound}
use Rattle.naga_form.proofs.operators.TreeWords.{constant_words, initialiser_words, levels_words}
use Rattle.naga_form.proofs.operators.TreeWords.{offset_words, or_false_words, written_words}
use Rattle.naga_form.proofs.operators.TreeWords.{zero_words}

-- ---- expressions
-- in a function of a program of shapes, after so many others
module _ (m : Module) (info : ModuleInfo) (are : TypesAreCounted m) (p : shapes.Module) (f : shapes.Function)
    (earlier : ℕ) where
  abbrev own : Naming
  own = freely_named free_request earlier f

  pub operator_operates : (o : Operator) → TypeIsSound o → asks o ≡ false → OperatesBy p own (run_word o)
  operator_operates o is none =
      let distinguished = word_is_distinguished o is in
      operates_freely free_request p earlier f (run_word o) distinguished.free (distinguished.asking ∙ none)

  pub operator_asks : (o : Operator) → TypeIsSound o → asks o ≡ true → AsksBy p own (run_word o)
  operator_asks o is does =
      let distinguished = word_is_distinguished o is in
      asks_freely free_request p earlier f (run_word o) distinguished.free (distinguished.asking ∙ does)

  -- values made of a type, and of one value
  made_operates : (ty n : ℕ) →
      OperatesBy p own (run_word (constructor (expression_context m (λ h. None)) (Handle ty) n))
  made_operates ty n = operator_operates _ (constructor_is_sound m are (λ h. None) ty n)
      (constructor_asks (expression_context m (λ h. None)) (Handle ty) n)

  applied_operates : (known : ℕ → Option TypeResolution) (e : ir.Expression) (o : Operator) →
      applied_operator (expression_context m known) e ≡ Some o → asks o ≡ false →
      OperatesBy p own (run_word o)
  applied_operates known e o is silent = operator_operates o (applied_is_sound m are known e o is) silent

  applied_words : (o : Operator) → TypeIsSound o → (xs : List ℕ) → WordFits p own (Some (applied_shape o xs))
  applied_words o is xs = by (asks o) refl
    where
      by : (b : Bool) → asks o ≡ b →
          WordFits p own (Some (if b then Request (run_word o) xs no_constant else operator_shape o xs))
      by true does = (operator_asks o is does, tt)
      by false none = operator_any (λ e. WordFits p own (Some e)) o xs (λ j l r. tt) (operator_operates o is none)

  applied_or_words : (otherwise : Expression) → WordFits p own (Some otherwise) →
      (xs : List ℕ) (o : Option Operator) → ((x : Operator) → o ≡ Some x → TypeIsSound x) →
      WordFits p own (Some (applied_or otherwise xs o))
  applied_or_words otherwise other xs None sound = other
  applied_or_words otherwise other xs (Some o) sound = applied_words o (sound o refl) xs

  pub shape_words : (known : ℕ → Option TypeResolution) (es : List ir.Expression) (h : ℕ) (e : ir.Expression) →
      WordFits p own (Some (shape_of (declared m info known) es h e))
  shape_words known es h (expression.Literal value) = tt
  shape_words known es h (expression.Constant handle) =
      or_false_words m info (OperatesBy p own) made_operates applied_operates (written_constant m info handle)
      (constant_words m info (OperatesBy p own) made_operates applied_operates handle)
  shape_words known es h (expression.Override handle) = tt
  shape_words known es h (expression.ZeroValue ty) =
      let d = declared m info known in
      or_false_words m info (OperatesBy p own) made_operates applied_operates
      (built d h (constructor d.context (Handle ty) 0) [])
      (zero_words m info (OperatesBy p own) made_operates applied_operates known h ty)
  shape_words known es h (expression.AccessIndex base index) = by (part_selector (declared m info known) base index)
    where
      by : (s : Option Selector) → WordFits p own (Some (part_shape base index s))
      by (Some s) = tt
      by None = applied_words (WithoutForm (PartAt index)) tt (base ∷ [])
  shape_words known es h (expression.Load pointer) =
      let d = declared m info known in
      applied_or_words (Load pointer) tt (pointer ∷ []) (load_operator d.context pointer)
      (atomic_is_sound m are known pointer)
  shape_words known es h (expression.ImageSample image sampler gather coordinate array_index offset l depth_ref clamp) =
      let d = declared m info known in
      let unwritten = is_some gather || (is_some depth_ref || clamp) in
      let written = option_and_then (constant_tree d es) offset in
      let is = sampling_is_sound m are known _ gather (level_of l) (is_some depth_ref) clamp
      (is_some array_index) (is_some offset) in (
        operator_asks _ is.0 is.1,
        levels_words m info (OperatesBy p own) made_operates applied_operates l unwritten (option_to_list written)
            (offset_words m info (OperatesBy p own) made_operates applied_operates written
            (λ t e. let x = then_some (constant_tree d es) offset t e in written_words m info
            (OperatesBy p own) made_operates applied_operates known es x.0 t x.2)),
      )
  shape_words known es h (expression.Access base index) = tt
  shape_words known es h (expression.Swizzle size vector pattern) = tt
  shape_words known es h (expression.FunctionArgument number) = tt
  shape_words known es h (expression.GlobalVariable handle) = tt
  shape_words known es h (expression.LocalVariable handle) = tt
  shape_words known es h e =
      let d = declared m info known in
      applied_or_words Result tt (expression_operands e) (applied_operator d.context e) (applied_is_sound m are known e)

  -- in a list of shapes
  shapes_words : (known : ℕ → Option TypeResolution) (all : List ir.Expression) (n : ℕ)
      (es : List ir.Expression) (h : ℕ) → WordFits p own (slice_get (shapes_from (declared m info known) all n es) h)
  shapes_words known all n [] h = tt
  shapes_words known all n (e ∷ es) zero = shape_words known all n e
  shapes_words known all n (e ∷ es) (suc h) = shapes_words known all (n + 1) es h

-- in a function of the module, whatever its body is
pub function_words : (m : Module) (info : ModuleInfo) → TypesAreCounted m →
    (p : shapes.Module) (f : ir_function.Function) (es : List ExpressionInfo)
    (body : shapes.Statements) (earlier h : ℕ) →
    WordFits p
    (freely_named free_request earlier (record (function_shape m info f es) { body = body }))
    (expression_of (function_shape m info f es) h)
function_words m info are p f es body earlier h =
    shapes_words m info are p (record (function_shape m info f es) { body = body }) earlier
    (types_known es) f.expressions 0 f.expressions h

-- outside functions
pub operator_operates_outside : (p : shapes.Module) (o : Operator) → TypeIsSound o → asks o ≡ false →
    OperatesOutside p (free_names free_request) (run_word o)
operator_operates_outside p o is none =
    let distinguished = word_is_distinguished o is in
    operates_outside free_request p (run_word o) distinguished.free (distinguished.asking ∙ none)

-- so do the words of each initialiser
pub initialiser_words_outside : (m : Module) (info : ModuleInfo) → TypesAreCounted m →
    (p : shapes.Module) (c : ir_constant.Constant) →
    EachWord (OperatesOutside p (free_names free_request)) (initialiser m info c)
initialiser_words_outside m info are p c =
    initialiser_words m info (OperatesOutside p (free_names free_request))
    (λ ty n. operator_operates_outside p _ (constructor_is_sound m are (λ h. None) ty n)
    (constructor_asks (expression_context m (λ h. None)) (Handle ty) n))
    (λ known e o is silent. operator_operates_outside p o (applied_is_sound m are known e o is) silent) c
