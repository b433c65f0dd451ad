-- The words of the operators that expressions apply and that ask for nothing: what holds of the words
-- that are no names, and of the names of a module's structs, holds of each.
use Rattle.std.proofs.Common.{◌≡◌, ℕ, Bool, true, false, List, length, Option, Some, None, refl}
use Rattle.std.proofs.Common.{sym, ap, ◌∙◌, subst, true≢false, codes}
use Rattle.std.specs.Prelude.{slice_get, if◌then◌else◌}
use Rattle.std.specs.Option.{option_map_or, option_and_then, is_some}
use Rattle.std.proofs.lemmas.Option.{same_Some}
use Rattle.naga_info.specs.declared.info.TypeResolution.{TypeResolution}
use Rattle.naga_info.specs.declared.info.TypeResolution.TheVariants.{Handle, Value}
use Rattle.naga_ir.specs.declared.expression.Expression.{Expression}
use Rattle.naga_ir.specs.declared.expression.Expression.TheVariants as expression
use Rattle.naga_ir.specs.declared.expression.SwizzleComponent.{SwizzleComponent}
use Rattle.naga_ir.specs.declared.module.Module.{Module}
use Rattle.naga_ir.specs.declared.types.ScalarKind.{ScalarKind}
use Rattle.naga_ir.specs.declared.types.TypeInner.{TypeInner}
use Rattle.naga_ir.specs.declared.types.Type_.{Type_}
use Rattle.naga_naming.specs.declared.key.NameKey.TheVariants as key
use Rattle.module_semantics.specs.Conversions.{conversion_target, keeps_bits}
use Rattle.module_semantics.specs.ExpressionContexts.{expression_context}
use Rattle.module_semantics.specs.ExpressionOperators.{ExpressionContext, applied_operator, cast_to}
use Rattle.module_semantics.specs.ExpressionOperators.{constructor, has_parts, is_atomic_pointer}
use Rattle.module_semantics.specs.ExpressionOperators.{is_depth_image, level_of, matrix_load}
use Rattle.module_semantics.specs.ExpressionOperators.{image_sample_operator, type_known}
use Rattle.module_semantics.specs.Names.{module_names, name_in}
use Rattle.module_semantics.specs.OperatorTable.{Operator, AtomicLoad, WithoutForm, Cast, PartAt}
use Rattle.module_semantics.specs.OperatorTable.{with_type, asks, is_untyped, run_word}
use Rattle.module_semantics.specs.Undeclared.{is_declared}
use Rattle.module_semantics.proofs.ExpressionShapes.{load_asks}
use Rattle.module_semantics.proofs.OwnOperators.{own_is_untyped}
use Rattle.naga_form.proofs.operators.AllowedParts.{target_fit}
use Rattle.naga_form.proofs.operators.OperatingWords.{operates_freely, bits_free, unsupported_free}
use Rattle.naga_form.proofs.operators.OperatingWords.{silent_free}
use Rattle.naga_form.proofs.types.SameValues.{IsFit, TypesAreFit}
use Rattle.naga_form.proofs.operators.SpelledWords.{made_word, spelled_words}

module _ (m : Module) (types : TypesAreFit m) (W : List ℕ → Type 0)
    (free : (w : List ℕ) → operates_freely w ≡ true → W w)
    (structs : (h : ℕ) (t : Type_) → slice_get m.types h ≡ Some t →
    is_declared m.special_types h t.inner ≡ true → W (name_in (module_names m) (key.Type_ h)))
    (known : ℕ → Option TypeResolution) where
  abbrev context : ExpressionContext
  context = expression_context m known

  of_word : (a o : Operator) → Some a ≡ Some o → W (run_word a) → W (run_word o)
  of_word a o e word = subst (λ x. W (run_word x)) (same_Some a o e) word

  -- one that takes no type
  table_word : (o : Operator) → is_untyped o ≡ true → asks o ≡ false → W (run_word o)
  table_word o u none = free (run_word o) (silent_free o u none)

  cast_word : (bits : Bool) (word : List ℕ) → W word → W (run_word (cast_to bits word))
  cast_word false word is = is
  cast_word true word is = free (with_type (codes "bitcast") word) (bits_free word)

  -- a conversion to a type, or what no text has
  converted_word : (bits : Bool) (kind : ScalarKind) (convert : Option ℕ) (new : Option TypeInner) →
      ((it : TypeInner) → new ≡ Some it → IsFit m (Value it)) →
      W (run_word
      (option_map_or (cast_to bits) (option_and_then (λ it. context.spelled (Value it)) new)
      (WithoutForm (Cast kind convert))))
  converted_word bits kind convert (Some it) fit =
      spelled_words m types W free structs (Value it) (fit it refl) (λ op. W (run_word op))
      (cast_to bits) (WithoutForm (Cast kind convert)) (λ word is. cast_word bits word is)
      (free (run_word (WithoutForm (Cast kind convert))) (unsupported_free (Cast kind convert) refl))
  converted_word bits kind convert None fit =
      free (run_word (WithoutForm (Cast kind convert))) (unsupported_free (Cast kind convert) refl)

  target_is_fit : (kind : ScalarKind) (convert : Option ℕ) (o : Option TypeInner) (it : TypeInner) →
      option_and_then (λ it. conversion_target it kind convert) o ≡ Some it → IsFit m (Value it)
  target_is_fit kind convert (Some from) it is = target_fit m from it kind convert is
  target_is_fit kind convert None it is = absurd cc

  pub applied_words : (e : Expression) (o : Operator) → applied_operator context e ≡ Some o →
      asks o ≡ false → W (run_word o)
  applied_words (expression.Compose ty components) o e none =
      let n = length components.items in
      of_word (constructor context (Handle ty) n) o e (made_word m types W free structs ty n)
  applied_words (expression.AccessIndex base index) o e none =
      by (option_map_or (has_parts m.types) (type_known context base) false) e
    where
      by : (b : Bool) → (if b then None else Some (WithoutForm (PartAt index))) ≡ Some o → W (run_word o)
      by true e = absurd cc
      by false e =
          let part = WithoutForm (PartAt index) in
          of_word part o e (free (run_word part) (unsupported_free (PartAt index) refl))
  applied_words (expression.Load pointer) o e none = by (is_atomic_pointer context pointer) e
    where
      by : (b : Bool) → (if b then Some AtomicLoad else None) ≡ Some o → W (run_word o)
      by true e = table_word o (sym (ap is_untyped (same_Some AtomicLoad o e))) none
      by false e = absurd cc
  applied_words
      (expression.ImageSample
      image sampler gather coordinate array_index offset level depth_ref clamp) o e none =
      by gather e
    where
      of_depths : Bool
      of_depths = option_map_or is_depth_image (type_known context image) false

      by : (g : Option SwizzleComponent) →
          Some (image_sample_operator of_depths g (level_of level) (is_some depth_ref) clamp
          (is_some array_index) (is_some offset)) ≡ Some o → W (run_word o)
      by None e = table_word o (sym (ap is_untyped (same_Some _ o e))) none
      by (Some component) e = table_word o (sym (ap is_untyped (same_Some _ o e))) none
  applied_words (expression.As operand kind convert) o e none =
      let from = type_known context operand in
      let bits = option_map_or (λ it. keeps_bits it convert) from false in
      let new = option_and_then (λ it. conversion_target it kind convert) from in
      of_word
      (option_map_or (cast_to bits) (option_and_then (λ it. context.spelled (Value it)) new)
      (WithoutForm (Cast kind convert))) o e
      (converted_word bits kind convert new (target_is_fit kind convert from))
  applied_words (expression.CooperativeLoad columns rows role place) o e none =
      let load = matrix_load context columns rows role place in
      absurd
      (true≢false
      (sym (load_asks context columns rows role place) ∙ (ap asks (same_Some load o e) ∙ none)))
  applied_words e o is none = table_word o (own_is_untyped e o is) none
