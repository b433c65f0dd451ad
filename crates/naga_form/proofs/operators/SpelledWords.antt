-- The words of operators that spell a type of the module: what holds of the words that are no names, and
-- of the names of its structs, holds of each.
use Rattle.std.proofs.Common.{◌≡◌, ℕ, Bool, true, false, List, Option, Some, None, refl, sym, ap}
use Rattle.std.proofs.Common.{◌∙◌, subst}
use Rattle.std.specs.Prelude.{slice_get, not, ◌&&◌, ◌⊎◌, if◌then◌else◌}
use Rattle.std.specs.Option.{option_map, option_map_or}
use mathlib.Core.Logic.{inl, inr}
use Rattle.naga_info.specs.declared.info.TypeResolution.{TypeResolution}
use Rattle.naga_info.specs.declared.info.TypeResolution.TheVariants.{Handle}
use Rattle.naga_ir.specs.declared.module.Module.{Module}
use Rattle.naga_ir.specs.declared.types.Type_.{Type_}
use Rattle.naga_naming.specs.declared.key.NameKey.TheVariants as key
use Rattle.module_semantics.specs.ExpressionContexts.{expression_context}
use Rattle.module_semantics.specs.ExpressionOperators.{constructor, ExpressionContext}
use Rattle.module_semantics.specs.Names.{module_names, name_in}
use Rattle.module_semantics.specs.OperatorTable.{MakeSpelled, Operator, run_word, ValueOf, WithoutForm}
use Rattle.module_semantics.specs.Types.{spelled_resolution, type_names}
use Rattle.module_semantics.specs.Undeclared.{is_declared, is_undeclared, is_undeclared_struct}
use Rattle.naga_spelling.specs.Spelling.{is_struct}
use Rattle.wgsl_text.proofs.Text.{text-append}
use Rattle.wgsl_text.proofs.Types.{named_text}
use Rattle.wgsl_text.specs.Reading.{printed_type}
use Rattle.wgsl_text.specs.Types.{Named, TypeSpecifier}
use Rattle.naga_form.specs.TypeTrees.{resolution_tree}
use Rattle.naga_form.proofs.operators.OperatingWords.{unsupported_free, operates_freely}
use Rattle.naga_form.proofs.types.SameValues.{IsFit, or_nothing, TypesAreFit}
use Rattle.naga_form.proofs.types.TypeTrees.{resolution_row}
use Rattle.naga_form.proofs.types.WrittenTypes.{free_form, IsStructNamed}

module _ (m : Module) (types : TypesAreFit m) (W : List ℕ → Type 0)
    (free : (w : List ℕ) → operates_freely w ≡ true → W w)
    (structs : (h : ℕ) (t : Type_) → slice_get m.types h ≡ Some t →
    is_declared m.special_types h t.inner ≡ true → W (name_in (module_names m) (key.Type_ h))) where
  abbrev context : ExpressionContext
  context = expression_context m (λ h. None)

  struct_name : (h : ℕ) → (type_names m).struct_name h ≡ name_in (module_names m) (key.Type_ h)
  struct_name h = or_nothing (module_names m (key.Type_ h))

  -- a struct that is not undeclared is declared
  is_told : (r : TypeResolution) (h : ℕ) (t : Type_) → r ≡ Handle h → slice_get m.types h ≡ Some t →
      is_struct t.inner ≡ true → is_undeclared_struct m r ≡ false →
      is_declared m.special_types h t.inner ≡ true
  is_told r h t at there is declared =
      let told : is_undeclared m.special_types h ≡ false =
      ap (λ b. b && is_undeclared m.special_types h) (sym is)
      ∙ (ap
      (λ o. option_map_or (λ u. is_struct u.inner && is_undeclared m.special_types h) o false)
      (sym there)
      ∙ (ap (is_undeclared_struct m) (sym at) ∙ declared)) in
      λ i. is i && not (told i)

  of_printed : (r : TypeResolution) (t : TypeSpecifier) → is_undeclared_struct m r ≡ false →
      (operates_freely (printed_type t) ≡ true) ⊎ IsStructNamed (type_names m) r t →
      W (printed_type t)
  of_printed r t declared (inl is) = free (printed_type t) is
  of_printed r t declared (inr is) =
      subst W
      (sym
      (ap printed_type (is.named ∙ ap Named (struct_name is.handle))
      ∙ named_text (name_in (module_names m) (key.Type_ is.handle))))
      (structs is.handle is.type is.there
      (is_told r is.handle is.type is.at is.there is.is declared))

  -- what is spelled by a type is called by that, or by what no text has where it has no form or is a
  -- struct that no text declares
  pub spelled_words : (r : TypeResolution) → IsFit m r → (P : Operator → Type 0) →
      (makes : List ℕ → Operator) → (without : Operator) →
      ((word : List ℕ) → W word → P (makes word)) → P without →
      P (option_map_or makes (context.spelled r) without)
  spelled_words r fit P makes without is none = declared_or_not (is_undeclared_struct m r) refl
    where
      row : spelled_resolution (type_names m) r
          ≡ option_map printed_type (resolution_tree (type_names m) r)
      row = resolution_row text-append (type_names m) (λ handle. true) r

      by : is_undeclared_struct m r ≡ false → (o : Option TypeSpecifier) →
          resolution_tree (type_names m) r ≡ o →
          P (option_map_or makes (spelled_resolution (type_names m) r) without)
      by declared (Some t) at =
          subst (λ o. P (option_map_or makes o without)) (sym (row ∙ ap (option_map printed_type) at))
          (is (printed_type t) (of_printed r t declared (free_form m types r fit t at)))
      by declared None at =
          subst (λ o. P (option_map_or makes o without)) (sym (row ∙ ap (option_map printed_type) at))
          none

      declared_or_not : (b : Bool) → is_undeclared_struct m r ≡ b →
          P (option_map_or makes (if b then None else spelled_resolution (type_names m) r) without)
      declared_or_not true at = none
      declared_or_not false at = by at (resolution_tree (type_names m) r) refl

  -- what is called by this where it is made of a type
  abbrev pub unmade : (components ty : ℕ) → Operator
  unmade components ty = WithoutForm (ValueOf (context.numbers (Handle ty)) components)

  pub made_words : (components ty : ℕ) → (P : Operator → Type 0) →
      ((word : List ℕ) → W word → P (MakeSpelled word components)) →
      (W (run_word (unmade components ty)) → P (unmade components ty)) →
      P (constructor context (Handle ty) components)
  made_words components ty P makes without =
      spelled_words (Handle ty) tt P (λ spelling. MakeSpelled spelling components)
      (unmade components ty) makes
      (without
      (free (run_word (unmade components ty))
      (unsupported_free (ValueOf (context.numbers (Handle ty)) components) refl)))

  pub made_word : (ty components : ℕ) → W (run_word (constructor context (Handle ty) components))
  made_word ty components =
      made_words components ty (λ op. W (run_word op)) (λ word is. is) (λ is. is)
