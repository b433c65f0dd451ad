-- The words of the trees of a module's own expressions: each is an operator's, and none is a name of an
-- item that runs know.
use Rattle.std.proofs.Common.{◌≡◌, ℕ, true, false, List, Option, Some, ap, ◌∙◌}
use Rattle.std.specs.Prelude.{slice_get, ◌||◌}
use Rattle.naga_info.specs.declared.info.ModuleInfo.{ModuleInfo}
use Rattle.naga_ir.specs.declared.module.Constant as ir_constant
use Rattle.naga_ir.specs.declared.module.Module.{Module}
use Rattle.naga_ir.specs.declared.types.Type_.{Type_}
use Rattle.naga_ir.specs.declared.expression.Expression.{Expression}
use Rattle.naga_info.specs.declared.info.TypeResolution.{TypeResolution}
use Rattle.naga_naming.specs.declared.key.NameKey.TheVariants as key
use Rattle.module_semantics.specs.ExpressionContexts.{expression_context, global_tree}
use Rattle.module_semantics.specs.ExpressionOperators.{applied_operator}
use Rattle.module_semantics.specs.ModuleShapes.{initialiser}
use Rattle.module_semantics.specs.Names.{module_names, name_in}
use Rattle.module_semantics.specs.Namings.{outer_names}
use Rattle.module_semantics.specs.OperatorTable.{Operator, asks, run_word}
use Rattle.module_semantics.specs.Undeclared.{declared_struct_names, is_declared}
use Rattle.naga_form.proofs.operators.AppliedWords.{applied_words}
use Rattle.naga_form.proofs.names.DeclaredNames.{declared_stands}
use Rattle.std.proofs.Math.Bool.{or-true}
use Rattle.wgsl_text.specs.Operators.{is_built_in, is_operator}
use Rattle.wgsl_text.specs.Words.{stands_in}
use Rattle.shader_runs.specs.Premises.{EachWord, OperatesOutside}
use Rattle.shader_runs.specs.Program as shapes
use Rattle.shader_runs.specs.Program.{ConstantTree}
use Rattle.shader_runs.specs.Scope.{ModuleNames}
use Rattle.wgsl_text.specs.Requests.{is_request}
use Rattle.naga_form.proofs.names.ItemKeys.{CountsItems, IsNoItem, no_constant_is, no_function_is}
use Rattle.naga_form.proofs.names.ItemKeys.{no_global_is, type_has, type_is_no_item}
use Rattle.naga_form.proofs.names.ItemKeys.{word_is_no_item}
use Rattle.naga_form.proofs.names.Names.{item_is_identifier}
use Rattle.naga_form.proofs.operators.OperatingWords.{free_parts, operates_freely}
use Rattle.naga_form.proofs.types.SameValues.{TypesAreFit}
use Rattle.naga_form.proofs.operators.SpelledWords.{made_word}
use Rattle.naga_form.proofs.operators.TreeWords.{global_words as tree_words, initialiser_words}
use Rattle.naga_form.proofs.operators.TypedWords.{no_request}

module _ (m : Module) (info : ModuleInfo) (types : TypesAreFit m) (p : shapes.Module)
    (counts : CountsItems m p) where
  abbrev names : ModuleNames
  names = outer_names (module_names m) m

  abbrev structs : List (List ℕ)
  structs = declared_struct_names (module_names m) m

  abbrev Operates : List ℕ → Type 0
  Operates w = OperatesOutside p names w

  operates : (w : List ℕ) → is_request w ≡ false → is_operator structs w ≡ true → IsNoItem m w →
      Operates w
  operates w asks_nothing is none = record {
    asks_nothing = asks_nothing;
    operates = is;
    functions = no_function_is m p counts w none;
    constants = no_constant_is m p counts w none;
    globals = no_global_is m p counts w none;
  }

  free_operates : (w : List ℕ) → operates_freely w ≡ true → Operates w
  free_operates w free =
      let parts = free_parts w free in
      operates w parts.asks_nothing (ap (λ b. b || stands_in structs w) parts.operates)
      (word_is_no_item m w parts.no_item)

  struct_operates : (h : ℕ) (t : Type_) → slice_get m.types h ≡ Some t →
      is_declared m.special_types h t.inner ≡ true →
      Operates (name_in (module_names m) (key.Type_ h))
  struct_operates h t at declared =
      let has = type_has m h t at in
      operates (name_in (module_names m) (key.Type_ h))
      (no_request (name_in (module_names m) (key.Type_ h))
      (item_is_identifier m (key.Type_ h, has.0) has.1))
      (ap (λ b. is_built_in (name_in (module_names m) (key.Type_ h)) || b)
      (declared_stands m h t at declared)
      ∙ or-true (is_built_in (name_in (module_names m) (key.Type_ h))))
      (type_is_no_item m h t at)

  applied_operates : (known : ℕ → Option TypeResolution) (e : Expression) (o : Operator) →
      applied_operator (expression_context m known) e ≡ Some o → asks o ≡ false → Operates (run_word o)
  applied_operates known e o is silent =
      applied_words m types Operates free_operates struct_operates known e o is silent

  -- in each tree, and in each initialiser
  pub global_words : (h : ℕ) (e : ConstantTree) → global_tree m info h ≡ Some e → EachWord Operates e
  global_words =
      tree_words m info Operates (made_word m types Operates free_operates struct_operates)
      applied_operates

  pub initialiser_words_outside : (c : ir_constant.Constant) → EachWord Operates (initialiser m info c)
  initialiser_words_outside =
      initialiser_words m info Operates (made_word m types Operates free_operates struct_operates)
      applied_operates
