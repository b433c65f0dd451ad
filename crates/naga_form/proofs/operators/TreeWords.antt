-- The words of trees of constants: what holds of the words of values made of a type and of one value
-- holds of each word of such a tree.
use Rattle.std.proofs.Common.{◌≡◌, ℕ, zero, suc, Bool, true, false, List, [], ◌∷◌, ◌++◌, length}
use Rattle.std.proofs.Common.{Option, Some, None, refl, subst}
use Rattle.std.specs.Prelude.{slice_get, unwrap_or, if◌then◌else◌}
use Rattle.std.specs.Option.{option_to_list, is_some}
use Rattle.std.proofs.lemmas.Option.{same_Some}
use Rattle.std.specs.List.{AllByRecursion}
use Rattle.naga_ir.specs.Operands.{expression_operands}
use Rattle.naga_form.proofs.operators.ComputedTrees.{HoldsOfMade, of_computed}
use Rattle.naga_ir.specs.declared.expression.Expression as ir
use Rattle.naga_ir.specs.declared.expression.Expression.TheVariants as expression
use Rattle.naga_ir.specs.declared.expression.SampleLevel.{SampleLevel}
use Rattle.naga_ir.specs.declared.expression.SampleLevel.TheVariants as level
use Rattle.naga_ir.specs.declared.module.Constant as ir_constant
use Rattle.naga_ir.specs.declared.module.Module.{Module}
use Rattle.naga_info.specs.declared.info.ModuleInfo.{ModuleInfo}
use Rattle.naga_info.specs.declared.info.TypeResolution.{TypeResolution}
use Rattle.naga_info.specs.declared.info.TypeResolution.TheVariants.{Handle}
use Rattle.naga_info.proofs.Options.{then_some, map_some}
use Rattle.module_semantics.specs.ExpressionOperators.{applied_operator, constructor}
use Rattle.module_semantics.specs.ExpressionShapes.{ModuleDeclarations, trees, tree_then, trees_of, built}
use Rattle.module_semantics.specs.ExpressionShapes.{tree_over, computed_over, constant_tree}
use Rattle.module_semantics.specs.ExpressionShapes.{tree_within, written_zero}
use Rattle.module_semantics.specs.Literals.{literal_value}
use Rattle.module_semantics.specs.ModuleShapes.{initialiser}
use Rattle.module_semantics.specs.OperatorTable.{Operator, Splat, asks, run_word}
use Rattle.module_semantics.specs.ExpressionContexts.{constant_number, constant_over, declared}
use Rattle.module_semantics.specs.ExpressionContexts.{declared_over, global_tree, global_tree_within}
use Rattle.module_semantics.specs.ExpressionContexts.{global_types_known, expression_context}
use Rattle.module_semantics.specs.ExpressionContexts.{written_constant, zero_of_type}
use Rattle.shader_runs.specs.Program.{ConstantTree, Fixed, NamedConstant, Composed}
use Rattle.shader_runs.specs.Premises.{EachWord, EachWordOf}
use Rattle.shader_runs.specs.Value.{Truth}

module _ (m : Module) (info : ModuleInfo) (P : List ℕ → Type 0)
    (made : (ty n : ℕ) →
    P (run_word (constructor (expression_context m (λ h. None)) (Handle ty) n)))
    (applied : (known : ℕ → Option TypeResolution) (e : ir.Expression) (o : Operator) →
    applied_operator (expression_context m known) e ≡ Some o → asks o ≡ false → P (run_word o)) where
  module _ (constants : ℕ → Option ConstantTree)
      (in_constants : (c : ℕ) (t : ConstantTree) → constants c ≡ Some t → EachWord P t)
      (known : ℕ → Option TypeResolution) where
    abbrev context : ModuleDeclarations
    context = declared_over m constants known

    built_words : (h : ℕ) (o : Operator) → P (run_word o) → (ts : List ConstantTree) → EachWordOf P (trees ts) →
        (t : ConstantTree) → built context h o ts ≡ Some t → EachWord P t
    built_words h o is ts words t e =
        let r = map_some (λ r. Composed (run_word o) (context.value_type r) (trees ts))
        (context.context.known h) t e in
        subst (EachWord P) r.2 (is, words)

    over_words : (tree_of : ℕ → Option ConstantTree) →
        ((h : ℕ) (t : ConstantTree) → tree_of h ≡ Some t → EachWord P t) →
        (h : ℕ) (e : ir.Expression) (t : ConstantTree) → tree_over context tree_of h e ≡ Some t →
        EachWord P t
    over_words tree_of all h (expression.Literal value) t e =
        subst (EachWord P) (same_Some (Fixed (literal_value value)) t e) tt
    over_words tree_of all h (expression.Constant handle) t e = in_constants handle t e
    over_words tree_of all h (expression.Override handle) t e =
        subst (EachWord P) (same_Some (context.override_tree handle) t e) tt
    over_words tree_of all h (expression.ZeroValue ty) t e =
        built_words h (constructor context.context (Handle ty) 0) (made ty 0) [] tt t e
    over_words tree_of all h (expression.Compose ty components) t e =
        let n = length components.items in
        let o = constructor context.context (Handle ty) n in
        let ts = then_some (built context h o) (trees_of tree_of components.items) t e in
        built_words h o (made ty n) ts.0 (each_of components.items ts.0 ts.1) t ts.2
      where
        both : (x : Option ConstantTree) (xs : Option (List ConstantTree))
            (us : List ConstantTree) → ((t : ConstantTree) → x ≡ Some t → EachWord P t) →
            ((ts : List ConstantTree) → xs ≡ Some ts → EachWordOf P (trees ts)) →
            tree_then x xs ≡ Some us → EachWordOf P (trees us)
        both (Some x) (Some xs) us one more e = subst (λ us. EachWordOf P (trees us)) (same_Some (x ∷ xs) us e)
            (one x refl, more xs refl)
        both (Some x) None us one more e = absurd (cc)
        both None xs us one more e = absurd (cc)

        each_of : (hs : List ℕ) (us : List ConstantTree) → trees_of tree_of hs ≡ Some us → EachWordOf P (trees us)
        each_of [] us e = subst (λ us. EachWordOf P (trees us)) (same_Some [] us e) tt
        each_of (h ∷ hs) us e = both (tree_of h) (trees_of tree_of hs) us (all h) (each_of hs) e
    over_words tree_of all h (expression.Splat size value) t e =
        let x = then_some (λ t. built context h (Splat size) (t ∷ [])) (tree_of value) t e in
        built_words h (Splat size) (applied known (expression.Splat size value) (Splat size) refl refl)
        (x.0 ∷ []) (all value x.0 x.1, tt) t x.2
    over_words tree_of all h _ t e = absurd (cc)

    made_words : HoldsOfMade (EachWord P) (EachWordOf P)
    made_words = record {
      no_trees = tt;
      more = λ t ts one all. (one, all);
      indexing = λ ty b i one two. (one, two);
      picking = λ x ty b one. one;
      joining = λ j ty l r one two. (one, two);
    }

    computed_words : (tree_of : ℕ → Option ConstantTree) →
        ((h : ℕ) (t : ConstantTree) → tree_of h ≡ Some t → EachWord P t) →
        (h : ℕ) (e : ir.Expression) (t : ConstantTree) → computed_over context tree_of h e ≡ Some t →
        EachWord P t
    computed_words tree_of all h e t found =
        of_computed context tree_of (EachWord P) (EachWordOf P) made_words h e (over_words tree_of all h e)
        (each (expression_operands e)) (λ a is silent ty ts words. (applied known e a is silent, words)) t found
      where
        each : (hs : List ℕ) → AllByRecursion (λ k. (t : ConstantTree) → tree_of k ≡ Some t → EachWord P t) hs
        each [] = tt
        each (k ∷ hs) = (all k, each hs)

    within_words : (levels : ℕ) (es : List ir.Expression) (h : ℕ) (t : ConstantTree) →
        tree_within levels context es h ≡ Some t → EachWord P t
    within_words zero es h t e = absurd (cc)
    within_words (suc levels) es h t e =
        let x = then_some (tree_over context (tree_within levels context es) h) (slice_get es h) t e in
        over_words (tree_within levels context es) (within_words levels es) h x.0 t x.2

    tree_words : (es : List ir.Expression) (h : ℕ) (t : ConstantTree) → constant_tree context es h ≡ Some t →
        EachWord P t
    tree_words es h t e = within_words (suc h) es h t e

  -- what is there or is the zero value of a type
  or_zero_words : (ty : ℕ) (o : Option ConstantTree) → ((t : ConstantTree) → o ≡ Some t → EachWord P t) →
      EachWord P (unwrap_or o (zero_of_type m ty))
  or_zero_words ty None all = (made ty 0, tt)
  or_zero_words ty (Some t) all = all t refl

  -- of each tree of the module's own expressions
  abbrev pub GlobalWords : (ℕ → Option ConstantTree) → Type 0
  GlobalWords global = (h : ℕ) (t : ConstantTree) → global h ≡ Some t → EachWord P t

  constant_words_over : (global : ℕ → Option ConstantTree) → GlobalWords global → (c : ℕ) (t : ConstantTree) →
      constant_over m global c ≡ Some t → EachWord P t
  constant_words_over global all c t e =
      let x = map_some _ (slice_get m.constants c) t e in subst (EachWord P) x.2 (by x.0 (is_some x.0.name))
    where
      by : (x : ir_constant.Constant) (b : Bool) →
          EachWord P (if b then NamedConstant (constant_number m c) else unwrap_or (global x.init)
          (zero_of_type m x.ty))
      by x true = tt
      by x false = or_zero_words x.ty (global x.init) (all x.init)

  within_global_words : (levels : ℕ) → GlobalWords (global_tree_within levels m info)
  within_global_words zero h t e = absurd (cc)
  within_global_words (suc levels) h t e =
      let global = global_tree_within levels m info in
      let x = then_some (computed_over (declared_over m (constant_over m global) (global_types_known info))
      global h) (slice_get m.global_expressions h) t e in
      computed_words (constant_over m global) (constant_words_over global (within_global_words levels))
      (global_types_known info) global (within_global_words levels) h x.0 t x.2

  -- of each tree of the module's own expressions
  pub global_words : (h : ℕ) (t : ConstantTree) → global_tree m info h ≡ Some t → EachWord P t
  global_words h t e = within_global_words (suc h) h t e

  -- of each constant, as it is written
  pub constant_words : (c : ℕ) (t : ConstantTree) → written_constant m info c ≡ Some t → EachWord P t
  constant_words c t e = constant_words_over (global_tree m info) global_words c t e

  -- of each tree among expressions, whatever is known of them
  pub written_words : (known : ℕ → Option TypeResolution) (es : List ir.Expression) (h : ℕ) (t : ConstantTree) →
      constant_tree (declared m info known) es h ≡ Some t → EachWord P t
  written_words known es h t e = tree_words (written_constant m info) constant_words known es h t e

  -- what is there or is `false`
  pub or_false_words : (o : Option ConstantTree) → ((t : ConstantTree) → o ≡ Some t → EachWord P t) →
      EachWord P (unwrap_or o (Fixed (Truth false)))
  or_false_words None all = tt
  or_false_words (Some t) all = all t refl

  pub initialiser_words : (c : ir_constant.Constant) → EachWord P (initialiser m info c)
  initialiser_words c = or_zero_words c.ty (global_tree m info c.init) (global_words c.init)

  -- a value of a type without parts
  pub zero_words : (known : ℕ → Option TypeResolution) (h ty : ℕ) (t : ConstantTree) →
      built (declared m info known) h (constructor (declared m info known).context (Handle ty) 0) []
      ≡ Some t → EachWord P t
  zero_words known h ty t e =
      let d = declared m info known in
      built_words (written_constant m info) constant_words known h (constructor d.context (Handle ty) 0)
      (made ty 0) [] tt t e

  -- a level and an offset that are written out
  pub levels_words : (l : SampleLevel) (unwritten : Bool) (ts : List ConstantTree) → EachWordOf P (trees ts) →
      EachWordOf P (trees (written_zero l unwritten ++ ts))
  levels_words level.Zero false ts words = (tt, words)
  levels_words level.Zero true ts words = words
  levels_words _ unwritten ts words = words

  pub offset_words : (o : Option ConstantTree) → ((t : ConstantTree) → o ≡ Some t → EachWord P t) →
      EachWordOf P (trees (option_to_list o))
  offset_words None all = tt
  offset_words (Some t) all = (all t refl, tt)
