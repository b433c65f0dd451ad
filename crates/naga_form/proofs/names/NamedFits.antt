-- What acceptance leaves to be shown of a function under the names of its module: its words and names.
--
-- Throughout, named tells the names of the labels that front ends gave in the function.
use Rattle.std.proofs.Common.{[], ◌≡◌, ◌≢◌, ℕ, suc, zero, Bool, true, false, ◌<◌, List, ◌∷◌, length}
use Rattle.std.proofs.Common.{Some, refl, sym, ap, subst, ◌∙◌, arith, replicate, nat_eq, true≢false}
use Rattle.std.proofs.Common.{◌++◌}
use Rattle.std.specs.Prelude.{IsTrue, slice_get, get_or, not, Option, None, ◌&&◌, ◌||◌, codes}
use Rattle.std.specs.Prelude.{if◌then◌else◌}
use Rattle.std.proofs.lemmas.Bool.{and_parts, not-true}
use Rattle.naga_ir.specs.declared.expression.Expression as ir
use Rattle.naga_ir.specs.declared.module.Function as ir_function
use Rattle.naga_info.specs.declared.info.ExpressionInfo.{ExpressionInfo}
use Rattle.naga_info.specs.declared.info.ModuleInfo.{ModuleInfo}
use Rattle.module_semantics.specs.Conversions.{keeps_bits, conversion_target}
use Rattle.module_semantics.specs.Undeclared.{declared_struct_names, is_declared}
use Rattle.naga_form.proofs.names.DeclaredNames.{declared_stands}
use Rattle.std.proofs.Math.Bool.{or-true}
use Rattle.wgsl_text.specs.Operators.{is_built_in}
use Rattle.module_semantics.specs.ExpressionOperators.{cast_to, constructor, applied_operator}
use Rattle.module_semantics.specs.ExpressionOperators.{own_operator, type_known, is_depth_image}
use Rattle.module_semantics.specs.ExpressionOperators.{level_of, query_operator, image_sample_operator}
use Rattle.module_semantics.specs.ExpressionOperators.{matrix_load, is_atomic_pointer}
use Rattle.module_semantics.specs.ExpressionShapes.{ModuleDeclarations, shape_of, applied_or, applied_shape}
use Rattle.module_semantics.specs.ExpressionShapes.{constant_shape, part_selector, part_shape}
use Rattle.module_semantics.specs.ExpressionShapes.{constant_tree, image_sample_shape, trees, written_zero}
use Rattle.module_semantics.specs.OperatorTable.{run_word, Operator, MakeSpelled, AtomicLoad}
use Rattle.module_semantics.specs.OperatorTable.{is_untyped, WithoutForm, ValueOf, Cast, PartAt}
use Rattle.module_semantics.specs.OperatorTable.{with_type, asks}
use Rattle.module_semantics.specs.FunctionNumbers.{all_functions, function_type}
use Rattle.naga_back.specs.FunctionContext.{function_key}
use Rattle.naga_info.specs.declared.info.TypeResolution.{TypeResolution}
use Rattle.naga_info.specs.declared.info.TypeResolution.TheVariants.{Handle, Value}
use Rattle.shader_runs.specs.Program.{Composed, no_constant}
use Rattle.std.specs.Option.{option_map, option_map_or, option_and_then, is_some, option_to_list}
use Rattle.naga_form.proofs.operators.OperatingWords.{operates_freely, asks_freely, asking_free}
use Rattle.naga_form.proofs.operators.OperatingWords.{silent_free, bits_free, unsupported_free}
use Rattle.naga_form.proofs.operators.OperatingWords.{is_of_statements, is_signed, matrix_load_free}
use Rattle.naga_form.proofs.operators.OperatingWords.{request_free, free_parts, names_no_item}
use Rattle.module_semantics.proofs.OwnOperators.{own_is_untyped}
use Rattle.naga_form.proofs.operators.TreeWords.{constant_words, levels_words, offset_words}
use Rattle.naga_form.proofs.operators.TreeWords.{or_false_words, written_words}
use Rattle.naga_form.proofs.operators.AppliedWords.{applied_words}
use Rattle.module_semantics.specs.ExpressionContexts.{expression_context, declared, types_known}
use Rattle.naga_info.proofs.Options.{then_some}
use Rattle.naga_form.proofs.types.SameValues.{IsFit, TypesAreFit}
use Rattle.naga_form.proofs.operators.TypedWords.{no_request}
use Rattle.module_semantics.proofs.ExpressionShapes.{load_asks}
use Rattle.module_semantics.proofs.Shapes.{operator_any}
use Rattle.shader_runs.specs.Program as shapes
use Rattle.shader_runs.specs.Scope.{Naming, named_by_all, fits_function}
use Rattle.shader_runs.specs.Premises.{WordFits, AreDistinct, FixedKey, NumberedKey, NamedKey}
use Rattle.shader_runs.specs.Premises.{AsksBy, OperatesBy, StandsFree, IsNoName, ConstantsWords}
use Rattle.shader_runs.specs.Premises.{FixedName, fixed_name, IsFixedName}
use Rattle.naga_form.proofs.names.Names.{numbered_distinct, item_is_identifier, item_not_numbered}
use Rattle.module_semantics.specs.Names.{numbered_name, module_names, name_in, function_name}
use Rattle.module_semantics.specs.Names.{numbered_text, AreLabelNamesOf}
use Rattle.module_semantics.specs.FunctionShapes.{function_shape, statements_shape}
use Rattle.module_semantics.specs.Namings.{outer_names, function_naming}
use Rattle.naga_ir.specs.declared.expression.Expression.TheVariants as expression
use Rattle.naga_ir.specs.declared.module.Module.{Module}
use Rattle.naga_keywords.specs.Plain.{is_word}
use Rattle.naga_naming.specs.declared.key.NameKey.TheVariants as key
use Rattle.wgsl_text.specs.Requests.{is_request}
use Rattle.wgsl_text.specs.Words.{is_builtin, stands_in}
use Rattle.naga_form.proofs.Fits.{named_by_all_is}
use Rattle.naga_form.proofs.names.ExpressionNames.{label_no_item, label_no_word}
use Rattle.module_semantics.specs.ExpressionLabels.{expression_labels}
use Rattle.naga_form.proofs.statements.WellFormed.{any_shape}
use Rattle.naga_form.proofs.statements.FunctionsFit.{IsFree}
use Rattle.naga_form.proofs.statements.Worded.{asks_by_requests}
use Rattle.std.proofs.lemmas.Option.{slice_get_within}
use Rattle.naga_form.proofs.operators.AllowedParts.{target_fit}
use Rattle.naga_ir.specs.declared.types.ScalarKind.{ScalarKind}
use Rattle.naga_ir.specs.declared.types.TypeInner.{TypeInner}
use Rattle.naga_ir.specs.declared.types.Type_.{Type_}
use Rattle.module_semantics.specs.Shapes.{operator_shape}
use Rattle.naga_ir.specs.Operands.{cooperative_operands, expression_operands, query_operands}
use Rattle.naga_ir.specs.declared.expression.ImageQuery.{ImageQuery}
use Rattle.naga_ir.specs.declared.expression.ImageQuery.TheVariants as query
use Rattle.naga_ir.specs.declared.expression.SwizzleComponent.{SwizzleComponent}
use Rattle.naga_ir.specs.declared.expression.SampleLevel.{SampleLevel}
use Rattle.shader_runs.specs.Value.{Selector}
use Rattle.naga_naming.specs.declared.key.NameKey.{NameKey}
use Rattle.naga_form.proofs.names.FixedNames.{fixed_has, fixed_key, fixed_named, fixed_no_item}
use Rattle.naga_form.proofs.names.FixedNames.{fixed_of, fixed_tell, function_is_none}
use Rattle.naga_form.proofs.names.ItemKeys.{CountsItems, function_has, HasItem, item_is_no_word}
use Rattle.naga_form.proofs.names.ItemKeys.{no_function_is, no_word_of_item, type_has}
use Rattle.naga_form.proofs.names.ItemKeys.{type_is_no_item, word_is_no_item}
use Rattle.naga_form.proofs.operators.SpelledWords.{made_word, made_words, spelled_words}

-- ---- signs
-- what begins with another byte than `_`, and is not all blanks, is no numbered name
blanks : (h : ℕ) → is_signed (replicate h 32) ≡ false
blanks zero = refl
blanks (suc h) = blanks h

not_numbered : (b : Bool) (h c : ℕ) (rest : List ℕ) → nat_eq c 95 ≡ false →
    is_signed (c ∷ rest) ≡ true → numbered_text b h ≡ c ∷ rest → ⊥
not_numbered true h c rest one two e = true≢false (ap (λ l. nat_eq (get_or l 0 0) 95) e ∙ one)
not_numbered false h c rest one two e = true≢false (sym two ∙ (ap is_signed (sym e) ∙ blanks h))

sign_not_numbered : (h c : ℕ) (rest : List ℕ) → nat_eq c 95 ≡ false →
    is_signed (c ∷ rest) ≡ true → numbered_name h ≡ c ∷ rest → ⊥
unfolding numbered_name
sign_not_numbered h c rest one two e = not_numbered _ h c rest one two e

-- ---- one function
module _ (m : Module) (info : ModuleInfo) (types : TypesAreFit m) (p : shapes.Module)
    (counts : CountsItems m p) (g : ℕ) (f : ir_function.Function)
    (found : slice_get (all_functions m) g ≡ Some f) (named : (label : ℕ) → List ℕ)
    (are : AreLabelNamesOf m f named) (es : List ExpressionInfo) where
  abbrev own : Naming
  own = function_naming (module_names m) named m info g f es

  abbrev shape : shapes.Function
  shape = function_shape m info f es

  abbrev d : ModuleDeclarations
  d = declared m info (types_known es)

  -- the names that front ends gave are those of labels
  named_in : (k : ℕ) → k < named_by_all shape (statements_shape d.context f.body) 0 → k < length (expression_labels f)
  named_in k lt = let all = named_by_all_is m info f es f.body 0 in omega (arith, lt, all)

  -- each fixed name is that of an item
  has_item : (x : FixedName) → IsFixedName p shape x → HasItem m (fixed_key m g x)
  has_item = fixed_has m p counts info g f found es

  -- ---- words
  -- a word that operates freely is no name
  stands_free : (c : ℕ) (rest : List ℕ) → nat_eq c 95 ≡ false → is_signed (c ∷ rest) ≡ true →
      names_no_item (c ∷ rest) ≡ true → StandsFree p own (c ∷ rest)
  stands_free c rest one two free =
      (no_function_is m p counts (c ∷ rest) (word_is_no_item m (c ∷ rest) free), no_name)
    where
      other : (not (is_word (c ∷ rest)) || is_builtin (c ∷ rest)) ≡ true
      other = no_word_of_item (c ∷ rest) free

      no_name : IsNoName p own (c ∷ rest)
      no_name (FixedKey x) is e =
          item_is_no_word m (c ∷ rest) other (fixed_key m g x) (has_item x is)
          (sym (fixed_named m g named x) ∙ e)
      no_name (NumberedKey h) is e = sign_not_numbered h c rest one two e
      no_name (NamedKey k) is e = label_no_word m f named are k (named_in k is) (c ∷ rest) other e

  free_word : (w : List ℕ) → names_no_item w ≡ true → StandsFree p own w
  free_word [] free = absurd (cc)
  free_word (c ∷ rest) free =
      let one =
      and_parts (not (nat_eq c 95))
      (is_signed (c ∷ rest) && (not (is_word (c ∷ rest)) || is_builtin (c ∷ rest))) free in
      let two =
      and_parts (is_signed (c ∷ rest)) (not (is_word (c ∷ rest)) || is_builtin (c ∷ rest)) one.1 in
      stands_free c rest (not-true (nat_eq c 95) one.0) two.0 free

  operates : (w : List ℕ) → operates_freely w ≡ true → OperatesBy p own w
  operates w free =
      let parts = free_parts w free in (
        parts.asks_nothing,
        ap (λ b. b || stands_in (declared_struct_names (module_names m) m) w) parts.operates,
        free_word w parts.no_item,
      )

  asks_by : (w : List ℕ) → asks_freely w ≡ true → AsksBy p own w
  asks_by w free =
      let both = and_parts (is_request w) (names_no_item w) free in (both.0, free_word w both.1)

  -- the name of an item that has no fixed name's key is none that the text of the function uses
  item_is_no_name : (k : NameKey) → HasItem m k → fixed_of m k ≡ None →
      IsNoName p own (name_in (module_names m) k)
  item_is_no_name k has none = by
    where
      by : IsNoName p own (name_in (module_names m) k)
      by (FixedKey x) is e = fixed_no_item m p counts info g f found es named k has none x is e
      by (NumberedKey h) is e = item_not_numbered m (k, has.0) h has.1 (sym e)
      by (NamedKey j) is e = label_no_item m f named are j (named_in j is) (k, has.0) has.1 (sym e)

  -- nor is that of a struct that a text declares, which makes its values and asks for nothing
  struct_operates : (h : ℕ) (t : Type_) → slice_get m.types h ≡ Some t →
      is_declared m.special_types h t.inner ≡ true →
      OperatesBy p own (name_in (module_names m) (key.Type_ h))
  struct_operates h t at declared =
      let has = type_has m h t at in
      let w = name_in (module_names m) (key.Type_ h) in (
        no_request w (item_is_identifier m (key.Type_ h, has.0) has.1),
        ap (λ b. is_built_in w || b) (declared_stands m h t at declared) ∙ or-true (is_built_in w),
        (
          no_function_is m p counts w (type_is_no_item m h t at),
          item_is_no_name (key.Type_ h) has refl,
        ),
      )

  -- nor is that of a function in front of it
  callee_is_no_name : (k : ℕ) → k < g → IsNoName p own (function_name m (module_names m) k)
  callee_is_no_name k lt =
      let within = slice_get_within (all_functions m) g f found in
      item_is_no_name (function_key (function_type m k))
      (function_has m k (omega (arith, lt, within))) (function_is_none m (function_type m k))

  -- what spells a type is called so
  type_words : (r : TypeResolution) → IsFit m r → (P : Operator → Type 0) →
      (makes : List ℕ → Operator) → (without : Operator) →
      ((word : List ℕ) → OperatesBy p own word → P (makes word)) → P without →
      P (option_map_or makes (d.context.spelled r) without)
  type_words = spelled_words m types (OperatesBy p own) operates struct_operates

  value_words : (components ty : ℕ) → (P : Operator → Type 0) →
      ((word : List ℕ) → OperatesBy p own word → P (MakeSpelled word components)) →
      (OperatesBy p own
      (run_word (WithoutForm (ValueOf (d.context.numbers (Handle ty)) components))) →
      P (WithoutForm (ValueOf (d.context.numbers (Handle ty)) components))) →
      P (constructor d.context (Handle ty) components)
  value_words = made_words m types (OperatesBy p own) operates struct_operates

  cast_words : (bits : Bool) (word : List ℕ) (operand : ℕ) → OperatesBy p own word →
      WordFits p own (Some (applied_shape (cast_to bits word) (operand ∷ [])))
  cast_words false word operand is = is
  cast_words true word operand free = operates (with_type (codes "bitcast") word) (bits_free word)

  -- a conversion to a type, or what no text has
  converted_words : (bits : Bool) (kind : ScalarKind) (convert : Option ℕ) (operand : ℕ)
      (from : Option TypeInner) (new : Option TypeInner) →
      ((it : TypeInner) → new ≡ Some it → IsFit m (Value it)) →
      WordFits p own
      (Some
      (applied_shape
      (option_map_or (cast_to bits) (option_and_then (λ it. d.context.spelled (Value it)) new)
      (WithoutForm (Cast kind convert)))
      (operand ∷ [])))
  converted_words bits kind convert operand from (Some it) fit =
      type_words (Value it) (fit it refl) (λ op. WordFits p own (Some (applied_shape op (operand ∷ []))))
      (cast_to bits) (WithoutForm (Cast kind convert)) (λ word free. cast_words bits word operand free)
      (operates (run_word (WithoutForm (Cast kind convert))) (unsupported_free (Cast kind convert) refl))
  converted_words bits kind convert operand from None fit =
      operates (run_word (WithoutForm (Cast kind convert))) (unsupported_free (Cast kind convert) refl)

  target_is_fit : (kind : ScalarKind) (convert : Option ℕ) (o : Option TypeInner) (it : TypeInner) →
      option_and_then (λ it. conversion_target it kind convert) o ≡ Some it → IsFit m (Value it)
  target_is_fit kind convert (Some from) it is = target_fit m from it kind convert is
  target_is_fit kind convert None it is = absurd cc

  zero_words : (word : List ℕ) → OperatesBy p own word → (o : Option TypeResolution) →
      WordFits p own
      (Some
      (constant_shape (option_map (λ r. Composed word (d.value_type r) no_constant) o)))
  zero_words word operates (Some r) = (operates, tt)
  zero_words word operates None = tt

  -- an operator that asks
  asking_words : (op : Operator) → asks op ≡ true → asks_freely (run_word op) ≡ true →
      (xs : List ℕ) → WordFits p own (Some (applied_shape op xs))
  asking_words op is free xs =
      subst
      (λ b. WordFits p own
      (Some (if b then shapes.Request (run_word op) xs no_constant else operator_shape op xs)))
      (sym is) (asks_by (run_word op) free, tt)

  -- one that takes no type, and that expressions apply
  table_words : (op : Operator) → is_untyped op ≡ true → is_of_statements op ≡ false →
      (xs : List ℕ) → WordFits p own (Some (applied_shape op xs))
  table_words op u other xs = by (asks op) refl
    where
      by : (b : Bool) → asks op ≡ b → WordFits p own (Some (applied_shape op xs))
      by true does = asking_words op does (asking_free op u other does) xs
      by false none =
          subst
          (λ b. WordFits p own
          (Some (if b then shapes.Request (run_word op) xs no_constant else operator_shape op xs)))
          (sym none)
          (operator_any (λ s. WordFits p own (Some s)) op xs (λ j l r. tt)
          (operates (run_word op) (silent_free op u none)))

  -- where one is applied
  own_words : (otherwise : shapes.Expression) → WordFits p own (Some otherwise) →
      (o : Option Operator) → ((op : Operator) → o ≡ Some op → is_untyped op ≡ true) →
      option_map_or is_of_statements o false ≡ false → (xs : List ℕ) →
      WordFits p own (Some (applied_or otherwise xs o))
  own_words otherwise fits None untyped other xs = fits
  own_words otherwise fits (Some op) untyped other xs = table_words op (untyped op refl) other xs

  -- ---- constants that are written out
  made_operates : (ty components : ℕ) →
      OperatesBy p own (run_word (constructor d.context (Handle ty) components))
  made_operates = made_word m types (OperatesBy p own) operates struct_operates

  applied_operates : (known : ℕ → Option TypeResolution) (e : ir.Expression) (o : Operator) →
      applied_operator (expression_context m known) e ≡ Some o → asks o ≡ false →
      OperatesBy p own (run_word o)
  applied_operates known e o is silent =
      applied_words m types (OperatesBy p own) operates struct_operates known e o is silent

  constant_is_worded : (handle : ℕ) → WordFits p own (Some (constant_shape (d.constant_tree handle)))
  constant_is_worded handle =
      or_false_words m info (OperatesBy p own) made_operates applied_operates (d.constant_tree handle)
      (constant_words m info (OperatesBy p own) made_operates applied_operates handle)

  sample_words : (l : SampleLevel) (unwritten : Bool) (offset : Option ℕ) →
      ConstantsWords p own
      (trees
      (written_zero l unwritten ++
      option_to_list (option_and_then (constant_tree d f.expressions) offset)))
  sample_words l unwritten offset =
      let tree_of = constant_tree d f.expressions in
      let written = option_and_then tree_of offset in
      levels_words m info (OperatesBy p own) made_operates applied_operates l unwritten
      (option_to_list written)
      (offset_words m info (OperatesBy p own) made_operates applied_operates written
      (λ t e.
      let x = then_some tree_of offset t e in
      written_words m info (OperatesBy p own) made_operates applied_operates (types_known es)
      f.expressions x.0 t x.2))

  words : (h : ℕ) (e : ir.Expression) →
      WordFits p own (Some (shape_of d f.expressions h e))
  words h (expression.Constant handle) = constant_is_worded handle
  words h (expression.ZeroValue ty) =
      value_words 0 ty
      (λ op. WordFits p own
      (Some
      (constant_shape
      (option_map (λ r. Composed (run_word op) (d.value_type r) no_constant)
      (d.context.known h)))))
      (λ word operates. zero_words word operates (d.context.known h))
      (λ operates.
      zero_words (run_word (WithoutForm (ValueOf (d.context.numbers (Handle ty)) 0))) operates
      (d.context.known h))
  words h (expression.Compose ty components) =
      value_words (length components.items) ty
      (λ op. WordFits p own (Some (applied_shape op components.items)))
      (λ word operates. operates) (λ operates. operates)
  words h (expression.As operand kind convert) =
      converted_words (option_map_or (λ it. keeps_bits it convert) (type_known d.context operand) false)
      kind convert operand (type_known d.context operand)
      (option_and_then (λ it. conversion_target it kind convert) (type_known d.context operand))
      (target_is_fit kind convert (type_known d.context operand))
  words h
      (expression.ImageSample
      image sampler gather coordinate array_index offset level depth_ref clamp) =
      by gather
    where
      op : Option SwizzleComponent → Operator
      op g =
          image_sample_operator (option_map_or is_depth_image (type_known d.context image) false) g
          (level_of level) (is_some depth_ref) clamp (is_some array_index) (is_some offset)

      sampled : (g : Option SwizzleComponent) → asks_freely (run_word (op g)) ≡ true →
          WordFits p own
          (Some
          (image_sample_shape
          (expression.ImageSample image sampler g coordinate array_index offset level depth_ref clamp)
          (option_and_then (constant_tree d f.expressions) offset) (Some (op g))))
      sampled g free =
          (asks_by (run_word (op g)) free, sample_words level (is_some g || (is_some depth_ref || clamp)) offset)

      by : (g : Option SwizzleComponent) →
          WordFits p own
          (Some
          (image_sample_shape
          (expression.ImageSample image sampler g coordinate array_index offset level depth_ref clamp)
          (option_and_then (constant_tree d f.expressions) offset) (Some (op g))))
      by None = sampled None (asking_free (op None) refl refl refl)
      by (Some component) = sampled (Some component) (asking_free (op (Some component)) refl refl refl)
  words h (expression.AccessIndex base index) = by (part_selector d base index)
    where
      by : (o : Option Selector) → WordFits p own (Some (part_shape base index o))
      by (Some x) = tt
      by None = operates (run_word (WithoutForm (PartAt index))) (unsupported_free (PartAt index) refl)
  words h (expression.Load pointer) = by (is_atomic_pointer d.context pointer)
    where
      by : (atomic : Bool) →
          WordFits p own
          (Some
          (applied_or (shapes.Load pointer) (pointer ∷ [])
          (if atomic then Some AtomicLoad else None)))
      by true = table_words AtomicLoad refl refl (pointer ∷ [])
      by false = tt
  words h (expression.CooperativeLoad columns rows role place) =
      asking_words (matrix_load d.context columns rows role place)
      (load_asks d.context columns rows role place)
      (matrix_load_free d.context columns rows role place) (cooperative_operands place)
  words h (expression.Access base index) = tt
  words h (expression.Swizzle size vector pattern) = tt
  words h (expression.ImageQuery image asked) =
      own_words shapes.Result tt (Some (query_operator asked))
      (own_is_untyped (expression.ImageQuery image asked)) (of_no_statement asked)
      (image ∷ query_operands asked)
    where
      of_no_statement : (q : ImageQuery) → is_of_statements (query_operator q) ≡ false
      of_no_statement (query.Size level) = refl
      of_no_statement _ = refl
  words h e =
      own_words shapes.Result tt (own_operator e) (own_is_untyped e) refl (expression_operands e)

  -- ---- statements
  -- what asks for an event in a text does so here
  requests : (w : List ℕ) → is_request w ≡ true → AsksBy p own w
  requests w is = (is, free_word w (request_free w is))

  -- ---- names
  -- fixed names, numbered names and those that front ends gave are apart
  fixed_not_numbered : (x : FixedName) (h : ℕ) → IsFixedName p shape x →
      fixed_name own.names x ≢ numbered_name h
  fixed_not_numbered x h is e =
      let has = has_item x is in
      item_not_numbered m (fixed_key m g x, has.0) h has.1 (sym (fixed_named m g named x) ∙ e)

  fixed_not_named : (x : FixedName) (k : ℕ) → IsFixedName p shape x →
      k < length (expression_labels f) → fixed_name own.names x ≢ named k
  fixed_not_named x k is lt e =
      let has = has_item x is in
      label_no_item m f named are k lt (fixed_key m g x, has.0) has.1
      (sym (fixed_named m g named x) ∙ e)

  distinct : AreDistinct p own
  distinct (FixedKey x) (FixedKey y) la lb e =
      ap FixedKey (fixed_tell m p counts info g f found es named x y la lb e)
  distinct (NumberedKey h) (NumberedKey k) la lb e = ap NumberedKey (numbered_distinct h k e)
  distinct (NamedKey j) (NamedKey k) la lb e =
      ap NamedKey (are.distinct j k (named_in j la) (named_in k lb) e)
  distinct (FixedKey x) (NumberedKey h) la lb e = absurd (fixed_not_numbered x h la e)
  distinct (NumberedKey h) (FixedKey x) la lb e = absurd (fixed_not_numbered x h lb (sym e))
  distinct (FixedKey x) (NamedKey k) la lb e =
      absurd (fixed_not_named x k la (named_in k lb) e)
  distinct (NamedKey k) (FixedKey x) la lb e =
      absurd (fixed_not_named x k lb (named_in k la) (sym e))
  distinct (NamedKey k) (NumberedKey h) la lb e =
      absurd (are.not_numbered k (named_in k la) h e)
  distinct (NumberedKey h) (NamedKey k) la lb e =
      absurd (are.not_numbered k (named_in k lb) h (sym e))

  -- so nothing is left where its handles are in scope
  pub is_free : (following : List shapes.Function) → length following ≡ g → IsTrue (fits_function own) →
      IsFree false p (outer_names (module_names m) m) following own
  is_free following earlier scope = record {
    outer = refl;
    earlier = sym earlier;
    words = λ h. any_shape m info f es h (λ o. WordFits p own o) tt (λ e at. words h e);
    free = asks_by_requests p own requests callee_is_no_name;
    distinct = distinct;
    scope = scope;
  }
