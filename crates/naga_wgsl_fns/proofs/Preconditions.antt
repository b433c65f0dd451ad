-- What the parts of a function want, from what the function wants.
-- Serves 45 contracts, `component` among them.
use Rattle.std.proofs.Common.{Vec, Global, ◌≡◌, ℕ, ◌+◌, Bool, ◌<◌, true, false, List, [], ◌++◌}
use Rattle.std.proofs.Common.{codes, length, Option, Some, None, refl, sym, ap, subst, ◌∙◌, IsTrue}
use Rattle.std.proofs.Common.{arith, max, ◌∷◌}
use Rattle.std.proofs.lemmas.Option.{same_Some, slice_get_within}
use Rattle.std.specs.Prelude.{◌||◌, not, slice_get, cond, nat_lt, unwrap_or, if◌then◌else◌}
use Rattle.std.specs.Option.{is_some, option_map, option_map_or, option_and_then, option_to_list}
use Rattle.std.proofs.lemmas.Bool.{and_parts, ltb-true}
use Rattle.naga_ir.specs.Operands.{expression_operands, level_operands}
use Rattle.naga_ir.specs.declared.expression.Expression.{Expression}
use Rattle.naga_ir.specs.declared.expression.SwizzleComponent.{SwizzleComponent}
use Rattle.naga_ir.specs.declared.expression.Expression.TheVariants as expression
use Rattle.naga_ir.specs.declared.expression.Literal as ir_literal
use Rattle.naga_ir.specs.declared.binding.Binding.{Binding}
use Rattle.naga_ir.specs.declared.module.Function.{Function}
use Rattle.naga_ir.specs.declared.module.FunctionArgument as argument
use Rattle.naga_ir.specs.declared.module.FunctionResult.{FunctionResult}
use Rattle.naga_ir.specs.declared.module.LocalVariable.{LocalVariable}
use Rattle.naga_ir.specs.declared.module.Module.{Module}
use Rattle.naga_ir.specs.declared.operators.BinaryOperator.{BinaryOperator}
use Rattle.naga_ir.specs.declared.operators.UnaryOperator.{UnaryOperator}
use Rattle.naga_ir.specs.declared.expression.CooperativeData.{CooperativeData}
use Rattle.naga_ir.specs.declared.types.CooperativeRole.{CooperativeRole}
use Rattle.naga_ir.specs.declared.types.CooperativeSize.{CooperativeSize}
use Rattle.naga_ir.specs.declared.types.VectorSize.{VectorSize}
use Rattle.naga_info.specs.declared.info.ExpressionInfo.{ExpressionInfo}
use Rattle.module_semantics.proofs.Lists.{list_all_at}
use Rattle.module_semantics.proofs.ExpressionForms.{type_form_of_spellable, has_form_parts}
use Rattle.module_semantics.specs.Sampling.{own_offset_has_form}
use Rattle.naga_ir.specs.declared.expression.SampleLevel.{SampleLevel}
use Rattle.naga_wgsl_fns.specs.FunctionText.{named_in, AreInText, source, CanWrite, IsInText, IsLet}
use Rattle.naga_wgsl_fns.specs.FunctionText.{context, naming, callees, number}
use Rattle.module_semantics.specs.Names.{module_names, name_in, numbered_name}
use Rattle.module_semantics.specs.AlikeTypes.{has_type_form}
use Rattle.module_semantics.specs.DeclarationForms.{binding_has_form}
use Rattle.module_semantics.specs.DeclarationForms.IsIoBinding.{OfArgument as IoArgument}
use Rattle.module_semantics.specs.DeclarationForms.IsIoBinding.{OfResult as IoResult}
use Rattle.naga_wgsl_shared.specs.Bindings.{passing_has_form}
use Rattle.module_semantics.specs.ExpressionForms.{expression_has_own_form, known_passes}
use Rattle.naga_form.proofs.declarations.AcceptedGroups.{fits_in_range, known_fits, known_is_fit}
use Rattle.naga_form.proofs.types.PartTypes.{known_before}
use Rattle.naga_info.specs.declared.info.ModuleInfo.{ModuleInfo}
use Rattle.naga_spelling.specs.Spelling.{is_struct}
use Rattle.module_semantics.specs.ExpressionOperators.{has_parts, is_composite, type_known}
use Rattle.module_semantics.specs.ExpressionOperators.{called_word}
use Rattle.module_semantics.specs.ExpressionShapes.{ModuleDeclarations, component_letters, own_selector}
use Rattle.module_semantics.specs.ExpressionShapes.{part_selector, selector}
use Rattle.naga_form.proofs.operators.AllowedParts.{LoadedMatrix, conversion, known_base}
use Rattle.naga_form.proofs.operators.AllowedParts.{loaded_matrix, selector_is, whole_is}
use Rattle.naga_form.proofs.operators.AllowedParts.{type_known_is as known_type_is}
use Rattle.naga_ir.specs.declared.types.ScalarKind.{ScalarKind}
use Rattle.module_semantics.specs.Conversions.{conversion_target}
use Rattle.naga_info.specs.Resolution.{InRange, handle_of, inner_of}
use Rattle.naga_info.specs.declared.info.TypeResolution.{TypeResolution}
use Rattle.naga_info.specs.declared.info.TypeResolution.TheVariants as resolution
use Rattle.naga_ir.specs.declared.types.AddressSpace.{AddressSpace}
use Rattle.naga_ir.specs.declared.types.Type_.{Type_}
use Rattle.naga_ir.specs.declared.types.TypeInner.{TypeInner}
use Rattle.naga_ir.specs.declared.types.TypeInner.TheVariants as inner
use Rattle.naga_info.proofs.Options.{then_some}
use Rattle.naga_naming.proofs.Refusal.{element}
use Rattle.naga_naming.specs.Keys.{names_in}
use Rattle.naga_naming.specs.Reset.{members_of}
use Rattle.naga_naming.specs.declared.key.NameKey.TheVariants as key
use Rattle.module_semantics.specs.Undeclared.{is_spellable, member_has_form, names_undeclared}
use Rattle.module_semantics.specs.Undeclared.{part_has_form_at, whole_known, whole_of}
use Rattle.shader_runs.specs.Value.{MemberNamed}
use Rattle.naga_wgsl_fns.specs.Expressions.{accessed_base, is_of_components, struct_at, struct_known}
use Rattle.naga_wgsl_fns.specs.Expressions.{has_components, is_vector, selector_of}
use Rattle.module_semantics.specs.acceptance.Ranges.{is_below, local_in_range, names_in_range}
use Rattle.module_semantics.specs.acceptance.Ranges.{resolution_fits}
use Rattle.module_semantics.specs.Premises.{OperandsStandBefore}
use Rattle.module_semantics.specs.Types.{type_names}
use Rattle.shader_runs.specs.Premises.{AllBelow}
use Rattle.shader_runs.specs.Scope.{named_after}
use Rattle.naga_form.proofs.statements.AcceptedFunctions.{locals_are_in_range, names_are_in_range}
use Rattle.naga_form.proofs.Fits.{named_is, named_one}
use Rattle.module_semantics.specs.ExpressionLabels.{label_of}
use Rattle.naga_scope.specs.Availabilities.{name_of_bound, next_name}
use Rattle.naga_wgsl_fns.specs.Names.{bound_text, next_name_text}
use Rattle.naga_form.proofs.operators.Ordered.{operands_stand_before}
use Rattle.naga_form.proofs.types.WrittenTypes.{tree_there}
use Rattle.naga_wgsl_fns.proofs.Members.{found_none, found_struct, member_selected, no_struct}
use Rattle.naga_form.specs.TypeTrees.{resolution_tree}
use Rattle.naga_form.specs.Types.{annotated_type}
use Rattle.wgsl_text.specs.Reading.{printed_type}
use Rattle.wgsl_text.specs.Types.{Named, TypeSpecifier}
use Rattle.naga_wgsl_fns.specs.declared.functions.FunctionText.{FunctionText}
use Rattle.naga_back.specs.Flags.{annotates_types}
use Rattle.module_semantics.specs.Written.{IsWrittenIn, OfArgument, OfLet, OfLocal, OfResult}
use Rattle.naga_form.proofs.statements.WrittenHandles.{all_front, all_rest, written_are_closed}
use Rattle.std.specs.List.{AllByRecursion}
use Rattle.naga_wgsl_fns.specs.Types.{annotation_text, resolution_text, let_annotation_text}
use Rattle.naga_wgsl_fns.specs.Types.{annotation_if}

-- an expression is of none of these kinds, which are those that have a form, and its operator is not
-- called by a word
pub record IsNoOther (e : Expression) : Type 0 where
  pub literal : (value : ir_literal.Literal) → e ≡ expression.Literal value → ⊥
  pub constant : (c : ℕ) → e ≡ expression.Constant c → ⊥
  pub overridden : (o : ℕ) → e ≡ expression.Override o → ⊥
  pub zero_value : (ty : ℕ) → e ≡ expression.ZeroValue ty → ⊥
  pub composed : (ty : ℕ) (parts : Vec ℕ Global) → e ≡ expression.Compose ty parts → ⊥
  pub element : (b i : ℕ) → e ≡ expression.Access b i → ⊥
  pub part : (b i : ℕ) → e ≡ expression.AccessIndex b i → ⊥
  pub argument : (n : ℕ) → e ≡ expression.FunctionArgument n → ⊥
  pub global : (v : ℕ) → e ≡ expression.GlobalVariable v → ⊥
  pub local_ : (v : ℕ) → e ≡ expression.LocalVariable v → ⊥
  pub load : (p : ℕ) → e ≡ expression.Load p → ⊥
  pub unary : (op : UnaryOperator) (x : ℕ) → e ≡ expression.Unary op x → ⊥
  pub binary : (op : BinaryOperator) (l r : ℕ) → e ≡ expression.Binary op l r → ⊥
  pub swizzle : (size : VectorSize) (x : ℕ) (pattern : List SwizzleComponent) →
      e ≡ expression.Swizzle size x pattern → ⊥
  pub converted : (x : ℕ) (kind : ScalarKind) (convert : Option ℕ) →
      e ≡ expression.As x kind convert → ⊥
  pub sampled : (image sampler : ℕ) (gather : Option SwizzleComponent) (coordinate : ℕ)
      (array_index offset : Option ℕ) (level : SampleLevel) (depth_ref : Option ℕ) (clamp : Bool) →
      e ≡
      expression.ImageSample image sampler gather coordinate array_index offset level depth_ref clamp →
      ⊥
  pub matrix_load : (columns rows : CooperativeSize) (role : CooperativeRole)
      (place : CooperativeData) → e ≡ expression.CooperativeLoad columns rows role place → ⊥
  pub called : called_word e ≡ None

-- a handle stands before this one, and is written
abbrev pub IsOperand : FunctionText → (handle x : ℕ) → Type 0
IsOperand t h x = (x < h) × IsInText t x

-- the highest of some handles
abbrev pub highest : List ℕ → ℕ
highest [] = 0
highest (x ∷ xs) = max x (highest xs)

pub highest_below : (t : FunctionText) (h : ℕ) (xs : List ℕ) → 0 < h →
    AllByRecursion (IsOperand t h) xs → highest xs < h
highest_below t h [] some all = some
highest_below t h (x ∷ xs) some all =
    let one = all.0.0 in let more = highest_below t h xs some all.1 in omega (arith, one, more)

-- the operands of a sampling
pub record AreSampled (t : FunctionText) (h i s p : ℕ) (a d l o : List ℕ) : Type 0 where
  pub image : IsOperand t h i
  pub sampler : IsOperand t h s
  pub coordinate : IsOperand t h p
  pub array : AllByRecursion (IsOperand t h) a
  pub depth : AllByRecursion (IsOperand t h) d
  pub level : AllByRecursion (IsOperand t h) l
  pub offset : AllByRecursion (IsOperand t h) o

are_sampled : (t : FunctionText) (h image sampler coordinate : ℕ)
    (array depth level offset : List ℕ) →
    AllByRecursion (IsOperand t h)
    (image ∷ sampler ∷ coordinate ∷ array ++ depth ++ level ++ offset) →
    AreSampled t h image sampler coordinate array depth level offset
are_sampled t h image sampler coordinate array depth level offset all =
    let P = IsOperand t h in
    let front = all_front P (array ++ depth ++ level) offset all.1.1.1 in
    let first = all_front P (array ++ depth) level front in
    record {
      image = all.0;
      sampler = all.1.0;
      coordinate = all.1.1.0;
      array = all_front P array depth first;
      depth = all_rest P array depth first;
      level = all_rest P (array ++ depth) level front;
      offset = all_rest P (array ++ depth ++ level) offset all.1.1.1;
    }

pub all_in_text : (t : FunctionText) (h : ℕ) (xs : List ℕ) → AllByRecursion (IsOperand t h) xs →
    AreInText t xs
all_in_text t h [] all = tt
all_in_text t h (x ∷ xs) all = (all.0.1, all_in_text t h xs all.1)

module _ (t : FunctionText) (can : CanWrite t) where
  -- its module, its handle, the function, and what is known of its expressions
  abbrev m : Module
  m = t.known.shader.now

  abbrev info : ModuleInfo
  info = t.known.info.now

  abbrev g : ℕ
  g = number t

  abbrev f : Function
  f = t.function.now

  abbrev es : List ExpressionInfo
  es = t.info.now

  -- ---- types
  -- the types of arguments, of the result and of locals have forms
  pub argument_is_formed : (n : ℕ) (a : argument.FunctionArgument) → slice_get f.arguments.items n ≡ Some a →
      IsTrue (has_type_form m.types (resolution.Handle a.ty))
  argument_is_formed n a here =
      type_form_of_spellable m (resolution.Handle a.ty)
      (can.formed.types (resolution.Handle a.ty) (OfArgument n a here))

  pub answer_is_formed : (r : FunctionResult) → f.result ≡ Some r →
      IsTrue (has_type_form m.types (resolution.Handle r.ty))
  answer_is_formed r is =
      type_form_of_spellable m (resolution.Handle r.ty)
      (can.formed.types (resolution.Handle r.ty) (OfResult r is))

  -- what they pass by has a form
  passes : (b : Option Binding) →
      ((k : Binding) → b ≡ Some k → IsTrue (binding_has_form k)) → IsTrue (passing_has_form b)
  passes None is = refl
  passes (Some k) is = is k refl

  pub argument_passes : (n : ℕ) (a : argument.FunctionArgument) →
      slice_get f.arguments.items n ≡ Some a → IsTrue (passing_has_form a.binding)
  argument_passes n a here =
      passes a.binding
      (λ k is. can.head.bindings f can.function k (IoArgument n a k here is))

  pub answer_passes : (r : FunctionResult) → f.result ≡ Some r → IsTrue (passing_has_form r.binding)
  answer_passes r is =
      passes r.binding (λ k bound. can.head.bindings f can.function k (IoResult r k is bound))

  pub local_is_formed : (l : ℕ) (v : LocalVariable) → slice_get f.local_variables l ≡ Some v →
      IsTrue (has_type_form m.types (resolution.Handle v.ty))
  local_is_formed l v here =
      type_form_of_spellable m (resolution.Handle v.ty)
      (can.formed.types (resolution.Handle v.ty) (OfLocal l v here))

  -- a local's first value is one of the function's expressions
  local_is_in_range : (l : ℕ) (v : LocalVariable) → slice_get f.local_variables l ≡ Some v →
      IsTrue (nat_lt v.ty (length m.types)) × IsTrue (is_below (length f.expressions) v.init)
  local_is_in_range l v here =
      and_parts (nat_lt v.ty (length m.types)) (is_below (length f.expressions) v.init)
      (list_all_at (local_in_range (length m.types) (length f.expressions)) f.local_variables l
      v (locals_are_in_range m (callees t) f can.ranges) here)

  pub first_within : (l : ℕ) (v : LocalVariable) → slice_get f.local_variables l ≡ Some v →
      IsTrue (is_below (length f.expressions) v.init)
  first_within l v here = (local_is_in_range l v here).1

  -- ---- what is known of an expression
  -- the type that a `let` tells has a form
  pub annotated_is_formed : (h : ℕ) (k : ExpressionInfo) → slice_get es h ≡ Some k →
      annotates_types t.known.flags ≡ true → IsLet t h →
      names_undeclared m k.ty ≡ false → IsTrue (has_type_form m.types k.ty)
  annotated_is_formed h k at tells named declared =
      type_form_of_spellable m k.ty (can.formed.types k.ty (OfLet h k tells named at declared))

  pub known_resolution_fits : (h : ℕ) (k : ExpressionInfo) → slice_get es h ≡ Some k →
      IsTrue (resolution_fits (length m.overrides) (length m.types) k.ty)
  known_resolution_fits h k at = known_is_fit m info can.known.accepted g es can.infos h k at

  pub known_in_range : (h : ℕ) (k : ExpressionInfo) → slice_get es h ≡ Some k → InRange k.ty m.types
  known_in_range h k at = fits_in_range (length m.overrides) m.types k.ty (known_resolution_fits h k at)

  pub type_known_is : (h : ℕ) (k : ExpressionInfo) → slice_get es h ≡ Some k →
      type_known (context t) h ≡ inner_of k.ty m.types
  type_known_is h k at = known_type_is m t.known.info.now es h k at

  -- what is pointed at is a type of the module
  pub pointee_within : (h : ℕ) (it : TypeInner) (base : ℕ) (at : AddressSpace) → h < length es →
      type_known (context t) h ≡ Some it → it ≡ inner.Pointer base at → base < length m.types
  pointee_within h it base at lt known is =
      let k = element es h lt in
      let inside = sym (type_known_is h k.0 k.1) ∙ (known ∙ ap Some is) in
      let ends = known_before m info can.known.accepted k.0.ty (known_resolution_fits h k.0 k.1)
      (inner.Pointer base at) inside in
      omega (arith, ends)

  -- ---- parts
  -- a member of a struct, by its name
  pub member_is : (base index h : ℕ) →
      expression_has_own_form m es (expression.AccessIndex base index) ≡ true →
      struct_known t base ≡ Some h →
      part_selector (source t).declared base index ≡
      Some (MemberNamed (name_in (module_names m) (key.StructMember h index)))
  member_is base index h may found =
      let b = known_base m es base index may in
      selector_is m info es base index b
      ∙ member_selected m (source t).declared refl b.known.ty b.type index h b.is
      (sym (ap (option_and_then (struct_at m.types)) (whole_is m info es base b)) ∙ found)

  -- which the map of names has
  pub member_there : (base index h : ℕ) →
      expression_has_own_form m es (expression.AccessIndex base index) ≡ true →
      struct_known t base ≡ Some h →
      names_in t.known.names.now (key.StructMember h index) ≡
      Some (name_in (module_names m) (key.StructMember h index))
  member_there base index h may found =
      let whole = then_some (struct_at m.types) (whole_known m.types es base) h found in
      let s = found_struct m whole.0 h whole.2 in
      let written = (and_parts (known_passes m.types es (has_parts m.types) base) _ may).1 in
      let lt =
      by s.type.inner s.is whole.0
      (sym
      (ap (λ o. option_map_or
      (λ ty. not (is_struct ty.inner) || member_has_form m whole.0 (members_of ty.inner) index) o
      true) s.there)
      ∙ (sym (ap (λ o. option_map_or (part_has_form_at m index) o true) whole.1) ∙ written)) in
      let a = element (members_of s.type.inner) index (ltb-true index _ lt) in
      subst
      (λ k. names_in t.known.names.now (key.StructMember k index) ≡
      Some (name_in (module_names m) (key.StructMember k index)))
      s.same (can.known.named.members whole.0 s.type s.there index a.0 a.1)
    where
      by : (it : TypeInner) → is_struct it ≡ true → (k : ℕ) →
          (not (is_struct it) || member_has_form m k (members_of it) index) ≡ true →
          nat_lt index (length (members_of it)) ≡ true
      by (inner.Struct members span) is k written =
          (and_parts (nat_lt index (length members.items)) _ written).0
      by _ is k written = absurd cc

  -- the letter of a component, where a vector has it or one that is pointed at
  letter_of : (d : ModuleDeclarations) (whole : Option ℕ) (it : TypeInner) (index : ℕ) →
      is_struct it ≡ false → is_composite it ≡ true →
      own_selector d whole it index ≡
      Some (selector_of (if is_vector it then slice_get component_letters index else None) index)
  letter_of d whole (inner.Vector size s) index none parts = refl
  letter_of d whole (inner.Matrix columns rows s) index none parts = refl
  letter_of d whole (inner.Array base size stride) index none parts = refl
  letter_of d whole (inner.BindingArray base size) index none parts = refl
  letter_of d whole (inner.Struct members span) index none parts = absurd cc
  letter_of d whole _ index none parts = absurd cc

  pub component_is : (base index : ℕ) →
      expression_has_own_form m es (expression.AccessIndex base index) ≡ true →
      struct_known t base ≡ None →
      (letter : Option (List ℕ)) →
      letter ≡ (if has_components t base then slice_get component_letters index else None) →
      part_selector (source t).declared base index ≡ Some (selector_of letter index)
  component_is base index may no_member letter is =
      let b = known_base m es base index may in
      let none =
      sym (ap (option_and_then (struct_at m.types)) (whole_is m info es base b)) ∙ no_member in
      let itself =
      no_struct m b.known.ty b.type
      (known_fits m info can.known.accepted g es can.infos base b.known b.there) b.is none in
      let known = type_known_is base b.known b.there ∙ b.is in
      selector_is m info es base index b
      ∙ (by b.type b.known.ty itself b.passes none
      ∙ ap (λ l. Some (selector_of l index))
      (sym
      (is
      ∙ ap
      (λ o. if option_map_or (is_of_components m.types) o false then
      slice_get component_letters index else None) known)))
    where
      pointed : (b : ℕ) → struct_at m.types b ≡ None → (o : Option Type_) → slice_get m.types b ≡ o →
          option_map_or is_composite (option_map (λ t. t.inner) o) false ≡ true →
          option_and_then (λ it. own_selector (source t).declared (Some b) it index)
          (option_map (λ t. t.inner) o) ≡
          Some
          (selector_of
          (if option_map_or is_vector (option_map (λ t. t.inner) o) false then
          slice_get component_letters index else None) index)
      pointed b none (Some ty) at parts =
          letter_of (source t).declared (Some b) ty.inner index (found_none m b ty at none) parts
      pointed b none None at parts = absurd cc

      by : (it : TypeInner) (r : TypeResolution) → is_struct it ≡ false →
          has_parts m.types it ≡ true →
          option_and_then (struct_at m.types) (whole_of r it) ≡ None →
          selector (source t).declared (handle_of r) it index ≡
          Some
          (selector_of
          (if is_of_components m.types it then slice_get component_letters index else None) index)
      by (inner.Pointer b at) r itself parts none = pointed b none (slice_get m.types b) refl parts
      by (inner.ValuePointer (Some size) s at) r itself parts none = refl
      by (inner.ValuePointer None s at) r itself parts none = absurd cc
      by (inner.Vector size s) r itself parts none = refl
      by (inner.Matrix columns rows s) r itself parts none = refl
      by (inner.Array base size stride) r itself parts none = refl
      by (inner.BindingArray base size) r itself parts none = refl
      by (inner.Struct members span) r itself parts none = absurd cc
      by _ r itself parts none = absurd cc

  -- what a part is taken of is known
  pub base_known : (base index : ℕ) →
      expression_has_own_form m es (expression.AccessIndex base index) ≡ true → base < length es
  base_known base index may =
      let b = known_base m es base index may in slice_get_within es base b.known b.there

  pub known_within_infos : (h : ℕ) → h < length f.expressions → h < length es
  known_within_infos h lt = subst (λ n. h < n) can.size lt

  -- what is told of a type that is known
  abbrev annotated_of : Option ExpressionInfo → Option TypeSpecifier
  annotated_of o =
      option_and_then
      (λ e. if names_undeclared m e.ty then None else resolution_tree (type_names m) e.ty) o

  -- the type that a `let` tells, where it tells one
  pub annotated_row : (h : ℕ) (k : ExpressionInfo) → slice_get es h ≡ Some k → annotates_types t.known.flags ≡ true →
      names_undeclared m k.ty ≡ false → IsTrue (has_type_form m.types k.ty) →
      annotation_text t k.ty ≡ let_annotation_text t h
  unfolding annotation_text resolution_text let_annotation_text
  annotated_row h k at is declared formed =
      let has = tree_there (type_names m) k.ty formed in
      ap (λ o. codes ": " ++ printed_type (unwrap_or o (Named []))) has.1
      ∙ ap annotation_if
      (sym
      (ap (λ b. annotated_type b m (type_names m) es h) is
      ∙ ap annotated_of at
      ∙ ap (λ b. if b then None else resolution_tree (type_names m) k.ty) declared ∙ has.1))

  -- where it names what no text declares, none is told
  pub undeclared_row : (h : ℕ) (k : ExpressionInfo) → slice_get es h ≡ Some k →
      names_undeclared m k.ty ≡ true → let_annotation_text t h ≡ []
  unfolding let_annotation_text
  undeclared_row h k at named = by (annotates_types t.known.flags)
    where
      by : (b : Bool) → annotation_if (annotated_type b m (type_names m) es h) ≡ []
      by true =
          ap annotation_if
          (ap annotated_of at
          ∙ ap (λ b. if b then None else resolution_tree (type_names m) k.ty) named)
      by false = refl

  pub unannotated_row : (h : ℕ) → annotates_types t.known.flags ≡ false → let_annotation_text t h ≡ []
  unfolding let_annotation_text
  unannotated_row h is = ap (λ b. annotation_if (annotated_type b m (type_names m) es h)) is

  -- ---- expressions
  -- one that is written has a form
  pub expression_formed : (h : ℕ) (e : Expression) → slice_get f.expressions h ≡ Some e → IsInText t h →
      IsTrue (expression_has_own_form m es e)
  expression_formed h e here is = (has_form_parts m es f.expressions e (can.formed.expressions h e here is.written)).0

  -- and so has its offset
  pub offset_formed : (h : ℕ) (e : Expression) → slice_get f.expressions h ≡ Some e → IsInText t h →
      IsTrue (own_offset_has_form f.expressions e)
  offset_formed h e here is = (has_form_parts m es f.expressions e (can.formed.expressions h e here is.written)).1

  -- so it is written as what it is: a literal of a type that is written, a constant that has a name or
  -- whose initialiser is written, a conversion or a load of a matrix that has a form, a function of
  -- mathematics or a relation that has a word
  pub written_as : {h : ℕ} {e own : Expression} → slice_get f.expressions h ≡ Some e → IsInText t h →
      e ≡ own → expression_has_own_form m es own ≡ true
  written_as {h} {e} {own} here within is =
      ap (expression_has_own_form m es) (sym is) ∙ expression_formed h e here within

  -- what an expression names is there
  names_there : (h : ℕ) (e own : Expression) → slice_get f.expressions h ≡ Some e → e ≡ own →
      IsTrue (names_in_range m (length f.arguments.items) (length f.local_variables) own)
  names_there h e own here is = ap (names_in_range m (length f.arguments.items) (length f.local_variables))
      (sym is) ∙ names_are_in_range m (callees t) f can.ranges h e here

  pub argument_within : (h : ℕ) {e : Expression} {n : ℕ} → slice_get f.expressions h ≡ Some e →
      e ≡ expression.FunctionArgument n → n < length f.arguments.items
  argument_within h {e} {n} here is =
      ltb-true n (length f.arguments.items) (names_there h e (expression.FunctionArgument n) here is)

  pub local_within : (h : ℕ) {e : Expression} {v : ℕ} → slice_get f.expressions h ≡ Some e →
      e ≡ expression.LocalVariable v → v < length f.local_variables
  local_within h {e} {v} here is =
      ltb-true v (length f.local_variables) (names_there h e (expression.LocalVariable v) here is)

  pub global_within : (h : ℕ) {e : Expression} {v : ℕ} → slice_get f.expressions h ≡ Some e →
      e ≡ expression.GlobalVariable v → v < length m.global_variables
  global_within h {e} {v} here is =
      ltb-true v (length m.global_variables) (names_there h e (expression.GlobalVariable v) here is)

  pub override_within : (h : ℕ) {e : Expression} {o : ℕ} → slice_get f.expressions h ≡ Some e →
      e ≡ expression.Override o → o < length m.overrides
  override_within h {e} {o} here is = ltb-true o (length m.overrides) (names_there h e (expression.Override o) here is)

  pub ordered : OperandsStandBefore f.expressions
  ordered h e at = operands_stand_before m (callees t) f can.ranges h e at

  pub all_before : (h : ℕ) (e : Expression) → slice_get f.expressions h ≡ Some e → AllBelow h (expression_operands e)
  all_before h e here = ordered h e here

  -- the operands of what is written stand before it, and are written
  pub operands_in : {h : ℕ} {e own : Expression} → slice_get f.expressions h ≡ Some e → e ≡ own →
      IsInText t h → AllByRecursion (IsOperand t h) (expression_operands own)
  operands_in {h} {e} {own} here is within =
      subst (λ e. AllByRecursion (IsOperand t h) (expression_operands e)) is
      (both (expression_operands e) (all_before h e here)
      ((written_are_closed m t.known.info.now f es).operands h e here within.written))
    where
      both : (xs : List ℕ) → AllBelow h xs →
          AllByRecursion (IsWrittenIn m t.known.info.now f es) xs →
          AllByRecursion (IsOperand t h) xs
      both [] below written = tt
      both (x ∷ xs) below written =
          let one = below.0 in
          let other = within.there in (
            (one, record { there = omega (arith, one, other); written = written.0 }),
            both xs below.1 written.1,
          )

  -- and those of a sampling
  pub sampled_in : {h : ℕ} {e : Expression} {image sampler : ℕ} {gather : Option SwizzleComponent}
      {coordinate : ℕ} {array_index offset : Option ℕ} {level : SampleLevel} {depth_ref : Option ℕ}
      {clamp : Bool} → slice_get f.expressions h ≡ Some e →
      e ≡
      expression.ImageSample image sampler gather coordinate array_index offset level depth_ref clamp →
      IsInText t h →
      AreSampled t h image sampler coordinate (option_to_list array_index)
      (option_to_list depth_ref) (level_operands level) (option_to_list offset)
  sampled_in {h} {e} {image} {sampler} {gather} {coordinate} {array_index} {offset} {level} {depth_ref}
      {clamp} here is within =
      are_sampled t h image sampler coordinate (option_to_list array_index)
      (option_to_list depth_ref) (level_operands level) (option_to_list offset)
      (operands_in here is within)

  -- so does what a part is taken of
  part_in : (h : ℕ) (base : ℕ) (o : Option Expression) → slice_get f.expressions h ≡ o →
      accessed_base o ≡ Some base → IsInText t h → IsOperand t h base
  part_in h base (Some (expression.Access b i)) at is within =
      subst (IsOperand t h) (same_Some b base is)
      (operands_in at refl within).0
  part_in h base (Some (expression.AccessIndex b i)) at is within =
      subst (IsOperand t h) (same_Some b base is)
      (operands_in at refl within).0
  part_in h base (Some _) at is within = absurd cc
  part_in h base None at is within = absurd cc

  pub base_in : (h base : ℕ) → accessed_base (slice_get f.expressions h) ≡ Some base → IsInText t h →
      IsOperand t h base
  base_in h base is within = part_in h base (slice_get f.expressions h) refl is within

  -- a part at a known index that is written is one of what has parts
  pub part_has_form : (h base : ℕ) (e : Expression) (b i : ℕ) → slice_get f.expressions h ≡ Some e →
      IsInText t h → e ≡ expression.AccessIndex b i →
      accessed_base (slice_get f.expressions h) ≡ Some base →
      expression_has_own_form m es (expression.AccessIndex base i) ≡ true
  part_has_form h base e b i here within is part =
      let there = here ∙ ap Some is in
      let same = same_Some b base (sym (ap accessed_base there) ∙ part) in
      subst (λ b. expression_has_own_form m es (expression.AccessIndex b i) ≡ true) same
      (expression_formed h (expression.AccessIndex b i) there within)

  -- what the operand of a conversion is converted to
  pub converted_is : (x : ℕ) (kind : ScalarKind) (convert : Option ℕ) →
      expression_has_own_form m es (expression.As x kind convert) ≡ true → (from : TypeInner) →
      type_known (context t) x ≡ Some from →
      (to : TypeInner) × ((conversion_target from kind convert ≡ Some to)
      × (has_type_form m.types (resolution.Value to) ≡ true))
  converted_is x kind convert may from known =
      let c = conversion m info es x kind convert may in
      let same = same_Some c.from from (sym c.known ∙ known) in
      (c.to, (ap (λ it. conversion_target it kind convert) (sym same) ∙ c.target, c.formed))

  -- no other expression is a part at an index
  pub no_other_part : (h base : ℕ) (e : Expression) → slice_get f.expressions h ≡ Some e →
      accessed_base (slice_get f.expressions h) ≡ Some base →
      ((b i : ℕ) → e ≡ expression.Access b i → ⊥) →
      ((b i : ℕ) → e ≡ expression.AccessIndex b i → ⊥) → ⊥
  no_other_part h base e here part = by e (sym (ap accessed_base here) ∙ part)
    where
      by : (e : Expression) → accessed_base (Some e) ≡ Some base →
          ((b i : ℕ) → e ≡ expression.Access b i → ⊥) →
          ((b i : ℕ) → e ≡ expression.AccessIndex b i → ⊥) → ⊥
      by (expression.Access b i) is one two = one b i refl
      by (expression.AccessIndex b i) is one two = two b i refl
      by _ is one two = absurd cc

  -- the load of a matrix that is written is from scalars that are known
  pub matrix_loaded : (columns rows : CooperativeSize) (role : CooperativeRole)
      (place : CooperativeData) →
      expression_has_own_form m es (expression.CooperativeLoad columns rows role place) ≡ true →
      LoadedMatrix m (context t) columns rows role place.pointer
  matrix_loaded columns rows role place may = loaded_matrix m info es columns rows role place may

  -- the type of which an expression that is written makes a value has a form
  pub made_value : {h : ℕ} {e own : Expression} (ty : ℕ) → slice_get f.expressions h ≡ Some e →
      IsInText t h → e ≡ own →
      expression_has_own_form m es own ≡ is_spellable m (resolution.Handle ty) →
      IsTrue (has_type_form m.types (resolution.Handle ty))
  made_value {h} {e} {own} ty here within is names =
      type_form_of_spellable m (resolution.Handle ty) (sym names ∙ written_as here within is)

  -- ---- names of handles
  pub named_after_one : (h k : ℕ) → named_after (naming t).function h k ≡ k + length (option_to_list (label_of f h))
  named_after_one h k = named_one m t.known.info.now f es h k

  -- what a `let` names a handle after so many given names
  pub next_row : (k h : ℕ) → bound_text t h (next_name (is_some (label_of f h)) k) ≡ next_name_text t k h
  unfolding bound_text next_name_text
  next_row k h =
      by (is_some (label_of f h))
      ∙ sym (ap (λ b. cond b (named_in t k) (numbered_name h)) (named_is m t.known.info.now f es h))
    where
      by : (b : Bool) → name_of_bound (named_in t) (numbered_name h) (next_name b k)
          ≡ cond b (named_in t k) (numbered_name h)
      by true = refl
      by false = refl
