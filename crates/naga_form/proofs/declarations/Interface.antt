-- The program that is written for a module has the module's interface.
--
-- Throughout, m is a module, info what is known of it, names are those of its items, t its types with
-- their names, g the number of a function, ty the handle of a type, b a binding, k the handle of a
-- declaration, and declarations go by their first letters.
use Rattle.std.proofs.Common.{◌≡◌, ℕ, suc, ◌+◌, Bool, true, false, List, [], ◌∷◌, length, refl, sym}
use Rattle.std.proofs.Common.{ap, ◌∙◌, map, Option, Some, None, pred, arith}
use Rattle.std.specs.Prelude.{IsTrue, slice_get, unwrap_or, if◌then◌else◌, ◌==◌}
use Rattle.std.specs.List.{cons_option, enumerate_from, filter_map, list_all}
use Rattle.std.specs.Option.{is_some, option_map, option_map_or}
use Rattle.std.proofs.lemmas.Bool.{and_parts, eqb-true}
use Rattle.naga_ir.specs.declared.binding.Binding.{Binding}
use Rattle.naga_ir.specs.declared.module.Constant.{Constant}
use Rattle.naga_ir.specs.declared.module.EntryPoint.{EntryPoint}
use Rattle.naga_ir.specs.declared.module.Function as ir_function
use Rattle.naga_ir.specs.declared.module.FunctionArgument.{FunctionArgument}
use Rattle.naga_ir.specs.declared.module.FunctionResult.{FunctionResult}
use Rattle.naga_ir.specs.declared.module.GlobalVariable.{GlobalVariable}
use Rattle.naga_ir.specs.declared.module.LocalVariable.{LocalVariable}
use Rattle.naga_ir.specs.declared.module.Module.{Module}
use Rattle.naga_ir.specs.declared.module.Override.{Override}
use Rattle.naga_ir.specs.declared.types.AddressSpace.{AddressSpace}
use Rattle.naga_ir.specs.declared.types.AddressSpace.TheVariants as space
use Rattle.naga_ir.specs.declared.types.StructMember.{StructMember}
use Rattle.naga_ir.specs.declared.types.Type_.{Type_}
use Rattle.naga_info.specs.declared.info.ExpressionInfo.{ExpressionInfo}
use Rattle.naga_info.specs.declared.info.ModuleInfo.{ModuleInfo}
use Rattle.naga_naming.specs.Keys.{NameMap}
use Rattle.naga_naming.specs.Reset.{members_of}
use Rattle.naga_naming.specs.declared.key.NameKey.TheVariants as key
use Rattle.naga_back.specs.FunctionContext.{function_key}
use Rattle.naga_spelling.specs.Contexts.{names_of, Names as TypeNames}
use Rattle.wgsl_words.specs.Words.{space_access_word, space_word}
use Rattle.wgsl_text.specs.Expressions.{Expression}
use Rattle.wgsl_text.specs.Reading.{printed_type}
use Rattle.text_semantics.specs.Vocabulary.{vocabulary_read}
use Rattle.wgsl_text.specs.Types.{TypeSpecifier, Named}
use Rattle.wgsl_text.proofs.Text.{text-append}
use Rattle.shader_runs.specs.Constants.{text_initialiser_value}
use Rattle.shader_runs.specs.Program as shapes
use Rattle.shader_runs.specs.Scope.{Naming, at_start}
use Rattle.shader_runs.specs.Text.{TextModule}
use Rattle.shader_runs.specs.Value.{Value}
use Rattle.text_semantics.specs.Abstraction.{expression_read, program_read}
use Rattle.text_semantics.specs.Attributes.{stage_read}
use Rattle.text_semantics.specs.Interface.{access_read, constant_interface_read}
use Rattle.text_semantics.specs.Interface.{entry_point_interface_read, function_interface_read}
use Rattle.text_semantics.specs.Interface.{global_interface_read, member_interface_read}
use Rattle.text_semantics.specs.Interface.{override_interface_read, parameter_read, result_read}
use Rattle.text_semantics.specs.Interface.{space_read, struct_interface_read}
use Rattle.module_semantics.specs.acceptance.Accepted.{is_accepted}
use Rattle.module_semantics.specs.DeclarationForms.{DeclarationsHaveForms, IsInitialiser}
use Rattle.module_semantics.specs.DeclarationForms.{IsMemberBinding, IsIoBinding, binding_has_form}
use Rattle.module_semantics.specs.DeclarationForms.{stage_has_form}
use Rattle.module_semantics.proofs.DeclarationForms.{items_have_forms}
use Rattle.module_semantics.specs.Enables.{written_enables}
use Rattle.module_semantics.specs.Faithful.{HasInterfaceOf, TellsInterfaceOf}
use Rattle.module_semantics.specs.FunctionNumbers.{all_functions}
use Rattle.module_semantics.specs.Interface.{argument_io, body_interface, constant_interface}
use Rattle.module_semantics.specs.Interface.{entry_point_interface, function_interfaces}
use Rattle.module_semantics.specs.Interface.{global_expression_value, global_interface}
use Rattle.module_semantics.specs.Interface.{member_interface, override_interface, result_io}
use Rattle.module_semantics.specs.Interface.{stage_of, struct_interface}
use Rattle.module_semantics.specs.Layouts.{written_size}
use Rattle.module_semantics.specs.ModuleShapes.{module_shape}
use Rattle.module_semantics.specs.Names.{constant_name, expression_name, function_name, global_name}
use Rattle.module_semantics.specs.Names.{LabelNames, module_names, name_in, override_name}
use Rattle.module_semantics.specs.Namings.{function_naming}
use Rattle.module_semantics.specs.acceptance.Numbers.{fits_32_bits, workgroup_fits_32_bits}
use Rattle.module_semantics.specs.acceptance.Ranges.{is_below}
use Rattle.module_semantics.specs.Types.{spelled_type, type_names}
use Rattle.module_semantics.specs.Undeclared.{is_declared}
use Rattle.module_semantics.specs.Written.{AllWrittenHaveForms}
use Rattle.module_semantics.proofs.FunctionNumbers.{entry_point_among, function_among}
use Rattle.module_semantics.proofs.FunctionNumbers.{type_of_entry_point}
use Rattle.naga_form.specs.Attributes.{stage_attributes}
use Rattle.naga_form.specs.ConstantForms.{global_form}
use Rattle.naga_form.specs.Declarations.{constant_form, entry_points_under, member_form}
use Rattle.naga_form.specs.Declarations.{override_form, space_form, space_of_words, struct_form}
use Rattle.naga_form.specs.Declarations.{program_under, variable_form, written_program}
use Rattle.naga_form.specs.Expressions.{Source, function_source}
use Rattle.naga_form.specs.Functions.{function_form, functions_under, locals_form, parameters_form}
use Rattle.naga_form.specs.Functions.{result_form}
use Rattle.naga_form.specs.TypeTrees.{type_tree}
use Rattle.naga_form.specs.Types.{annotated_type, type_form}
use Rattle.naga_form.proofs.statements.AcceptedFunctions.{entry_point_parts}
use Rattle.naga_form.proofs.statements.AcceptedFunctions.{entry_points_counted, functions_counted}
use Rattle.naga_form.proofs.statements.AcceptedFunctions.{known_there, of_number, soundness_is}
use Rattle.naga_form.proofs.declarations.Attributes.{coherent_is_read, id_is_read, member_read}
use Rattle.naga_form.proofs.declarations.Attributes.{passing_read, resource_is_read, stage_is_read}
use Rattle.naga_form.proofs.declarations.Attributes.{volatile_is_read}
use Rattle.naga_form.proofs.declarations.Attributes.{three_sizes}
use Rattle.naga_form.proofs.Facts.{from_start, further}
use Rattle.naga_form.proofs.types.Layouts.{keeps_layouts}
use Rattle.naga_form.proofs.declarations.GlobalValues.{values_alike}
use Rattle.naga_form.proofs.statements.SwitchCaseValues.{AllEnd, block_ends, lines_tell}
use Rattle.naga_form.proofs.types.TypeTrees.{type_row}
use Rattle.naga_form.proofs.statements.WrittenFunctions.{entry_point_at}
use Rattle.naga_back.specs.declared.flags.WriterFlags.{WriterFlags}
use Rattle.naga_back.specs.Flags.{annotates_types}

-- a type's form is printed as its spelling, and nothing where it has no form
spelled_form : (t : TypeNames) (ty : ℕ) → printed_type (type_form t ty) ≡ spelled_type t ty
spelled_form t ty =
    by (type_tree t ty)
    ∙ ap (λ w. unwrap_or w []) (sym (type_row text-append t (λ handle. true) ty))
  where
    by : (tree : Option TypeSpecifier) →
        printed_type (unwrap_or tree (Named [])) ≡ unwrap_or (option_map printed_type tree) []
    by None = refl
    by (Some tree) = refl

-- a binding that there is has a form where each has
any_binding_has_form : (o : Option Binding) → ((b : Binding) → o ≡ Some b → binding_has_form b ≡ true) →
    option_map_or binding_has_form o true ≡ true
any_binding_has_form None each = refl
any_binding_has_form (Some b) each = each b refl

-- ---- what is passed, and locals
-- what a function takes and gives is bound by what has a form
abbrev BindingsHaveForms : ir_function.Function → Type 0
BindingsHaveForms f = (b : Binding) → IsIoBinding f b → binding_has_form b ≡ true

parameters_io : (names : NameMap) (m : Module) (g n : ℕ) (args : List FunctionArgument) →
    ((i : ℕ) (a : FunctionArgument) → slice_get args i ≡ Some a →
    option_map_or binding_has_form a.binding true ≡ true) →
    map parameter_read (parameters_form names m g n args) ≡
    map (argument_io (names_of m.types names)) args
parameters_io names m g n [] bound = refl
parameters_io names m g n (a ∷ more) bound =
    let rest = parameters_io names m g (n + 1) more (λ i b at. bound (suc i) b at) in
    λ i. record {
      binding = passing_read a.binding (bound 0 a refl) i;
      type = spelled_form (names_of m.types names) a.ty i;
    } ∷ rest i

results_io : (t : TypeNames) (o : Option FunctionResult) →
    ((r : FunctionResult) → o ≡ Some r → option_map_or binding_has_form r.binding true ≡ true) →
    result_read (result_form t o) ≡ option_map (result_io t) o
results_io t None bound = refl
results_io t (Some r) bound =
    λ i. Some (record {
      binding = passing_read r.binding (bound r refl) i;
      type = spelled_form t r.ty i;
    })

locals_declared : (n : Naming) (t : TypeNames) (source : Source) (l : ℕ) (vs : List LocalVariable) →
    map (λ v. printed_type v.type) (locals_form n t source l vs) ≡ map (λ v. spelled_type t v.ty) vs
locals_declared n t source l [] = refl
locals_declared n t source l (v ∷ more) =
    λ i. spelled_form t v.ty i ∷ locals_declared n t source (l + 1) more i

module _ (m : Module) where
  abbrev names : NameMap
  names = module_names m

  abbrev t : TypeNames
  t = type_names m

  -- ---- structs
  module _ (declarations : DeclarationsHaveForms m) where
    members_declared : (h : ℕ) (u : Type_) → slice_get m.types h ≡ Some u →
        is_declared m.special_types h u.inner ≡ true → (k : ℕ) (ss : List StructMember) →
        ((i : ℕ) (s : StructMember) → slice_get ss i ≡ Some s →
        slice_get (members_of u.inner) (k + i) ≡ Some s) →
        map member_interface_read (map (member_form names t m h) (enumerate_from k ss)) ≡
        map (member_interface names t m h) (enumerate_from k ss)
    members_declared h u at is k [] there = refl
    members_declared h u at is k (s ∷ ss) there =
        let has =
        any_binding_has_form s.binding
        (λ b bound.
        declarations.members b
        (IsMemberBinding.OfMember h (k + 0) u s b at is (there 0 s refl) bound)) in
        let own = member_read (written_size m h k) s.binding has in
        let rest =
        members_declared h u at is (k + 1) ss (further (members_of u.inner) k s ss there) in
        λ i. record {
          name = name_in names (key.StructMember h k);
          binding = own.2 i;
          size = own.0 i;
          alignment = own.1 i;
          type = spelled_form t s.ty i;
        } ∷ rest i

    structs_from : (k : ℕ) (us : List Type_) →
        ((i : ℕ) (u : Type_) → slice_get us i ≡ Some u → slice_get m.types (k + i) ≡ Some u) →
        map struct_interface_read (filter_map (struct_form names t m) (enumerate_from k us)) ≡
        filter_map (struct_interface names t m) (enumerate_from k us)
    structs_from k [] there = refl
    structs_from k (u ∷ us) there =
        by (is_declared m.special_types k u.inner) refl
        (structs_from (k + 1) us (further m.types k u us there))
      where
        at : slice_get m.types k ≡ Some u
        at = let here : k + 0 ≡ k = omega arith in ap (slice_get m.types) (sym here) ∙ there 0 u refl

        by : (b : Bool) → is_declared m.special_types k u.inner ≡ b →
            map struct_interface_read
            (filter_map (struct_form names t m) (enumerate_from (k + 1) us)) ≡
            filter_map (struct_interface names t m) (enumerate_from (k + 1) us) →
            map struct_interface_read
            (cons_option
            (if b then Some (record {
              name = name_in names (key.Type_ k);
              members = map (member_form names t m k) (enumerate_from 0 (members_of u.inner));
            }) else None)
            (filter_map (struct_form names t m) (enumerate_from (k + 1) us))) ≡
            cons_option
            (if b then Some (record {
              name = name_in names (key.Type_ k);
              members = map (member_interface names t m k) (enumerate_from 0 (members_of u.inner));
            }) else None)
            (filter_map (struct_interface names t m) (enumerate_from (k + 1) us))
        by true is rest =
            let members =
            members_declared k u at is 0 (members_of u.inner) (from_start (members_of u.inner)) in
            λ i. record { name = name_in names (key.Type_ k); members = members i } ∷ rest i
        by false is rest = rest

  -- ---- constants, overrides and variables
  -- of initialisers that have one value on both sides
  module _ (read : Expression → Option Value) (value : ℕ → Option Value)
      (same : (h : ℕ) → IsInitialiser m h → read (global_form m (type_names m) h) ≡ value h) where
    initialisers_same : (o : Option ℕ) → ((h : ℕ) → o ≡ Some h → IsInitialiser m h) →
        option_map read (option_map (global_form m t) o) ≡ option_map value o
    initialisers_same None initial = refl
    initialisers_same (Some h) initial = ap Some (same h (initial h refl))

    constants_from : (k : ℕ) (cs : List Constant) →
        ((i : ℕ) (c : Constant) → slice_get cs i ≡ Some c → slice_get m.constants (k + i) ≡ Some c) →
        map (constant_interface_read read)
        (filter_map (constant_form names t m) (enumerate_from k cs)) ≡
        filter_map (constant_interface names t value) (enumerate_from k cs)
    constants_from k [] there = refl
    constants_from k (c ∷ cs) there =
        by (is_some c.name) refl (constants_from (k + 1) cs (further m.constants k c cs there))
      where
        by : (b : Bool) → is_some c.name ≡ b →
            map (constant_interface_read read)
            (filter_map (constant_form names t m) (enumerate_from (k + 1) cs)) ≡
            filter_map (constant_interface names t value) (enumerate_from (k + 1) cs) →
            map (constant_interface_read read)
            (cons_option
            (if b then Some (record {
              name = constant_name names k;
              type = type_form t c.ty;
              value = global_form m t c.init;
            }) else None)
            (filter_map (constant_form names t m) (enumerate_from (k + 1) cs))) ≡
            cons_option
            (if b then Some (record {
              name = constant_name names k;
              type = spelled_type t c.ty;
              value = value c.init;
            }) else None)
            (filter_map (constant_interface names t value) (enumerate_from (k + 1) cs))
        by true named rest =
            let one = same c.init (IsInitialiser.OfConstant (k + 0) c (there 0 c refl) named) in
            λ i. record {
              name = constant_name names k;
              type = spelled_form t c.ty i;
              value = one i;
            } ∷ rest i
        by false named rest = rest

    overrides_from : (k : ℕ) (os : List Override) →
        ((i : ℕ) (o : Override) → slice_get os i ≡ Some o → slice_get m.overrides (k + i) ≡ Some o) →
        map (override_interface_read read) (map (override_form names t m) (enumerate_from k os)) ≡
        map (override_interface names t value) (enumerate_from k os)
    overrides_from k [] there = refl
    overrides_from k (o ∷ os) there =
        let one =
        initialisers_same o.init
        (λ h is. IsInitialiser.OfOverride (k + 0) o h (there 0 o refl) is) in
        let rest = overrides_from (k + 1) os (further m.overrides k o os there) in
        λ i. record {
          name = override_name names k;
          id = id_is_read o.id i;
          type = spelled_form t o.ty i;
          initialiser = one i;
        } ∷ rest i

    -- the words of a space
    word_read : (space : List ℕ) (access : Option (List ℕ)) →
        space_read (space_of_words (Some space) access) ≡ Some space
    word_read space None = refl
    word_read space (Some access) = refl

    access_word_read : (space : List ℕ) (access : Option (List ℕ)) →
        access_read (space_of_words (Some space) access) ≡ access
    access_word_read space None = refl
    access_word_read space (Some access) = refl

    space_is_read : (at : AddressSpace) → space_read (space_form at) ≡ space_word at
    space_is_read (space.Storage access) = word_read _ (space_access_word (space.Storage access))
    space_is_read _ = refl

    access_is_read : (at : AddressSpace) → access_read (space_form at) ≡ space_access_word at
    access_is_read (space.Storage access) =
        access_word_read _ (space_access_word (space.Storage access))
    access_is_read _ = refl

    globals_from : (k : ℕ) (vs : List GlobalVariable) →
        ((i : ℕ) (v : GlobalVariable) → slice_get vs i ≡ Some v →
        slice_get m.global_variables (k + i) ≡ Some v) →
        map (global_interface_read read) (map (variable_form names t m) (enumerate_from k vs)) ≡
        map (global_interface names t value) (enumerate_from k vs)
    globals_from k [] there = refl
    globals_from k (v ∷ vs) there =
        let one =
        initialisers_same v.init
        (λ h is. IsInitialiser.OfVariable (k + 0) v h (there 0 v refl) is) in
        let rest = globals_from (k + 1) vs (further m.global_variables k v vs there) in
        λ i. record {
          name = global_name names k;
          binding = resource_is_read v i;
          space = space_is_read v.space i;
          access = access_is_read v.space i;
          coherent = coherent_is_read v i;
          volatile = volatile_is_read v i;
          type = spelled_form t v.ty i;
          initialiser = one i;
        } ∷ rest i

  -- ---- functions
  module _ (flags : WriterFlags) (labels : LabelNames) (info : ModuleInfo)
      (declarations : DeclarationsHaveForms m)
      (ends : (g : ℕ) (f : ir_function.Function) → slice_get (all_functions m) g ≡ Some f →
      AllEnd f.body) where
    body_is_read : (named : ℕ → List ℕ) (g : ℕ) (f : ir_function.Function)
        (es : List ExpressionInfo) → slice_get (all_functions m) g ≡ Some f →
        function_interface_read (function_form flags names named m info g f es) ≡
        body_interface t (function_name m names g) f
    body_is_read named g f es at =
        let bound : BindingsHaveForms f = (declarations.heads g).bindings f at in
        let arguments =
        parameters_io names m g 0 f.arguments.items
        (λ i a here.
        any_binding_has_form a.binding (λ b is. bound b (IsIoBinding.OfArgument i a b here is))) in
        let result =
        results_io t f.result
        (λ r here.
        any_binding_has_form r.binding (λ b is. bound b (IsIoBinding.OfResult r b here is))) in
        λ i. record {
          name = function_name m names g;
          arguments = arguments i;
          result = result i;
          locals =
              locals_declared (function_naming names named m info g f es) t
              (function_source flags m info f es) 0 f.local_variables i;
          switches =
              lines_tell (function_naming names named m info g f es)
              (annotated_type (annotates_types flags) m t es) (function_source flags m info f es) 0 f.body
              (ends g f at) (at_start (function_naming names named m info g f es).function) i;
        }

    functions_declared : (g : ℕ) (fs : List ir_function.Function) (ess : List (List ExpressionInfo)) →
        length fs ≡ length ess →
        ((i : ℕ) (f : ir_function.Function) → slice_get fs i ≡ Some f →
        slice_get m.functions (g + i) ≡ Some f) →
        map function_interface_read (functions_under labels flags names m info g fs ess) ≡
        function_interfaces names m g fs
    functions_declared g [] [] size there = refl
    functions_declared g [] (es ∷ ess) size there = refl
    functions_declared g (f ∷ fs) [] size there = absurd cc
    functions_declared g (f ∷ fs) (es ∷ ess) size there =
        let here : g + 0 ≡ g = omega arith in
        let at = ap (slice_get m.functions) (sym here) ∙ there 0 f refl in
        λ i. body_is_read (labels g) g f es (function_among m g f at) i
        ∷ functions_declared (g + 1) fs ess (ap pred size) (further m.functions g f fs there) i

    -- ---- entry points
    module _ (accepted : IsTrue (is_accepted m info)) where
      own_stage_is_read : (j : ℕ) (p : EntryPoint) → slice_get m.entry_points.items j ≡ Some p →
          stage_read (stage_attributes names p p.stage) ≡ stage_of names p p.stage
      own_stage_is_read j p at =
          let fits = entry_point_parts m info accepted j p at in
          let sizes = three_sizes names p.workgroup_size p.workgroup_size_overrides fits.sizes in
          stage_is_read names p sizes.x sizes.y sizes.z sizes.are p.stage
          ((declarations.heads (length m.functions + j)).stage p (entry_point_at m j ∙ at))

      entry_points_declared : (j : ℕ) (ps : List EntryPoint) (ess : List (List ExpressionInfo)) →
          length ps ≡ length ess →
          ((i : ℕ) (p : EntryPoint) → slice_get ps i ≡ Some p →
          slice_get m.entry_points.items (j + i) ≡ Some p) →
          map entry_point_interface_read
          (entry_points_under labels flags names m info (length m.functions + j) ps ess) ≡
          map (entry_point_interface names t) (enumerate_from j ps)
      entry_points_declared j [] [] size there = refl
      entry_points_declared j [] (es ∷ ess) size there = refl
      entry_points_declared j (p ∷ ps) [] size there = absurd cc
      entry_points_declared j (p ∷ ps) (es ∷ ess) size there =
          let here : j + 0 ≡ j = omega arith in
          let at = ap (slice_get m.entry_points.items) (sym here) ∙ there 0 p refl in
          let number = length m.functions + j in
          let next : number + 1 ≡ length m.functions + (j + 1) = omega arith in
          let function =
          body_is_read (labels number) number p.function es (entry_point_among m j p at)
          ∙ ap (λ ty. body_interface t (name_in names (function_key ty)) p.function)
          (type_of_entry_point m j) in
          let rest =
          ap
          (λ n.
          map entry_point_interface_read
          (entry_points_under labels flags names m info n ps ess)) next
          ∙ entry_points_declared (j + 1) ps ess (ap pred size)
          (further m.entry_points.items j p ps there) in
          λ i. record { stage = own_stage_is_read j p at i; function = function i } ∷ rest i

-- ---- modules
module _ (m : Module) (info : ModuleInfo) (flags : WriterFlags) (labels : LabelNames)
    (accepted : IsTrue (is_accepted m info)) (declarations : DeclarationsHaveForms m)
    (have : AllWrittenHaveForms (annotates_types flags) m info) where
  abbrev program_of_shapes : shapes.Module
  program_of_shapes = module_shape m info

  abbrev program_told : TextModule
  program_told = program_read (program_under labels m info flags)

  -- the cases of its switches end, so that no label is lost
  ends : (g : ℕ) (f : ir_function.Function) → slice_get (all_functions m) g ≡ Some f → AllEnd f.body
  ends g f at =
      let known = known_there m info accepted g f at in
      let sound =
      soundness_is m f known.0 (of_number m info accepted g f known.0 at known.1).sound in
      block_ends m f (map (λ e. e.ty) known.0) false false f.body sound.1
      (have g f known.0 at known.1).statements

  tells_interface : TellsInterfaceOf m info flags (program_under labels m info flags)
  tells_interface settings fit meaning typed world =
      let read : Expression → Option Value = λ e.
      text_initialiser_value program_told program_of_shapes.parts settings world meaning
      (vocabulary_read (program_under labels m info flags)) (expression_read e) in
      let value = global_expression_value m info settings meaning in
      let constants = (items_have_forms m declarations).constants in
      let same : (h : ℕ) → IsInitialiser m h →
      read (global_form m (type_names m) h) ≡ value h =
      λ h initial.
      values_alike m info accepted settings fit meaning typed h
      (declarations.initialisers h initial) constants flags labels world in
      let first : length m.functions + 0 ≡ length m.functions = omega arith in
      let names = module_names m in
      let entry_points =
      ap
      (λ n.
      map entry_point_interface_read
      (entry_points_under labels flags names m info n m.entry_points.items
      info.entry_points.items))
      (sym first)
      ∙ entry_points_declared m flags labels info declarations ends accepted 0 m.entry_points.items
      info.entry_points.items (entry_points_counted m info accepted)
      (from_start m.entry_points.items) in
      λ i. record {
        enables = written_enables m info flags;
        structs = structs_from m declarations 0 m.types (from_start m.types) i;
        constants =
            constants_from m read value same 0 m.constants (from_start m.constants) i;
        overrides =
            overrides_from m read value same 0 m.overrides (from_start m.overrides) i;
        globals =
            globals_from m read value same 0 m.global_variables (from_start m.global_variables) i;
        functions =
            functions_declared m flags labels info declarations ends 0 m.functions info.functions.items
            (functions_counted m info accepted) (from_start m.functions) i;
        entry_points = entry_points i;
      }

  pub has_interface_under : HasInterfaceOf m info flags (program_under labels m info flags)
  has_interface_under = record {
    tells = tells_interface;
    layouts = keeps_layouts m info flags labels accepted declarations;
  }

pub has_interface : (m : Module) (info : ModuleInfo) (flags : WriterFlags) →
    IsTrue (is_accepted m info) → DeclarationsHaveForms m → AllWrittenHaveForms (annotates_types flags) m info →
    HasInterfaceOf m info flags (written_program m info flags)
has_interface m info flags = has_interface_under m info flags (expression_name m)
