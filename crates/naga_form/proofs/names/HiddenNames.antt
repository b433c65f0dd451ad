-- No name that a function gives is that of a struct or of an override that is written, so that types
-- mean the same in each function.
--
-- Throughout, m is a module, of which info is known, w is a word, f a function with the number g, of
-- whose expressions es is known, i an index, after are functions, and labels tells the names of the
-- labels that front ends gave.
use Rattle.std.proofs.Common.{◌≡◌, ◌≢◌, ⊎_elim, ℕ, ◌+◌, ◌<◌, Bool, true, false, List, [], ◌∷◌, ◌++◌}
use Rattle.std.proofs.Common.{Some, refl, sym, ap, subst, ◌∙◌, arith, length, map, slice_get}
use Rattle.std.proofs.Common.{true≢false}
use Rattle.std.specs.List.{list_all}
use Rattle.std.specs.Option.{is_none}
use mathlib.Core.List.{reverse_aux}
use Rattle.std.proofs.lemmas.Bool.{and_from}
use Rattle.std.proofs.lemmas.Option.{slice_get-map}
use Rattle.naga_back.specs.FunctionContext.{argument_key, local_key}
use Rattle.naga_back.specs.declared.context.FunctionType.{FunctionType}
use Rattle.naga_back.specs.declared.context.FunctionType.TheVariants as item
use Rattle.naga_info.proofs.Options.{map_some}
use Rattle.naga_info.specs.declared.info.ExpressionInfo.{ExpressionInfo}
use Rattle.naga_info.specs.declared.info.ModuleInfo.{ModuleInfo}
use Rattle.naga_ir.specs.declared.module.Function as ir_function
use Rattle.naga_ir.specs.declared.module.Module.{Module}
use Rattle.naga_naming.proofs.NamedItems.{override_stands, Stands, type_stands}
use Rattle.naga_naming.proofs.Refusal.{element}
use Rattle.naga_naming.specs.Reset.{labelled_items, LabelledItem}
use Rattle.naga_naming.specs.declared.key.NameKey.{NameKey}
use Rattle.naga_naming.specs.declared.key.NameKey.TheVariants as key
use Rattle.module_semantics.specs.ExpressionLabels.{expression_labels}
use Rattle.module_semantics.specs.FunctionNumbers.{all_functions, function_type}
use Rattle.module_semantics.specs.FunctionShapes.{function_shapes}
use Rattle.module_semantics.specs.ModuleShapes.{module_shape}
use Rattle.module_semantics.specs.Names.{AreLabelNames, AreLabelNamesOf, argument_name, LabelNames}
use Rattle.module_semantics.specs.Names.{local_name, module_names, name_in, numbered_name, wgsl_names}
use Rattle.module_semantics.specs.Namings.{function_naming, namings_from, outer_names}
use Rattle.module_semantics.specs.Types.{declared_type, type_names}
use Rattle.module_semantics.proofs.FunctionNumbers.{in_append}
use Rattle.shader_runs.specs.Form.{form_function, form_functions}
use Rattle.shader_runs.specs.Program.{argument_count, local_count}
use Rattle.shader_runs.specs.Scope.{named_by_all, Naming}
use Rattle.shader_runs.specs.Text.{TextFunction}
use Rattle.text_semantics.specs.Resolution.{hides_no_type, is_in_no_type}
use Rattle.wgsl_text.specs.Declarations.{Program}
use Rattle.naga_form.proofs.declarations.DeclaredStructs.{name_from, struct_names}
use Rattle.naga_form.proofs.names.ExpressionNames.{label_no_item}
use Rattle.naga_form.proofs.Facts.{further}
use Rattle.naga_form.proofs.Fits.{mapped_length, named_by_all_is}
use Rattle.naga_form.proofs.names.GivenNames.{own_names_pass}
use Rattle.naga_form.proofs.names.ItemKeys.{keys_tell}
use Rattle.naga_form.proofs.ListIndices.{made_from, index_none}
use Rattle.naga_form.proofs.names.Names.{argument_there, item_not_numbered, local_there}
use Rattle.naga_form.specs.Declarations.{override_form, program_under}
use Rattle.naga_back.specs.declared.flags.WriterFlags.{WriterFlags}

-- ---- keys
-- the key of what a type may name
abbrev is_in_types : NameKey → Bool
is_in_types (key.Type_ h) = true
is_in_types (key.Override o) = true
is_in_types _ = false

argument_in_none : (ty : FunctionType) (i : ℕ) → is_in_types (argument_key ty i) ≡ false
argument_in_none (item.Function h) i = refl
argument_in_none (item.EntryPoint j) i = refl

local_in_none : (ty : FunctionType) (i : ℕ) → is_in_types (local_key ty i) ≡ false
local_in_none (item.Function h) i = refl
local_in_none (item.EntryPoint j) i = refl

module _ (m : Module) (info : ModuleInfo) (flags : WriterFlags) (labels : LabelNames) where
  abbrev program : Program
  program = program_under labels m info flags

  -- ---- names
  abbrev override_names : List (List ℕ)
  override_names = map (λ v. v.name) program.overrides

  override_from : (j : ℕ) (w : List ℕ) → slice_get override_names j ≡ Some w →
      (item : LabelledItem) × Stands (labelled_items (wgsl_names m) m) item
      × (is_in_types item.0 ≡ true) × (name_in (module_names m) item.0 ≡ w)
  override_from j w at =
      let v = map_some (λ v. v.name) (slice_get program.overrides j) w
      (sym (slice_get-map (λ v. v.name) program.overrides j) ∙ at) in
      let x = made_from (override_form (module_names m) (type_names m) m) m.overrides j v.0 v.1 in
      (_, override_stands (wgsl_names m) m j x.0 x.1, refl, ap (λ v. v.name) x.2 ∙ v.2)

  -- a name that none of these items has is in no type
  free_if : (w : List ℕ) → ((item : LabelledItem) → Stands (labelled_items (wgsl_names m) m) item →
      is_in_types item.0 ≡ true → name_in (module_names m) item.0 ≢ w) →
      is_in_no_type program w ≡ true
  free_if w differs =
      ap is_none (index_none w (struct_names m info flags labels ++ override_names)
      (λ j at. ⊎_elim (λ here. in_structs j here) (λ there. in_overrides there.0 there.2)
      (in_append (struct_names m info flags labels) override_names j w at)))
    where
      in_structs : (j : ℕ) → slice_get (struct_names m info flags labels) j ≡ Some w → ⊥
      in_structs j at =
          let x = name_from m info flags labels j w at in
          differs _ (type_stands (wgsl_names m) m x.1.handle x.1.type x.1.there) refl
          (sym x.1.name ∙ x.2)

      in_overrides : (j : ℕ) → slice_get override_names j ≡ Some w → ⊥
      in_overrides j at =
          let x = override_from j w at in differs x.0 x.1 x.2 x.3

  -- ---- functions
  abbrev pub hides_none : TextFunction → Bool
  hides_none f = hides_no_type program f

  module _ (g : ℕ) (f : ir_function.Function) (found : slice_get (all_functions m) g ≡ Some f)
      (are : AreLabelNamesOf m f (labels g)) (es : List ExpressionInfo) where
    abbrev own : Naming
    own = function_naming (module_names m) (labels g) m info g f es

    arguments : (i : ℕ) → i < argument_count own.function →
        is_in_no_type program (argument_name m (module_names m) g i) ≡ true
    arguments i lt =
        let counted = mapped_length (λ a. declared_type m a.ty) f.arguments.items in
        let a = element f.arguments.items i (subst (λ k. i < k) counted lt) in
        free_if (argument_name m (module_names m) g i)
        (λ item s is e.
        let same = keys_tell m item.0 (argument_key (function_type m g) i) (item.1, s)
        (_, argument_there m g f i a.0 found a.1) e in
        true≢false (sym is ∙ (ap is_in_types same ∙ argument_in_none (function_type m g) i)))

    locals : (i : ℕ) → i < local_count own.function →
        is_in_no_type program (local_name m (module_names m) g i) ≡ true
    locals i lt =
        let counted = mapped_length (λ v. v.init) f.local_variables in
        let v = element f.local_variables i (subst (λ k. i < k) counted lt) in
        free_if (local_name m (module_names m) g i)
        (λ item s is e.
        let same = keys_tell m item.0 (local_key (function_type m g) i) (item.1, s)
        (_, local_there m g f i v.0 found v.1) e in
        true≢false (sym is ∙ (ap is_in_types same ∙ local_in_none (function_type m g) i)))

    named : (k : ℕ) → k < named_by_all own.function own.function.body 0 →
        is_in_no_type program (labels g k) ≡ true
    named k lt =
        let all = named_by_all_is m info f es f.body 0 in
        let within : k < length (expression_labels f) = omega (arith, lt, all) in
        free_if (labels g k)
        (λ item s is. label_no_item m f (labels g) are k within item s)

    pub function_hides_none : hides_none (form_function own) ≡ true
    function_hides_none =
        own_names_pass (module_shape m info) (outer_names (module_names m) m) own
        (is_in_no_type program) arguments locals
        (λ h. free_if (numbered_name h) (λ item s is. item_not_numbered m item h s)) named

  -- each after those before it
  pub functions_hide_none : AreLabelNames m labels → (g : ℕ) (fs : List ir_function.Function)
      (ess : List (List ExpressionInfo)) →
      ((i : ℕ) (f : ir_function.Function) → slice_get fs i ≡ Some f →
      slice_get (all_functions m) (g + i) ≡ Some f) → (following : List Naming) →
      list_all hides_none (form_functions following) ≡ true →
      list_all hides_none
      (form_functions
      (reverse_aux (namings_from labels (module_names m) m g (function_shapes m info fs ess)) following))
      ≡ true
  functions_hide_none are g [] ess there following all = all
  functions_hide_none are g (f ∷ fs) [] there following all = all
  functions_hide_none are g (f ∷ fs) (es ∷ ess) there following all =
      let here : g + 0 ≡ g = omega arith in
      let found = subst (λ h. slice_get (all_functions m) h ≡ Some f) here (there 0 f refl) in
      let one = function_naming (module_names m) (labels g) m info g f es in
      functions_hide_none are (g + 1) fs ess (further (all_functions m) g f fs there) (one ∷ following)
      (and_from (hides_none (form_function one)) (list_all hides_none (form_functions following))
      (function_hides_none g f found (are g f found) es) all)
