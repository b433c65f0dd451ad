-- Each identifier and each word of what is written for a module stands for what it was written for.
use Rattle.naga_form.proofs.statements.AcceptedFunctions.{names_are_in_range, accepted_at}
use Rattle.naga_form.proofs.statements.AcceptedFunctions.{function_there}
use Rattle.std.proofs.Common.{◌≡◌, ℕ, ◌<◌, Bool, true, List, [], ◌∷◌, sym, ap, subst, ◌∙◌, ◌+◌}
use Rattle.std.proofs.Common.{Option, Some, None, false, length, refl, arith}
use Rattle.std.specs.Prelude.{IsTrue, slice_get, if◌then◌else◌}
use mathlib.Core.List.{reverse_aux}
use Rattle.naga_ir.specs.declared.expression.Expression as ir
use Rattle.naga_ir.specs.declared.expression.Expression.TheVariants as expression
use Rattle.naga_ir.specs.declared.module.Function as ir_function
use Rattle.naga_ir.specs.declared.module.Module.{Module}
use Rattle.naga_info.specs.declared.info.ExpressionInfo.{ExpressionInfo}
use Rattle.naga_info.specs.declared.info.ModuleInfo.{ModuleInfo}
use Rattle.module_semantics.specs.acceptance.Accepted.{is_accepted}
use Rattle.module_semantics.specs.acceptance.Ranges.{function_in_range}
use Rattle.std.proofs.lemmas.Bool.{ltb-true}
use Rattle.naga_form.proofs.Facts.{further, from_start}
use Rattle.shader_runs.specs.Program as shapes
use Rattle.shader_runs.specs.Program.{expression_of}
use Rattle.shader_runs.specs.Value.{Selector}
use Rattle.shader_runs.specs.Scope.{Naming}
use Rattle.shader_runs.specs.Resolution.{text_targets}
use Rattle.shader_runs.specs.Identifiers.{LeafStands, LeavesStand}
use Rattle.shader_runs.proofs.Resolution.{resolves_as_meant}
use Rattle.module_semantics.specs.FunctionNumbers.{all_functions, all_infos}
use Rattle.module_semantics.specs.Names.{AreLabelNames, expression_name, LabelNames, module_names}
use Rattle.module_semantics.specs.Types.{declared_type}
use Rattle.module_semantics.specs.ExpressionOperators.{is_atomic_pointer}
use Rattle.module_semantics.specs.ExpressionShapes.{ModuleDeclarations, shape_of, applied_shape, applied_or}
use Rattle.module_semantics.specs.ExpressionShapes.{part_shape, part_selector}
use Rattle.module_semantics.specs.FunctionShapes.{function_shape, function_shapes}
use Rattle.module_semantics.specs.Namings.{function_naming, namings_from, namings_under, outer_names}
use Rattle.module_semantics.specs.ModuleShapes.{module_shape}
use Rattle.module_semantics.specs.OperatorTable.{Operator, BinarySign, AtomicLoad}
use Rattle.module_semantics.specs.ExpressionContexts.{declared, types_known}
use Rattle.module_semantics.specs.DeclarationForms.{DeclarationsHaveForms}
use Rattle.module_semantics.proofs.DeclarationForms.{others_have_forms}
use Rattle.naga_form.specs.Declarations.{program_under, written_program}
use Rattle.module_semantics.specs.Premises.{ScopesHold}
use Rattle.module_semantics.specs.Resolution.{BodiesResolve, ResolvesAs, ResolvesUnder}
use Rattle.std.specs.List.{list_all}
use Rattle.text_semantics.specs.Resolution.{types_are_not_hidden}
use Rattle.naga_form.proofs.names.DeclaredItems.{initialisers_resolve, items_resolve}
use Rattle.naga_form.proofs.names.HiddenNames.{functions_hide_none, hides_none}
use Rattle.naga_form.proofs.Fits.{mapped_length}
use Rattle.naga_form.proofs.statements.WellFormed.{any_shape, applied_any}
use Rattle.naga_form.proofs.names.ExpressionNames.{expression_names_are}
use Rattle.naga_form.proofs.statements.ScopeRules.{scopes_are_checked_under}
use Rattle.naga_form.proofs.ModuleFits.{module_fits_under}
use Rattle.naga_form.proofs.Runs.{reads_as_shapes_under}
use Rattle.module_semantics.specs.Written.{AllWrittenHaveForms}
use Rattle.naga_back.specs.declared.flags.WriterFlags.{WriterFlags}
use Rattle.naga_back.specs.Flags.{annotates_types}

-- the arguments and locals of a function in range are its own
module _ (m : Module) (info : ModuleInfo) (callees : ℕ) (f : ir_function.Function)
    (ranges : function_in_range m callees f ≡ true) (es : List ExpressionInfo) where
  abbrev own : shapes.Function
  own = function_shape m info f es

  abbrev d : ModuleDeclarations
  d = declared m info (types_known es)

  applied_stands : (op : Operator) (xs : List ℕ) → LeafStands own (Some (applied_shape op xs))
  applied_stands op xs = applied_any (λ s. LeafStands own (Some s)) op xs tt (λ j l r. tt) tt

  leaf_stands : (h : ℕ) (e : ir.Expression) → slice_get f.expressions h ≡ Some e →
      LeafStands own (Some (shape_of d f.expressions h e))
  leaf_stands h (expression.FunctionArgument n) at =
      subst (λ count. n < count) (sym (mapped_length (λ a. declared_type m a.ty) f.arguments.items))
      (ltb-true n (length f.arguments.items)
      (names_are_in_range m callees f ranges h (expression.FunctionArgument n) at))
  leaf_stands h (expression.LocalVariable v) at =
      subst (λ count. v < count) (sym (mapped_length (λ l. l.init) f.local_variables))
      (ltb-true v (length f.local_variables)
      (names_are_in_range m callees f ranges h (expression.LocalVariable v) at))
  leaf_stands h (expression.Load pointer) at = by (is_atomic_pointer d.context pointer)
    where
      by : (atomic : Bool) →
          LeafStands own
          (Some
          (applied_or (shapes.Load pointer) (pointer ∷ []) (if atomic then Some AtomicLoad else None)))
      by true = tt
      by false = tt
  leaf_stands h (expression.Compose ty components) at = applied_stands _ _
  leaf_stands h (expression.AccessIndex base index) at = by (part_selector d base index)
    where
      by : (o : Option Selector) → LeafStands own (Some (part_shape base index o))
      by None = tt
      by (Some s) = tt
  leaf_stands h (expression.ImageQuery image query) at = applied_stands _ _
  leaf_stands h (expression.Binary op left right) at = applied_stands (BinarySign op) _
  leaf_stands h (expression.As expr kind convert) at = applied_stands _ _
  leaf_stands h (expression.CooperativeLoad columns rows role place) at = applied_stands _ _
  leaf_stands h _ at = tt

  pub leaves_are_own : (h : ℕ) → LeafStands own (expression_of own h)
  leaves_are_own h = any_shape m info f es h (λ o. LeafStands own o) tt (leaf_stands h)

module _ (m : Module) (info : ModuleInfo) (named : LabelNames)
    (accepted : IsTrue (is_accepted m info)) where
  leaves_stand : (g : ℕ) (fs : List ir_function.Function) (ess : List (List ExpressionInfo)) →
      ((i : ℕ) (f : ir_function.Function) → slice_get fs i ≡ Some f → slice_get (all_functions m) (g + i) ≡ Some f) →
      (following : List Naming) → LeavesStand following →
      LeavesStand (reverse_aux (namings_from named (module_names m) m g (function_shapes m info fs ess)) following)
  leaves_stand g [] ess there following all = all
  leaves_stand g (f ∷ fs) [] there following all = all
  leaves_stand g (f ∷ fs) (es ∷ ess) there following all =
      let here : g + 0 ≡ g = omega arith in
      let known = function_there m info accepted g f
      (subst (λ h. slice_get (all_functions m) h ≡ Some f) here (there 0 f refl)) in
      let is = accepted_at m info accepted g f known.0 known.1 in
      leaves_stand (g + 1) fs ess (further (all_functions m) g f fs there)
      (function_naming (module_names m) (named g) m info g f es ∷ following)
      (leaves_are_own m info is.callees f is.ranges es, all)

bodies_resolve : (m : Module) (info : ModuleInfo) (flags : WriterFlags) (named : LabelNames) →
    AreLabelNames m named → IsTrue (is_accepted m info) → DeclarationsHaveForms m →
    AllWrittenHaveForms (annotates_types flags) m info → ScopesHold m info →
    BodiesResolve named m info (program_under named m info flags)
bodies_resolve m info flags named are accepted declarations have scope =
    let names = module_names m in
    ap text_targets (reads_as_shapes_under m info flags named accepted declarations have)
    ∙ resolves_as_meant (module_shape m info) (outer_names names m) (namings_under named names m info)
    (module_fits_under m info accepted flags have named are
    ((scopes_are_checked_under m info accepted named).1 scope))
    (leaves_stand m info named accepted 0 (all_functions m) (all_infos info)
    (from_start (all_functions m)) [] tt)

not_hidden : (m : Module) (info : ModuleInfo) (flags : WriterFlags) (named : LabelNames) →
    AreLabelNames m named → IsTrue (is_accepted m info) → DeclarationsHaveForms m →
    AllWrittenHaveForms (annotates_types flags) m info →
    IsTrue (types_are_not_hidden (program_under named m info flags))
not_hidden m info flags named are accepted declarations have =
    ap (λ t. list_all (hides_none m info flags named) t.functions)
    (reads_as_shapes_under m info flags named accepted declarations have)
    ∙ functions_hide_none m info flags named are 0 (all_functions m) (all_infos info)
    (from_start (all_functions m)) [] refl

-- under whatever names labels may have
pub resolves_under : (m : Module) (info : ModuleInfo) (flags : WriterFlags) (named : LabelNames) →
    AreLabelNames m named → IsTrue (is_accepted m info) → DeclarationsHaveForms m →
    AllWrittenHaveForms (annotates_types flags) m info → ScopesHold m info →
    ResolvesUnder named m info (program_under named m info flags)
resolves_under m info flags named are accepted declarations have scope = record {
  bodies = bodies_resolve m info flags named are accepted declarations have scope;
  initialisers =
      initialisers_resolve m info flags named accepted (others_have_forms m declarations);
  items = items_resolve m info flags named accepted;
  not_hidden = not_hidden m info flags named are accepted declarations have;
}

pub resolves : (m : Module) (info : ModuleInfo) (flags : WriterFlags) → IsTrue (is_accepted m info) →
    DeclarationsHaveForms m → AllWrittenHaveForms (annotates_types flags) m info → ScopesHold m info →
    ResolvesAs m info (written_program m info flags)
resolves m info flags accepted declarations have scope =
    resolves_under m info flags (expression_name m) (expression_names_are m) accepted declarations
    have scope
