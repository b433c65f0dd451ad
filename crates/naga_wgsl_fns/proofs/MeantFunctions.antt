-- The program in which a function stands that is written by itself.
-- Serves `answers_tell_of_items`, `answers_tell_of_those_before`, `write_by_plan` and
-- `write_function`.
--
-- Throughout, ps are entry points from the number g on, ess says what is known of each, i is the index
-- of one among them, and named tells the names of the labels that front ends gave.
use Rattle.std.proofs.Common.{◌≡◌, ℕ, zero, suc, ◌+◌, ◌∙◌, Bool, List, [], ◌∷◌, ◌++◌, Some, ap}
use Rattle.std.proofs.Common.{arith, ◌<◌, ◌≤◌, ◌||◌, None, Option, false, length, nat_eq, refl}
use Rattle.std.proofs.Common.{slice_get, subst, sym, true, unwrap_or}
use Rattle.std.specs.List.{list_any}
use Rattle.std.specs.Option.{option_map_or}
use Rattle.std.specs.Prelude.{IsTrue, if◌then◌else◌}
use Rattle.std.proofs.lemmas.Option.{same_Some, slice_get_within}
use Rattle.naga_info.specs.declared.info.ExpressionInfo.{ExpressionInfo}
use Rattle.naga_info.specs.declared.info.ModuleInfo.{ModuleInfo}
use Rattle.naga_info.specs.declared.info.TypeResolution.{TypeResolution}
use Rattle.naga_ir.specs.declared.module.EntryPoint as ir_entry_point
use Rattle.naga_ir.specs.declared.module.Function as ir_function
use Rattle.naga_ir.specs.declared.module.Module.{Module}
use Rattle.naga_ir.specs.declared.types.Type_.{Type_}
use Rattle.naga_naming.specs.Keys.{NameMap}
use Rattle.naga_spelling.specs.Spelling.{is_struct}
use Rattle.module_semantics.specs.acceptance.Accepted.{is_accepted}
use Rattle.module_semantics.specs.LackingScalars.{base_type}
use Rattle.module_semantics.specs.Names.{AreLabelNames, LabelNames, item_labels, module_names}
use Rattle.module_semantics.specs.Undeclared.{is_undeclared, names_undeclared_by}
use Rattle.module_semantics.specs.Undeclared.{names_undeclared_within}
use Rattle.module_semantics.specs.Written.{IsSpelledIn, OfArgument, OfLet, OfLocal, OfResult}
use Rattle.module_semantics.specs.Written.{WrittenHaveForms}
use Rattle.naga_form.specs.Declarations.{entry_point_under, entry_points_under, program_under}
use Rattle.naga_form.specs.Functions.{function_form}
use Rattle.module_semantics.specs.FunctionNumbers.{all_functions, callee_count, function_number}
use Rattle.module_semantics.proofs.FunctionNumbers.{function_among, info_among}
use Rattle.naga_form.proofs.statements.AcceptedFunctions.{entry_info_among, entry_points_counted}
use Rattle.naga_form.proofs.statements.AcceptedFunctions.{functions_counted}
use Rattle.naga_naming.proofs.Refusal.{element}
use Rattle.naga_wgsl_fns.specs.Functions.{known_of}
use Rattle.naga_form.proofs.names.ExpressionNames.{apart_there, names_after_are}
use Rattle.naga_form.proofs.declarations.Interface.{has_interface_under}
use Rattle.naga_form.proofs.statements.OneFunction.{binds_at, resolves_at, runs_at}
use Rattle.naga_form.proofs.statements.WrittenFunctions.{form_at}
use Rattle.naga_back.specs.declared.context.FunctionType.{FunctionType}
use Rattle.naga_back.specs.declared.context.FunctionType.TheVariants as item
use Rattle.naga_back.specs.declared.flags.WriterFlags.{WriterFlags}
use Rattle.naga_back.specs.Flags.{annotates_types}
use Rattle.naga_wgsl_fns.specs.Items.{AnswersShowAllOfItems, AnswersShowFunctions, AnswersShowItems}
use Rattle.naga_wgsl_fns.specs.Items.{HasNoSpecialTypes, IsMeant, IsMeantUnder, StandsIn}
use Rattle.naga_wgsl_fns.specs.Items.{named_following, names_following}
use Rattle.naga_wgsl_fns.specs.PlanRefusals.{IsWritableAt}
use Rattle.naga_wgsl_fns.proofs.SpelledTypes.{written_is_spellable}

module _ (named : LabelNames) (flags : WriterFlags) (names : NameMap) (m : Module) (info : ModuleInfo) where
  -- one of the entry points
  entry_point_at : (g : ℕ) (ps : List ir_entry_point.EntryPoint) (ess : List (List ExpressionInfo)) (i : ℕ)
      (p : ir_entry_point.EntryPoint) (es : List ExpressionInfo) → slice_get ps i ≡ Some p →
      slice_get ess i ≡ Some es →
      slice_get (entry_points_under named flags names m info g ps ess) i ≡
      Some (entry_point_under named flags names m info (g + i) p es)
  entry_point_at g [] ess i p es at known = absurd cc
  entry_point_at g (x ∷ ps) [] i p es at known = absurd cc
  entry_point_at g (x ∷ ps) (ks ∷ ess) zero p es at known =
      let here : g ≡ g + 0 = omega arith in
      λ j. Some (entry_point_under named flags names m info (here j) (same_Some x p at j) (same_Some ks es known j))
  entry_point_at g (x ∷ ps) (ks ∷ ess) (suc i) p es at known =
      let next : (g + 1) + i ≡ g + suc i = omega arith in
      entry_point_at (g + 1) ps ess i p es at known
      ∙ ap (λ h. Some (entry_point_under named flags names m info h p es)) next

module _ (named : LabelNames) (flags : WriterFlags) (m : Module) (info : ModuleInfo) where
  pub function_in_program : (h : ℕ) (f : ir_function.Function) (es : List ExpressionInfo) →
      slice_get m.functions h ≡ Some f → slice_get info.functions.items h ≡ Some es →
      slice_get (program_under named m info flags).functions h ≡
      Some (function_form flags (module_names m) (named h) m info h f es)
  function_in_program h f es at known =
      let first : 0 + h ≡ h = omega arith in
      form_at flags named (module_names m) m info 0 m.functions info.functions.items h f es at known
      ∙ ap (λ k. Some (function_form flags (module_names m) (named k) m info k f es)) first

  pub entry_point_in_program : (j : ℕ) (p : ir_entry_point.EntryPoint) (es : List ExpressionInfo) →
      slice_get m.entry_points.items j ≡ Some p → slice_get info.entry_points.items j ≡ Some es →
      slice_get (program_under named m info flags).entry_points j ≡
      Some (entry_point_under named flags (module_names m) m info (length m.functions + j) p es)
  entry_point_in_program j p es at known =
      entry_point_at named flags (module_names m) m info (length m.functions) m.entry_points.items
      info.entry_points.items j p es at known

-- the same by numbers
module _ (named : LabelNames) (flags : WriterFlags) (m : Module) (info : ModuleInfo)
    (accepted : IsTrue (is_accepted m info)) where
  pub own_function : (h : ℕ) → h < length m.functions → (f : ir_function.Function) →
      slice_get (all_functions m) h ≡ Some f →
      slice_get (program_under named m info flags).functions h ≡
      Some (function_form flags (module_names m) (named h) m info h f (known_of info h))
  own_function h lt f at =
      let counted = functions_counted m info accepted in
      let own = element m.functions h lt in
      let known = element info.functions.items h (omega (arith, lt, counted)) in
      let same : own.0 ≡ f = same_Some own.0 f (sym (function_among m h own.0 own.1) ∙ at) in
      let alike : known.0 ≡ known_of info h =
      sym (ap (λ o. unwrap_or o []) (info_among info h known.0 known.1)) in
      function_in_program named flags m info h own.0 known.0 own.1 known.1
      ∙ (λ i. Some (function_form flags (module_names m) (named h) m info h (same i) (alike i)))

  pub own_entry_point : (j : ℕ) (p : ir_entry_point.EntryPoint) → slice_get m.entry_points.items j ≡ Some p →
      slice_get (program_under named m info flags).entry_points j ≡
      Some (entry_point_under named flags (module_names m) m info (length m.functions + j) p
      (known_of info (length m.functions + j)))
  own_entry_point j p at =
      let counted = entry_points_counted m info accepted in
      let within = slice_get_within m.entry_points.items j p at in
      let known = element info.entry_points.items j (omega (arith, within, counted)) in
      let alike : known.0 ≡ known_of info (length m.functions + j) =
      sym (ap (λ o. unwrap_or o []) (entry_info_among m info accepted j known.0 known.1)) in
      entry_point_in_program named flags m info j p known.0 at known.1
      ∙ ap (λ es. Some (entry_point_under named flags (module_names m) m info (length m.functions + j) p es))
      alike

-- what it may call stands before it, and is none of the entry points
callees_before : (m : Module) (ty : FunctionType) → callee_count m ty ≤ function_number m ty
callees_before m (item.Function handle) = omega arith
callees_before m (item.EntryPoint index) = omega arith

all_callees : (m : Module) (ty : FunctionType) (k : ℕ) → k ≤ function_number m ty →
    k ≤ length m.functions → k ≤ callee_count m ty
all_callees m (item.Function handle) k before there = before
all_callees m (item.EntryPoint index) k before there = there

-- where labels have these names
meant_under : (named : LabelNames) (flags : WriterFlags) (m : Module) (info : ModuleInfo) →
    IsTrue (is_accepted m info) → AreLabelNames m named → (ty : FunctionType)
    (earlier : List (List ℕ)) → IsWritableAt (annotates_types flags) m info earlier (function_number m ty) →
    (content now : List ℕ) → StandsIn ty content now (program_under named m info flags) →
    IsMeantUnder named flags m info ty content now
meant_under named flags m info accepted are ty earlier writable content now stands =
    let number = function_number m ty in
    record {
      stands = stands;
      lets = binds_at m info flags named accepted number writable.formed;
      resolution =
          resolves_at m info flags named accepted are number writable.formed writable.in_scope;
      runs = λ items have scopes.
          runs_at m info flags named accepted are items number (callee_count m ty) (all_callees m ty)
          (callees_before m ty) writable.formed writable.in_scope have scopes;
      interface = λ declarations have. has_interface_under m info flags named accepted declarations have;
    }

-- after the labels of the items and any others
pub is_meant : (flags : WriterFlags) (m : Module) (info : ModuleInfo) → IsTrue (is_accepted m info) →
    (ty : FunctionType) (earlier later : List (List ℕ)) → earlier ≡ item_labels m ++ later →
    IsWritableAt (annotates_types flags) m info earlier (function_number m ty) →
    (content now : List ℕ) →
    ((named : LabelNames) →
    named (function_number m ty) ≡ named_following m earlier (function_number m ty) →
    StandsIn ty content now (program_under named m info flags)) →
    IsMeant flags m info earlier ty content now
is_meant flags m info accepted ty earlier later is writable content now stands =
    let number = function_number m ty in
    record {
      under = λ named agree.
          meant_under named flags m info accepted agree.are ty earlier writable content
          now (stands named agree.own);
      some = record {
        are = subst (λ e. AreLabelNames m (names_following m e number)) (sym is)
            (names_after_are m number later);
        own = apart_there m number (named_following m earlier number);
      };
    }

-- what has forms with the types that `let`s tell has them without
unannotated : (explicit : Bool) (m : Module) (info : ModuleInfo) (f : ir_function.Function)
    (es : List ExpressionInfo) → WrittenHaveForms explicit m info f es →
    WrittenHaveForms false m info f es
unannotated explicit m info f es have = record {
  expressions = have.expressions;
  statements = have.statements;
  types = λ r is. have.types r (spelled r is);
}
  where
    spelled : (r : TypeResolution) → IsSpelledIn false m info f es r →
        IsSpelledIn explicit m info f es r
    spelled r (OfArgument n a at) = OfArgument n a at
    spelled r (OfResult x at) = OfResult x at
    spelled r (OfLocal l v at) = OfLocal l v at
    spelled r (OfLet h k told among at none) = absurd cc

-- what the answers of calls show of functions before a number
pub functions_shown : AnswersShowFunctions
functions_shown m info number were = (
  λ g lt f es at known.
      let one = were g lt in
      unannotated one.0 m info f es (one.2.plan.formed f es at known),
  λ g lt. (were g lt).2.plan.in_scope,
)

-- and of items
pub items_shown : AnswersShowItems
items_shown m constants variables = record {
  variables = λ i v at.
      let shown = variables i v at in
      written_is_spellable m shown.0.0 v.ty shown.0.1 shown.0.2 shown.0.3 shown.1;
  constants = λ i c at named. (constants i c at named).3;
}

-- in a module without special types no type names a struct that no text declares
module _ (m : Module) (none : HasNoSpecialTypes m) where
  declared : (h : ℕ) → is_undeclared m.special_types h ≡ false
  declared h =
      λ i. list_any (nat_eq h) (none.predeclared i) ||
      (option_map_or (nat_eq h) (none.parameters i) false ||
      option_map_or (nat_eq h) (none.transfer i) false)

  none_over : (own : ℕ → Bool) → ((h : ℕ) → own h ≡ false) → (o : Option ℕ) →
      option_map_or own o false ≡ false
  none_over own each None = refl
  none_over own each (Some h) = each h

  either : (b x y : Bool) → x ≡ false → y ≡ false → (if b then x else y) ≡ false
  either true x y one other = one
  either false x y one other = other

  names_none : (levels h : ℕ) → names_undeclared_within levels m h ≡ false
  names_none zero h = refl
  names_none (suc levels) h = by (slice_get m.types h) (names_none levels)
    where
      by : (o : Option Type_) → ((k : ℕ) → names_undeclared_within levels m k ≡ false) →
          option_map_or
          (λ t. names_undeclared_by m.special_types (names_undeclared_within levels m) h t.inner)
          o false ≡ false
      by None before = refl
      by (Some t) before =
          either (is_struct t.inner) (is_undeclared m.special_types h)
          (option_map_or (names_undeclared_within levels m) (base_type t.inner) false) (declared h)
          (none_over (names_undeclared_within levels m) before (base_type t.inner))

pub all_of_items_shown : AnswersShowAllOfItems
all_of_items_shown m none constants variables =
    items_shown m constants (λ i v at. (variables i v at, names_none m none (suc v.ty) v.ty))
