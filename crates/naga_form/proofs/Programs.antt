-- What is written for a module is a program of the grammar.
use Rattle.module_semantics.specs.acceptance.Accepted.{is_accepted}
use Rattle.module_semantics.specs.Enables.{Extension, extensions, is_enabled}
use Rattle.module_semantics.specs.DeclarationForms.{DeclarationsHaveForms}
use Rattle.module_semantics.specs.acceptance.ExpressionTypes.{have_their_types}
use Rattle.module_semantics.specs.acceptance.Numbers.{binding_fits_32_bits}
use Rattle.module_semantics.specs.acceptance.OperandDemands.{are_operands_fit}
use Rattle.module_semantics.specs.ExpressionForms.{constant_has_form}
use Rattle.module_semantics.specs.acceptance.Ranges.{function_in_range, local_in_range, is_below}
use Rattle.module_semantics.proofs.Lists.{list_all_at}
use Rattle.module_semantics.proofs.ExpressionForms.{type_form_of_spellable}
use Rattle.naga_form.proofs.statements.AcceptedFunctions.{bindings_are_in_range, entry_info_among}
use Rattle.naga_form.proofs.statements.AcceptedFunctions.{locals_are_in_range, of_number}
use Rattle.naga_form.proofs.statements.AcceptedFunctions.{ranges_are, soundness_is}
use Rattle.naga_form.proofs.declarations.Attributes.{passing_io, passing_is}
use Rattle.naga_form.proofs.declarations.DeclaredPrograms.{constants_are, overrides_are}
use Rattle.naga_form.proofs.declarations.DeclaredPrograms.{stage_there, structs_are, variables_are}
use Rattle.naga_form.proofs.declarations.DeclaredPrograms.{formed_constants}
use Rattle.std.proofs.Common.{◌≡◌, ℕ, ◌<◌, ◌≤◌, suc, Bool, true, false, List, [], ◌∷◌, length, refl}
use Rattle.std.proofs.Common.{sym, ap, ◌∙◌, arith, nat_lt, ◌+◌, Option, Some, None, ◌^◌, map}
use Rattle.std.proofs.Common.{nat_le, add-zero, zero-add, cond}
use Rattle.std.specs.Prelude.{IsTrue, slice_get}
use Rattle.std.specs.List.{list_all, AllByRecursion, filter}
use Rattle.std.specs.Option.{option_map, option_map_or, option_to_list}
use Rattle.std.proofs.lemmas.Bool.{leb-true, and_parts}
use Rattle.naga_ir.specs.declared.module.EntryPoint as ir_entry_point
use Rattle.naga_ir.specs.declared.module.Function as ir_function
use Rattle.naga_ir.specs.declared.module.FunctionArgument.{FunctionArgument}
use Rattle.naga_ir.specs.declared.module.FunctionResult.{FunctionResult}
use Rattle.naga_ir.specs.declared.module.Module.{Module}
use Rattle.naga_info.specs.declared.info.ExpressionInfo.{ExpressionInfo}
use Rattle.naga_info.specs.declared.info.ModuleInfo.{ModuleInfo}
use Rattle.module_semantics.specs.Undeclared.{is_spellable}
use Rattle.wgsl_text.specs.Words.{IsIdentifier}
use Rattle.wgsl_text.specs.Declarations.{IsEnable, IsProgram}
use Rattle.wgsl_text.specs.Expressions.{IsExpression}
use Rattle.wgsl_text.specs.Functions.{IsValue, IsParameter, IsResult, IsLocal, Each, IsEntryPoint}
use Rattle.wgsl_text.specs.Functions.{IsFunction}
use Rattle.naga_naming.proofs.Refusal.{element}
use Rattle.naga_form.specs.Declarations.{entry_points_under, program_under, written_program}
use Rattle.naga_form.specs.Expressions.{plain_form, value_form, unnamed_form, Source}
use Rattle.naga_form.specs.Expressions.{function_source}
use Rattle.naga_form.specs.Functions.{locals_form, parameters_form, result_form, function_form}
use Rattle.naga_form.specs.Functions.{functions_under}
use Rattle.module_semantics.specs.Premises.{handles_are_counted}
use Rattle.module_semantics.specs.Names.{AreLabelNames, expression_name, function_name, LabelNames}
use Rattle.module_semantics.specs.Names.{module_names, numbered_name}
use Rattle.module_semantics.specs.Types.{type_names}
use Rattle.naga_form.specs.Types.{annotated_type}
use Rattle.naga_form.proofs.declarations.AcceptedGroups.{known_fits, types_are_fit}
use Rattle.naga_form.proofs.types.SameValues.{IsFit, TypesAreFit}
use Rattle.naga_form.proofs.types.WrittenTypes.{is_type_at, annotated_is}
use Rattle.module_semantics.specs.ExpressionShapes.{ModuleDeclarations}
use Rattle.naga_form.specs.ConstantForms.{written_constant_form}
use Rattle.naga_form.proofs.statements.Abstraction.{AreWritten}
use Rattle.module_semantics.specs.FunctionShapes.{function_shape}
use Rattle.naga_form.proofs.statements.WrittenHandles.{AreClosed, written_are_closed}
use Rattle.module_semantics.specs.Written.{AllWrittenHaveForms, IsSpelledIn, IsWrittenIn, OfArgument}
use Rattle.module_semantics.specs.Written.{OfLocal, OfResult, WrittenHaveForms}
use Rattle.naga_info.specs.declared.info.TypeResolution.TheVariants.{Handle}
use Rattle.naga_info.specs.declared.info.TypeResolution.{TypeResolution}
use Rattle.naga_form.proofs.Facts.{further, from_start}
use Rattle.naga_form.proofs.names.Names.{item_is_identifier, function_item, argument_item}
use Rattle.naga_form.proofs.names.Names.{function_there, argument_there, local_item, local_there}
use Rattle.naga_form.proofs.names.NumberedNames.{numbered_is}
use Rattle.module_semantics.proofs.FunctionNumbers.{entry_point_among, function_among, info_among}
use Rattle.module_semantics.specs.FunctionNumbers.{all_functions, all_infos}
use Rattle.naga_ir.specs.declared.module.LocalVariable.{LocalVariable}
use Rattle.shader_runs.specs.Program.{binds}
use Rattle.shader_runs.specs.Scope.{Handles, Naming, at_start}
use Rattle.module_semantics.specs.Namings.{function_naming}
use Rattle.naga_form.proofs.names.ExpressionNames.{expression_names_are}
use Rattle.module_semantics.specs.ExpressionLabels.{expression_labels}
use Rattle.module_semantics.specs.StatementForms.{block_has_forms}
use Rattle.module_semantics.specs.acceptance.StatementsFit.{body_is_sound}
use Rattle.naga_form.proofs.statements.FittingStatements.{body_fits}
use Rattle.naga_form.proofs.operators.PlainForms.{IsPlainForm, NamesAre, plain_is, unnamed_is}
use Rattle.naga_form.proofs.operators.PlainForms.{value_is_one}
use Rattle.naga_form.proofs.statements.StatementPrograms.{lines_are, start_is}
use Rattle.naga_back.specs.declared.flags.WriterFlags.{WriterFlags}
use Rattle.naga_back.specs.Flags.{annotates_types, is_portable}

-- ---- functions
module _ (m : Module) (info : ModuleInfo) (g : ℕ) (f : ir_function.Function)
    (found : slice_get (all_functions m) g ≡ Some f) (es : List ExpressionInfo) (callees : ℕ)
    (there : callees ≤ length m.functions) (ranges : function_in_range m callees f ≡ true)
    (sound : body_is_sound m f (map (λ e. e.ty) es) ≡ true) (W : ℕ → Type 0)
    (closed : AreClosed W (binds (function_shape m info f es)) f) (written : AreWritten W m f es)
    (types : TypesAreFit m) (fits : (h : ℕ) (k : ExpressionInfo) → slice_get es h ≡ Some k →
    IsFit m k.ty) (demands : are_operands_fit m.types (map (λ e. e.ty) es) f.expressions ≡ true) (flags : WriterFlags)
    (spelled : (r : TypeResolution) → IsSpelledIn (annotates_types flags) m info f es r → is_spellable m r ≡ true)
    (few : length f.expressions ≤ 2 ^ 64) (named : ℕ → List ℕ) (identifiers : (k : ℕ) →
    k < length (expression_labels f) → IsIdentifier (named k)) (constants : (c : ℕ) →
    constant_has_form m c ≡ true → IsExpression (written_constant_form m (type_names m) c)) where
  abbrev own : Naming
  own = function_naming (module_names m) named m info g f es

  abbrev source : Source
  source = function_source flags m info f es

  abbrev d : ModuleDeclarations
  d = source.declared

  formed : (s : Handles) → NamesAre s → (h : ℕ) → W h → IsPlainForm (plain_form own source s h)
  formed = plain_is flags m info g f found es callees ranges W closed written types fits demands named constants

  unnamed_formed : (s : Handles) → NamesAre s → (h : ℕ) → W h → IsPlainForm (unnamed_form own source s h)
  unnamed_formed = unnamed_is flags m info g f found es callees ranges W closed written types fits demands named
      constants

  starts : NamesAre (at_start own.function)
  starts = start_is flags m info g f es named identifiers few

  locals_are : (l : ℕ) (vs : List LocalVariable) → l + length vs ≡ length f.local_variables →
      ((k : ℕ) → slice_get vs k ≡ slice_get f.local_variables (k + l)) →
      list_all (local_in_range (length m.types) (length f.expressions)) vs ≡ true →
      Each IsLocal (locals_form own (type_names m) source l vs)
  locals_are l [] size at fit = tt
  locals_are l (v ∷ vs) size at fit =
      let lt : l < length f.local_variables = omega (arith, size) in
      let next : (l + 1) + length vs ≡ length f.local_variables = omega (arith, size) in
      let here = element f.local_variables l lt in
      let both = and_parts (local_in_range (length m.types) (length f.expressions) v)
      (list_all (local_in_range (length m.types) (length f.expressions)) vs) fit in
      let parts = and_parts (nat_lt v.ty (length m.types)) (is_below (length f.expressions) v.init) both.0 in (
        record {
          name = item_is_identifier m (local_item m g l here.0) (local_there m g f l here.0 found here.1);
          type = is_type_at m types v.ty (type_form_of_spellable m (Handle v.ty)
              (spelled (Handle v.ty) (OfLocal l v (ap (slice_get f.local_variables) (sym (zero-add l)) ∙ sym (at 0)))));
          value = first_is v.init
              (closed.firsts l v (ap (slice_get f.local_variables) (sym (zero-add l)) ∙ sym (at 0)));
        },
        locals_are (l + 1) vs next later both.1,
      )
    where
      later : (k : ℕ) → slice_get vs k ≡ slice_get f.local_variables (k + (l + 1))
      later k =
          let same : suc k + l ≡ k + (l + 1) = omega arith in
          at (suc k) ∙ ap (slice_get f.local_variables) same

      first_is : (o : Option ℕ) → AllByRecursion W (option_to_list o) →
          IsValue (option_map (value_form own source (at_start own.function)) o)
      first_is None w = tt
      first_is (Some h) w = value_is_one (plain_form own source (at_start own.function) h)
          (formed (at_start own.function) starts h w.0)

  -- the numbers of what parameters and result are bound to
  bindings : (list_all (λ a. option_map_or binding_fits_32_bits a.binding true) f.arguments.items ≡ true) ×
      (option_map_or (λ r. option_map_or binding_fits_32_bits r.binding true) f.result true ≡ true)
  bindings = and_parts (list_all (λ a. option_map_or binding_fits_32_bits a.binding true) f.arguments.items) _
      (bindings_are_in_range m callees f ranges)

  parameters_are : (n : ℕ) (args : List FunctionArgument) →
      n + length args ≡ length f.arguments.items →
      ((k : ℕ) → slice_get args k ≡ slice_get f.arguments.items (k + n)) →
      Each IsParameter (parameters_form (module_names m) m g n args)
  parameters_are n [] size at = tt
  parameters_are n (a ∷ args) size at =
      let next : (n + 1) + length args ≡ length f.arguments.items = omega (arith, size) in
      let here : slice_get f.arguments.items n ≡ Some a = ap (slice_get f.arguments.items) (sym (zero-add n))
      ∙ sym (at 0) in (
        record {
          attributes = passing_is a.binding
              (list_all_at (λ a. option_map_or binding_fits_32_bits a.binding true) f.arguments.items n a
              bindings.0 here);
          binding = passing_io a.binding;
          name =
              item_is_identifier m (argument_item m g n a) (argument_there m g f n a found here);
          type = is_type_at m types a.ty
              (type_form_of_spellable m (Handle a.ty) (spelled (Handle a.ty) (OfArgument n a here)));
        },
        parameters_are (n + 1) args next later,
      )
    where
      later : (k : ℕ) → slice_get args k ≡ slice_get f.arguments.items (k + (n + 1))
      later k =
          let same : suc k + n ≡ k + (n + 1) = omega arith in
          at (suc k) ∙ ap (slice_get f.arguments.items) same

  result_is : (r : Option FunctionResult) → f.result ≡ r → IsResult (result_form (type_names m) r)
  result_is None at = tt
  result_is (Some r) at = (
    passing_is r.binding
        (sym (ap (λ o. option_map_or (λ r. option_map_or binding_fits_32_bits r.binding true) o true) at) ∙ bindings.1),
    passing_io r.binding,
    is_type_at m types r.ty (type_form_of_spellable m (Handle r.ty) (spelled (Handle r.ty) (OfResult r at))),
  )

  -- functions that it calls and results have identifiers
  callee_is : (h : ℕ) → h < callees → IsIdentifier (function_name m (module_names m) h)
  callee_is h lt =
      let callee = element m.functions h (omega (arith, lt, there)) in
      item_is_identifier m (function_item m h callee.0)
      (function_there m h callee.0 (function_among m h callee.0 callee.1))

  result_named : (h : ℕ) → h < length f.expressions → IsIdentifier (numbered_name h)
  result_named h lt = numbered_is h (omega (arith, lt, few))

  function_is : block_has_forms f.body ≡ true → IsFunction (function_form flags (module_names m) named m info g f es)
  function_is has =
      let all : 0 + length f.arguments.items ≡ length f.arguments.items = omega arith in
      let all_labels : 0 + length (expression_labels f) ≤ length (expression_labels f) = omega arith in
      let all_locals : 0 + length f.local_variables ≡ length f.local_variables = omega arith in
      let statements =
      body_fits own d.context callees (length f.expressions) callee_is result_named m f (map (λ e. e.ty) es)
      (ranges_are m callees f ranges).1 sound has in
      record {
        name = item_is_identifier m (function_item m g f) (function_there m g f found);
        parameters = parameters_are 0 f.arguments.items all (λ k. ap (slice_get f.arguments.items) (sym (add-zero k)));
        result = result_is f.result refl;
        locals = locals_are 0 f.local_variables all_locals
            (λ k. ap (slice_get f.local_variables) (sym (add-zero k))) (locals_are_in_range m callees f ranges);
        body = lines_are flags m info g f es named identifiers few W formed unnamed_formed
            (annotated_type (annotates_types flags) m (type_names m) es)
            (annotated_is m types (annotates_types flags) es fits) 0
            f.body statements (at_start own.function) starts all_labels closed.body;
      }

-- ---- modules
module _ (flags : WriterFlags) (m : Module) (info : ModuleInfo) (accepted : IsTrue (is_accepted m info)) where
  -- a function, under names of front ends that are identifiers
  pub one_is : (named : ℕ → List ℕ) (g : ℕ) (f : ir_function.Function)
      (found : slice_get (all_functions m) g ≡ Some f) (es : List ExpressionInfo) →
      slice_get (all_infos info) g ≡ Some es →
      ((k : ℕ) → k < length (expression_labels f) → IsIdentifier (named k)) →
      WrittenHaveForms (annotates_types flags) m info f es → length f.expressions ≤ 2 ^ 64 →
      IsFunction (function_form flags (module_names m) named m info g f es)
  one_is named g f found es here named_are have few =
      let is = of_number m info accepted g f es found here in
      let sound = soundness_is m f es is.sound in
      let known = map (λ e. e.ty) es in
      let demands =
      (and_parts (have_their_types m (Some f) known f.expressions)
      (are_operands_fit m.types known f.expressions) sound.0).1 in
      function_is m info g f found es is.callees is.there is.ranges sound.1 (IsWrittenIn m info f es)
      (written_are_closed m info f es) have.expressions (types_are_fit m info accepted)
      (known_fits m info accepted g es here) demands flags have.types few named named_are
      (formed_constants m info accepted) have.statements

  module _ (have : AllWrittenHaveForms (annotates_types flags) m info) (few : IsTrue (handles_are_counted m))
      (named : LabelNames) (are : AreLabelNames m named) where
    -- one in a text of the whole module
    one_there : (g : ℕ) (f : ir_function.Function) (es : List ExpressionInfo) →
        slice_get (all_functions m) g ≡ Some f → slice_get (all_infos info) g ≡ Some es →
        IsFunction (function_form flags (module_names m) (named g) m info g f es)
    one_there g f es found known =
        one_is (named g) g f found es known (are g f found).identifiers
        (have g f es found known)
        (leb-true (length f.expressions) (2 ^ 64)
        (list_all_at (λ f. nat_le (length f.expressions) (2 ^ 64)) (all_functions m) g f few found))

    functions_are : (g : ℕ) (fs : List ir_function.Function) (ess : List (List ExpressionInfo)) →
        ((i : ℕ) (f : ir_function.Function) → slice_get fs i ≡ Some f →
        slice_get m.functions (g + i) ≡ Some f) →
        ((i : ℕ) (es : List ExpressionInfo) → slice_get ess i ≡ Some es →
        slice_get info.functions.items (g + i) ≡ Some es) →
        Each IsFunction (functions_under named flags (module_names m) m info g fs ess)
    functions_are g [] [] there known = tt
    functions_are g [] (es ∷ ess) there known = tt
    functions_are g (f ∷ fs) [] there known = tt
    functions_are g (f ∷ fs) (es ∷ ess) there known = (
      one_there g f es (function_among m g f (ap (slice_get m.functions) (sym (add-zero g)) ∙ there 0 f refl))
          (info_among info g es (ap (slice_get info.functions.items) (sym (add-zero g)) ∙ known 0 es refl)),
      functions_are (g + 1) fs ess (further m.functions g f fs there)
          (further info.functions.items g es ess known),
    )

    entry_points_are : DeclarationsHaveForms m → (g j : ℕ) → g ≡ length m.functions + j →
        (ps : List ir_entry_point.EntryPoint) (ess : List (List ExpressionInfo)) →
        ((i : ℕ) (p : ir_entry_point.EntryPoint) → slice_get ps i ≡ Some p →
        slice_get m.entry_points.items (j + i) ≡ Some p) →
        ((i : ℕ) (es : List ExpressionInfo) → slice_get ess i ≡ Some es →
        slice_get info.entry_points.items (j + i) ≡ Some es) →
        Each IsEntryPoint (entry_points_under named flags (module_names m) m info g ps ess)
    entry_points_are declarations g j at [] [] there known = tt
    entry_points_are declarations g j at [] (es ∷ ess) there known = tt
    entry_points_are declarations g j at (p ∷ ps) [] there known = tt
    entry_points_are declarations g j at (p ∷ ps) (es ∷ ess) there known =
        let here = ap (slice_get m.entry_points.items) (sym (add-zero j)) ∙ there 0 p refl in
        let own = ap (slice_get info.entry_points.items) (sym (add-zero j)) ∙ known 0 es refl in
        let next : g + 1 ≡ length m.functions + (j + 1) = omega (arith, at) in
        let stage = stage_there m info accepted declarations j p here in (
          record {
            attributes = stage.0;
            stage = stage.1;
            function = one_there g p.function es
                (ap (slice_get (all_functions m)) at ∙ entry_point_among m j p here)
                (ap (slice_get (all_infos info)) at ∙ entry_info_among m info accepted j es own);
          },
          entry_points_are declarations (g + 1) (j + 1) next ps ess
              (further m.entry_points.items j p ps there)
              (further info.entry_points.items j es ess known),
        )

-- each extension that is enabled is one that the grammar has
enables_are : (needs : Extension → Bool) (xs : List Extension) →
    Each (λ x. IsEnable x.word) xs → Each IsEnable (map (λ x. x.word) (filter needs xs))
enables_are needs [] all = tt
enables_are needs (x ∷ xs) all = by (needs x) (enables_are needs xs all.1)
  where
    by : (needed : Bool) → Each IsEnable (map (λ x. x.word) (filter needs xs)) →
        Each IsEnable (map (λ x. x.word) (cond needed (x ∷ filter needs xs) (filter needs xs)))
    by true more = (all.0, more)
    by false more = more

-- under whatever names labels may have
pub is_program_under : (m : Module) (info : ModuleInfo) (flags : WriterFlags) (named : LabelNames) →
    AreLabelNames m named → IsTrue (is_accepted m info) → DeclarationsHaveForms m →
    AllWrittenHaveForms (annotates_types flags) m info → IsTrue (handles_are_counted m) →
    IsProgram (program_under named m info flags)
is_program_under m info flags named are accepted declarations have few =
    let first : length m.functions ≡ length m.functions + 0 = omega arith in
    record {
      enables = enables_are (is_enabled (is_portable flags) m info) extensions
          (refl, (refl, (refl, (refl, (refl, (refl, (refl, (refl, (refl, (refl, (refl, (refl, tt))))))))))));
      structs = structs_are m info accepted declarations;
      constants = constants_are m info accepted declarations;
      overrides = overrides_are m info accepted declarations;
      globals = variables_are m info accepted declarations;
      functions = functions_are flags m info accepted have few named are 0 m.functions
          info.functions.items (from_start m.functions) (from_start info.functions.items);
      entry_points = entry_points_are flags m info accepted have few named are declarations
          (length m.functions) 0 first m.entry_points.items info.entry_points.items
          (from_start m.entry_points.items) (from_start info.entry_points.items);
    }

pub is_program : (m : Module) (info : ModuleInfo) (flags : WriterFlags) → IsTrue (is_accepted m info) →
    DeclarationsHaveForms m → AllWrittenHaveForms (annotates_types flags) m info →
    IsTrue (handles_are_counted m) → IsProgram (written_program m info flags)
is_program m info flags accepted declarations have few =
    is_program_under m info flags (expression_name m) (expression_names_are m) accepted
    declarations have few
