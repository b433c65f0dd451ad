-- The functions of what is written for a module: those of its functions and entry points, by their
-- numbers.
--
-- Throughout, fs and gs are functions from the number g on, f is the i-th of them, ps are entry points,
-- j is the index of one, ess says what is known of each, and named tells the names of the labels that front ends gave.
use Rattle.std.proofs.Common.{◌≡◌, ℕ, suc, ◌+◌, ◌-◌, ◌≤◌, List, [], ◌∷◌, ◌++◌, refl, sym, ap}
use Rattle.std.proofs.Common.{◌∙◌, length, arith, map, add-zero, None, Some, zero}
use Rattle.std.specs.Prelude.{if◌then◌else◌, slice_get}
use Rattle.std.proofs.lemmas.Bool.{le-ltb}
use Rattle.std.proofs.lemmas.Option.{same_Some}
use Rattle.naga_ir.specs.declared.module.EntryPoint as ir_entry_point
use Rattle.naga_ir.specs.declared.module.Function as ir_function
use Rattle.naga_ir.specs.declared.module.Module.{Module}
use Rattle.naga_info.specs.declared.info.ExpressionInfo.{ExpressionInfo}
use Rattle.naga_info.specs.declared.info.ModuleInfo.{ModuleInfo}
use Rattle.naga_naming.specs.Keys.{NameMap}
use Rattle.wgsl_text.specs.Functions.{EntryPoint, Function}
use Rattle.text_semantics.specs.Abstraction.{functions_of}
use Rattle.module_semantics.specs.DeclarationForms.{entry_point_numbered}
use Rattle.module_semantics.specs.FunctionNumbers.{all_functions, all_infos, entry_functions}
use Rattle.module_semantics.specs.Names.{LabelNames, module_names}
use Rattle.naga_form.specs.Declarations.{entry_points_under, program_under}
use Rattle.naga_form.specs.Functions.{function_form, functions_under}
use Rattle.naga_back.specs.declared.flags.WriterFlags.{WriterFlags}

module _ (flags : WriterFlags) (named : LabelNames) (names : NameMap) (m : Module) (info : ModuleInfo) where
  abbrev forms : ℕ → List ir_function.Function → List (List ExpressionInfo) → List Function
  forms g fs ess = functions_under named flags names m info g fs ess

  -- functions after others
  both_form : (g : ℕ) (fs gs : List ir_function.Function) (ess more : List (List ExpressionInfo)) →
      length fs ≡ length ess →
      forms g fs ess ++ forms (g + length fs) gs more ≡ forms g (fs ++ gs) (ess ++ more)
  both_form g [] gs [] more size = ap (λ k. forms k gs more) (add-zero g)
  both_form g [] gs (es ∷ ess) more size = absurd (omega (arith, size))
  both_form g (f ∷ fs) gs [] more size = absurd (omega (arith, size))
  both_form g (f ∷ fs) gs (es ∷ ess) more size =
      let next : g + suc (length fs) ≡ (g + 1) + length fs = omega arith in
      ap (λ hs. function_form flags names (named g) m info g f es ∷ hs)
      (ap (λ k. forms (g + 1) fs ess ++ forms k gs more) next
      ∙ both_form (g + 1) fs gs ess more (omega (arith, size)))

  -- the functions of entry points
  entry_functions_form : (g : ℕ) (ps : List ir_entry_point.EntryPoint)
      (ess : List (List ExpressionInfo)) →
      map (λ (p : EntryPoint). p.function)
      (entry_points_under named flags names m info g ps ess) ≡
      forms g (entry_functions ps) ess
  entry_functions_form g [] ess = refl
  entry_functions_form g (p ∷ ps) [] = refl
  entry_functions_form g (p ∷ ps) (es ∷ ess) =
      ap (λ fs. function_form flags names (named g) m info g p.function es ∷ fs)
      (entry_functions_form (g + 1) ps ess)

  -- one of them
  pub form_at : (g : ℕ) (fs : List ir_function.Function) (ess : List (List ExpressionInfo)) (i : ℕ)
      (f : ir_function.Function) (es : List ExpressionInfo) → slice_get fs i ≡ Some f →
      slice_get ess i ≡ Some es →
      slice_get (forms g fs ess) i ≡
      Some (function_form flags names (named (g + i)) m info (g + i) f es)
  form_at g [] ess i f es at known = absurd cc
  form_at g (x ∷ fs) [] i f es at known = absurd cc
  form_at g (x ∷ fs) (ks ∷ ess) zero f es at known =
      let here : g ≡ g + 0 = omega arith in
      λ j. Some (function_form flags names (named (here j)) m info (here j) (same_Some x f at j)
      (same_Some ks es known j))
  form_at g (x ∷ fs) (ks ∷ ess) (suc i) f es at known =
      let next : (g + 1) + i ≡ g + suc i = omega arith in
      form_at (g + 1) fs ess i f es at known
      ∙ ap (λ h. Some (function_form flags names (named h) m info h f es)) next

-- all of what is written
pub all_functions_under : (m : Module) (info : ModuleInfo) (flags : WriterFlags) (named : LabelNames) →
    length m.functions ≡ length info.functions.items →
    functions_of (program_under named m info flags) ≡
    functions_under named flags (module_names m) m info 0 (all_functions m) (all_infos info)
all_functions_under m info flags named size =
    let names = module_names m in
    let first : 0 + length m.functions ≡ length m.functions = omega arith in
    ap (λ fs. functions_under named flags names m info 0 m.functions info.functions.items ++ fs)
    (entry_functions_form flags named names m info (length m.functions) m.entry_points.items
    info.entry_points.items
    ∙ ap (λ k. functions_under named flags names m info k (entry_functions m.entry_points.items)
    info.entry_points.items) (sym first))
    ∙ both_form flags named names m info 0 m.functions (entry_functions m.entry_points.items)
    info.functions.items info.entry_points.items size

-- an entry point has its number after the functions
pub entry_point_at : (m : Module) (j : ℕ) →
    entry_point_numbered m (length m.functions + j) ≡ slice_get m.entry_points.items j
entry_point_at m j =
    let number = length m.functions + j in
    let following : length m.functions ≤ number = omega arith in
    let rest : number - length m.functions ≡ j = omega arith in
    ap (λ b. if b then None else slice_get m.entry_points.items (number - length m.functions))
    (le-ltb number (length m.functions) following)
    ∙ ap (slice_get m.entry_points.items) rest
