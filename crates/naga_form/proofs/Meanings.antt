-- No run of a module of which all that is declared and written has forms, and in which the rules of
-- scope hold, is stuck, nor one of its text in a world that keeps the types.
use Rattle.std.proofs.Common.{sym, subst}
use Rattle.std.specs.Prelude.{IsTrue}
use Rattle.naga_ir.specs.declared.module.Module.{Module}
use Rattle.naga_info.specs.declared.info.ModuleInfo.{ModuleInfo}
use Rattle.naga_form.specs.Declarations.{program_under}
use Rattle.shader_runs.specs.Constants.{run_module, follow_module}
use Rattle.shader_runs.specs.Text.{TextModule}
use Rattle.shader_runs.specs.Correct.{KeepsTypes}
use Rattle.shader_runs.specs.Progress.{IsNotStuck}
use Rattle.shader_runs.proofs.Progress.{runs_are_not_stuck}
use Rattle.shader_runs.specs.World.{Vocabulary}
use Rattle.text_semantics.specs.Abstraction.{program_read}
use Rattle.module_semantics.specs.acceptance.Accepted.{is_accepted}
use Rattle.module_semantics.specs.Meanings.{IsNeverStuck}
use Rattle.module_semantics.specs.ModuleShapes.{module_shape}
use Rattle.module_semantics.specs.Names.{AreLabelNames, function_name, LabelNames, module_names}
use Rattle.module_semantics.specs.DeclarationForms.{DeclarationsHaveForms}
use Rattle.module_semantics.specs.Premises.{ScopesHold}
use Rattle.module_semantics.specs.Namings.{namings_under, outer_names}
use Rattle.module_semantics.specs.Written.{AllWrittenHaveForms}
use Rattle.naga_form.proofs.names.DeclaredNames.{one_vocabulary}
use Rattle.naga_form.proofs.ModuleFits.{module_fits_under}
use Rattle.naga_form.proofs.Runs.{reads_as_shapes_under}
use Rattle.naga_form.proofs.statements.ScopeRules.{scopes_are_checked_under}
use Rattle.naga_form.proofs.statements.WellFormed.{all_well_formed}
use Rattle.naga_back.specs.declared.flags.WriterFlags.{WriterFlags}
use Rattle.naga_back.specs.Flags.{annotates_types}

module _ (m : Module) (info : ModuleInfo) (flags : WriterFlags) (accepted : IsTrue (is_accepted m info))
    (declarations : DeclarationsHaveForms m) (have : AllWrittenHaveForms (annotates_types flags) m info)
    (scopes : ScopesHold m info) where
  -- under whatever names labels may have
  pub never_stuck : (named : LabelNames) → AreLabelNames m named →
      IsNeverStuck m info (program_under named m info flags)
  never_stuck named are g settings fit meaning typed f found arguments typed_arguments world turns past =
      let shape = module_shape m info in
      let outer = outer_names (module_names m) m in
      subst (λ (vocabulary : Vocabulary). IsNotStuck
      (run_module shape settings world meaning turns g arguments past) ×
      (KeepsTypes (run_module shape settings world meaning turns g arguments past) →
      IsNotStuck (follow_module (program_read (program_under named m info flags)) shape.parts
      settings world meaning vocabulary turns (function_name m (module_names m) g) arguments past)))
      (sym (one_vocabulary m info flags named))
      (subst (λ (text : TextModule). IsNotStuck
      (run_module shape settings world meaning turns g arguments past) ×
      (KeepsTypes (run_module shape settings world meaning turns g arguments past) →
      IsNotStuck (follow_module text shape.parts settings world meaning outer.vocabulary turns
      (function_name m (module_names m) g) arguments past)))
      (sym (reads_as_shapes_under m info flags named accepted declarations have))
      (runs_are_not_stuck shape outer (namings_under named (module_names m) m info)
      (module_fits_under m info accepted flags have named are
      ((scopes_are_checked_under m info accepted named).1 scopes)) (all_well_formed m info accepted)
      settings fit meaning typed g f found arguments typed_arguments world turns past))
