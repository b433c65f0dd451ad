-- What it is for an expression of a text to have the value of one of a module's own.
use Rattle.std.specs.Prelude.{◌≡◌, ℕ, Some}
use Rattle.naga_ir.specs.declared.module.Module.{Module}
use Rattle.naga_info.specs.declared.info.ModuleInfo.{ModuleInfo}
use Rattle.wgsl_text.specs.Declarations.{Program}
use Rattle.wgsl_text.specs.Expressions.{Expression}
use Rattle.shader_runs.specs.Constants.{text_initialiser_value}
use Rattle.shader_runs.specs.Premises.{IsTyped, SettingsFit}
use Rattle.shader_runs.specs.Value.{Value}
use Rattle.shader_runs.specs.World.{Meaning, Settings, World}
use Rattle.text_semantics.specs.Abstraction.{expression_read, program_read}
use Rattle.text_semantics.specs.Vocabulary.{vocabulary_read}
use Rattle.module_semantics.specs.DeclarationForms.{ConstantsHaveForms}
use Rattle.module_semantics.specs.Interface.{global_expression_value}
use Rattle.module_semantics.specs.ModuleShapes.{module_shape}

-- The expression has the value of the module's own one with this handle, where it stands in the
-- program as an initialiser. Under all values of overrides of their types and every typed meaning
-- of operators there is such a value. Where the initialisers of constants with names have forms,
-- the expression has it in every world. Each side computes its named constants by itself.
abbrev pub HasValueOf : Module → ModuleInfo → (handle : ℕ) → Program → Expression → Type 0
HasValueOf m info handle program expression =
    let shape = module_shape m info in
    (settings : Settings) → SettingsFit shape settings →
    (meaning : Meaning) → IsTyped shape meaning →
    (value : Value) × (global_expression_value m info settings meaning handle ≡ Some value)
    × (ConstantsHaveForms m → (world : World) →
    text_initialiser_value (program_read program) shape.parts settings world meaning
    (vocabulary_read program) (expression_read expression) ≡ Some value)
