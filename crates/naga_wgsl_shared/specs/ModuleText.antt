-- What the texts of a module's types and of its own expressions want of the module.
use Rattle.std.specs.Prelude.{IsTrue}
use Rattle.naga_ir.specs.declared.module.Module.{Module}
use Rattle.naga_info.specs.declared.info.ModuleInfo.{ModuleInfo}
use Rattle.module_semantics.specs.acceptance.Accepted.{is_accepted}
use Rattle.module_semantics.specs.Names.{HasNamesOf}
use Rattle.naga_naming.specs.Keys.{names_in}
use Rattle.naga_tables.specs.Tables.{AreTablesOf}
use Rattle.naga_wgsl_shared.specs.declared.module_text.ModuleText.{ModuleText}

-- it is accepted, whatever is known of it
pub record CanWriteOf (m : Module) : Type 0 where
  pub info : ModuleInfo
  pub accepted : IsTrue (is_accepted m info)

-- and its text has its names, and what is looked up of it
pub record CanWriteIn (t : ModuleText) : Type 0 where
  pub of_module : CanWriteOf t.shader.now
  pub named : HasNamesOf t.shader.now (names_in t.names.now)
  pub tables : AreTablesOf t.shader.now t.tables.now
