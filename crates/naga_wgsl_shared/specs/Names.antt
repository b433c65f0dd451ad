-- The names that the texts of a module's own expressions use.
use Rattle.std.specs.Prelude.{ℕ, List}
use Rattle.module_semantics.specs.Names.{constant_name}
use Rattle.module_semantics.specs.Names.{module_names, override_name}
use Rattle.naga_ir.specs.declared.module.Module.{Module}

-- a constant and an override of the module
unfoldable pub name_of_constant : Module → (constant : ℕ) → List ℕ
name_of_constant m c = constant_name (module_names m) c

unfoldable pub name_of_override : Module → (override : ℕ) → List ℕ
name_of_override m o = override_name (module_names m) o
