-- The texts of types.
use Rattle.std.specs.Prelude.{ℕ, List}
use Rattle.naga_form.specs.Types.{type_form}
use Rattle.wgsl_text.specs.Reading.{printed_type}
use Rattle.naga_ir.specs.declared.module.Module.{Module}
use Rattle.module_semantics.specs.Types.{type_names}

-- the type of a module with this handle
unfoldable pub spelled_text : Module → (ty : ℕ) → List ℕ
spelled_text m ty = printed_type (type_form (type_names m) ty)
