-- Types as they are written.
use Rattle.std.specs.Prelude.{◌≡◌, ℕ, Bool, true, false, slice_get, List, [], Option, Some, None}
use Rattle.std.specs.Prelude.{unwrap_or, if◌then◌else◌}
use Rattle.std.specs.Option.{option_and_then}
use Rattle.naga_ir.specs.declared.module.LocalVariable.{LocalVariable}
use Rattle.naga_ir.specs.declared.module.Module.{Module}
use Rattle.module_semantics.specs.Undeclared.{names_undeclared}
use Rattle.naga_info.specs.declared.info.ExpressionInfo.{ExpressionInfo}
use Rattle.naga_spelling.specs.Contexts.{Names as TypeNames}
use Rattle.naga_form.specs.TypeTrees.{type_tree, resolution_tree}
use Rattle.wgsl_text.specs.Types.{TypeSpecifier, Named}

-- a type of the module. What has no form is not written
abbrev pub type_form : TypeNames → ℕ → TypeSpecifier
type_form t ty = unwrap_or (type_tree t ty) (Named [])

-- The type that the `let` of a handle tells, if it is to tell one. One that names a struct that no
-- text declares is not told.
abbrev pub annotated_type :
    (explicit : Bool) → Module → TypeNames → List ExpressionInfo → ℕ → Option TypeSpecifier
annotated_type true m t es h =
    option_and_then (λ e. if names_undeclared m e.ty then None else resolution_tree t e.ty)
    (slice_get es h)
annotated_type false m t es h = None

-- the type of each local has a form
abbrev pub LocalsHaveForms : TypeNames → List LocalVariable → Type 0
LocalsHaveForms t locals =
    (l : ℕ) (v : LocalVariable) → slice_get locals l ≡ Some v →
    (tree : TypeSpecifier) × (type_tree t v.ty ≡ Some tree)
