-- The texts of types in functions.
use Rattle.std.specs.Prelude.{ℕ, List, [], ◌++◌, Option, Some, None, codes, unwrap_or}
use Rattle.naga_info.specs.declared.info.TypeResolution.{TypeResolution}
use Rattle.naga_form.specs.Types.{type_form}
use Rattle.naga_form.specs.TypeTrees.{resolution_tree}
use Rattle.wgsl_text.specs.Types.{TypeSpecifier, Named}
use Rattle.wgsl_text.specs.Reading.{printed_type}
use Rattle.naga_wgsl_fns.specs.declared.functions.FunctionText.{FunctionText}
use Rattle.naga_wgsl_fns.specs.FunctionText.{let_annotation, type_names_of}

-- the type of a function's module with this handle
unfoldable pub type_text : FunctionText → (ty : ℕ) → List ℕ
type_text f ty = printed_type (type_form (type_names_of f) ty)

-- the type of an expression
unfoldable pub resolution_text : FunctionText → TypeResolution → List ℕ
resolution_text f ty = printed_type (unwrap_or (resolution_tree (type_names_of f) ty) (Named []))

-- what stands between a name and its `=`, where a type is told
unfoldable pub annotation_text : FunctionText → TypeResolution → List ℕ
annotation_text f ty = codes ": " ++ resolution_text f ty

-- and where one may be
abbrev pub annotation_if : Option TypeSpecifier → List ℕ
annotation_if None = []
annotation_if (Some ty) = codes ": " ++ printed_type ty

-- the same in the `let` of a handle
unfoldable pub let_annotation_text : FunctionText → (handle : ℕ) → List ℕ
let_annotation_text f handle = annotation_if (let_annotation f handle)
