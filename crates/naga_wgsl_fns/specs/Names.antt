-- The names that the text of a function uses.
use Rattle.std.specs.Prelude.{ℕ, List}
use Rattle.module_semantics.specs.Names.{argument_name, function_name, global_name}
use Rattle.module_semantics.specs.Names.{local_name, module_names, numbered_name}
use Rattle.naga_scope.specs.Availabilities.{name_of_bound}
use Rattle.naga_scope.specs.declared.points.BoundName.{BoundName}
use Rattle.shader_runs.specs.Scope.{bound_name}
use Rattle.naga_wgsl_fns.specs.FunctionText.{named_in, naming, number}
use Rattle.naga_wgsl_fns.specs.declared.functions.FunctionText.{FunctionText}

-- the function itself
unfoldable pub name_of_function : FunctionText → List ℕ
name_of_function f = function_name f.known.shader.now (module_names f.known.shader.now) (number f)

-- its argument with this number
unfoldable pub name_of_argument : FunctionText → (n : ℕ) → List ℕ
name_of_argument f n =
    argument_name f.known.shader.now (module_names f.known.shader.now) (number f) n

-- an expression that a `let` binds under this name
unfoldable pub bound_text : FunctionText → (handle : ℕ) → BoundName → List ℕ
bound_text f handle name =
    name_of_bound (named_in f) (numbered_name handle) name

-- the one that a `let` binds after so many given names
unfoldable pub next_name_text : FunctionText → (given handle : ℕ) → List ℕ
next_name_text f given handle = bound_name (naming f) given handle

-- its local with this handle
unfoldable pub name_of_local : FunctionText → (local : ℕ) → List ℕ
name_of_local f local =
    local_name f.known.shader.now (module_names f.known.shader.now) (number f) local

-- a variable of the module
unfoldable pub name_of_global : FunctionText → (variable : ℕ) → List ℕ
name_of_global f variable = global_name (module_names f.known.shader.now) variable
