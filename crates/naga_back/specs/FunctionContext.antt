-- What is known of the function that is being written: the keys of its names, and the types of its
-- expressions.
use Rattle.std.specs.Prelude.{ℕ, Bool, true, false, ◌<◌, List, Option, Some, None, slice_get}
use Rattle.std.specs.Prelude.{vec_len}
use Rattle.std.specs.Option.{option_and_then, option_map_or}
use Rattle.naga_ir.specs.declared.module.Module.{Module}
use Rattle.naga_ir.specs.declared.module.ShaderStage.{ShaderStage}
use Rattle.naga_ir.specs.declared.module.ShaderStage.TheVariants.{Compute, Task, Mesh}
use Rattle.naga_ir.specs.declared.types.Type_.{Type_}
use Rattle.naga_ir.specs.declared.types.TypeInner.{TypeInner}
use Rattle.naga_info.specs.declared.info.ExpressionInfo.{ExpressionInfo}
use Rattle.naga_info.specs.Resolution.{inner_of}
use Rattle.naga_naming.specs.declared.key.ExternalTextureNameKey.{ExternalTextureNameKey}
use Rattle.naga_naming.specs.declared.key.NameKey.{NameKey}
use Rattle.naga_naming.specs.declared.key.NameKey.TheVariants as key
use Rattle.naga_back.specs.declared.context.FunctionType.{FunctionType}
use Rattle.naga_back.specs.declared.context.FunctionType.TheVariants.{Function, EntryPoint}

-- an entry point's index lies in the module's entry points; nothing is asked of a function
abbrev pub IsInRange : FunctionType → Module → Type 0
IsInRange (Function handle) m = Unit {0}
IsInRange (EntryPoint index) m = index < vec_len m.entry_points

-- not an entry point
abbrev pub IsFunction : FunctionType → Type 0
IsFunction (Function handle) = Unit {0}
IsFunction (EntryPoint index) = ⊥

-- the stages whose invocations form workgroups
abbrev pub has_workgroups : ShaderStage → Bool
has_workgroups Compute = true
has_workgroups Task = true
has_workgroups Mesh = true
has_workgroups _ = false

-- an entry point of such a stage
abbrev pub is_compute_like : FunctionType → Module → Bool
is_compute_like (Function handle) m = false
is_compute_like (EntryPoint index) m =
    option_map_or (λ e. has_workgroups e.stage) (slice_get m.entry_points.items index) false

-- the key of its own name
abbrev pub function_key : FunctionType → NameKey
function_key (Function handle) = key.Function handle
function_key (EntryPoint index) = key.EntryPoint index

-- the key of the name of a local variable
abbrev pub local_key : FunctionType → (local : ℕ) → NameKey
local_key (Function handle) local = key.FunctionLocal handle local
local_key (EntryPoint index) local = key.EntryPointLocal index local

-- the key of the name of an argument
abbrev pub argument_key : FunctionType → (argument : ℕ) → NameKey
argument_key (Function handle) argument = key.FunctionArgument handle argument
argument_key (EntryPoint index) argument = key.EntryPointArgument index argument

-- the key of the name of a part of an argument that is an external texture; entry points have no
-- such arguments
abbrev pub external_texture_key :
    FunctionType → (argument : ℕ) → ExternalTextureNameKey → Option NameKey
external_texture_key (Function handle) argument part =
    Some (key.ExternalTextureFunctionArgument handle argument part)
external_texture_key (EntryPoint index) argument part = None

-- the type of the expression with this handle, by the module's types
abbrev pub type_at : List ExpressionInfo → List Type_ → ℕ → Option TypeInner
type_at infos types handle = option_and_then (λ e. inner_of e.ty types) (slice_get infos handle)
