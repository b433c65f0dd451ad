-- The attributes that are written for what a module's declarations have: sizes of members,
-- bindings of inputs and outputs, ids of overrides, resources and decorations of variables, and
-- stages of entry points. What WGSL has no word for, and a stage without what it needs, is refused;
-- here its attribute is left out.
--
-- Throughout, names are those of the module, i is an interpolation, s a sampling, w a word, n a
-- number, and d are decorations.
use Rattle.std.specs.Prelude.{ℕ, Bool, true, false, List, [], ◌∷◌, ◌++◌, Option, Some, None}
use Rattle.std.specs.Prelude.{unwrap_or}
use Rattle.std.specs.Option.{option_map_or}
use Rattle.naga_ir.specs.declared.binding.Binding.{Binding}
use Rattle.naga_ir.specs.declared.binding.Binding.TheVariants.{BuiltIn, Location}
use Rattle.naga_ir.specs.declared.binding.Interpolation.{Interpolation}
use Rattle.naga_ir.specs.declared.binding.Interpolation.TheVariants as interpolation
use Rattle.naga_ir.specs.declared.binding.ResourceBinding.{ResourceBinding}
use Rattle.naga_ir.specs.declared.binding.Sampling.{Sampling}
use Rattle.naga_ir.specs.declared.binding.Sampling.TheVariants as sampling
use Rattle.naga_ir.specs.declared.flags.MemoryDecorations.{MemoryDecorations}
use Rattle.naga_ir.specs.declared.module.EntryPoint.{EntryPoint}
use Rattle.naga_ir.specs.declared.module.GlobalVariable.{GlobalVariable}
use Rattle.naga_ir.specs.declared.module.ShaderStage.{ShaderStage}
use Rattle.naga_ir.specs.declared.module.ShaderStage.TheVariants as stage
use Rattle.naga_naming.specs.Keys.{NameMap}
use Rattle.wgsl_words.specs.Words.{builtin_word, interpolation_word, sampling_word}
use Rattle.wgsl_text.specs.Attributes.{Attribute, Plain, Numbered, Worded, Interpolated}
use Rattle.wgsl_text.specs.Attributes.{WorkgroupSize, Invariant, PerPrimitive, Coherent, Volatile}
use Rattle.wgsl_text.specs.Attributes.{Vertex, Fragment, Compute, Task, RayGeneration, AnyHit}
use Rattle.wgsl_text.specs.Attributes.{ClosestHit, Miss, BlendSource, Id, Group, Size, Builtin}
use Rattle.wgsl_text.specs.Attributes.{Interpolate, Mesh, Payload, IncomingPayload, SizePart}
use Rattle.wgsl_text.specs.Attributes as attribute
use Rattle.module_semantics.specs.Names.{global_name}
use Rattle.module_semantics.specs.StageBindings.{is_coherent_memory, is_invariant, is_volatile_memory}
use Rattle.module_semantics.specs.WorkgroupSizes.{size_parts}

-- this attribute, where a test passes, and one for what is there
abbrev pub attribute_if : Attribute → Bool → List Attribute
attribute_if a true = a ∷ []
attribute_if a false = []

abbrev pub attribute_of : {X : Type 0} → (X → Attribute) → Option X → List Attribute
attribute_of a None = []
attribute_of a (Some x) = a x ∷ []

-- ---- inputs and outputs
abbrev pub is_perspective : Interpolation → Bool
is_perspective interpolation.Perspective = true
is_perspective _ = false

abbrev pub is_center : Sampling → Bool
is_center sampling.Center = true
is_center _ = false

-- At the center, an interpolation alone is told, and in perspective nothing is; otherwise both are
-- told by their words.
abbrev pub interpolation_told :
    (perspective center : Bool) → (interpolation sampling : List ℕ) → List Attribute
interpolation_told true true i s = []
interpolation_told false true i s = Worded Interpolate i ∷ []
interpolation_told perspective false i s = Interpolated i s ∷ []

-- what is absent is in perspective and at the center
abbrev pub interpolation_attributes : Option Interpolation → Option Sampling → List Attribute
interpolation_attributes told_i told_s =
    let i = unwrap_or told_i interpolation.Perspective in
    let s = unwrap_or told_s sampling.Center in
    interpolation_told (is_perspective i) (is_center s) (interpolation_word i) (sampling_word s)

abbrev pub builtin_attributes : (word : Option (List ℕ)) → (invariant : Bool) → List Attribute
builtin_attributes None invariant = []
builtin_attributes (Some w) invariant =
    Worded Builtin w ∷ attribute_if (Plain Invariant) invariant

abbrev pub binding_attributes : Binding → List Attribute
binding_attributes (BuiltIn value) = builtin_attributes (builtin_word value) (is_invariant value)
binding_attributes (Location location interpolation sampling blend_src per_primitive) =
    Numbered attribute.Location location ∷
    (attribute_of (Numbered BlendSource) blend_src ++
    (interpolation_attributes interpolation sampling ++
    attribute_if (Plain PerPrimitive) per_primitive))

-- of an argument, a result or a member
abbrev pub passing_attributes : Option Binding → List Attribute
passing_attributes b = option_map_or binding_attributes b []

-- of a member: the size that it is given, if it is given one, and how it passes
abbrev pub member_attributes : (size : Option ℕ) → Option Binding → List Attribute
member_attributes size b = attribute_of (Numbered Size) size ++ passing_attributes b

-- ---- overrides and variables
abbrev pub id_attributes : Option ℕ → List Attribute
id_attributes id = attribute_of (Numbered Id) id

abbrev pub resource_attributes : Option ResourceBinding → List Attribute
resource_attributes None = []
resource_attributes (Some b) =
    Numbered Group b.group ∷ Numbered attribute.Binding b.binding ∷ []

abbrev pub decoration_attributes : MemoryDecorations → List Attribute
decoration_attributes d =
    attribute_if (Plain Coherent) (is_coherent_memory d) ++
    attribute_if (Plain Volatile) (is_volatile_memory d)

abbrev pub global_attributes : GlobalVariable → List Attribute
global_attributes g =
    resource_attributes g.binding ++ decoration_attributes g.memory_decorations

-- ---- entry points
abbrev pub size_attributes : List SizePart → List Attribute
size_attributes (x ∷ y ∷ z ∷ []) = WorkgroupSize x y z ∷ []
size_attributes _ = []

abbrev pub payload_attributes : NameMap → EntryPoint → List Attribute
payload_attributes names e = attribute_of (λ v. Worded Payload (global_name names v)) e.task_payload

abbrev pub incoming_attributes : NameMap → EntryPoint → List Attribute
incoming_attributes names e =
    attribute_of (λ v. Worded IncomingPayload (global_name names v)) e.incoming_ray_payload

abbrev pub stage_attributes : NameMap → EntryPoint → ShaderStage → List Attribute
stage_attributes names e stage.Vertex = Plain Vertex ∷ []
stage_attributes names e stage.Fragment = Plain Fragment ∷ []
stage_attributes names e stage.Compute = Plain Compute ∷ size_attributes (size_parts names e)
stage_attributes names e stage.Mesh =
    attribute_of (λ i. Worded Mesh (global_name names i.output_variable)) e.mesh_info ++
    (size_attributes (size_parts names e) ++ payload_attributes names e)
stage_attributes names e stage.Task =
    Plain Task ∷ (payload_attributes names e ++ size_attributes (size_parts names e))
stage_attributes names e stage.RayGeneration = Plain RayGeneration ∷ []
stage_attributes names e stage.AnyHit = Plain AnyHit ∷ incoming_attributes names e
stage_attributes names e stage.ClosestHit = Plain ClosestHit ∷ incoming_attributes names e
stage_attributes names e stage.Miss = Plain Miss ∷ incoming_attributes names e
