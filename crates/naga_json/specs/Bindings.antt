-- What a JSON value says of bindings: the forms of the variants and members of naga's `Binding`, `BuiltIn` and others, as
-- serde writes them by their names in Rust (docs/JSON.md, "Forms").
use Rattle.std.specs.Prelude.{◌∷◌, [], Option, Some}
use Rattle.json.specs.Json.{Json}
use Rattle.naga_json.specs.Said.{◌⇒◌, ◌>>=◌, Table, members, field, truth_field, option_field}
use Rattle.naga_json.specs.Said.{unit_said, word_said, variant_said}
use Rattle.naga_json.specs.Numbers.{unsigned_said}
use Rattle.naga_ir.specs.declared.binding.Binding.{Binding}
use Rattle.naga_json.specs.declared.bindings.BindingName.{BindingName}
use Rattle.naga_ir.specs.declared.binding.BuiltIn.{BuiltIn}
use Rattle.naga_json.specs.declared.bindings.BuiltInName.{BuiltInName}
use Rattle.naga_ir.specs.declared.binding.Interpolation.{Interpolation}
use Rattle.naga_ir.specs.declared.binding.ResourceBinding.{ResourceBinding}
use Rattle.naga_ir.specs.declared.binding.Sampling.{Sampling}

abbrev pub built_in_names : Table BuiltInName
built_in_names =
    "Position" ⇒ BuiltInName.Position ∷ "Barycentric" ⇒ BuiltInName.Barycentric ∷
    "ViewIndex" ⇒ BuiltInName.Unit BuiltIn.ViewIndex ∷
    "InstanceIndex" ⇒ BuiltInName.Unit BuiltIn.InstanceIndex ∷
    "VertexIndex" ⇒ BuiltInName.Unit BuiltIn.VertexIndex ∷
    "ClipDistances" ⇒ BuiltInName.Unit BuiltIn.ClipDistances ∷
    "FragDepth" ⇒ BuiltInName.Unit BuiltIn.FragDepth ∷
    "FrontFacing" ⇒ BuiltInName.Unit BuiltIn.FrontFacing ∷
    "PrimitiveIndex" ⇒ BuiltInName.Unit BuiltIn.PrimitiveIndex ∷
    "DrawIndex" ⇒ BuiltInName.Unit BuiltIn.DrawIndex ∷
    "SampleIndex" ⇒ BuiltInName.Unit BuiltIn.SampleIndex ∷
    "SampleMask" ⇒ BuiltInName.Unit BuiltIn.SampleMask ∷
    "GlobalInvocationId" ⇒ BuiltInName.Unit BuiltIn.GlobalInvocationId ∷
    "LocalInvocationId" ⇒ BuiltInName.Unit BuiltIn.LocalInvocationId ∷
    "LocalInvocationIndex" ⇒ BuiltInName.Unit BuiltIn.LocalInvocationIndex ∷
    "WorkGroupId" ⇒ BuiltInName.Unit BuiltIn.WorkGroupId ∷
    "NumWorkGroups" ⇒ BuiltInName.Unit BuiltIn.NumWorkGroups ∷
    "NumSubgroups" ⇒ BuiltInName.Unit BuiltIn.NumSubgroups ∷
    "SubgroupId" ⇒ BuiltInName.Unit BuiltIn.SubgroupId ∷
    "SubgroupSize" ⇒ BuiltInName.Unit BuiltIn.SubgroupSize ∷
    "SubgroupInvocationId" ⇒ BuiltInName.Unit BuiltIn.SubgroupInvocationId ∷
    "MeshTaskSize" ⇒ BuiltInName.Unit BuiltIn.MeshTaskSize ∷
    "TriangleIndices" ⇒ BuiltInName.Unit BuiltIn.TriangleIndices ∷
    "LineIndices" ⇒ BuiltInName.Unit BuiltIn.LineIndices ∷
    "PointIndex" ⇒ BuiltInName.Unit BuiltIn.PointIndex ∷
    "Vertices" ⇒ BuiltInName.Unit BuiltIn.Vertices ∷
    "Primitives" ⇒ BuiltInName.Unit BuiltIn.Primitives ∷
    "VertexCount" ⇒ BuiltInName.Unit BuiltIn.VertexCount ∷
    "PrimitiveCount" ⇒ BuiltInName.Unit BuiltIn.PrimitiveCount ∷
    "CullPrimitive" ⇒ BuiltInName.Unit BuiltIn.CullPrimitive ∷
    "RayInvocationId" ⇒ BuiltInName.Unit BuiltIn.RayInvocationId ∷
    "NumRayInvocations" ⇒ BuiltInName.Unit BuiltIn.NumRayInvocations ∷
    "InstanceCustomData" ⇒ BuiltInName.Unit BuiltIn.InstanceCustomData ∷
    "GeometryIndex" ⇒ BuiltInName.Unit BuiltIn.GeometryIndex ∷
    "WorldRayOrigin" ⇒ BuiltInName.Unit BuiltIn.WorldRayOrigin ∷
    "WorldRayDirection" ⇒ BuiltInName.Unit BuiltIn.WorldRayDirection ∷
    "ObjectRayOrigin" ⇒ BuiltInName.Unit BuiltIn.ObjectRayOrigin ∷
    "ObjectRayDirection" ⇒ BuiltInName.Unit BuiltIn.ObjectRayDirection ∷
    "RayTmin" ⇒ BuiltInName.Unit BuiltIn.RayTmin ∷
    "RayTCurrentMax" ⇒ BuiltInName.Unit BuiltIn.RayTCurrentMax ∷
    "ObjectToWorld" ⇒ BuiltInName.Unit BuiltIn.ObjectToWorld ∷
    "WorldToObject" ⇒ BuiltInName.Unit BuiltIn.WorldToObject ∷
    "HitKind" ⇒ BuiltInName.Unit BuiltIn.HitKind ∷
    "BaseInstance" ⇒ BuiltInName.Unit BuiltIn.BaseInstance ∷
    "BaseVertex" ⇒ BuiltInName.Unit BuiltIn.BaseVertex ∷
    "CullDistance" ⇒ BuiltInName.Unit BuiltIn.CullDistance ∷
    "PointSize" ⇒ BuiltInName.Unit BuiltIn.PointSize ∷
    "PointCoord" ⇒ BuiltInName.Unit BuiltIn.PointCoord ∷
    "WorkGroupSize" ⇒ BuiltInName.Unit BuiltIn.WorkGroupSize ∷ []

abbrev pub builtin_position_said : Json → Option BuiltIn
builtin_position_said j = do
  _ ← members ("invariant" ∷ []) j
  invariant ← truth_field "invariant" j
  Some (BuiltIn.Position invariant)

abbrev pub builtin_barycentric_said : Json → Option BuiltIn
builtin_barycentric_said j = do
  _ ← members ("perspective" ∷ []) j
  perspective ← truth_field "perspective" j
  Some (BuiltIn.Barycentric perspective)

abbrev pub built_in_payload : BuiltInName → Json → Option BuiltIn
built_in_payload (BuiltInName.Unit builtin) j = unit_said builtin j
built_in_payload BuiltInName.Position j = builtin_position_said j
built_in_payload BuiltInName.Barycentric j = builtin_barycentric_said j

abbrev pub built_in_said : Json → Option BuiltIn
built_in_said = variant_said built_in_names built_in_payload

abbrev pub interpolation_words : Table Interpolation
interpolation_words =
    "Perspective" ⇒ Interpolation.Perspective ∷ "Linear" ⇒ Interpolation.Linear ∷
    "Flat" ⇒ Interpolation.Flat ∷ "PerVertex" ⇒ Interpolation.PerVertex ∷ []

abbrev pub interpolation_said : Json → Option Interpolation
interpolation_said = word_said interpolation_words

abbrev pub sampling_words : Table Sampling
sampling_words =
    "Center" ⇒ Sampling.Center ∷ "Centroid" ⇒ Sampling.Centroid ∷ "Sample" ⇒ Sampling.Sample ∷
    "First" ⇒ Sampling.First ∷ "Either" ⇒ Sampling.Either ∷ []

abbrev pub sampling_said : Json → Option Sampling
sampling_said = word_said sampling_words

abbrev pub binding_names : Table BindingName
binding_names =
    "BuiltIn" ⇒ BindingName.BuiltIn ∷ "Location" ⇒ BindingName.Location ∷ []

abbrev pub location_binding_said : Json → Option Binding
location_binding_said j = do
  _ ← members ("location" ∷ "interpolation" ∷ "sampling" ∷ "blend_src" ∷ "per_primitive" ∷ []) j
  location ← field "location" (unsigned_said 32) j
  interpolation ← option_field "interpolation" interpolation_said j
  sampling ← option_field "sampling" sampling_said j
  blend_src ← option_field "blend_src" (unsigned_said 32) j
  per_primitive ← truth_field "per_primitive" j
  Some (Binding.Location location interpolation sampling blend_src per_primitive)

abbrev pub binding_payload : BindingName → Json → Option Binding
binding_payload BindingName.BuiltIn j = built_in_said j >>= λ x. Some (Binding.BuiltIn x)
binding_payload BindingName.Location j = location_binding_said j

abbrev pub binding_said : Json → Option Binding
binding_said = variant_said binding_names binding_payload

abbrev pub resource_binding_said : Json → Option ResourceBinding
resource_binding_said j = do
  _ ← members ("group" ∷ "binding" ∷ []) j
  group ← field "group" (unsigned_said 32) j
  binding ← field "binding" (unsigned_said 32) j
  Some (record { group = group; binding = binding })
