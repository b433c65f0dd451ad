-- What attributes say of what they stand on: how a value passes in or out of a stage, how a member
-- is laid out, the number of an override, where a variable is bound and how its accesses are
-- ordered, and the stage of an entry point. What a text leaves out is told as what it then means.
--
-- Throughout, n, g and b are numbers, w, i, s and p are words, and l is what is known of a
-- location.
use Rattle.std.specs.Prelude.{ℕ, Bool, true, false, List, [], ◌∷◌, Option, Some, None, codes}
use Rattle.wgsl_text.specs.Attributes.{Attribute, Plain, Numbered, Worded, Interpolated}
use Rattle.wgsl_text.specs.Attributes.{WorkgroupSize, Invariant, PerPrimitive, Coherent, Volatile}
use Rattle.wgsl_text.specs.Attributes.{Vertex, Fragment, Compute, Task, RayGeneration, AnyHit}
use Rattle.wgsl_text.specs.Attributes.{ClosestHit, Miss, Location, BlendSource, Id, Group, Binding}
use Rattle.wgsl_text.specs.Attributes.{Size, Align, Builtin, Interpolate, Mesh, Payload}
use Rattle.wgsl_text.specs.Attributes.{IncomingPayload, SizePart}

-- ---- inputs and outputs
-- a numbered location between two stages, with the source of the blending that it is, if it tells
-- one, how its value is spread over a primitive, and whether there is one value for each primitive
pub record LocationBinding : Type 0 where
  pub location : ℕ
  pub blend_source : Option ℕ
  pub interpolation : List ℕ
  pub sampling : List ℕ
  pub per_primitive : Bool

-- How a value passes in or out of a stage: by nothing, where these attributes say nothing of it; as
-- a built-in value, by its word, if it has one; or at a location.
pub data StageBinding : Type 0 where
  WithoutBinding : List Attribute → StageBinding
  BuiltinValue : (word : Option (List ℕ)) → (invariant : Bool) → StageBinding
  AtLocation : LocationBinding → StageBinding

-- what an interpolation and a sampling are that nothing tells
abbrev pub default_interpolation : List ℕ
default_interpolation = codes "perspective"

abbrev pub default_sampling : List ℕ
default_sampling = codes "center"

-- a location of which nothing else is told
abbrev pub plain_location : ℕ → LocationBinding
plain_location n =
    record {
      location = n;
      blend_source = None;
      interpolation = default_interpolation;
      sampling = default_sampling;
      per_primitive = false;
    }

-- what stands after the interpolation of a location, after its source, and after its number
abbrev pub after_interpolation_read : LocationBinding → List Attribute → StageBinding
after_interpolation_read l [] = AtLocation l
after_interpolation_read l (Plain PerPrimitive ∷ []) =
    AtLocation (record l { per_primitive = true })
after_interpolation_read l others = WithoutBinding others

abbrev pub after_source_read : LocationBinding → List Attribute → StageBinding
after_source_read l (Worded Interpolate i ∷ more) =
    after_interpolation_read (record l { interpolation = i }) more
after_source_read l (Interpolated i s ∷ more) =
    after_interpolation_read (record l { interpolation = i; sampling = s }) more
after_source_read l more = after_interpolation_read l more

abbrev pub after_location_read : LocationBinding → List Attribute → StageBinding
after_location_read l (Numbered BlendSource n ∷ more) =
    after_source_read (record l { blend_source = Some n }) more
after_location_read l more = after_source_read l more

-- how an argument, a result or a member passes
abbrev pub stage_binding_read : List Attribute → StageBinding
stage_binding_read (Worded Builtin w ∷ []) = BuiltinValue (Some w) false
stage_binding_read (Worded Builtin w ∷ Plain Invariant ∷ []) = BuiltinValue (Some w) true
stage_binding_read (Numbered Location n ∷ more) = after_location_read (plain_location n) more
stage_binding_read others = WithoutBinding others

-- ---- members
-- the size that a member is given, and its alignment, if it is given one; they stand in front of
-- how it passes
abbrev pub size_read : List Attribute → Option ℕ
size_read (Numbered Size n ∷ more) = Some n
size_read _ = None

abbrev pub after_size : List Attribute → List Attribute
after_size (Numbered Size n ∷ more) = more
after_size more = more

abbrev pub alignment_read : List Attribute → Option ℕ
alignment_read (Numbered Align n ∷ more) = Some n
alignment_read _ = None

abbrev pub after_alignment : List Attribute → List Attribute
after_alignment (Numbered Align n ∷ more) = more
after_alignment more = more

-- ---- overrides and variables
-- the number by which a pipeline names an override
abbrev pub id_read : List Attribute → Option ℕ
id_read (Numbered Id n ∷ more) = Some n
id_read _ = None

-- where a pipeline finds what a variable stands for
pub record ResourceBinding : Type 0 where
  pub group : ℕ
  pub binding : ℕ

abbrev pub resource_binding_read : List Attribute → Option ResourceBinding
resource_binding_read (Numbered Group g ∷ Numbered Binding b ∷ more) =
    Some (record { group = g; binding = b })
resource_binding_read _ = None

-- it has every write made visible to other invocations, or may be changed by others than the shader
abbrev pub is_coherent : Attribute → Bool
is_coherent (Plain Coherent) = true
is_coherent _ = false

abbrev pub is_volatile : Attribute → Bool
is_volatile (Plain Volatile) = true
is_volatile _ = false

-- ---- entry points
-- A stage of a pipeline with what it has beside a function: how many invocations a workgroup has
-- along each axis, by a number or by the name of an override that sets it, and the names of the
-- variables that it puts its primitives in, that it hands its payload on in or takes it from. None
-- is told of these attributes if they are no stage's.
pub data Stage : Type 0 where
  VertexStage FragmentStage RayGenerationStage : Stage
  ComputeStage : (size : List SizePart) → Stage
  MeshStage : (output payload : Option (List ℕ)) → (size : List SizePart) → Stage
  TaskStage : (payload : Option (List ℕ)) → (size : List SizePart) → Stage
  AnyHitStage ClosestHitStage MissStage : (incoming_payload : Option (List ℕ)) → Stage
  NoStage : List Attribute → Stage

abbrev pub stage_read : List Attribute → Stage
stage_read (Plain Vertex ∷ []) = VertexStage
stage_read (Plain Fragment ∷ []) = FragmentStage
stage_read (Plain Compute ∷ WorkgroupSize x y z ∷ []) = ComputeStage (x ∷ y ∷ z ∷ [])
stage_read (Worded Mesh w ∷ WorkgroupSize x y z ∷ []) = MeshStage (Some w) None (x ∷ y ∷ z ∷ [])
stage_read (Worded Mesh w ∷ WorkgroupSize x y z ∷ Worded Payload p ∷ []) =
    MeshStage (Some w) (Some p) (x ∷ y ∷ z ∷ [])
stage_read (Plain Task ∷ Worded Payload p ∷ WorkgroupSize x y z ∷ []) =
    TaskStage (Some p) (x ∷ y ∷ z ∷ [])
stage_read (Plain RayGeneration ∷ []) = RayGenerationStage
stage_read (Plain AnyHit ∷ Worded IncomingPayload p ∷ []) = AnyHitStage (Some p)
stage_read (Plain ClosestHit ∷ Worded IncomingPayload p ∷ []) = ClosestHitStage (Some p)
stage_read (Plain Miss ∷ Worded IncomingPayload p ∷ []) = MissStage (Some p)
stage_read others = NoStage others
