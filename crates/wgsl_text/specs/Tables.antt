-- The words that have a meaning at one place of the grammar alone.
use Rattle.std.specs.Prelude.{ℕ, List, [], ◌∷◌, codes}

-- the scalar types (WGSL, "Scalar Types"), with those of the extensions
abbrev pub scalar_words : List (List ℕ)
scalar_words =
    codes "bool" ∷ codes "i16" ∷ codes "u16" ∷ codes "i32" ∷ codes "u32" ∷ codes "i64" ∷
    codes "u64" ∷ codes "f16" ∷ codes "f32" ∷ codes "f64" ∷ []

-- the scalar types that a sampled image gives
abbrev pub sampled_words : List (List ℕ)
sampled_words =
    codes "i32" ∷ codes "u32" ∷ codes "f32" ∷ []

-- vectors (WGSL, "Vector Types")
abbrev pub vector_words : List (List ℕ)
vector_words =
    codes "vec2" ∷ codes "vec3" ∷ codes "vec4" ∷ []

-- matrices, columns first (WGSL, "Matrix Types")
abbrev pub matrix_words : List (List ℕ)
matrix_words =
    codes "mat2x2" ∷ codes "mat2x3" ∷ codes "mat2x4" ∷ codes "mat3x2" ∷ codes "mat3x3" ∷
    codes "mat3x4" ∷ codes "mat4x2" ∷ codes "mat4x3" ∷
    codes "mat4x4" ∷ []

-- atomic types (WGSL, "Atomic Types")
abbrev pub atomic_words : List (List ℕ)
atomic_words =
    codes "atomic" ∷ []

-- arrays (WGSL, "Array Types"), with those of bindings of an extension
abbrev pub array_words : List (List ℕ)
array_words =
    codes "array" ∷ codes "binding_array" ∷ []

-- pointers (WGSL, "Reference and Pointer Types")
abbrev pub pointer_words : List (List ℕ)
pointer_words =
    codes "ptr" ∷ []

-- sampled and multisampled images (WGSL, "Sampled Texture Types")
abbrev pub sampled_image_words : List (List ℕ)
sampled_image_words =
    codes "texture_1d" ∷ codes "texture_1d_array" ∷ codes "texture_2d" ∷ codes "texture_2d_array" ∷
    codes "texture_3d" ∷ codes "texture_3d_array" ∷
    codes "texture_cube" ∷ codes "texture_cube_array" ∷ codes "texture_multisampled_1d" ∷
    codes "texture_multisampled_1d_array" ∷
    codes "texture_multisampled_2d" ∷ codes "texture_multisampled_2d_array" ∷
    codes "texture_multisampled_3d" ∷
    codes "texture_multisampled_3d_array" ∷ codes "texture_multisampled_cube" ∷
    codes "texture_multisampled_cube_array" ∷ []

-- depth images (WGSL, "Depth Texture Types")
abbrev pub depth_image_words : List (List ℕ)
depth_image_words =
    codes "texture_depth_1d" ∷ codes "texture_depth_1d_array" ∷ codes "texture_depth_2d" ∷
    codes "texture_depth_2d_array" ∷ codes "texture_depth_3d" ∷
    codes "texture_depth_3d_array" ∷ codes "texture_depth_cube" ∷ codes "texture_depth_cube_array" ∷
    codes "texture_depth_multisampled_1d" ∷
    codes "texture_depth_multisampled_1d_array" ∷ codes "texture_depth_multisampled_2d" ∷
    codes "texture_depth_multisampled_2d_array" ∷
    codes "texture_depth_multisampled_3d" ∷ codes "texture_depth_multisampled_3d_array" ∷
    codes "texture_depth_multisampled_cube" ∷
    codes "texture_depth_multisampled_cube_array" ∷ []

-- storage images (WGSL, "Storage Texture Types")
abbrev pub storage_image_words : List (List ℕ)
storage_image_words =
    codes "texture_storage_1d" ∷ codes "texture_storage_1d_array" ∷ codes "texture_storage_2d" ∷
    codes "texture_storage_2d_array" ∷
    codes "texture_storage_3d" ∷ codes "texture_storage_3d_array" ∷ codes "texture_storage_cube" ∷
    codes "texture_storage_cube_array" ∷ []

-- matrices that the invocations of a subgroup share, an extension
abbrev pub cooperative_matrix_words : List (List ℕ)
cooperative_matrix_words =
    codes "coop_mat8x8" ∷ codes "coop_mat8x16" ∷ codes "coop_mat16x8" ∷ codes "coop_mat16x16" ∷ []

-- samplers and external images (WGSL, "Sampler Types", "External Sampled Texture Types")
abbrev pub sampler_words : List (List ℕ)
sampler_words =
    codes "sampler" ∷ codes "sampler_comparison" ∷ codes "texture_external" ∷ []

-- what rays are traced with, an extension
abbrev pub ray_words : List (List ℕ)
ray_words =
    codes "acceleration_structure" ∷ codes "ray_query" ∷ []

-- address spaces (WGSL, "Address Spaces"), with those of the extensions
abbrev pub address_space_words : List (List ℕ)
address_space_words =
    codes "private" ∷ codes "uniform" ∷ codes "storage" ∷ codes "immediate" ∷ codes "workgroup" ∷
    codes "function" ∷ codes "task_payload" ∷
    codes "incoming_ray_payload" ∷ codes "ray_payload" ∷ []

-- access modes (WGSL, "Memory Access Mode"), with `atomic` of an extension
abbrev pub access_words : List (List ℕ)
access_words =
    codes "read" ∷ codes "write" ∷ codes "read_write" ∷ codes "atomic" ∷ []

-- texel formats (WGSL, "Texel Formats"), with those of the extensions
abbrev pub format_words : List (List ℕ)
format_words =
    codes "r8unorm" ∷ codes "r8snorm" ∷ codes "r8uint" ∷ codes "r8sint" ∷ codes "rg8unorm" ∷
    codes "rg8snorm" ∷ codes "rg8uint" ∷ codes "rg8sint" ∷
    codes "rgba8unorm" ∷ codes "rgba8snorm" ∷ codes "rgba8uint" ∷ codes "rgba8sint" ∷
    codes "r16unorm" ∷ codes "r16snorm" ∷ codes "r16uint" ∷
    codes "r16sint" ∷ codes "r16float" ∷ codes "rg16unorm" ∷ codes "rg16snorm" ∷ codes "rg16uint" ∷
    codes "rg16sint" ∷ codes "rg16float" ∷
    codes "rgba16unorm" ∷ codes "rgba16snorm" ∷ codes "rgba16uint" ∷ codes "rgba16sint" ∷
    codes "rgba16float" ∷ codes "r32uint" ∷ codes "r32sint" ∷
    codes "r32float" ∷ codes "rg32uint" ∷ codes "rg32sint" ∷ codes "rg32float" ∷
    codes "rgba32uint" ∷ codes "rgba32sint" ∷ codes "rgba32float" ∷
    codes "bgra8unorm" ∷ codes "rgb10a2uint" ∷ codes "rgb10a2unorm" ∷ codes "rg11b10ufloat" ∷
    codes "r64uint" ∷ []

-- the role of a cooperative matrix
abbrev pub matrix_role_words : List (List ℕ)
matrix_role_words =
    codes "A" ∷ codes "B" ∷ codes "C" ∷ []

-- built-in values (WGSL, "Built-in Values"), with those of the extensions
abbrev pub builtin_value_words : List (List ℕ)
builtin_value_words =
    codes "position" ∷ codes "barycentric" ∷ codes "barycentric_no_perspective" ∷
    codes "view_index" ∷ codes "instance_index" ∷ codes "vertex_index" ∷
    codes "clip_distances" ∷ codes "frag_depth" ∷ codes "front_facing" ∷ codes "primitive_index" ∷
    codes "draw_index" ∷ codes "sample_index" ∷
    codes "sample_mask" ∷ codes "global_invocation_id" ∷ codes "local_invocation_id" ∷
    codes "local_invocation_index" ∷ codes "workgroup_id" ∷
    codes "num_workgroups" ∷ codes "num_subgroups" ∷ codes "subgroup_id" ∷ codes "subgroup_size" ∷
    codes "subgroup_invocation_id" ∷
    codes "mesh_task_size" ∷ codes "triangle_indices" ∷ codes "line_indices" ∷ codes "point_index" ∷
    codes "vertices" ∷ codes "primitives" ∷
    codes "vertex_count" ∷ codes "primitive_count" ∷ codes "cull_primitive" ∷
    codes "ray_invocation_id" ∷ codes "num_ray_invocations" ∷
    codes "instance_custom_data" ∷ codes "geometry_index" ∷ codes "world_ray_origin" ∷
    codes "world_ray_direction" ∷ codes "object_ray_origin" ∷
    codes "object_ray_direction" ∷ codes "ray_t_min" ∷ codes "ray_t_current_max" ∷
    codes "object_to_world" ∷ codes "world_to_object" ∷
    codes "hit_kind" ∷ []

-- interpolation types (WGSL, "Interpolation"), with `per_vertex` of an extension
abbrev pub interpolation_words : List (List ℕ)
interpolation_words =
    codes "perspective" ∷ codes "linear" ∷ codes "flat" ∷ codes "per_vertex" ∷ []

-- interpolation samplings (WGSL, "Interpolation")
abbrev pub sampling_words : List (List ℕ)
sampling_words =
    codes "center" ∷ codes "centroid" ∷ codes "sample" ∷ codes "first" ∷ codes "either" ∷ []

-- extensions that a text may enable (WGSL, "Enable Extensions")
abbrev pub enable_words : List (List ℕ)
enable_words =
    codes "f16" ∷ codes "wgpu_int16" ∷ codes "dual_source_blending" ∷ codes "clip_distances" ∷
    codes "wgpu_mesh_shader" ∷ codes "wgpu_binding_array" ∷
    codes "draw_index" ∷ codes "primitive_index" ∷ codes "wgpu_cooperative_matrix" ∷
    codes "wgpu_ray_tracing_pipeline" ∷ codes "wgpu_per_vertex" ∷ codes "subgroups" ∷ []

-- built-in functions that take a type
abbrev pub type_taking_words : List (List ℕ)
type_taking_words =
    codes "bitcast" ∷ codes "coopLoad" ∷ codes "coopLoadT" ∷ []

-- built-in functions whose first argument may be the number of a component
abbrev pub gather_words : List (List ℕ)
gather_words =
    codes "textureGather" ∷ codes "textureGatherCompare" ∷ []

-- built-in functions that may take the level `0.0`
abbrev pub level_words : List (List ℕ)
level_words =
    codes "textureSampleLevel" ∷ []
