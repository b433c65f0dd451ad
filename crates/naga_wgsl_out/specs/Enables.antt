-- The extensions that a module needs, as they are found, and the text that enables them.
use Rattle.std.specs.Prelude.{ℕ, Bool, true, false, ◌||◌, List, [], ◌∷◌, ◌++◌, codes, drop}
use Rattle.std.specs.Prelude.{if◌then◌else◌}
use Rattle.wgsl_text.specs.Declarations.{enables_pieces}
use Rattle.wgsl_text.specs.Functions.{group_end}
use Rattle.wgsl_text.specs.Text.{text}
use Rattle.naga_wgsl_out.specs.declared.enables.Enables.{Enables}
use Rattle.module_semantics.specs.Enables.{Extension, f16, int16, dual_source_blending}
use Rattle.module_semantics.specs.Enables.{clip_distances}
use Rattle.module_semantics.specs.Enables.{mesh_shader, binding_array, draw_index, primitive_index}
use Rattle.module_semantics.specs.Enables.{cooperative_matrix, ray_tracing_pipeline, per_vertex}
use Rattle.module_semantics.specs.Enables.{subgroups}

-- those that pass a test
abbrev pub enables_of : (Extension → Bool) → Enables
enables_of test =
    record {
      f16 = test f16;
      int16 = test int16;
      dual_source_blending = test dual_source_blending;
      clip_distances = test clip_distances;
      mesh_shader = test mesh_shader;
      binding_array = test binding_array;
      draw_index = test draw_index;
      primitive_index = test primitive_index;
      cooperative_matrix = test cooperative_matrix;
      ray_tracing_pipeline = test ray_tracing_pipeline;
      per_vertex = test per_vertex;
      subgroups = test subgroups;
    }

-- those among the ones or the others
abbrev pub either : Enables → Enables → Enables
either a b =
    record {
      f16 = a.f16 || b.f16;
      int16 = a.int16 || b.int16;
      dual_source_blending = a.dual_source_blending || b.dual_source_blending;
      clip_distances = a.clip_distances || b.clip_distances;
      mesh_shader = a.mesh_shader || b.mesh_shader;
      binding_array = a.binding_array || b.binding_array;
      draw_index = a.draw_index || b.draw_index;
      primitive_index = a.primitive_index || b.primitive_index;
      cooperative_matrix = a.cooperative_matrix || b.cooperative_matrix;
      ray_tracing_pipeline = a.ray_tracing_pipeline || b.ray_tracing_pipeline;
      per_vertex = a.per_vertex || b.per_vertex;
      subgroups = a.subgroups || b.subgroups;
    }

-- those of them that each text enables
abbrev pub in_each_text : Enables → Enables
in_each_text e = record e { subgroups = false }

-- each with its word
abbrev pub words_found : Enables → List (Bool × List ℕ)
words_found e =
    (e.f16, codes "f16") ∷ (e.int16, codes "wgpu_int16") ∷
    (e.dual_source_blending, codes "dual_source_blending") ∷
    (e.clip_distances, codes "clip_distances") ∷ (e.mesh_shader, codes "wgpu_mesh_shader") ∷
    (e.binding_array, codes "wgpu_binding_array") ∷ (e.draw_index, codes "draw_index") ∷
    (e.primitive_index, codes "primitive_index") ∷
    (e.cooperative_matrix, codes "wgpu_cooperative_matrix") ∷
    (e.ray_tracing_pipeline, codes "wgpu_ray_tracing_pipeline") ∷
    (e.per_vertex, codes "wgpu_per_vertex") ∷ (e.subgroups, codes "subgroups") ∷ []

-- the words of those that were found
abbrev pub words_among : List (Bool × List ℕ) → List (List ℕ)
words_among [] = []
words_among (row ∷ rows) = if row.0 then row.1 ∷ words_among rows else words_among rows

-- ---- the text
-- the lines that enable extensions with these words, and an empty line after the last
abbrev pub enables_text : (words : List (List ℕ)) → List ℕ
enables_text words = text (enables_pieces words) ++ text (group_end words)

-- the line of one that was found
abbrev pub line_text : (found : Bool) (word : List ℕ) → List ℕ
line_text true word = codes "enable " ++ (word ++ codes ";\n")
line_text false word = []

-- there is some among them
abbrev pub is_any_after : (one : Bool) → List (Bool × List ℕ) → Bool
is_any_after one [] = one
is_any_after one (row ∷ rows) = is_any_after (one || row.0) rows

abbrev pub is_any : Enables → Bool
is_any e = is_any_after e.f16 (drop 1 (words_found e))

-- the empty line after those that were found
abbrev pub end_text : (any : Bool) → List ℕ
end_text true = codes "\n"
end_text false = []
