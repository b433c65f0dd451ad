-- Members of naga's JSON that are let be: they change nothing that a shader does (docs/JSON.md, "Nothing is lost").
use Rattle.std.specs.Prelude.{List, [], ◌∷◌}
use Prim.Native.String.{String}

abbrev pub of_mesh_info : List String
of_mesh_info =
    "topology" ∷ "max_vertices" ∷ "max_vertices_override" ∷ "max_primitives" ∷ "max_primitives_override" ∷
    "vertex_output_type" ∷ "primitive_output_type" ∷ []

abbrev pub of_ray_query : List String
of_ray_query = "fun" ∷ []

-- comments
abbrev pub of_module : List String
of_module = "doc_comments" ∷ []
