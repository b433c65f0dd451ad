-- The words of types.
use Rattle.std.specs.Prelude.{ℕ, Bool, true, false, List, [], ◌++◌, codes}
use Rattle.naga_ir.specs.declared.types.VectorSize.{VectorSize}
use Rattle.naga_ir.specs.declared.types.VectorSize.TheVariants.{Bi, Tri, Quad}
use Rattle.naga_ir.specs.declared.types.CooperativeSize.{CooperativeSize}
use Rattle.naga_ir.specs.declared.types.CooperativeSize.TheVariants.{Eight, Sixteen}
use Rattle.naga_ir.specs.declared.types.CooperativeRole.{CooperativeRole}
use Rattle.naga_ir.specs.declared.image.ImageDimension.{ImageDimension}
use Rattle.wgsl_words.specs.Words.{matrix_role_word, dimension_word}

-- the number in a vector's or a matrix's word
abbrev pub size_text : VectorSize → List ℕ
size_text Bi = codes "2"
size_text Tri = codes "3"
size_text Quad = codes "4"

abbrev pub cooperative_size_text : CooperativeSize → List ℕ
cooperative_size_text Eight = codes "8"
cooperative_size_text Sixteen = codes "16"

-- the words of types with a size
abbrev pub vector_word : VectorSize → List ℕ
vector_word size = codes "vec" ++ size_text size

-- columns first
abbrev pub matrix_word : VectorSize → VectorSize → List ℕ
matrix_word columns rows = codes "mat" ++ (size_text columns ++ (codes "x" ++ size_text rows))

abbrev pub cooperative_word : CooperativeSize → CooperativeSize → List ℕ
cooperative_word columns rows =
    codes "coop_mat" ++
    (cooperative_size_text columns ++ (codes "x" ++ cooperative_size_text rows))

-- the words of images
abbrev pub array_suffix : Bool → List ℕ
array_suffix true = codes "_array"
array_suffix false = []

abbrev pub multisampled_prefix : Bool → List ℕ
multisampled_prefix true = codes "multisampled_"
multisampled_prefix false = []

abbrev pub image_word : List ℕ → Bool → ImageDimension → Bool → List ℕ
image_word prefix multi dim arrayed =
    prefix ++ (multisampled_prefix multi ++ (dimension_word dim ++ array_suffix arrayed))

-- the end of a cooperative matrix; no blank stands after the comma
abbrev pub matrix_role_tail : CooperativeRole → List ℕ
matrix_role_tail role = codes "," ++ (matrix_role_word role ++ codes ">")

abbrev pub sampler_word : Bool → List ℕ
sampler_word true = codes "sampler_comparison"
sampler_word false = codes "sampler"

-- what rays are traced with, and with the vertices of a hit or without
abbrev pub acceleration_structure_text : Bool → List ℕ
acceleration_structure_text true = codes "acceleration_structure<vertex_return>"
acceleration_structure_text false = codes "acceleration_structure"

abbrev pub ray_query_text : Bool → List ℕ
ray_query_text true = codes "ray_query<vertex_return>"
ray_query_text false = codes "ray_query"
