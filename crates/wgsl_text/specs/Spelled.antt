-- The words and signs of the grammar, spelled out: for each table a text of its words, in order.
--
-- Throughout, a is an attribute.
use Rattle.std.specs.Prelude.{◌≡◌, ℕ, false, true, List, [], ◌∷◌, ◌++◌, map, codes}
use Rattle.wgsl_text.specs.Token.{OpenParen, CloseParen, OpenBracket, CloseBracket, OpenBrace}
use Rattle.wgsl_text.specs.Token.{CloseBrace, Comma, Semicolon, Colon, Dot, At, Equals, LessThan}
use Rattle.wgsl_text.specs.Token.{GreaterThan, Plus, Minus, Star, Slash, Percent, Ampersand, Bar}
use Rattle.wgsl_text.specs.Token.{Caret, Not, Tilde, EqualsEquals, NotEquals, LessEquals, AndAnd}
use Rattle.wgsl_text.specs.Token.{BarBar, LessLess, NoSuffix, SuffixI, SuffixU, SuffixLi, SuffixLu}
use Rattle.wgsl_text.specs.Token.{Fixed, Word, Number, Decimal, NoPower, PowerOf, Half, Single}
use Rattle.wgsl_text.specs.Token.{Double}
use Rattle.wgsl_text.specs.Attributes.{Invariant, PerPrimitive, Coherent, Volatile, Vertex}
use Rattle.wgsl_text.specs.Attributes.{Fragment, Compute, Task, RayGeneration, AnyHit, ClosestHit}
use Rattle.wgsl_text.specs.Attributes.{Miss, Location, BlendSource, Id, Group, Binding, Size, Align}
use Rattle.wgsl_text.specs.Attributes.{Builtin, Interpolate, Mesh, Payload, IncomingPayload, Plain}
use Rattle.wgsl_text.specs.Attributes.{Numbered, Worded, Interpolated, WorkgroupSize, FixedSize, NamedSize}
use Rattle.wgsl_text.specs.Attributes.{attributes_pieces}
use Rattle.wgsl_text.specs.Tables.{vector_words, matrix_words, atomic_words, array_words}
use Rattle.wgsl_text.specs.Tables.{pointer_words, sampled_image_words, depth_image_words}
use Rattle.wgsl_text.specs.Tables.{storage_image_words, cooperative_matrix_words, sampler_words}
use Rattle.wgsl_text.specs.Tables.{ray_words, enable_words, type_taking_words, gather_words}
use Rattle.wgsl_text.specs.Tables.{level_words}
use Rattle.wgsl_text.specs.Text.{keywords, text, tokens}

-- The tokens of the text are the words of the table.
abbrev pub AreWords : List ℕ → List (List ℕ) → Type 0
AreWords bytes words = tokens bytes ≡ map Word words

-- the words of types, but for scalars
pub record SpelledTypes : Type 0 where
  pub vectors : AreWords (codes "vec2 vec3 vec4") vector_words
  pub matrices : AreWords (
      codes "mat2x2 mat2x3 mat2x4 mat3x2 mat3x3 mat3x4 mat4x2 mat4x3 mat4x4") matrix_words
  pub atomics : AreWords (codes "atomic") atomic_words
  pub arrays : AreWords (codes "array binding_array") array_words
  pub pointers : AreWords (codes "ptr") pointer_words
  pub sampled_images : AreWords (
      codes "texture_1d texture_1d_array texture_2d texture_2d_array " ++ (
      codes "texture_3d texture_3d_array texture_cube texture_cube_array " ++ (
      codes "texture_multisampled_1d texture_multisampled_1d_array " ++ (
      codes "texture_multisampled_2d texture_multisampled_2d_array " ++ (
      codes "texture_multisampled_3d texture_multisampled_3d_array " ++
      codes "texture_multisampled_cube texture_multisampled_cube_array"))))) sampled_image_words
  pub depth_images : AreWords (
      codes "texture_depth_1d texture_depth_1d_array texture_depth_2d texture_depth_2d_array " ++ (
      codes "texture_depth_3d texture_depth_3d_array texture_depth_cube " ++ (
      codes "texture_depth_cube_array texture_depth_multisampled_1d " ++ (
      codes "texture_depth_multisampled_1d_array " ++ (
      codes "texture_depth_multisampled_2d texture_depth_multisampled_2d_array " ++ (
      codes "texture_depth_multisampled_3d texture_depth_multisampled_3d_array " ++
      codes "texture_depth_multisampled_cube texture_depth_multisampled_cube_array"))))))
      depth_image_words
  pub storage_images : AreWords (
      codes "texture_storage_1d texture_storage_1d_array texture_storage_2d " ++ (
      codes "texture_storage_2d_array texture_storage_3d texture_storage_3d_array " ++
      codes "texture_storage_cube texture_storage_cube_array")) storage_image_words
  pub samplers : AreWords (codes "sampler sampler_comparison texture_external") sampler_words
  pub rays : AreWords (codes "acceleration_structure ray_query") ray_words
  pub cooperative_matrices : AreWords (
      codes "coop_mat8x8 coop_mat8x16 coop_mat16x8 coop_mat16x16") cooperative_matrix_words

-- extensions, and the functions that take more than expressions
pub record SpelledCalls : Type 0 where
  pub enables : AreWords (
      codes "f16 wgpu_int16 dual_source_blending clip_distances wgpu_mesh_shader " ++ (
      codes "wgpu_binding_array draw_index primitive_index wgpu_cooperative_matrix " ++
      codes "wgpu_ray_tracing_pipeline wgpu_per_vertex subgroups")) enable_words
  pub type_taking : AreWords (codes "bitcast coopLoad coopLoadT") type_taking_words
  pub gathers : AreWords (codes "textureGather textureGatherCompare") gather_words
  pub levels : AreWords (codes "textureSampleLevel") level_words

-- keywords, signs and suffixes
pub record SpelledMarks : Type 0 where
  pub keywords_in_order : tokens (
      codes "true false let var if else loop continuing break continue switch case default " ++
      codes "return discard fn struct const enable override") ≡ map Fixed keywords
  pub brackets : tokens (codes "( ) [ ] { }") ≡ map Fixed (
      OpenParen ∷ CloseParen ∷ OpenBracket ∷ CloseBracket ∷ OpenBrace ∷ CloseBrace ∷ [])
  pub separators : tokens (codes ", ; : . @") ≡ map Fixed (
      Comma ∷ Semicolon ∷ Colon ∷ Dot ∷ At ∷ [])
  pub operators : tokens (codes "= < > + - * / % & | ^ ! ~") ≡ map Fixed (
      Equals ∷ LessThan ∷ GreaterThan ∷ Plus ∷ Minus ∷ Star ∷ Slash ∷ Percent ∷ Ampersand ∷ Bar ∷
      Caret ∷ Not ∷ Tilde ∷ [])
  pub double_operators : tokens (codes "== != <= && || <<") ≡ map Fixed (
      EqualsEquals ∷ NotEquals ∷ LessEquals ∷ AndAnd ∷ BarBar ∷ LessLess ∷ [])
  pub suffixes : tokens (codes "1 1i 1u 1li 1lu") ≡ map (Number false 1) (
      NoSuffix ∷ SuffixI ∷ SuffixU ∷ SuffixLi ∷ SuffixLu ∷ [])
  pub precisions : tokens (codes "2h 2f 2lf 2e1lf 2e-1lf") ≡ map (Decimal false (codes "2") []) (
      Half ∷ Single ∷ Double NoPower ∷ Double (PowerOf false (codes "1")) ∷
      Double (PowerOf true (codes "1")) ∷ [])

-- attributes
pub record SpelledAttributes : Type 0 where
  pub plain_attributes : text (attributes_pieces (map Plain (
      Invariant ∷ PerPrimitive ∷ Coherent ∷ Volatile ∷ Vertex ∷ Fragment ∷ Compute ∷ Task ∷
      RayGeneration ∷ AnyHit ∷ ClosestHit ∷ Miss ∷ []))) ≡
      codes "@invariant @per_primitive @coherent @volatile @vertex @fragment @compute @task " ++
      codes "@ray_generation @any_hit @closest_hit @miss "
  pub numbered_attributes : text (attributes_pieces (map (λ a. Numbered a 1) (
      Location ∷ BlendSource ∷ Id ∷ Group ∷ Binding ∷ Size ∷ Align ∷ []))) ≡
      codes "@location(1) @blend_src(1) @id(1) @group(1) @binding(1) @size(1) @align(1) "
  pub worded_attributes : text (attributes_pieces (map (λ a. Worded a (codes "w")) (
      Builtin ∷ Interpolate ∷ Mesh ∷ Payload ∷ IncomingPayload ∷ []))) ≡
      codes "@builtin(w) @interpolate(w) @mesh(w) @payload(w) @incoming_payload(w) "
  pub interpolated_attributes : text
      (attributes_pieces (Interpolated (codes "i") (codes "s") ∷ [])) ≡
      codes "@interpolate(i, s) "
  pub workgroup_size : text
      (attributes_pieces (WorkgroupSize (FixedSize 1) (FixedSize 2) (FixedSize 3) ∷ [])) ≡
      codes "@workgroup_size(1, 2, 3) "
  pub named_sizes : text (attributes_pieces (
      WorkgroupSize (NamedSize (codes "W")) (FixedSize 2) (NamedSize (codes "D")) ∷ [])) ≡
      codes "@workgroup_size(W, 2, D) "

pub record SpelledPieces : Type 0 where
  pub types : SpelledTypes
  pub calls : SpelledCalls
  pub marks : SpelledMarks
  pub attributes : SpelledAttributes
