-- The tables that the grammar shares with the values of the IR have the same words.
use Rattle.std.proofs.Common.{◌≡◌, ℕ, Bool, true, false, List, [], ◌∷◌, Option, Some, None, map}
use Rattle.std.proofs.Common.{refl, sym, ap, ◌∙◌, inl, inr, codes, ◌==◌}
use Rattle.std.specs.Prelude.{if◌then◌else◌}
use Rattle.std.specs.Str.{bytes_eq}
use Rattle.std.proofs.lemmas.Bool.{false≢true, or_cases}
use Rattle.std.proofs.lemmas.Slice.Eq.{bytes_eq-Decides}
use Rattle.naga_ir.specs.declared.binding.BuiltIn.{BuiltIn}
use Rattle.naga_ir.specs.declared.binding.BuiltIn.TheVariants as builtin
use Rattle.naga_ir.specs.declared.binding.Interpolation.{Interpolation}
use Rattle.naga_ir.specs.declared.binding.Interpolation.TheVariants as interpolation
use Rattle.naga_ir.specs.declared.binding.Sampling.{Sampling}
use Rattle.naga_ir.specs.declared.binding.Sampling.TheVariants as sampling
use Rattle.naga_ir.specs.declared.image.StorageFormat.{StorageFormat}
use Rattle.naga_ir.specs.declared.image.StorageFormat.TheVariants as format
use Rattle.naga_ir.specs.declared.types.AddressSpace.{AddressSpace}
use Rattle.naga_ir.specs.declared.types.AddressSpace.TheVariants as space
use Rattle.naga_ir.specs.declared.types.CooperativeRole.{CooperativeRole}
use Rattle.naga_ir.specs.declared.types.CooperativeRole.TheVariants as role
use Rattle.naga_ir.specs.declared.types.Scalar.{Scalar}
use Rattle.naga_ir.specs.declared.types.ScalarKind.{ScalarKind}
use Rattle.naga_ir.specs.declared.types.ScalarKind.TheVariants as kind
use Rattle.naga_ir.specs.declared.flags.StorageAccess.{StorageAccess}
use Rattle.naga_ir.specs.declared.operators.MathFunction.{MathFunction}
use Rattle.naga_ir.specs.declared.operators.MathFunction.TheVariants as math
use Rattle.wgsl_words.specs.Words.{scalar_word, scalar_word_of, interpolation_word, sampling_word}
use Rattle.wgsl_words.specs.Words.{matrix_role_word, format_word, builtin_word, space_word}
use Rattle.wgsl_words.specs.Words.{image_access_word, math_word, has, atomic_bit, load_bit}
use Rattle.wgsl_words.specs.Words.{store_bit}
use Rattle.wgsl_text.specs.Tables.{scalar_words, sampled_words, address_space_words, access_words}
use Rattle.wgsl_text.specs.Tables.{format_words, matrix_role_words, builtin_value_words}
use Rattle.wgsl_text.specs.Tables.{interpolation_words, sampling_words}
use Rattle.wgsl_text.specs.ValueWords.{AreTheWordsOf, ValueWords}
use Rattle.wgsl_text.specs.Words.{stands_in, is_builtin}

-- a word, where there is one, stands in the table
abbrev stands_if_there : List (List ℕ) → Option (List ℕ) → Bool
stands_if_there words None = true
stands_if_there words (Some w) = stands_in words w

-- Each word of the table is that of one of these values.
found : {A : Type 0} (word : A → Option (List ℕ)) (vs : List A) (words : List (List ℕ)) →
    map word vs ≡ map Some words → (w : List ℕ) → stands_in words w ≡ true → (v : A) × (word v ≡ Some w)
found word [] [] e w at = absurd (false≢true at)
found word [] (u ∷ words) e w at = absurd (cc)
found word (v ∷ vs) [] e w at = absurd (false≢true at)
found word (v ∷ vs) (u ∷ words) e w at =
    let here : word v ≡ Some u = cc in
    let following : map word vs ≡ map Some words = cc in
    elim (or_cases (bytes_eq u w) (stands_in words w) at) [
      | inl same ↦ (v, here ∙ ap Some ((bytes_eq-Decides u w).0 same))
      | inr later ↦ found word vs words following w later
    ]

are_the_words : {A : Type 0} (word : A → Option (List ℕ)) (words : List (List ℕ)) →
    ((v : A) → stands_if_there words (word v) ≡ true) →
    (vs : List A) → map word vs ≡ map Some words → AreTheWordsOf word words
are_the_words word words all vs e = record {
  each = λ v w is. ap (stands_if_there words) (sym is) ∙ all v;
  others = found word vs words e;
}

-- scalars, by three widths
by_width : (words : List (List ℕ)) (a b c : Bool) (x y z : List ℕ) → stands_in words x ≡ true →
    stands_in words y ≡ true → stands_in words z ≡ true →
    stands_if_there words
    (if a then Some x else (if b then Some y else (if c then Some z else None))) ≡ true
by_width words true b c x y z p q r = p
by_width words false true c x y z p q r = q
by_width words false false true x y z p q r = r
by_width words false false false x y z p q r = refl

scalar_stands : (k : ScalarKind) (n : ℕ) → stands_if_there scalar_words (scalar_word_of k n) ≡ true
scalar_stands kind.Bool n = by_width scalar_words (n == 1) false false (codes "bool") (codes "bool")
    (codes "bool") refl refl refl
scalar_stands kind.Sint n = by_width scalar_words (n == 2) (n == 4) (n == 8) (codes "i16") (codes "i32")
    (codes "i64") refl refl refl
scalar_stands kind.Uint n = by_width scalar_words (n == 2) (n == 4) (n == 8) (codes "u16") (codes "u32")
    (codes "u64") refl refl refl
scalar_stands kind.Float n = by_width scalar_words (n == 2) (n == 4) (n == 8) (codes "f16") (codes "f32")
    (codes "f64") refl refl refl
scalar_stands kind.AbstractInt n = refl
scalar_stands kind.AbstractFloat n = refl

scalar : ScalarKind → ℕ → Scalar
scalar k n = record { kind = k; width = n }

scalars : AreTheWordsOf scalar_word scalar_words
unfolding scalar
scalars = are_the_words scalar_word scalar_words (λ s. scalar_stands s.kind s.width) (
    scalar kind.Bool 1 ∷ scalar kind.Sint 2 ∷ scalar kind.Uint 2 ∷ scalar kind.Sint 4 ∷ scalar kind.Uint 4
    ∷ scalar kind.Sint 8 ∷ scalar kind.Uint 8 ∷
    scalar kind.Float 2 ∷ scalar kind.Float 4 ∷ scalar kind.Float 8 ∷ []) refl

sampled_stands : (k : ScalarKind) → stands_if_there sampled_words (scalar_word_of k 4) ≡ true
sampled_stands kind.Sint = refl
sampled_stands _ = refl

format_stands : (f : StorageFormat) → stands_in format_words (format_word f) ≡ true
format_stands format.R8Unorm = refl
format_stands _ = refl

role_stands : (r : CooperativeRole) → stands_in matrix_role_words (matrix_role_word r) ≡ true
role_stands role.A = refl
role_stands _ = refl

builtin_stands : (b : BuiltIn) → stands_if_there builtin_value_words (builtin_word b) ≡ true
builtin_stands (builtin.Barycentric true) = refl
builtin_stands (builtin.Barycentric false) = refl
builtin_stands _ = refl

interpolation_stands : (i : Interpolation) → stands_in interpolation_words (interpolation_word i) ≡ true
interpolation_stands interpolation.Perspective = refl
interpolation_stands _ = refl

sampling_stands : (s : Sampling) → stands_in sampling_words (sampling_word s) ≡ true
sampling_stands sampling.Center = refl
sampling_stands _ = refl

space_stands : (a : AddressSpace) → stands_if_there address_space_words (space_word a) ≡ true
space_stands space.Function = refl
space_stands _ = refl

access_stands : (x y z : Bool) →
    stands_in access_words (if x then codes "atomic" else
    (if y then (if z then codes "read_write" else codes "read") else codes "write")) ≡ true
access_stands true y z = refl
access_stands false true true = refl
access_stands false true false = refl
access_stands false false z = refl

abbrev builtin_if_there : Option (List ℕ) → Bool
builtin_if_there None = true
builtin_if_there (Some w) = is_builtin w

function_is_builtin : (f : MathFunction) → builtin_if_there (math_word f) ≡ true
unfolding is_builtin
function_is_builtin math.Abs = refl
function_is_builtin _ = refl

-- what may be done with a storage image, as bits
bits : ℕ → StorageAccess
bits n = record { 0 = n }

pub value_words : ValueWords
unfolding bits
value_words = record {
  scalars = scalars;
  sampled = are_the_words (λ k. scalar_word_of k 4) sampled_words sampled_stands
      (kind.Sint ∷ kind.Uint ∷ kind.Float ∷ []) refl;
  formats = are_the_words (λ f. Some (format_word f)) format_words format_stands (
      format.R8Unorm ∷ format.R8Snorm ∷ format.R8Uint ∷ format.R8Sint ∷ format.Rg8Unorm ∷ format.Rg8Snorm
      ∷ format.Rg8Uint ∷ format.Rg8Sint ∷
      format.Rgba8Unorm ∷ format.Rgba8Snorm ∷ format.Rgba8Uint ∷ format.Rgba8Sint ∷ format.R16Unorm
      ∷ format.R16Snorm ∷ format.R16Uint ∷
      format.R16Sint ∷ format.R16Float ∷ format.Rg16Unorm ∷ format.Rg16Snorm ∷ format.Rg16Uint ∷ format.Rg16Sint
      ∷ format.Rg16Float ∷
      format.Rgba16Unorm ∷ format.Rgba16Snorm ∷ format.Rgba16Uint ∷ format.Rgba16Sint ∷ format.Rgba16Float
      ∷ format.R32Uint ∷ format.R32Sint ∷
      format.R32Float ∷ format.Rg32Uint ∷ format.Rg32Sint ∷ format.Rg32Float ∷ format.Rgba32Uint
      ∷ format.Rgba32Sint ∷ format.Rgba32Float ∷
      format.Bgra8Unorm ∷ format.Rgb10a2Uint ∷ format.Rgb10a2Unorm ∷ format.Rg11b10Ufloat ∷ format.R64Uint ∷ []) refl;
  roles = are_the_words (λ r. Some (matrix_role_word r)) matrix_role_words role_stands
      (role.A ∷ role.B ∷ role.C ∷ []) refl;
  builtin_values = are_the_words builtin_word builtin_value_words builtin_stands (
      builtin.Position false ∷ builtin.Barycentric true ∷ builtin.Barycentric false ∷ builtin.ViewIndex
      ∷ builtin.InstanceIndex ∷
      builtin.VertexIndex ∷ builtin.ClipDistances ∷ builtin.FragDepth ∷ builtin.FrontFacing
      ∷ builtin.PrimitiveIndex ∷ builtin.DrawIndex ∷
      builtin.SampleIndex ∷ builtin.SampleMask ∷ builtin.GlobalInvocationId ∷ builtin.LocalInvocationId
      ∷ builtin.LocalInvocationIndex ∷
      builtin.WorkGroupId ∷ builtin.NumWorkGroups ∷ builtin.NumSubgroups ∷ builtin.SubgroupId ∷ builtin.SubgroupSize ∷
      builtin.SubgroupInvocationId ∷ builtin.MeshTaskSize ∷ builtin.TriangleIndices ∷ builtin.LineIndices
      ∷ builtin.PointIndex ∷
      builtin.Vertices ∷ builtin.Primitives ∷ builtin.VertexCount ∷ builtin.PrimitiveCount
      ∷ builtin.CullPrimitive ∷ builtin.RayInvocationId ∷
      builtin.NumRayInvocations ∷ builtin.InstanceCustomData ∷ builtin.GeometryIndex ∷ builtin.WorldRayOrigin
      ∷ builtin.WorldRayDirection ∷
      builtin.ObjectRayOrigin ∷ builtin.ObjectRayDirection ∷ builtin.RayTmin ∷ builtin.RayTCurrentMax
      ∷ builtin.ObjectToWorld ∷
      builtin.WorldToObject ∷ builtin.HitKind ∷ []) refl;
  interpolations = are_the_words (λ i. Some (interpolation_word i)) interpolation_words interpolation_stands (
      interpolation.Perspective ∷ interpolation.Linear ∷ interpolation.Flat ∷ interpolation.PerVertex ∷ []) refl;
  samplings = are_the_words (λ s. Some (sampling_word s)) sampling_words sampling_stands (
      sampling.Center ∷ sampling.Centroid ∷ sampling.Sample ∷ sampling.First ∷ sampling.Either ∷ []) refl;
  spaces = are_the_words space_word address_space_words space_stands (
      space.Private ∷ space.Uniform ∷ space.Storage (bits 0) ∷ space.Immediate ∷ space.WorkGroup
      ∷ space.Function ∷ space.TaskPayload ∷
      space.IncomingRayPayload ∷ space.RayPayload ∷ []) refl;
  accesses = are_the_words (λ a. Some (image_access_word a)) access_words
      (λ a. access_stands (has atomic_bit a) (has load_bit a) (has store_bit a))
      (bits 1 ∷ bits 0 ∷ bits 3 ∷ bits 4 ∷ []) refl;
  functions = λ f w is. ap builtin_if_there (sym is) ∙ function_is_builtin f;
}
