-- The spelling of a type is one level over the spellings of the types that it names.
use Rattle.std.proofs.Common.{◌≡◌, ◌<◌, ◌≤◌, ℕ, zero, suc, List, [], ◌∷◌, Option, Some, None, refl}
use Rattle.std.proofs.Common.{ap, ◌∙◌, arith, slice_get, codes, if◌then◌else◌}
use Rattle.naga_ir.specs.declared.types.Type_.{Type_}
use Rattle.naga_ir.specs.declared.types.TypeInner.{TypeInner}
use Rattle.naga_ir.specs.declared.types.TypeInner.TheVariants as inner
use Rattle.wgsl_words.specs.Words.{space_word, space_access_word}
use Rattle.naga_spelling.specs.Segments.{Segment, Word}
use Rattle.naga_spelling.specs.Spelling.{Context, IsInOrder, is_struct, end_of_base, pointer_segments}
use Rattle.naga_spelling.specs.Spelling.{array_segments, inner_segments_by, named_segments_by}
use Rattle.naga_spelling.specs.Spelling.{found_segments_by, segments_within, type_segments}

module _ (f g : ℕ → List Segment) (n : ℕ) (same : (k : ℕ) → k < n → f k ≡ g k) where
  -- spellings that agree on the types that it names agree on the whole
  pub agree : (c : Context) (it : TypeInner) → end_of_base it ≤ n → inner_segments_by c f it ≡ inner_segments_by c g it
  agree c (inner.Scalar scalar) h = refl
  agree c (inner.Vector size scalar) h = refl
  agree c (inner.Matrix columns rows scalar) h = refl
  agree c (inner.CooperativeMatrix columns rows scalar role) h = refl
  agree c (inner.Atomic scalar) h = refl
  agree c (inner.Pointer base space) h = ap (pointer_segments (space_word space) (space_access_word space))
      (same base (omega arith))
  agree c (inner.ValuePointer size scalar space) h = refl
  agree c (inner.Array base size stride) h = ap (λ ps. array_segments c (codes "array") ps size)
      (same base (omega arith))
  agree c (inner.Struct members span) h = refl
  agree c (inner.Image dim arrayed class) h = refl
  agree c (inner.Sampler comparison) h = refl
  agree c (inner.AccelerationStructure vertex_return) h = refl
  agree c (inner.RayQuery vertex_return) h = refl
  agree c (inner.BindingArray base size) h = ap (λ ps. array_segments c (codes "binding_array") ps size)
      (same base (omega arith))

  pub agree_named : (c : Context) (handle : ℕ) (it : TypeInner) → end_of_base it ≤ n →
      named_segments_by c f handle it ≡ named_segments_by c g handle it
  agree_named c handle it h = let e = agree c it h in
      ap (λ ps. if is_struct it then Word (c.name handle) ∷ [] else ps) e

module _ (c : Context) (order : IsInOrder c) where
  found : (n m h : ℕ) (o : Option Type_) → slice_get c.types h ≡ o →
      ((k : ℕ) → k < h → segments_within n c k ≡ segments_within m c k) →
      found_segments_by c (segments_within n c) h o ≡ found_segments_by c (segments_within m c) h o
  found n m h None is same = refl
  found n m h (Some t) is same = agree_named (segments_within n c) (segments_within m c) h same c h t.inner
      (order.before h t is)

  -- any two bounds past the handle give one spelling
  pub stable : (n m h : ℕ) → h < n → h < m → segments_within n c h ≡ segments_within m c h
  stable zero m h p q = absurd (omega arith)
  stable (suc n) zero h p q = absurd (omega arith)
  stable (suc n) (suc m) h p q = found n m h _ refl (λ k lt. stable n m k (omega arith) (omega arith))

  pub type_segments_is : (h : ℕ) (t : Type_) → slice_get c.types h ≡ Some t → type_segments c h
      ≡ named_segments_by c (type_segments c) h t.inner
  unfolding type_segments
  type_segments_is h t is =
      ap (found_segments_by c (segments_within h c) h) is
      ∙ agree_named (segments_within h c) (type_segments c) h (λ k lt. stable h (suc k) k lt (omega arith)) c h
      t.inner (order.before h t is)
