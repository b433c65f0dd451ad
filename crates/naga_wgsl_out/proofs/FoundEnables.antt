-- Extensions that are found one by one are those of all.
-- Serves 5 contracts, `of_arguments` among them.
--
-- Throughout, test says of an item which extensions it needs.
use Rattle.std.proofs.Common.{◌≡◌, ◌+◌, ◌<◌, ◌∙◌, ℕ, Bool, List, [], ◌∷◌, ap, drop, false, get_or, length}
use Rattle.std.proofs.Common.{refl, sym, add-one, drop-cons}
use Rattle.std.proofs.Math.Bool.{or-false, or_assoc}
use Rattle.std.specs.Prelude.{◌||◌}
use Rattle.std.specs.List.{enumerate_from, list_any}
use Rattle.module_semantics.specs.Enables.{Extension}
use Rattle.naga_wgsl_out.specs.declared.enables.Enables.{Enables}
use Rattle.naga_wgsl_out.specs.Enables.{either, enables_of}

either_assoc : (a b c : Enables) → either (either a b) c ≡ either a (either b c)
either_assoc a b c = λ i. record {
  f16 = or_assoc a.f16 b.f16 c.f16 i;
  int16 = or_assoc a.int16 b.int16 c.int16 i;
  dual_source_blending = or_assoc a.dual_source_blending b.dual_source_blending c.dual_source_blending i;
  clip_distances = or_assoc a.clip_distances b.clip_distances c.clip_distances i;
  mesh_shader = or_assoc a.mesh_shader b.mesh_shader c.mesh_shader i;
  binding_array = or_assoc a.binding_array b.binding_array c.binding_array i;
  draw_index = or_assoc a.draw_index b.draw_index c.draw_index i;
  primitive_index = or_assoc a.primitive_index b.primitive_index c.primitive_index i;
  cooperative_matrix = or_assoc a.cooperative_matrix b.cooperative_matrix c.cooperative_matrix i;
  ray_tracing_pipeline = or_assoc a.ray_tracing_pipeline b.ray_tracing_pipeline c.ray_tracing_pipeline i;
  per_vertex = or_assoc a.per_vertex b.per_vertex c.per_vertex i;
  subgroups = or_assoc a.subgroups b.subgroups c.subgroups i;
}

-- what some of these items need
abbrev pub enables_among : {X : Type 0} → (test : Extension → X → Bool) → List X → Enables
enables_among test items = enables_of (λ x. list_any (test x) items)

-- one more
pub found_one : {X : Type 0} (test : Extension → X → Bool) (found next one whole : Enables)
    (item : X) (items : List X) → next ≡ either found one → one ≡ enables_of (λ x. test x item) →
    either found (enables_among test (item ∷ items)) ≡ whole →
    either next (enables_among test items) ≡ whole
found_one test found next one whole item items is one_is holds =
    ap (λ e. either e (enables_among test items)) (is ∙ ap (either found) one_is)
    ∙ (either_assoc found (enables_of (λ x. test x item)) (enables_among test items) ∙ holds)

-- the same of a slice, by the index of the item
pub found_at : {X : Type 0} (test : Extension → X → Bool) (found next one whole : Enables)
    (item : X) (items : List X) (index : ℕ) → index < length items →
    item ≡ get_or items index item → next ≡ either found one → one ≡ enables_of (λ x. test x item) →
    either found (enables_among test (drop index items)) ≡ whole →
    either next (enables_among test (drop (index + 1) items)) ≡ whole
found_at test found next one whole item items index within at is one_is holds =
    let split : drop index items ≡ get_or items index item ∷ drop (index + 1) items =
    rw add-one (drop-cons items index item within) in
    found_one test found next one whole item (drop (index + 1) items) is one_is
    (ap (λ y. either found (enables_among test (y ∷ drop (index + 1) items))) at
    ∙ (ap (λ ys. either found (enables_among test ys)) (sym split) ∙ holds))

-- after the last
pub found_all : {X : Type 0} (test : Extension → X → Bool) (found whole : Enables) (left : List X) →
    left ≡ [] → either found (enables_among test left) ≡ whole → found ≡ whole
found_all test found whole left none holds =
    sym both ∙ (ap (λ items. either found (enables_among test items)) (sym none) ∙ holds)
  where
    both : either found (enables_of (λ x. false)) ≡ found
    both = λ i. record {
      f16 = or-false found.f16 i;
      int16 = or-false found.int16 i;
      dual_source_blending = or-false found.dual_source_blending i;
      clip_distances = or-false found.clip_distances i;
      mesh_shader = or-false found.mesh_shader i;
      binding_array = or-false found.binding_array i;
      draw_index = or-false found.draw_index i;
      primitive_index = or-false found.primitive_index i;
      cooperative_matrix = or-false found.cooperative_matrix i;
      ray_tracing_pipeline = or-false found.ray_tracing_pipeline i;
      per_vertex = or-false found.per_vertex i;
      subgroups = or-false found.subgroups i;
    }

-- ---- arenas, whose items come with their handles
any_of_pairs : {X : Type 0} (test : X → Bool) (n : ℕ) (items : List X) →
    list_any (λ p. test p.1) (enumerate_from n items) ≡ list_any test items
any_of_pairs test n [] = refl
any_of_pairs test n (item ∷ items) =
    ap (λ b. test item || b) (any_of_pairs test (n + 1) items)

pub found_in_pairs : {X : Type 0} (test : Extension → X → Bool) (found : Enables)
    (pairs : List (ℕ × X)) (items : List X) → found ≡ enables_of (λ x. false) →
    pairs ≡ enumerate_from 0 items →
    either found (enables_among (λ x p. test x p.1) pairs) ≡ enables_among test items
found_in_pairs test found pairs items none are =
    ap (λ e. either e (enables_among (λ x p. test x p.1) pairs)) none
    ∙ (ap (enables_among (λ x p. test x p.1)) are
    ∙ ap enables_of (λ i x. any_of_pairs (test x) 0 items i))

pub found_next : {X : Type 0} (test : Extension → X → Bool) (found next one whole : Enables)
    (pair : ℕ × X) (pairs later : List (ℕ × X)) → next ≡ either found one →
    one ≡ enables_of (λ x. test x pair.1) → pairs ≡ pair ∷ later →
    either found (enables_among (λ x p. test x p.1) pairs) ≡ whole →
    either next (enables_among (λ x p. test x p.1) later) ≡ whole
found_next test found next one whole pair pairs later is one_is are holds =
    found_one (λ x p. test x p.1) found next one whole pair later is one_is
    (ap (λ ps. either found (enables_among (λ x p. test x p.1) ps)) (sym are) ∙ holds)
