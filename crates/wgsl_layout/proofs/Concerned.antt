-- Members that are kept are concerned, and with the sizes that are written they are laid out as
-- they were.
--
-- Throughout, k is a member, b the one before it, next the one after it, more those after, a an
-- alignment and span how many bytes the module gives to a struct.
use Rattle.std.proofs.Common.{◌≡◌, ◌+◌, ℕ, true, false, List, [], ◌∷◌, Option, Some, None, refl}
use Rattle.std.specs.Prelude.{◌==◌, ⊤, nat_le, not}
use Rattle.std.specs.List.{list_all}
use Rattle.std.specs.Option.{is_some, option_map_or}
use Rattle.std.proofs.lemmas.Bool.{and_from, and_parts, false≢true}
use Rattle.wgsl_layout.specs.Members.{are_apart, are_kept, has_own_sizes, is_aligned, is_concerned}
use Rattle.wgsl_layout.specs.Members.{sized_members, stands_after}
use Rattle.wgsl_layout.specs.Rules.{Member}
use Rattle.wgsl_layout.specs.declared.layouts.Placed.{Placed}

has_size_before : (b k : Placed) (o : Option ℕ) →
    option_map_or (λ s. nat_le (b.offset + s) k.offset) o false ≡ true → is_some o ≡ true
has_size_before b k None after = absurd (false≢true after)
has_size_before b k (Some s) after = refl

left_concerned : (b : Placed) (ks : List Placed) → are_kept (Some b) ks ≡ true →
    (list_all (λ k. not (k.offset == 0)) ks ≡ true) × (has_own_sizes (b ∷ ks) ≡ true)
left_concerned b [] kept = (refl, refl)
left_concerned b (k ∷ more) kept =
    let one = and_parts (is_aligned k) _ kept in
    let two = and_parts (stands_after (Some b) k) _ one.1 in
    let three = and_parts (not (k.offset == 0)) _ two.0 in
    let left = left_concerned k more two.1 in (
      and_from (not (k.offset == 0)) _ three.0 left.0,
      and_from (is_some b.layout.size) _ (has_size_before b k b.layout.size three.1) left.1,
    )

pub kept_concerned : (k : Placed) (more : List Placed) → are_kept None (k ∷ more) ≡ true →
    is_concerned (k ∷ more) ≡ true
kept_concerned k more kept =
    let one = and_parts (is_aligned k) _ kept in
    let two = and_parts (stands_after None k) _ one.1 in
    let left = left_concerned k more two.1 in
    and_from (are_apart (k ∷ more)) _ left.0 left.1

-- members as they are written are laid out as these
abbrev pub HaveLayoutsOf : List Placed → List Member → Type 0
HaveLayoutsOf [] [] = ⊤
HaveLayoutsOf (k ∷ ks) (w ∷ ws) = (w.layout ≡ k.layout) × HaveLayoutsOf ks ws
HaveLayoutsOf _ _ = ⊥

pub sized_have_layouts : (a span : ℕ) (ks : List Placed) → HaveLayoutsOf ks (sized_members a span ks)
sized_have_layouts a span [] = tt
sized_have_layouts a span (k ∷ []) = (refl, tt)
sized_have_layouts a span (k ∷ next ∷ more) = (refl, sized_have_layouts a span (next ∷ more))
