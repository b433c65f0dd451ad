-- The members that expressions take: in an accepted module all expressions that take one member, of
-- pointers spelled alike, have one type.
use Rattle.module_semantics.proofs.SideBySide.{zip_at, zip_parts}
use Rattle.std.proofs.Common.{◌≡◌, ◌⊎◌, inl, inr, ℕ, zero, suc, Bool, true, false, List, [], ◌∷◌}
use Rattle.std.proofs.Common.{refl, sym, ap, ◌∙◌, Option, Some, None, slice_get, if◌then◌else◌}
use Rattle.std.specs.Prelude.{IsTrue, unwrap_or}
use Rattle.std.specs.List.{flat_map, zip}
use Rattle.std.specs.Option.{option_map_or}
use Rattle.std.proofs.lemmas.Bool.{and_parts, and_from}
use Rattle.std.proofs.lemmas.Option.{same_Some}
use Rattle.naga_ir.specs.declared.expression.Expression as ir
use Rattle.naga_ir.specs.declared.expression.Expression.TheVariants as expression
use Rattle.naga_ir.specs.declared.module.Function as ir_function
use Rattle.naga_ir.specs.declared.module.Module as ir_module
use Rattle.naga_info.specs.declared.info.ModuleInfo.{ModuleInfo}
use Rattle.naga_info.specs.declared.info.TypeResolution.{TypeResolution}
use Rattle.shader_runs.specs.Typing.{Signature}
use Rattle.shader_runs.specs.Value.{Bytes, Selector, MemberNamed, ElementAt, same_type, PointerType}
use Rattle.shader_runs.specs.Value.{PartWord}
use Rattle.shader_runs.proofs.Update.{same_type_true, same_type_self, same_bytes_true}
use Rattle.shader_runs.proofs.Update.{same_bytes_self}
use Rattle.module_semantics.specs.acceptance.Accepted.{is_accepted}
use Rattle.module_semantics.specs.acceptance.AgreeingOperators.{Group, groups_of}
use Rattle.module_semantics.specs.ExpressionShapes.{part_selector}
use Rattle.module_semantics.specs.Names.{ItemsAreDistinguished}
use Rattle.module_semantics.specs.PlaceParts.{points_so, selects_member, takes_member, member_taken}
use Rattle.module_semantics.specs.PlaceParts.{members_taken}
use Rattle.module_semantics.specs.Types.{type_of_values}
use Rattle.naga_form.proofs.declarations.AcceptedGroups.{IsSoundGroup}
use Rattle.naga_form.proofs.operators.AgreeingSignatures.{signatures_agree}
use Rattle.naga_form.proofs.operators.AgreeingUses.{IsIn, in_flat_map, value_at, value_is}
use Rattle.module_semantics.proofs.Lists.{in_joined}
use Rattle.naga_form.proofs.operators.Signatures.{declared_for, by_part}
use Rattle.naga_form.proofs.operators.SoundGroups.{groups_are}

-- ---- lists
-- where an item of lists in a row comes from
pub record IsInFlat {X Y : Type 0} (f : X → List Y) (xs : List X) (y : Y) : Type 0 where
  pub number : ℕ
  pub item : X
  pub there : slice_get xs number ≡ Some item
  pub inside : IsIn (f item) y

pub in_some : {X Y : Type 0} (f : X → List Y) (xs : List X) (i : ℕ) (y : Y) → slice_get (flat_map f xs) i
    ≡ Some y → IsInFlat f xs y
in_some f [] i y at = absurd cc
in_some f (x ∷ xs) i y at = by (in_joined (f x) (flat_map f xs) i y at) (in_some f xs)
  where
    by : ((k : ℕ) × (slice_get (f x) k ≡ Some y)) ⊎ ((k : ℕ) × (slice_get (flat_map f xs) k ≡ Some y)) →
        ((k : ℕ) (z : _) → slice_get (flat_map f xs) k ≡ Some z → IsInFlat f xs z) → IsInFlat f (x ∷ xs) y
    by (inl here) more = record { number = 0; item = x; there = refl; inside = here }
    by (inr later) more =
        let k = more later.0 y later.1 in record {
          number = suc k.number;
          item = k.item;
          there = k.there;
          inside = k.inside;
        }

-- a list with an item has a first one
first_there : {X : Type 0} (xs : List X) (i : ℕ) (x : X) → slice_get xs i ≡ Some x → (y : X) × (slice_get xs 0 ≡ Some y)
first_there [] i x at = absurd cc
first_there (y ∷ xs) i x at = (y, refl)

only_there : {X : Type 0} (b : Bool) (x : X) (i : ℕ) (y : X) → slice_get (if b then x ∷ [] else []) i ≡ Some y →
    (b ≡ true) × (x ≡ y)
only_there true x zero y at = (refl, same_Some x y at)
only_there true x (suc i) y at = absurd cc
only_there false x i y at = absurd cc

module _ (m : ir_module.Module) (info : ModuleInfo) (accepted : IsTrue (is_accepted m info))
    (distinguished : ItemsAreDistinguished m) (whole word : Bytes) where
  -- an expression of this type that takes the member with this word of a pointer spelled so
  pub record IsTaking (r : TypeResolution) : Type 0 where
    pub function : Option ir_function.Function
    pub group : Group
    pub sound : IsSoundGroup m info function group
    pub handle : ℕ
    pub base : ℕ
    pub index : ℕ
    pub there : slice_get group.expressions handle ≡ Some (expression.AccessIndex base index)
    pub known : slice_get group.known handle ≡ Some r
    pub pointer : TypeResolution
    pub base_known : slice_get group.known base ≡ Some pointer
    pub points : type_of_values m pointer ≡ PointerType whole
    pub selected : part_selector (declared_for m info group) base index ≡ Some (MemberNamed word)

  -- ---- the test
  module _ (g : Group) where
    takes : (base index : ℕ) (pointer : TypeResolution) → slice_get g.known base ≡ Some pointer →
        type_of_values m pointer ≡ PointerType whole →
        part_selector (declared_for m info g) base index ≡ Some (MemberNamed word) →
        takes_member (declared_for m info g) whole word (expression.AccessIndex base index) ≡ true
    takes base index pointer known points selected =
        and_from (points_so (declared_for m info g) whole base) _
        (ap (λ o. option_map_or (λ r. same_type (type_of_values m r) (PointerType whole)) o false) known
        ∙ (ap (λ v. same_type v (PointerType whole)) points ∙ same_type_self (PointerType whole)))
        (ap (λ o. option_map_or (selects_member word) o false) selected ∙ same_bytes_self word)

    -- what the test tells
    record IsTaken (e : ir.Expression) : Type 0 where
      base : ℕ
      index : ℕ
      itself : e ≡ expression.AccessIndex base index
      pointer : TypeResolution
      base_known : slice_get g.known base ≡ Some pointer
      points : type_of_values m pointer ≡ PointerType whole
      selected : part_selector (declared_for m info g) base index ≡ Some (MemberNamed word)

    pointing : (base : ℕ) → points_so (declared_for m info g) whole base ≡ true →
        (pointer : TypeResolution) × (slice_get g.known base ≡ Some pointer)
        × (type_of_values m pointer ≡ PointerType whole)
    pointing base so = by (slice_get g.known base) refl so
      where
        by : (o : Option TypeResolution) → slice_get g.known base ≡ o →
            option_map_or (λ r. same_type (type_of_values m r) (PointerType whole)) o false ≡ true →
            (pointer : TypeResolution) × (slice_get g.known base ≡ Some pointer)
            × (type_of_values m pointer ≡ PointerType whole)
        by None at so = absurd cc
        by (Some r) at so = (r, at, same_type_true (type_of_values m r) (PointerType whole) so)

    selecting : (o : Option Selector) → option_map_or (selects_member word) o false ≡ true → o ≡ Some (MemberNamed word)
    selecting None so = absurd cc
    selecting (Some (MemberNamed own)) so = ap (λ w. Some (MemberNamed w)) (same_bytes_true own word so)
    selecting (Some (ElementAt i)) so = absurd cc

    taken : (e : ir.Expression) → takes_member (declared_for m info g) whole word e ≡ true → IsTaken e
    taken (expression.AccessIndex base index) so =
        let both = and_parts (points_so (declared_for m info g) whole base)
        (option_map_or (selects_member word) (part_selector (declared_for m info g) base index) false) so in
        let pointer = pointing base both.0 in
        record {
          base = base;
          index = index;
          itself = refl;
          pointer = pointer.0;
          base_known = pointer.1;
          points = pointer.2;
          selected = selecting (part_selector (declared_for m info g) base index) both.1;
        }
    taken _ so = absurd cc

  -- ---- the first
  abbrev all : List TypeResolution
  all = flat_map (members_taken m info whole word) (groups_of m info)

  in_all : (r : TypeResolution) → IsTaking r → IsIn all r
  in_all r a =
      let e : ir.Expression = expression.AccessIndex a.base a.index in
      in_flat_map (members_taken m info whole word) (groups_of m info) a.sound.among.0 a.group r a.sound.among.1
      (in_flat_map (member_taken (declared_for m info a.group) whole word)
      (zip a.group.expressions a.group.known) a.handle (e, r) r
      (zip_at a.group.expressions a.group.known a.handle e r a.there a.known) (
        0,
        ap (λ b. slice_get (if b then r ∷ [] else []) 0)
            (takes a.group a.base a.index a.pointer a.base_known a.points a.selected),
      ))

  of_all : (i : ℕ) (r : TypeResolution) → slice_get all i ≡ Some r → IsTaking r
  of_all i r at =
      let k = in_some (members_taken m info whole word) (groups_of m info) i r at in
      let p = in_some (member_taken (declared_for m info k.item) whole word)
      (zip k.item.expressions k.item.known) k.inside.0 r k.inside.1 in
      let own = only_there (takes_member (declared_for m info k.item) whole word p.item.0) p.item.1 p.inside.0 r
      p.inside.1 in
      let sides = zip_parts k.item.expressions k.item.known p.number p.item p.there in
      let sound = groups_are m info accepted k.item (k.number, k.there) in
      let e = taken k.item p.item.0 own.0 in
      record {
        function = sound.0;
        group = k.item;
        sound = sound.1;
        handle = p.number;
        base = e.base;
        index = e.index;
        there = sides.0 ∙ ap Some e.itself;
        known = sides.1 ∙ ap Some own.1;
        pointer = e.pointer;
        base_known = e.base_known;
        points = e.points;
        selected = e.selected;
      }

  -- ---- two that take it have one type
  module _ (r u : TypeResolution) (a : IsTaking r) (b : IsTaking u) where
    abbrev signature_of : {v : TypeResolution} → IsTaking v → Signature
    signature_of a = record {
      word = PartWord (MemberNamed word);
      operands = value_at m info a.group.known a.base ∷ [];
      result = value_at m info a.group.known a.handle;
    }

    base_value : {v : TypeResolution} (a : IsTaking v) → value_at m info a.group.known a.base ≡ PointerType whole
    base_value a = value_is m info a.group.known a.base a.pointer a.base_known ∙ a.points

    one_type : type_of_values m r ≡ type_of_values m u
    one_type =
        sym (value_is m info a.group.known a.handle r a.known)
        ∙ (signatures_agree m info accepted distinguished (signature_of a) (signature_of b)
        (record {
          function = a.function;
          group = a.group;
          sound = a.sound;
          handle = a.handle;
          expression = expression.AccessIndex a.base a.index;
          there = a.there;
          called = by_part a.base a.index (MemberNamed word) refl a.selected;
          operands = refl;
          result = refl;
        })
        (record {
          function = b.function;
          group = b.group;
          sound = b.sound;
          handle = b.handle;
          expression = expression.AccessIndex b.base b.index;
          there = b.there;
          called = by_part b.base b.index (MemberNamed word) refl b.selected;
          operands = refl;
          result = refl;
        })
        refl (ap (λ v. v ∷ []) (base_value a ∙ sym (base_value b)))
        ∙ value_is m info b.group.known b.handle u b.known)

  -- that of the first of all, whatever would stand in for it
  pub type_of_first : (r : TypeResolution) → IsTaking r → (other : TypeResolution) → type_of_values m r
      ≡ type_of_values m (unwrap_or (slice_get all 0) other)
  type_of_first r a other =
      let entry = in_all r a in let first = first_there all entry.0 r entry.1 in
      one_type r first.0 a (of_all 0 first.0 first.1) ∙ sym (ap (λ o. type_of_values m (unwrap_or o other)) first.1)
