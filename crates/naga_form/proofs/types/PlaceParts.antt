-- What places are made of in an accepted module: the program's table has the parts of each pointer that
-- is known of an expression, so that a part that an expression takes is there, with the spelling of the
-- expression's own type.
--
-- The table has the parts of the first pointer that is spelled so. Pointers spelled alike are told by the
-- same numbers, and so lead to parts of one kind.
use Rattle.std.proofs.Common.{◌≡◌, ◌⊎◌, inl, inr, ℕ, zero, suc, ℤ, Bool, true, false, cond, List}
use Rattle.std.proofs.Common.{[], ◌∷◌, ◌++◌, refl, sym, ap, ◌∙◌, subst, map, Option, Some, None}
use Rattle.std.proofs.Common.{slice_get, if◌then◌else◌, arith}
use Rattle.std.specs.Prelude.{IsTrue, not, unwrap_or}
use Rattle.std.specs.List.{enumerate_from, find, flat_map}
use Rattle.std.specs.Option.{option_map, option_map_or, is_some}
use Rattle.std.proofs.lemmas.Bool.{true≢false, not-true}
use Rattle.std.proofs.lemmas.Option.{same_Some}
use Rattle.naga_ir.specs.declared.module.Module as ir_module
use Rattle.naga_ir.specs.declared.types.AddressSpace.{AddressSpace}
use Rattle.naga_ir.specs.declared.types.TypeInner.{TypeInner}
use Rattle.naga_ir.specs.declared.types.TypeInner.TheVariants as inner
use Rattle.naga_ir.specs.declared.types.Type_.{Type_}
use Rattle.naga_info.specs.Resolution.{inner_of}
use Rattle.naga_info.specs.declared.info.ModuleInfo.{ModuleInfo}
use Rattle.naga_info.specs.declared.info.TypeResolution.{TypeResolution}
use Rattle.naga_info.specs.declared.info.TypeResolution.TheVariants.{Handle, Value}
use Rattle.shader_runs.specs.Typing.{IsPart}
use Rattle.shader_runs.specs.Value.{Bytes, NoParts, Members, At, Field, Selector, PointerType}
use Rattle.shader_runs.specs.Value.{step_at, step_to, member_pointer, same_bytes, same_type}
use Rattle.shader_runs.proofs.Update.{same_type_true, same_type_self, same_bytes_true}
use Rattle.shader_runs.proofs.Update.{same_bytes_self}
use Rattle.module_semantics.specs.acceptance.Accepted.{is_accepted}
use Rattle.module_semantics.specs.acceptance.AgreeingOperators.{Group, groups_of}
use Rattle.module_semantics.specs.AlikeTypes.{type_identity, type_key, handle_key, has_type_form}
use Rattle.module_semantics.specs.AlikeTypes.{pointer_key}
use Rattle.module_semantics.specs.acceptance.InfoSizes.{is_handle_space}
use Rattle.module_semantics.specs.Names.{ItemsAreDistinguished}
use Rattle.module_semantics.specs.PlaceParts.{place_spaces, column_pointers, pointers_to, pointers_in}
use Rattle.module_semantics.specs.PlaceParts.{own_types, pointer_types, pointer_spelled}
use Rattle.module_semantics.specs.PlaceParts.{members_taken, member_word, member_part, parts_at}
use Rattle.module_semantics.specs.PlaceParts.{pointee_parts, place_parts}
use Rattle.module_semantics.specs.TypeIdentity.{identity, word_of_unspelled_type}
use Rattle.module_semantics.specs.TypeParts.{inner_at, part_type}
use Rattle.module_semantics.specs.Types.{type_of_values, word_of_values}
use Rattle.naga_naming.specs.Reset.{members_of}
use Rattle.module_semantics.proofs.FunctionNumbers.{in_left}
use Rattle.module_semantics.proofs.Lists.{list_all_at, in_joined}
use Rattle.naga_form.proofs.declarations.AcceptedGroups.{IsSoundGroup, types_are_counted}
use Rattle.naga_form.proofs.operators.AgreeingSignatures.{types_stand}
use Rattle.naga_form.proofs.operators.AgreeingUses.{IsIn, in_flat_map}
use Rattle.naga_form.proofs.ListIndices.{made_at, made_from}
use Rattle.module_semantics.proofs.KeyDepths.{PartsStand}
use Rattle.naga_form.proofs.types.AlikeParts.{is_pointer, PartsAlike, IsFree, is_free}
use Rattle.naga_form.proofs.types.AlikeParts.{part_fits, FitPart, PartKind, NoKind, ElementKind}
use Rattle.naga_form.proofs.types.AlikeParts.{ComponentKind, MemberKind, kind_at, pointee_kind}
use Rattle.naga_form.proofs.types.AlikeParts.{has_members, AlikePlaces, Same, OneKind, OneStruct}
use Rattle.naga_form.proofs.types.AlikeParts.{alike_places}
use Rattle.naga_form.proofs.ModuleIndices.{in_image}
use Rattle.naga_form.proofs.types.PointerParts.{points_as, own_word, part_points, are_elements}
use Rattle.naga_form.proofs.types.PointerParts.{parts_of_kind, HasElements, has_elements, IsMember}
use Rattle.naga_form.proofs.types.SameValues.{TypesAreCounted, IsFit, numbers_by_values}
use Rattle.naga_form.proofs.types.SameValues.{values_by_numbers}
use Rattle.naga_form.proofs.operators.SoundGroups.{groups_are}
use Rattle.naga_form.proofs.types.TakenMembers.{in_some, IsTaking, type_of_first}

-- ---- lists
-- the first that passes a test, where one does
record IsFound {X : Type 0} (test : X → Bool) (xs : List X) : Type 0 where
  first : X
  found : find test xs ≡ Some first
  passes : test first ≡ true
  among : IsIn xs first

first_found : {X : Type 0} (test : X → Bool) (xs : List X) (i : ℕ) (x : X) → slice_get xs i ≡ Some x →
    test x ≡ true → IsFound test xs
first_found test [] i x at passes = absurd cc
first_found {X = X} test (y ∷ xs) zero x at passes =
    let here : test y ≡ true = ap test (same_Some y x at) ∙ passes in
    record { first = y; found = ap (λ b. cond b (Some y) (find test xs)) here; passes = here; among = (0, refl) }
first_found {X = X} test (y ∷ xs) (suc i) x at passes = by (test y) refl (first_found test xs i x at passes)
  where
    by : (b : Bool) → test y ≡ b → IsFound test xs → IsFound test (y ∷ xs)
    by true here later =
        record { first = y; found = ap (λ b. cond b (Some y) (find test xs)) here; passes = here; among = (0, refl) }
    by false here later =
        record {
          first = later.first;
          found = ap (λ b. cond b (Some y) (find test xs)) here ∙ later.found;
          passes = later.passes;
          among = (suc later.among.0, later.among.1);
        }

-- the member with a word, where no other has this word
member_found : (ms : List (Bytes × Bytes)) (i : ℕ) (k : Bytes × Bytes) → slice_get ms i ≡ Some k →
    ((j : ℕ) (l : Bytes × Bytes) → slice_get ms j ≡ Some l → l.0 ≡ k.0 → i ≡ j) → member_pointer ms k.0 ≡ Some k.1
member_found [] i k at only = absurd cc
member_found (l ∷ ms) i k at only = by i at only (same_bytes k.0 l.0) refl (λ i at only. member_found ms i k at only)
  where
    by : (i : ℕ) → slice_get (l ∷ ms) i ≡ Some k →
        ((j : ℕ) (x : Bytes × Bytes) → slice_get (l ∷ ms) j ≡ Some x → x.0 ≡ k.0 → i ≡ j) →
        (b : Bool) → same_bytes k.0 l.0 ≡ b →
        ((i : ℕ) → slice_get ms i ≡ Some k →
        ((j : ℕ) (x : Bytes × Bytes) → slice_get ms j ≡ Some x → x.0 ≡ k.0 → i ≡ j) → member_pointer ms k.0
        ≡ Some k.1) →
        cond b (Some l.1) (member_pointer ms k.0) ≡ Some k.1
    by zero at only true same more = ap (λ x. Some x.1) (same_Some l k at)
    by zero at only false same more =
        absurd (true≢false (sym (same_bytes_self k.0) ∙ (ap (λ x. same_bytes k.0 x.0) (sym (same_Some l k at)) ∙ same)))
    by (suc i) at only true same more = let one : suc i ≡ 0 = only 0 l refl (sym (same_bytes_true k.0 l.0 same))
        in absurd (omega (arith, one))
    by (suc i) at only false same more =
        more i at (λ j x there is. let one : suc i ≡ suc j = only (suc j) x there is in omega (arith, one))

module _ (m : ir_module.Module) (info : ModuleInfo) (accepted : IsTrue (is_accepted m info))
    (distinguished : ItemsAreDistinguished m) where
  abbrev are : TypesAreCounted m
  are = types_are_counted m info accepted distinguished.types

  abbrev stand : PartsStand m.types
  stand = types_stand m info accepted distinguished

  -- ---- pointers
  -- no space of places is that of handles
  place_space : (i : ℕ) (at : AddressSpace) → slice_get place_spaces i ≡ Some at → is_handle_space at ≡ false
  place_space i at is =
      not-true (is_handle_space at) (list_all_at (λ at. not (is_handle_space at)) place_spaces i at refl is)

  pointer_fit : (ty : ℕ) (at : AddressSpace) → is_handle_space at ≡ false → IsFit m (Value (inner.Pointer ty at))
  pointer_fit ty at free = (ap not free, tt, refl)

  column_fit : (at : AddressSpace) (it : TypeInner) (i : ℕ) (r : TypeResolution) →
      slice_get (column_pointers at it) i ≡ Some r → IsFit m r
  column_fit at (inner.Matrix columns rows s) zero r is = subst (IsFit m) (same_Some _ r is) (refl, tt, refl)
  column_fit at (inner.Matrix columns rows s) (suc i) r is = absurd cc
  column_fit at _ i r is = absurd cc

  -- each pointer of the module is fit
  pointer_types_fit : (i : ℕ) (r : TypeResolution) → slice_get (pointer_types m info) i ≡ Some r → IsFit m r
  pointer_types_fit i r at =
      by (in_joined (flat_map (λ g. g.known) (groups_of m info))
      (own_types m ++ flat_map (pointers_in m) place_spaces) i r at)
    where
      known : {g : Group} → (f : _) × IsSoundGroup m info f g → IsIn g.known r → IsFit m r
      known sound inside = sound.1.fits inside.0 r inside.1

      made : (at : AddressSpace) → is_handle_space at ≡ false → (p : ℕ × Type_) (i : ℕ) →
          slice_get (pointers_to at p) i ≡ Some r → IsFit m r
      made at free p zero is = subst (IsFit m) (same_Some _ r is) (pointer_fit p.0 at free)
      made at free p (suc i) is = column_fit at p.1.inner i r is

      others : ((k : ℕ) × (slice_get (own_types m) k ≡ Some r))
          ⊎ ((k : ℕ) × (slice_get (flat_map (pointers_in m) place_spaces) k ≡ Some r)) → IsFit m r
      others (inl own) =
          let made = in_image (λ p. Handle p.0) (enumerate_from 0 m.types) own.0 r own.1 in
          subst (IsFit m) made.2 tt
      others (inr there) =
          let k = in_some (pointers_in m) place_spaces there.0 r there.1 in
          let p = in_some (pointers_to k.item) (enumerate_from 0 m.types) k.inside.0 r k.inside.1 in
          made k.item (place_space k.number k.item k.there) p.item p.inside.0 p.inside.1

      by : ((k : ℕ) × (slice_get (flat_map (λ g. g.known) (groups_of m info)) k ≡ Some r)) ⊎
          ((k : ℕ) × (slice_get (own_types m ++ flat_map (pointers_in m) place_spaces) k ≡ Some r)) → IsFit m r
      by (inl here) =
          let k = in_some (λ g. g.known) (groups_of m info) here.0 r here.1 in
          known (groups_are m info accepted k.item (k.number, k.there)) k.inside
      by (inr there) = others (in_joined (own_types m) (flat_map (pointers_in m) place_spaces) there.0 r there.1)

  -- a pointer that is known of an expression
  pub record IsPointer (r : TypeResolution) (whole : Bytes) : Type 0 where
    pub group : Group
    pub group_there : IsIn (groups_of m info) group
    pub handle : ℕ
    pub known : slice_get group.known handle ≡ Some r
    pub fit : IsFit m r
    pub values : type_of_values m r ≡ PointerType whole
    pub it : TypeInner
    pub itself : inner_of r m.types ≡ Some it
    pub points : is_pointer it ≡ true

  module _ (r : TypeResolution) (whole : Bytes) (a : IsPointer r whole) where
    -- the pointer whose parts the table has
    record IsFirst : Type 0 where
      u : TypeResolution
      spelled : pointer_spelled m info whole ≡ Some u
      fit : IsFit m u
      it : TypeInner
      itself : inner_of u m.types ≡ Some it
      points : is_pointer it ≡ true
      places : AlikePlaces m are stand a.it it

    abbrev is_so : TypeResolution → Bool
    is_so r = same_type (type_of_values m r) (PointerType whole)

    first : IsFirst
    first =
        let place = in_flat_map (λ g. g.known) (groups_of m info) a.group_there.0 a.group r a.group_there.1
        (a.handle, a.known) in
        let found = first_found is_so (pointer_types m info) place.0 r
        (in_left (flat_map (λ g. g.known) (groups_of m info))
        (own_types m ++ flat_map (pointers_in m) place_spaces) place.0 r place.1)
        (ap (λ v. same_type v (PointerType whole)) a.values ∙ same_type_self (PointerType whole)) in
        let values = same_type_true (type_of_values m found.first) (PointerType whole) found.passes in
        let fit = pointer_types_fit found.among.0 found.first found.among.1 in
        let k = points_as m found.first whole values in
        record {
          u = found.first;
          spelled = found.found;
          fit = fit;
          it = k.it;
          itself = k.itself;
          points = k.points;
          places =
              alike_places m are stand r found.first a.fit fit
              (numbers_by_values m are r found.first a.fit fit (a.values ∙ sym values)) a.it k.it a.itself
              k.itself a.points k.points;
        }

    table_is : place_parts m info whole ≡ pointee_parts m info whole first.it
    table_is =
        ap (λ o. option_map_or (λ r. option_map_or (pointee_parts m info whole) (inner_of r m.types) NoParts) o
        NoParts) first.spelled
        ∙ ap (λ o. option_map_or (pointee_parts m info whole) o NoParts) first.itself

    -- ---- elements
    module _ (p : TypeResolution) (part : part_type m.types a.it None ≡ Some p) where
      abbrev kind : PartKind
      kind = pointee_kind m.types a.it

      part_fit : IsFit m p
      part_fit = subst (FitPart m are stand) part
          (part_fits m are stand a.it (is_free m are stand r a.it a.fit a.itself) a.points None)

      -- what is told by the same numbers as the part is a pointer that is spelled as in the table
      record HasTable : Type 0 where
        elements : are_elements kind ≡ true
        table : place_parts m info whole ≡ parts_of_kind kind (word_of_values m p)

      has_table : HasTable
      has_table = by first.places
        where
          own : HasElements m info whole a.it p
          own = has_elements m info whole a.it a.points p part

          no_members : has_members kind ≡ true → ⊥
          no_members is = by kind own.elements is
            where
              by : (k : PartKind) → are_elements k ≡ true → has_members k ≡ true → ⊥
              by NoKind elements is = absurd cc
              by (ElementKind count) elements is = absurd cc
              by (ComponentKind count) elements is = absurd cc
              by (MemberKind base) elements is = absurd cc

          by_kind : kind ≡ pointee_kind m.types first.it → (q : TypeResolution) →
              part_type m.types first.it None ≡ Some q → word_of_values m p ≡ word_of_values m q → HasTable
          by_kind one q is words =
              let other = has_elements m info whole first.it first.points q is in
              record {
                elements = own.elements;
                table = table_is ∙ (other.parts ∙ (λ i. parts_of_kind (sym one i) (sym words i)));
              }

          words_alike : (q : TypeResolution) → type_identity m.types p ≡ type_identity m.types q → IsFit m p →
              IsFit m q → part_type m.types first.it None ≡ Some q → word_of_values m p ≡ word_of_values m q
          words_alike q alike fit other is =
              own_word m p (word_of_values m q) (values_by_numbers m are p q fit other alike
              ∙ part_points m first.it first.points None q is)

          by_parts : kind ≡ pointee_kind m.types first.it → (o u : Option TypeResolution) →
              part_type m.types a.it None ≡ o → part_type m.types first.it None ≡ u →
              PartsAlike m are stand o u → HasTable
          by_parts one None u at bt parts = let none : None ≡ Some p = sym at ∙ part in absurd cc
          by_parts one (Some s) None at bt parts = absurd parts
          by_parts one (Some s) (Some q) at bt parts =
              let same : s ≡ p = same_Some s p (sym at ∙ part) in
              by_kind one q bt (words_alike q (ap (type_identity m.types) (sym same) ∙ parts.0) part_fit parts.2 bt)

          by : AlikePlaces m are stand a.it first.it → HasTable
          by (Same same) = by_kind (ap (pointee_kind m.types) same) p
              (ap (λ it. part_type m.types it None) (sym same) ∙ part) refl
          by (OneKind one none parts) = by_parts one (part_type m.types a.it None)
              (part_type m.types first.it None) refl refl (parts None)
          by (OneStruct base at to is other members spaces) = absurd (no_members (ap has_members members))

      module _ (own : TypeResolution) (own_fit : IsFit m own)
          (alike : type_identity m.types own ≡ type_identity m.types p) where
        own_values : type_of_values m own ≡ PointerType (word_of_values m p)
        own_values = values_by_numbers m are own p own_fit part_fit alike ∙ part_points m a.it a.points None p part

        -- any index leads to it
        pub element_at : (z : ℤ) → IsPart (place_parts m info whole) (step_at (place_parts m info whole) z)
            (type_of_values m own)
        element_at z =
            subst (λ whole. IsPart whole (step_at whole z) (type_of_values m own)) (sym has_table.table)
            (by kind has_table.elements)
          where
            by : (k : PartKind) → are_elements k ≡ true → IsPart (parts_of_kind k (word_of_values m p))
                (step_at (parts_of_kind k (word_of_values m p)) z) (type_of_values m own)
            by NoKind elements = absurd cc
            by (ElementKind count) elements = own_values
            by (ComponentKind count) elements = own_values
            by (MemberKind base) elements = absurd cc

        -- and what names it by a number or a letter does
        pub element_to : (s : Selector) (z : ℤ) → ((w : Bytes) → step_to (parts_of_kind kind w) s ≡ Some (At z)) →
            IsPart (place_parts m info whole) (step_to (place_parts m info whole) s) (type_of_values m own)
        element_to s z step =
            subst (λ whole. IsPart whole (step_to whole s) (type_of_values m own)) (sym has_table.table)
            (subst (λ o. IsPart (parts_of_kind kind (word_of_values m p)) o (type_of_values m own))
            (sym (step (word_of_values m p))) (by kind has_table.elements))
          where
            by : (k : PartKind) → are_elements k ≡ true → IsPart (parts_of_kind k (word_of_values m p))
                (Some (At z)) (type_of_values m own)
            by NoKind elements = absurd cc
            by (ElementKind count) elements = own_values
            by (ComponentKind count) elements = own_values
            by (MemberKind base) elements = absurd cc

    -- ---- members
    module _ (index : ℕ) (s : Selector) (known : ℕ → Option TypeResolution)
        (k : IsMember m info known a.it index s) where
      inner_is : inner_at m.types k.base ≡ Some (inner.Struct k.members k.span)
      inner_is = ap (option_map (λ t. t.inner)) k.there ∙ ap Some k.struct_is

      member_kind : pointee_kind m.types a.it ≡ MemberKind k.base
      member_kind = ap (pointee_kind m.types) k.itself ∙ ap (λ o. option_map_or (kind_at k.base) o NoKind) inner_is

      -- the table's pointer is one to the same struct, in a space that is told by the same
      record IsOneStruct : Type 0 where
        to : AddressSpace
        itself : first.it ≡ inner.Pointer k.base to
        spaces : (o : Option (List ℕ)) → pointer_key k.at o ≡ pointer_key to o

      base_of : TypeInner → ℕ
      base_of (inner.Pointer base at) = base
      base_of _ = 0

      space_of : TypeInner → AddressSpace
      space_of (inner.Pointer base at) = at
      space_of _ = k.at

      one_struct : IsOneStruct
      unfolding base_of space_of
      one_struct = by first.places
        where
          by : AlikePlaces m are stand a.it first.it → IsOneStruct
          by (Same same) = record { to = k.at; itself = sym same ∙ k.itself; spaces = λ o. refl }
          by (OneKind one none parts) = absurd (true≢false (sym (ap has_members member_kind) ∙ none))
          by (OneStruct base at to is other members spaces) =
              let pointers : inner.Pointer base at ≡ inner.Pointer k.base k.at = sym is ∙ k.itself in
              let bases : base ≡ k.base = ap base_of pointers in let ats : at ≡ k.at = ap space_of pointers in
              record {
                to = to;
                itself = other ∙ ap (λ base. inner.Pointer base to) bases;
                spaces = λ o. ap (λ at. pointer_key at o) (sym ats) ∙ spaces o;
              }

      abbrev word : Bytes
      word = member_word m k.base index

      -- the pointer to the member by its type
      abbrev by_type : AddressSpace → TypeResolution
      by_type at = Value (inner.Pointer k.member.ty at)

      abbrev entries : List (Bytes × Bytes)
      entries = map (λ p. member_part m info whole one_struct.to k.base p.0 p.1.ty) (enumerate_from 0 k.members.items)

      abbrev entry : Bytes × Bytes
      entry = member_part m info whole one_struct.to k.base index k.member.ty

      table_of_members : place_parts m info whole ≡ Members entries
      table_of_members =
          table_is ∙ (ap (pointee_parts m info whole) one_struct.itself
          ∙ ap (λ o. option_map_or (parts_at m info whole one_struct.to k.base) o NoParts) inner_is)

      entry_there : slice_get entries index ≡ Some entry
      entry_there = made_at (λ p. member_part m info whole one_struct.to k.base p.0 p.1.ty) k.members.items
          index k.member k.member_there

      -- its word is that of no other
      only_entry : (j : ℕ) (l : Bytes × Bytes) → slice_get entries j ≡ Some l → l.0 ≡ word → index ≡ j
      only_entry j l at is =
          let made = made_from (λ p. member_part m info whole one_struct.to k.base p.0 p.1.ty) k.members.items j l at in
          let items = ap members_of k.struct_is in
          distinguished.members k.base k.struct k.there index j k.member made.0
          (ap (λ xs. slice_get xs index) items ∙ k.member_there) (ap (λ xs. slice_get xs j) items ∙ made.1)
          (sym is ∙ sym (ap (λ l. l.0) made.2))

      found : member_pointer entries word ≡ Some entry.1
      found = member_found entries index entry entry_there only_entry

      module _ (own : TypeResolution) (own_fit : IsFit m own)
          (alike : type_identity m.types own ≡ type_identity m.types (by_type k.at))
          (taking : IsTaking m info accepted distinguished whole word own) where
        free_at : is_handle_space k.at ≡ false
        free_at = subst (IsFree m are stand) k.itself (is_free m are stand r a.it a.fit a.itself)

        free_to : is_handle_space one_struct.to ≡ false
        free_to = subst (IsFree m are stand) one_struct.itself
            (is_free m are stand first.u first.it first.fit first.itself)

        key_is : type_key m.types (by_type k.at) ≡ type_key m.types (by_type one_struct.to)
        key_is = one_struct.spaces (handle_key m.types k.member.ty)

        -- where the member's type has a form, so have the pointers, and it is one
        spelled : (o : Option (List ℕ)) → type_key m.types (by_type one_struct.to) ≡ o → is_some o ≡ true →
            type_of_values m own ≡ type_of_values m (by_type one_struct.to)
        spelled None at is = absurd cc
        spelled (Some x) at is =
            values_by_numbers m are own (by_type one_struct.to) own_fit (pointer_fit k.member.ty one_struct.to free_to)
            (alike ∙ (ap (λ o. unwrap_or o (word_of_unspelled_type (identity m.types (by_type k.at)))) (key_is ∙ at)
            ∙ sym (ap (λ o. unwrap_or o (word_of_unspelled_type (identity m.types (by_type one_struct.to)))) at)))

        own_pointer : type_of_values m own ≡ PointerType (word_of_values m (by_type k.at))
        own_pointer = values_by_numbers m are own (by_type k.at) own_fit (pointer_fit k.member.ty k.at free_at) alike

        -- where it has none, the table goes by the first expression that takes the member
        by_form : (b : Bool) → has_type_form m.types (by_type one_struct.to) ≡ b →
            type_of_values m own ≡ PointerType (word_of_values m (if b then by_type one_struct.to
            else unwrap_or (slice_get (flat_map (members_taken m info whole word) (groups_of m info)) 0)
            (by_type one_struct.to)))
        by_form true is = spelled (type_key m.types (by_type one_struct.to)) refl is
        by_form false is =
            let other = unwrap_or (slice_get (flat_map (members_taken m info whole word) (groups_of m info)) 0)
            (by_type one_struct.to) in
            let one : type_of_values m own ≡ type_of_values m other =
            type_of_first m info accepted distinguished whole word own taking (by_type one_struct.to) in
            own_pointer ∙ ap PointerType
            (sym (own_word m other (word_of_values m (by_type k.at)) (sym one ∙ own_pointer)))

        member_values : type_of_values m own ≡ PointerType entry.1
        member_values = by_form (has_type_form m.types (by_type one_struct.to)) refl

        pub member_to : IsPart (place_parts m info whole) (step_to (place_parts m info whole) s) (type_of_values m own)
        member_to =
            subst (λ whole. IsPart whole (step_to whole s) (type_of_values m own)) (sym table_of_members)
            (subst (λ s. IsPart (Members entries) (step_to (Members entries) s) (type_of_values m own)) (sym k.selected)
            (subst (λ o. IsPart (Members entries) (option_map (λ pointer. Field word) o) (type_of_values m own))
            (sym found)
            (member_values ∙ ap (λ o. PointerType (unwrap_or o [])) (sym found))))
