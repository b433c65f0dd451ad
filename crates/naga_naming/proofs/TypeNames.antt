-- The names of a whole module: its values are labelled by the names of its types.
use Rattle.std.proofs.Common.{◌≡◌, ℕ, ◌≤◌, false, cond, List, [], ◌∷◌, ◌++◌, length, refl, sym}
use Rattle.std.proofs.Common.{ap, ◌∙◌, arith, ◌+◌, map, Option, Some, None, slice_get}
use Rattle.std.proofs.Common.{unwrap_or}
use borrow.Author.Tests.{lt-ltb}
use Rattle.std.specs.List.{flat_map, enumerate_from, AllByRecursion}
use Rattle.std.proofs.lemmas.List.{take-append-le}
use Rattle.std.proofs.lemmas.Option.{slice_get_within}
use Rattle.naga_ir.proofs.Listed.{past_end}
use Rattle.naga_ir.specs.declared.module.Module.{Module}
use Rattle.naga_ir.specs.declared.module.EntryPoint.{EntryPoint}
use Rattle.naga_ir.specs.declared.types.StructMember.{StructMember}
use Rattle.naga_ir.specs.declared.types.Type_.{Type_}
use Rattle.naga_naming.specs.declared.key.NameKey.TheVariants as key
use Rattle.naga_naming.specs.Naming.{Names}
use Rattle.naga_naming.specs.Keys.{NameMap, same_key}
use Rattle.naga_naming.specs.Reset.{LabelledItem, item_name, HasNamedItems, type_names_in}
use Rattle.naga_naming.specs.Reset.{member_label, members_of, labelled_type, labelled_types}
use Rattle.naga_naming.specs.Reset.{labelled_entry_points, labelled_functions, labelled_globals}
use Rattle.naga_naming.specs.Reset.{labelled_declarations, type_label, type_name}
use Rattle.naga_naming.proofs.Keys.{all_append, unlike_types, types_apart, declarations_apart}
use Rattle.naga_naming.proofs.Reset.{not_below}
use Rattle.naga_naming.proofs.NamedItems.{index_left, item_put, type_among_types, name_found}
use Rattle.naga_naming.proofs.NamedItems.{name_absent}

-- no item is a type after the last one
no_type : (entry_points : List EntryPoint) (t n : ℕ) (types : List Type_) → n + length types ≤ t →
    AllByRecursion (λ (y : LabelledItem). same_key (key.Type_ t) y.0 ≡ false)
    (flat_map (λ p. labelled_type entry_points p.0 p.1) (enumerate_from n types))
no_type entry_points t n [] le = tt
no_type entry_points t n (ty ∷ types) le =
    let differ : t ≡ n → ⊥ = λ e. absurd (omega (arith, e, le)) in
    all_append (λ y. same_key (key.Type_ t) y.0 ≡ false) (labelled_type entry_points n ty)
    (flat_map (λ p. labelled_type entry_points p.0 p.1) (enumerate_from (n + 1) types))
    (unlike_types t n differ, members_differ 0 (members_of ty.inner))
    (no_type entry_points t (n + 1) types (omega (arith, le)))
  where
    members_differ : (k : ℕ) (members : List StructMember) →
        AllByRecursion (λ (y : LabelledItem). same_key (key.Type_ t) y.0 ≡ false)
        (map (λ p. (key.StructMember n p.0, member_label p.1)) (enumerate_from k members))
    members_differ k [] = tt
    members_differ k (m ∷ members) = (refl, members_differ (k + 1) members)

module _ (start : Names) («module» : Module) where
  abbrev the_types : List LabelledItem
  the_types = labelled_types «module».entry_points.items «module».types

  abbrev the_others : List LabelledItem
  the_others = labelled_entry_points «module».entry_points.items
      ++ (labelled_functions «module».types «module».functions
      ++ labelled_globals «module».types «module».global_variables)

  -- a type has the name that a map has for it
  module _ (first : NameMap) (names : Names) (now : NameMap)
      (has : HasNamedItems start first (labelled_declarations «module») names now) where
    there : (t : ℕ) (ty : Type_) → slice_get «module».types t ≡ Some ty → now (key.Type_ t)
        ≡ Some (type_name start «module» t)
    there t ty e =
        let item : LabelledItem = (key.Type_ t, type_label «module».entry_points.items t ty) in
        let s = type_among_types start «module» t ty e in
        let le : s.index ≤ length the_types = omega (arith, slice_get_within the_types s.index item s.there) in
        item_put start first now (labelled_declarations «module») has.put (declarations_apart «module») s.index
        item (index_left the_types the_others s.index item s.there)
        ∙ ap (λ items. Some (item_name start items item)) (take-append-le s.index the_types the_others le)
        ∙ sym (ap (λ o. Some (unwrap_or o []))
        (name_found start the_types s.index item (types_apart «module».entry_points.items «module».types) s.there))

    agrees : (t : ℕ) → type_names_in now (length «module».types) t ≡ type_name start «module» t
    agrees t = by (slice_get «module».types t) refl
      where
        by : (o : Option Type_) → slice_get «module».types t ≡ o → type_names_in now (length «module».types) t
            ≡ type_name start «module» t
        by (Some ty) e =
            ap (λ b. cond b (unwrap_or (now (key.Type_ t)) []) [])
            (lt-ltb t (length «module».types) (slice_get_within «module».types t ty e))
            ∙ ap (λ o. unwrap_or o []) (there t ty e)
        by None e =
            let past : length «module».types ≤ t = past_end «module».types t e in
            ap (λ b. cond b (unwrap_or (now (key.Type_ t)) []) [])
            (not_below t (length «module».types) (λ lt. omega (arith, lt, past)))
            ∙ sym (ap (λ o. unwrap_or o []) (name_absent start the_types (key.Type_ t)
            (no_type «module».entry_points.items t 0 «module».types (omega (arith, past)))))

    pub agree : type_names_in now (length «module».types) ≡ type_name start «module»
    agree = λ i t. agrees t i
