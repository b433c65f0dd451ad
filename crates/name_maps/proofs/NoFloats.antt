-- A map of names has no number but counts, so that its text is told.
-- Serves `map_text`.
--
-- Throughout, names are those of a module m, p is an item after its number, and one is the row of an item.
use Rattle.std.proofs.Common.{◌≡◌, ◌∙◌, ℕ, List, [], ◌∷◌, Bool, true, false, Option, Some, None, ap}
use Rattle.std.proofs.Common.{if◌then◌else◌, map, refl, string_bytes}
use Rattle.std.specs.Prelude.{◌||◌}
use Rattle.std.specs.List.{cons_option, enumerate_from, filter_map}
use Rattle.std.specs.Option.{is_some, option_map, option_map_or}
use Rattle.std.specs.declared.string.String.{String}
use Rattle.naga_ir.specs.declared.module.Module.{Module}
use Rattle.naga_ir.specs.declared.types.StructMember.{StructMember}
use Rattle.naga_naming.specs.Keys.{NameMap}
use Rattle.naga_naming.specs.Reset.{members_of}
use Rattle.module_semantics.specs.Undeclared.{is_declared}
use Rattle.serde_json.specs.Data.{Data}
use Rattle.serde_json.specs.View.{items_of}
use Rattle.serde_json.specs.Written.{has_float, items_have_float}
use Rattle.name_maps.specs.NameMaps.{constant_row, count_or_null, declared_struct}
use Rattle.name_maps.specs.NameMaps.{entry_point_row, function_row}
use Rattle.name_maps.specs.NameMaps.{global_row, list_of, member_row, member_rows}
use Rattle.name_maps.specs.NameMaps.{name_map, named_constant, override_row}
use Rattle.name_maps.specs.NameMaps.{struct_row, text_or_null}

both : (a b : Bool) → a ≡ false → b ≡ false → (a || b) ≡ false
both a b none more = ap (λ c. c || b) none ∙ more

text : (o : Option (List ℕ)) → has_float (text_or_null o) ≡ false
text None = refl
text (Some t) = refl

count : (o : Option ℕ) → has_float (count_or_null o) ≡ false
count None = refl
count (Some n) = refl

-- none where there is one
abbrev HasNone : Option Data → Type 0
HasNone o = option_map_or has_float o false ≡ false

module _ {P : Type 0} where
  each : (one : P → Data) → ((p : P) → has_float (one p) ≡ false) → (ps : List P) →
      has_float (list_of (map one ps)) ≡ false
  each one none [] = refl
  each one none (p ∷ ps) =
      both (has_float (one p)) (items_have_float (items_of (map one ps))) (none p) (each one none ps)

  some : (one : P → Option Data) → ((p : P) → HasNone (one p)) → (ps : List P) →
      has_float (list_of (filter_map one ps)) ≡ false
  some one none [] = refl
  some one none (p ∷ ps) = by (one p) (none p) (some one none ps)
    where
      by : (o : Option Data) → HasNone o → has_float (list_of (filter_map one ps)) ≡ false →
          has_float (list_of (cons_option o (filter_map one ps))) ≡ false
      by None h rest = rest
      by (Some d) h rest =
          both (has_float d) (items_have_float (items_of (filter_map one ps))) h rest

-- one that is there where a test passes
chosen : (b : Bool) (d : Data) → has_float d ≡ false →
    option_map_or has_float (if b then Some d else None) false ≡ false
chosen true d h = h
chosen false d h = refl

-- the rows whose members are all texts, counts and maybe a label at the end
label : {Y : Type 0} (o : Option (String Y)) →
    (has_float (text_or_null (option_map string_bytes o)) || false) ≡ false
label o = both _ false (text (option_map string_bytes o)) refl

module _ (names : NameMap) where
  members : (handle : ℕ) (ms : List StructMember) →
      has_float (member_rows names handle ms) ≡ false
  members handle ms =
      each (member_row names handle) (λ p. label p.1.name) (enumerate_from 0 ms)

  struct : {Y : Type 0} (handle : ℕ) (o : Option (String Y)) (ms : List StructMember) →
      has_float (struct_row names handle o ms) ≡ false
  struct handle o ms =
      both _ _ (text (option_map string_bytes o)) (both _ false (members handle ms) refl)

  pub map_has_none : (m : Module) → has_float (name_map m names) ≡ false
  unfolding name_map
  map_has_none m =
      both _ _
      (some (named_constant names)
      (λ p. chosen (is_some p.1.name) (constant_row names p) (label p.1.name))
      (enumerate_from 0 m.constants))
      (both _ _
      (each (entry_point_row names) (λ p. refl) (enumerate_from 0 m.entry_points.items))
      (both _ _
      (each (function_row names) (λ p. label p.1.name) (enumerate_from 0 m.functions))
      (both _ _
      (each (global_row names)
      (λ p. both _ _ (text _) (both _ _ (count _) (both _ _ (count _) (label p.1.name))))
      (enumerate_from 0 m.global_variables))
      (both _ _
      (each (override_row names)
      (λ p. both _ _ (count _) (label p.1.name)) (enumerate_from 0 m.overrides))
      (both _ false
      (some (declared_struct names m.special_types)
      (λ p. chosen (is_declared m.special_types p.0 p.1.inner)
      (struct_row names p.0 p.1.name (members_of p.1.inner))
      (struct p.0 p.1.name (members_of p.1.inner)))
      (enumerate_from 0 m.types)) refl)))))
