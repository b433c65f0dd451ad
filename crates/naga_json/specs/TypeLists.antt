-- What a JSON value says of a module's types: a list of which no two are equal, and which of them have a meaning of
-- their own (docs/JSON.md, "Forms" and "Predeclared types").
--
-- Throughout, before are the types or the pairs that stand before others.
use Rattle.std.specs.Prelude.{ℕ, List, [], ◌∷◌, ◌++◌, Bool, false, not, ◌&&◌}
use Rattle.std.specs.Prelude.{if◌then◌else◌, nat_eq, Option, Some, None}
use Rattle.std.specs.Option.{option_eq, option_map_or}
use Rattle.std.specs.List.{list_any}
use Rattle.std.specs.Cmp.Lexicographic.{pointwise}
use Rattle.json.specs.Json.{Json, Items, no_items, item}
use Rattle.json.specs.Find.{as_array, as_object}
use Rattle.naga_json.specs.Said.{◌>>=◌, members, field_or, has_members, option_field}
use Rattle.naga_json.specs.Numbers.{index_said}
use Rattle.naga_json.specs.Seen.{SeenType, SeenInner, SeenMember, struct_inner, plain_inner}
use Rattle.naga_json.specs.Types.{predeclared_type_said, type_said}
use Rattle.naga_ir.specs.contracts.binding.BindingPartialEq.TheImpl.{eq-value as binding-eq-value}
use Rattle.naga_ir.specs.contracts.types.PredeclaredTypePartialEq.TheImpl.{
  eq-value as predeclared-eq-value,
}
use Rattle.naga_ir.specs.contracts.types.TypeInnerPartialEq.TheImpl.{eq-value as inner-eq-value}
use Rattle.naga_ir.specs.declared.module.SpecialTypes.{SpecialTypes}
use Rattle.naga_ir.specs.declared.types.PredeclaredType.{PredeclaredType}

-- ---- which types are equal

abbrev pub same_name : Option (List ℕ) → Option (List ℕ) → Bool
same_name m n = option_eq (pointwise nat_eq) m n

abbrev pub same_member : SeenMember → SeenMember → Bool
same_member m n =
    same_name m.name n.name && (nat_eq m.ty n.ty
    && (option_eq binding-eq-value.it m.binding n.binding && nat_eq m.offset n.offset))

abbrev pub same_inner : SeenInner → SeenInner → Bool
same_inner (struct_inner ms s) (struct_inner ns t) = pointwise same_member ms ns && nat_eq s t
same_inner (plain_inner a) (plain_inner b) = inner-eq-value.it a b
same_inner a b = false

abbrev pub same_type : SeenType → SeenType → Bool
same_type a b = same_name a.name b.name && same_inner a.inner b.inner

-- ---- the list of types

-- more types, of which none equals one before it
abbrev pub types_after : (before : List SeenType) → Items → Option (List SeenType)
types_after before no_items = Some before
types_after before (item j js) =
    type_said j >>= λ t. if list_any (same_type t) before then None else types_after (before ++ t ∷ []) js

unfoldable pub types_said : Json → Option (List SeenType)
types_said j = as_array j >>= λ js. types_after [] js

-- ---- special types

-- a predeclared struct, with the index of its type
abbrev pub pair_of_items : Items → Option (PredeclaredType × ℕ)
pair_of_items (item key (item ty no_items)) = do
  key ← predeclared_type_said key
  ty ← index_said ty
  Some (key, ty)
pair_of_items js = None

abbrev pub pair_said : Json → Option (PredeclaredType × ℕ)
pair_said j = as_array j >>= pair_of_items

abbrev pub has_key : PredeclaredType → List (PredeclaredType × ℕ) → Bool
has_key key pairs = list_any (λ p. predeclared-eq-value.it key p.0) pairs

-- more pairs, of which none has the key of one before it
abbrev pub pairs_after : (before : List (PredeclaredType × ℕ)) → Items → Option (List (PredeclaredType × ℕ))
pairs_after before no_items = Some before
pairs_after before (item j js) =
    pair_said j >>= λ p. if has_key p.0 before then None else pairs_after (before ++ p ∷ []) js

abbrev pub is_empty_object : Json → Bool
is_empty_object j = option_map_or (λ ms. not (has_members ms)) (as_object j) false

-- a list of pairs, since keys are no texts; or an object without members
unfoldable pub predeclared_types_said : Json → Option (List (PredeclaredType × ℕ))
predeclared_types_said j =
    if is_empty_object j then Some [] else (as_array j >>= λ js. pairs_after [] js)

-- what contracts see of the special types
pub record SeenSpecialTypes : Type 0 where
  pub predeclared_types : List (PredeclaredType × ℕ)
  pub external_texture_params : Option ℕ
  pub external_texture_transfer_function : Option ℕ
  pub ray_desc : Option ℕ
  pub ray_intersection : Option ℕ
  pub ray_vertex_return : Option ℕ

abbrev pub seen_special_types : SpecialTypes → SeenSpecialTypes
seen_special_types s = record {
  predeclared_types = s.predeclared_types.entries;
  external_texture_params = s.external_texture_params;
  external_texture_transfer_function = s.external_texture_transfer_function;
  ray_desc = s.ray_desc;
  ray_intersection = s.ray_intersection;
  ray_vertex_return = s.ray_vertex_return;
}

abbrev pub no_special_types : SeenSpecialTypes
no_special_types = record {
  predeclared_types = [];
  external_texture_params = None;
  external_texture_transfer_function = None;
  ray_desc = None;
  ray_intersection = None;
  ray_vertex_return = None;
}

unfoldable pub special_types_said : Json → Option SeenSpecialTypes
special_types_said j = do
  _ ← members ("predeclared_types" ∷ "external_texture_params" ∷ "external_texture_transfer_function" ∷
      "ray_desc" ∷ "ray_intersection" ∷ "ray_vertex_return" ∷ []) j
  predeclared_types ← field_or "predeclared_types" [] predeclared_types_said j
  external_texture_params ← option_field "external_texture_params" index_said j
  external_texture_transfer_function ← option_field "external_texture_transfer_function" index_said j
  ray_desc ← option_field "ray_desc" index_said j
  ray_intersection ← option_field "ray_intersection" index_said j
  ray_vertex_return ← option_field "ray_vertex_return" index_said j
  Some (record {
    predeclared_types = predeclared_types;
    external_texture_params = external_texture_params;
    external_texture_transfer_function = external_texture_transfer_function;
    ray_desc = ray_desc;
    ray_intersection = ray_intersection;
    ray_vertex_return = ray_vertex_return;
  })
