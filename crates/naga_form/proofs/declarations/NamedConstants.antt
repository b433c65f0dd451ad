-- The named constants of a module and its overrides in the list of types that its program of shapes
-- has for them.
use Rattle.std.proofs.Common.{◌≡◌, ℕ, zero, suc, ◌+◌, ◌-◌, ◌<◌, ◌≤◌, Bool, true, false, List, []}
use Rattle.std.proofs.Common.{◌∷◌, ◌++◌, refl, sym, ap, ◌∙◌, length, take, Some, slice_get, map}
use Rattle.std.proofs.Common.{arith, nat_lt}
use Rattle.std.specs.Prelude.{if◌then◌else◌}
use Rattle.std.specs.List.{filter}
use Rattle.std.specs.Option.{option_map, option_map_or, is_some}
use Rattle.std.proofs.lemmas.Bool.{ltb-true, ltb-false}
use Rattle.std.proofs.lemmas.List.{length-drop, length-map, length-append, get_or_append_left}
use Rattle.std.proofs.lemmas.List.{get_or-append-add}
use Rattle.std.proofs.lemmas.Option.{slice_get-map, slice_get_past, slice_get_within}
use Rattle.std.proofs.lemmas.Option.{get_or_from_slice_get, same_Some}
use Rattle.naga_ir.specs.declared.module.Constant.{Constant}
use Rattle.naga_ir.specs.declared.module.Module.{Module}
use Rattle.naga_ir.specs.declared.module.Override.{Override}
use Rattle.naga_info.specs.declared.info.ModuleInfo.{ModuleInfo}
use Rattle.naga_info.specs.declared.info.TypeResolution.TheVariants.{Handle}
use Rattle.naga_naming.proofs.Refusal.{element}
use Rattle.naga_naming.specs.Keys.{NameMap}
use Rattle.naga_naming.specs.declared.key.NameKey.TheVariants as key
use Rattle.module_semantics.specs.ModuleShapes.{initialiser, module_shape, named_constants}
use Rattle.module_semantics.specs.Names.{constant_name, name_in, override_name}
use Rattle.module_semantics.specs.Namings.{named_handles, numbered_key, outer_names}
use Rattle.module_semantics.specs.OperatorTable.{if_there}
use Rattle.module_semantics.specs.ExpressionContexts.{named_count, constant_number, override_number}
use Rattle.module_semantics.specs.Types.{type_of_values}
use Rattle.shader_runs.specs.Program.{constant_count, override_types}
use Rattle.shader_runs.specs.Value.{ValueType, BooleanType, type_at}

abbrev pub is_named : Constant → Bool
is_named c = is_some c.name

-- a constant with a name stands after the named ones before it
pub named_at : (cs : List Constant) (h : ℕ) (c : Constant) → slice_get cs h ≡ Some c → is_named c ≡ true →
    slice_get (filter is_named cs) (named_count (take h cs)) ≡ Some c
named_at [] h c here named = absurd cc
named_at (d ∷ cs) zero c here named = by (is_named d) refl
  where
    by : (b : Bool) → is_named d ≡ b → slice_get (if b then d ∷ filter is_named cs else filter is_named cs) 0 ≡ Some c
    by true at = here
    by false at = absurd cc
named_at (d ∷ cs) (suc h) c here named = by (named_at cs h c here named) (is_named d)
  where
    by : slice_get (filter is_named cs) (named_count (take h cs)) ≡ Some c →
        (b : Bool) → slice_get (if b then d ∷ filter is_named cs else filter is_named cs)
        (if_there b + named_count (take h cs)) ≡ Some c
    by rest true = let at : 1 + named_count (take h cs) ≡ suc (named_count (take h cs)) = omega arith in
        ap (slice_get (d ∷ filter is_named cs)) at ∙ rest
    by rest false = let at : 0 + named_count (take h cs) ≡ named_count (take h cs) = omega arith in
        ap (slice_get (filter is_named cs)) at ∙ rest

-- as many are named as are counted
pub count_is : (cs : List Constant) → length (filter is_named cs) ≡ named_count cs
count_is [] = refl
count_is (d ∷ cs) = by (count_is cs) (is_named d)
  where
    by : length (filter is_named cs) ≡ named_count cs → (b : Bool) →
        length (if b then d ∷ filter is_named cs else filter is_named cs) ≡ if_there b + named_count cs
    by rest true = let at : 1 + named_count cs ≡ suc (named_count cs) = omega arith in ap (λ n. suc n) rest ∙ sym at
    by rest false = let at : 0 + named_count cs ≡ named_count cs = omega arith in rest ∙ sym at

-- its handle stands there too, where k is that of the first one
handle_at : (k : ℕ) (cs : List Constant) (h : ℕ) (c : Constant) → slice_get cs h ≡ Some c → is_named c ≡ true →
    slice_get (named_handles k cs) (named_count (take h cs)) ≡ Some (k + h)
handle_at k [] h c here named = absurd cc
handle_at k (d ∷ cs) zero c here named = by (is_named d) refl
  where
    first : k ≡ k + 0
    first = omega arith

    by : (b : Bool) → is_named d ≡ b → slice_get (if b then k ∷ named_handles (suc k) cs else named_handles
        (suc k) cs) 0 ≡ Some (k + 0)
    by true at = ap Some first
    by false at = absurd cc
handle_at k (d ∷ cs) (suc h) c here named = by (handle_at (suc k) cs h c here named) (is_named d)
  where
    next : suc k + h ≡ k + suc h
    next = omega arith

    by : slice_get (named_handles (suc k) cs) (named_count (take h cs)) ≡ Some (suc k + h) →
        (b : Bool) →
        slice_get (if b then k ∷ named_handles (suc k) cs else named_handles (suc k) cs)
        (if_there b + named_count (take h cs)) ≡ Some (k + suc h)
    by rest true = let at : 1 + named_count (take h cs) ≡ suc (named_count (take h cs)) = omega arith in
        ap (slice_get (k ∷ named_handles (suc k) cs)) at ∙ (rest ∙ ap Some next)
    by rest false = let at : 0 + named_count (take h cs) ≡ named_count (take h cs) = omega arith in
        ap (slice_get (named_handles (suc k) cs)) at ∙ (rest ∙ ap Some next)

handles_count : (k : ℕ) (cs : List Constant) → length (named_handles k cs) ≡ named_count cs
handles_count k [] = refl
handles_count k (d ∷ cs) = by (handles_count (suc k) cs) (is_named d)
  where
    by : length (named_handles (suc k) cs) ≡ named_count cs → (b : Bool) →
        length (if b then k ∷ named_handles (suc k) cs else named_handles (suc k) cs) ≡ if_there b + named_count cs
    by rest true = let at : 1 + named_count cs ≡ suc (named_count cs) = omega arith in ap (λ n. suc n) rest ∙ sym at
    by rest false = let at : 0 + named_count cs ≡ named_count cs = omega arith in rest ∙ sym at

-- what the list of handles has is the handle of a constant, where k is that of the first one, and in
-- front of it so many have a name
record IsHandleOf (k : ℕ) (cs : List Constant) (i h : ℕ) : Type 0 where
  index : ℕ
  constant : Constant
  here : h ≡ k + index
  there : slice_get cs index ≡ Some constant
  counted : named_count (take index cs) ≡ i

handle_of : (k : ℕ) (cs : List Constant) (i h : ℕ) → slice_get (named_handles k cs) i ≡ Some h →
    IsHandleOf k cs i h
handle_of k [] i h found = absurd cc
handle_of k (d ∷ cs) i h found = by (is_named d) refl i (handle_of (suc k) cs) found
  where
    further : (i n : ℕ) → if_there (is_named d) + i ≡ n → IsHandleOf (suc k) cs i h →
        IsHandleOf k (d ∷ cs) n h
    further i n count s =
        let here = s.here in
        record {
          index = suc s.index;
          constant = s.constant;
          here = omega (arith, here);
          there = s.there;
          counted = ap (λ c. if_there (is_named d) + c) s.counted ∙ count;
        }

    by : (b : Bool) → is_named d ≡ b → (i : ℕ) →
        ((i h : ℕ) → slice_get (named_handles (suc k) cs) i ≡ Some h → IsHandleOf (suc k) cs i h) →
        slice_get (if b then k ∷ named_handles (suc k) cs else named_handles (suc k) cs) i ≡ Some h →
        IsHandleOf k (d ∷ cs) i h
    by false is i rest found =
        let none : 0 + i ≡ i = omega arith in
        further i i (ap (λ b. if_there b + i) is ∙ none) (rest i h found)
    by true is zero rest found =
        let first = same_Some k h found in
        record {
          index = 0;
          constant = d;
          here = omega (arith, first);
          there = refl;
          counted = refl;
        }
    by true is (suc i) rest found =
        let one : 1 + i ≡ suc i = omega arith in
        further i (suc i) (ap (λ b. if_there b + i) is ∙ one) (rest i h found)

-- What has a number among the constants of the runs is a constant with a name, or an override.
pub data IsNumberedIn (m : Module) (i : ℕ) : Type 0 where
  OfConstant : (h : ℕ) (c : Constant) → slice_get m.constants h ≡ Some c → constant_number m h ≡ i →
      numbered_key m i ≡ key.Constant h → IsNumberedIn m i
  OfOverride : (h : ℕ) (o : Override) → slice_get m.overrides h ≡ Some o → override_number m h ≡ i →
      numbered_key m i ≡ key.Override h → IsNumberedIn m i

pub which_constant : (m : Module) (i : ℕ) → i < named_count m.constants + length m.overrides →
    IsNumberedIn m i
which_constant m i lt = by (nat_lt i (named_count m.constants)) refl
  where
    by : (b : Bool) → nat_lt i (named_count m.constants) ≡ b → IsNumberedIn m i
    by true is =
        let before = ltb-true i (named_count m.constants) is in
        let count = handles_count 0 m.constants in
        let found = element (named_handles 0 m.constants) i (omega (arith, before, count)) in
        let s = handle_of 0 m.constants i found.0 found.1 in
        let here = s.here in
        let same : found.0 ≡ s.index = omega (arith, here) in
        OfConstant s.index s.constant s.there s.counted
        (ap (λ o. option_map_or key.Constant o (key.Override (i - named_count m.constants)))
        (found.1 ∙ ap Some same))
    by false is =
        let following = ltb-false i (named_count m.constants) is in
        let count = handles_count 0 m.constants in
        let found = element m.overrides (i - named_count m.constants) (omega (arith, lt, following)) in
        let back : named_count m.constants + (i - named_count m.constants) ≡ i = omega (arith, following) in
        OfOverride (i - named_count m.constants) found.0 found.1 back
        (ap (λ o. option_map_or key.Constant o (key.Override (i - named_count m.constants)))
        (slice_get_past (named_handles 0 m.constants) i (omega (arith, count, following))))

-- what has the number of a constant with a name, and that of an override, has its name
pub constant_numbered : (names : NameMap) (m : Module) (h : ℕ) (c : Constant) → slice_get m.constants h
    ≡ Some c → is_some c.name ≡ true →
    (outer_names names m).constant (constant_number m h) ≡ constant_name names h
constant_numbered names m h c here named =
    let first : 0 + h ≡ h = omega arith in
    let other = constant_number m h - named_count m.constants in
    ap (λ o. name_in names (option_map_or key.Constant o (key.Override other)))
    (handle_at 0 m.constants h c here named ∙ ap Some first)

pub override_numbered : (names : NameMap) (m : Module) (o : ℕ) →
    (outer_names names m).constant (override_number m o) ≡ override_name names o
override_numbered names m o =
    let n = named_count m.constants in
    let count = handles_count 0 m.constants in
    let past : length (named_handles 0 m.constants) ≤ n + o = omega (arith, count) in
    let back : (n + o) - n ≡ o = omega arith in
    ap (λ k. name_in names (option_map_or key.Constant k (key.Override ((n + o) - n))))
    (slice_get_past (named_handles 0 m.constants) (n + o) past)
    ∙ ap (λ k. name_in names (key.Override k)) back

-- an item of a list of types in front of others, and one of those after
left_type : (xs ys : List ValueType) (i : ℕ) (x : ValueType) → slice_get xs i ≡ Some x → type_at (xs ++ ys) i ≡ x
left_type xs ys i x here = get_or_append_left xs ys BooleanType i (slice_get_within xs i x here)
    ∙ get_or_from_slice_get xs i x BooleanType here

right_type : (xs ys : List ValueType) (n i : ℕ) (y : ValueType) → length xs ≡ n → slice_get ys i ≡ Some y →
    type_at (xs ++ ys) (n + i) ≡ y
right_type xs ys n i y count here =
    ap (λ k. type_at (xs ++ ys) (k + i)) (sym count)
    ∙ (get_or-append-add xs ys i BooleanType ∙ get_or_from_slice_get ys i y BooleanType here)

module _ (m : Module) (info : ModuleInfo) where
  abbrev pub type_of_constant : Constant → ValueType
  type_of_constant c = type_of_values m (Handle c.ty)

  abbrev pub type_of_override : Override → ValueType
  type_of_override o = type_of_values m (Handle o.ty)

  abbrev pub types_of_constants : List ValueType
  types_of_constants = map type_of_constant (named_constants m)

  abbrev pub types_of_overrides : List ValueType
  types_of_overrides = map type_of_override m.overrides

  constants_count : length types_of_constants ≡ named_count m.constants
  constants_count = length-map (named_constants m) type_of_constant ∙ count_is m.constants

  pub types_count : length (types_of_constants ++ types_of_overrides) ≡ length types_of_constants + length m.overrides
  types_count = length-append types_of_constants types_of_overrides ∙ ap (λ k. length types_of_constants + k)
      (length-map m.overrides type_of_override)

  -- of named constants and overrides
  pub constants_length : length (module_shape m info).constant_types ≡ named_count m.constants + length m.overrides
  constants_length = types_count ∙ ap (λ k. k + length m.overrides) constants_count

  -- the runs have as many named constants and overrides as the module
  pub constants_counted : constant_count (module_shape m info) ≡ named_count m.constants
  constants_counted = length-map (named_constants m) (initialiser m info) ∙ count_is m.constants

  pub overrides_counted : length (override_types (module_shape m info)) ≡ length m.overrides
  overrides_counted =
      let own = constants_counted in
      let named = constants_count in
      let all = types_count in
      let left = length-drop (constant_count (module_shape m info)) (types_of_constants ++ types_of_overrides) in
      omega (arith, own, named, all, left)

  -- the type of a named constant, by its index
  pub index_typed : (i : ℕ) (c : Constant) → slice_get (named_constants m) i ≡ Some c →
      type_at (module_shape m info).constant_types i ≡ type_of_values m (Handle c.ty)
  index_typed i c here =
      left_type types_of_constants types_of_overrides i (type_of_constant c)
      (slice_get-map type_of_constant (named_constants m) i ∙ ap (option_map type_of_constant) here)

  -- and by its number
  pub named_typed : (h : ℕ) (c : Constant) → slice_get m.constants h ≡ Some c → is_some c.name ≡ true →
      type_at (module_shape m info).constant_types (constant_number m h) ≡ type_of_values m (Handle c.ty)
  named_typed h c here named = index_typed (constant_number m h) c (named_at m.constants h c here named)

  -- which lies in the list
  pub named_within : (h : ℕ) (c : Constant) → slice_get m.constants h ≡ Some c → is_some c.name ≡ true →
      constant_number m h < length (module_shape m info).constant_types
  named_within h c here named =
      let lt = slice_get_within (named_constants m) (constant_number m h) c (named_at m.constants h c here named) in
      let own = length-map (named_constants m) type_of_constant in
      let all = types_count in
      omega (arith, lt, own, all)

  -- the type of an override, by its number
  pub override_typed : (h : ℕ) (o : Override) → slice_get m.overrides h ≡ Some o →
      type_at (module_shape m info).constant_types (override_number m h) ≡ type_of_values m (Handle o.ty)
  override_typed h o here =
      right_type types_of_constants types_of_overrides (named_count m.constants) h (type_of_override o) constants_count
      (slice_get-map type_of_override m.overrides h ∙ ap (option_map type_of_override) here)

  pub override_within : (h : ℕ) (o : Override) → slice_get m.overrides h ≡ Some o →
      override_number m h < length (module_shape m info).constant_types
  override_within h o here =
      let lt = slice_get_within m.overrides h o here in
      let own = constants_count in
      let all = types_count in
      omega (arith, lt, own, all)
