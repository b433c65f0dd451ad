-- Names that have the name of each item of a module tell the same as those of its text.
-- Serves `module_answers`.
--
-- Throughout, m is the module, names are the others, own those of its text, f and g are rows of items after
-- their numbers, n is the number of the first item, and i the place of one in its list.
use Rattle.std.proofs.Common.{◌≡◌, ◌+◌, ℕ, suc, List, [], ◌∷◌, Option, Some, None, ap, arith}
use Rattle.std.proofs.Common.{◌<◌, codes, if◌then◌else◌, length, map, refl, slice_get, string_bytes}
use Rattle.std.proofs.Common.{subst}
use Rattle.std.specs.Prelude.{unwrap_or}
use Rattle.std.specs.List.{cons_option, enumerate_from, filter_map}
use Rattle.std.specs.Option.{is_some}
use Rattle.std.proofs.lemmas.Option.{slice_get_within}
use Rattle.naga_back.specs.FunctionContext.{function_key}
use Rattle.naga_back.specs.declared.context.FunctionType.TheVariants as item
use Rattle.naga_ir.specs.declared.module.Constant.{Constant}
use Rattle.naga_ir.specs.declared.module.EntryPoint.{EntryPoint}
use Rattle.naga_ir.specs.declared.module.Function.{Function}
use Rattle.naga_ir.specs.declared.module.GlobalVariable.{GlobalVariable}
use Rattle.naga_ir.specs.declared.module.Module.{Module}
use Rattle.naga_ir.specs.declared.module.Override.{Override}
use Rattle.naga_ir.specs.declared.types.Type_.{Type_}
use Rattle.naga_naming.proofs.Refusal.{run_out_unfit}
use Rattle.naga_naming.specs.Keys.{NameMap}
use Rattle.naga_naming.specs.Naming.{Names}
use Rattle.naga_naming.specs.Refusal.{KeysRunOut, SomeKeyIsFull}
use Rattle.naga_naming.specs.Reset.{labelled_items, members_of}
use Rattle.naga_naming.specs.declared.key.NameKey.{NameKey}
use Rattle.naga_naming.specs.declared.key.NameKey.TheVariants as key
use Rattle.module_semantics.proofs.FunctionNumbers.{number_within, type_of_entry_point, type_of_function}
use Rattle.module_semantics.specs.FunctionNumbers.{all_functions, function_type}
use Rattle.module_semantics.specs.Names.{HasNamesOf, module_names, name_in}
use Rattle.module_semantics.specs.Undeclared.{is_declared}
use Rattle.serde_json.specs.Data.{member, no_members, object, string}
use Rattle.serde_json.specs.Written.{compact_text}
use Rattle.name_maps.specs.NameMaps.{binding_or_null, count}
use Rattle.name_maps.specs.NameMaps.{count_or_null, declared_struct, entry_point_row}
use Rattle.name_maps.specs.NameMaps.{function_row, global_row}
use Rattle.name_maps.specs.NameMaps.{group_or_null, label_or_null, list_of, map_text}
use Rattle.name_maps.specs.NameMaps.{member_row, name_map, named_constant}
use Rattle.name_maps.specs.NameMaps.{override_row, space_or_null, stage_word}

-- ---- lists of rows that are the same item by item
module _ {X Y : Type 0} (f g : ℕ × X → Y) where
  rows_same : (n : ℕ) (xs : List X) →
      ((k i : ℕ) (x : X) → k ≡ n + i → slice_get xs i ≡ Some x → f (k, x) ≡ g (k, x)) →
      map f (enumerate_from n xs) ≡ map g (enumerate_from n xs)
  rows_same n [] same = refl
  rows_same n (x ∷ xs) same =
      let first : f (n, x) ≡ g (n, x) = same n 0 x (omega arith) refl in
      let rest : map f (enumerate_from (n + 1) xs) ≡ map g (enumerate_from (n + 1) xs) =
      rows_same (n + 1) xs (λ k i y is at. same k (suc i) y (omega (arith, is)) at) in
      λ i. first i ∷ rest i

  pub all_same : (xs : List X) →
      ((k : ℕ) (x : X) → slice_get xs k ≡ Some x → f (k, x) ≡ g (k, x)) →
      map f (enumerate_from 0 xs) ≡ map g (enumerate_from 0 xs)
  all_same xs same =
      rows_same 0 xs
      (λ k i x is at.
      let here : i ≡ k = omega (arith, is) in
      same k x (subst (λ j. slice_get xs j ≡ Some x) here at))

module _ {X Y : Type 0} (f g : ℕ × X → Option Y) where
  picked_same : (n : ℕ) (xs : List X) →
      ((k i : ℕ) (x : X) → k ≡ n + i → slice_get xs i ≡ Some x → f (k, x) ≡ g (k, x)) →
      filter_map f (enumerate_from n xs) ≡ filter_map g (enumerate_from n xs)
  picked_same n [] same = refl
  picked_same n (x ∷ xs) same =
      let first : f (n, x) ≡ g (n, x) = same n 0 x (omega arith) refl in
      let rest : filter_map f (enumerate_from (n + 1) xs) ≡ filter_map g (enumerate_from (n + 1) xs) =
      picked_same (n + 1) xs (λ k i y is at. same k (suc i) y (omega (arith, is)) at) in
      λ i. cons_option (first i) (rest i)

  pub all_picked_same : (xs : List X) →
      ((k : ℕ) (x : X) → slice_get xs k ≡ Some x → f (k, x) ≡ g (k, x)) →
      filter_map f (enumerate_from 0 xs) ≡ filter_map g (enumerate_from 0 xs)
  all_picked_same xs same =
      picked_same 0 xs
      (λ k i x is at.
      let here : i ≡ k = omega (arith, is) in
      same k x (subst (λ j. slice_get xs j ≡ Some x) here at))

-- ---- the names of one module
module _ (m : Module) (names : NameMap) (has : HasNamesOf m names) where
  abbrev own : NameMap
  own = module_names m

  same : (k : NameKey) → names k ≡ Some (name_in own k) → name_in names k ≡ name_in own k
  same k is = ap (λ o. unwrap_or o []) is

  constant : (c : ℕ) (x : Constant) → slice_get m.constants c ≡ Some x →
      named_constant names (c, x) ≡ named_constant own (c, x)
  constant c x at =
      let name = same (key.Constant c) (has.constants c (slice_get_within m.constants c x at)) in
      λ i. if is_some x.name then Some (object
      (member (codes "handle") (count c)
      (member (codes "identifier") (string (name i))
      (member (codes "label") (label_or_null x.name) no_members)))) else None

  global : (v : ℕ) (x : GlobalVariable) → slice_get m.global_variables v ≡ Some x →
      global_row names (v, x) ≡ global_row own (v, x)
  global v x at =
      let name =
      same (key.GlobalVariable v) (has.globals v (slice_get_within m.global_variables v x at)) in
      λ i. object
      (member (codes "address_space") (space_or_null x.space)
      (member (codes "binding") (binding_or_null x.binding)
      (member (codes "group") (group_or_null x.binding)
      (member (codes "handle") (count v)
      (member (codes "identifier") (string (name i))
      (member (codes "label") (label_or_null x.name) no_members))))))

  override : (o : ℕ) (x : Override) → slice_get m.overrides o ≡ Some x →
      override_row names (o, x) ≡ override_row own (o, x)
  override o x at =
      let name = same (key.Override o) (has.overrides o (slice_get_within m.overrides o x at)) in
      λ i. object
      (member (codes "handle") (count o)
      (member (codes "id") (count_or_null x.id)
      (member (codes "identifier") (string (name i))
      (member (codes "label") (label_or_null x.name) no_members))))

  -- the key of a function's name, by its number
  function_named : (g : ℕ) → (k : NameKey) → function_key (function_type m g) ≡ k →
      g < length (all_functions m) → name_in names k ≡ name_in own k
  function_named g k is lt =
      same k
      (subst (λ q. names q ≡ Some (name_in own q)) is (has.functions g lt))

  function : (h : ℕ) (x : Function) → slice_get m.functions h ≡ Some x →
      function_row names (h, x) ≡ function_row own (h, x)
  function h x at =
      let lt = slice_get_within m.functions h x at in
      let name =
      function_named h (key.Function h) (ap function_key (type_of_function m h lt))
      (number_within m (item.Function h) lt) in
      λ i. object
      (member (codes "handle") (count h)
      (member (codes "identifier") (string (name i))
      (member (codes "label") (label_or_null x.name) no_members)))

  entry_point : (e : ℕ) (x : EntryPoint) → slice_get m.entry_points.items e ≡ Some x →
      entry_point_row names (e, x) ≡ entry_point_row own (e, x)
  entry_point e x at =
      let long : m.entry_points.len ≡ length m.entry_points.items = m.entry_points.ok.0 in
      let within = slice_get_within m.entry_points.items e x at in
      let lt : e < m.entry_points.len = omega (arith, long, within) in
      let name =
      function_named (length m.functions + e) (key.EntryPoint e)
      (ap function_key (type_of_entry_point m e)) (number_within m (item.EntryPoint e) lt) in
      λ i. object
      (member (codes "identifier") (string (name i))
      (member (codes "index") (count e)
      (member (codes "label") (string (string_bytes x.name))
      (member (codes "stage") (string (stage_word x.stage)) no_members))))

  struct : (h : ℕ) (t : Type_) → slice_get m.types h ≡ Some t →
      declared_struct names m.special_types (h, t) ≡ declared_struct own m.special_types (h, t)
  struct h t at =
      let name = same (key.Type_ h) (has.types h t at) in
      let members =
      all_same (member_row names h) (member_row own h) (members_of t.inner)
      (λ k a here.
      let called = same (key.StructMember h k) (has.members h t at k a here) in
      λ i. object
      (member (codes "identifier") (string (called i))
      (member (codes "index") (count k)
      (member (codes "label") (label_or_null a.name) no_members)))) in
      λ i. if is_declared m.special_types h t.inner then Some (object
      (member (codes "handle") (count h)
      (member (codes "identifier") (string (name i))
      (member (codes "label") (label_or_null t.name)
      (member (codes "members") (list_of (members i)) no_members))))) else None

  pub same_map : name_map m names ≡ name_map m own
  unfolding name_map
  same_map =
      let cs = all_picked_same (named_constant names) (named_constant own) m.constants constant in
      let es =
      all_same (entry_point_row names) (entry_point_row own) m.entry_points.items entry_point in
      let fs = all_same (function_row names) (function_row own) m.functions function in
      let gs = all_same (global_row names) (global_row own) m.global_variables global in
      let os = all_same (override_row names) (override_row own) m.overrides override in
      let ss =
      all_picked_same (declared_struct names m.special_types) (declared_struct own m.special_types)
      m.types struct in
      λ i. object
      (member (codes "constants") (list_of (cs i))
      (member (codes "entry_points") (list_of (es i))
      (member (codes "functions") (list_of (fs i))
      (member (codes "globals") (list_of (gs i))
      (member (codes "overrides") (list_of (os i))
      (member (codes "structs") (list_of (ss i)) no_members))))))

  pub same_text : map_text m names ≡ map_text m own
  unfolding map_text
  same_text = ap compact_text same_map

-- where each key of an item fits, no list is too long
pub few_keys : (start : Names) (m : Module) → (SomeKeyIsFull (labelled_items start m) → ⊥) →
    KeysRunOut m → ⊥
few_keys start m fit long = fit (run_out_unfit start m long)
