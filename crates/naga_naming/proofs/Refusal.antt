-- The keys run out where the lists of a module are too long, and only there.
use Rattle.std.proofs.Common.{◌≡◌, ℕ, ◌<◌, ◌≤◌, suc, Bool, true, false, ◌&&◌, List, [], ◌∷◌, ◌++◌}
use Rattle.std.proofs.Common.{length, refl, ap, subst, ◌∙◌, arith, zero, codes, nat_lt, ◌+◌, map}
use Rattle.std.proofs.Common.{Some, ◌^◌, slice_get, unwrap_or, string_bytes}
use Rattle.std.specs.Prelude.{◌⊎◌}
use mathlib.Core.Logic.{inl, inr}
use Rattle.std.specs.List.{flat_map, enumerate_from, AllByRecursion}
use Rattle.std.proofs.lemmas.Bool.{ltb-false, true≢false}
use Rattle.std.proofs.lemmas.Option.{slice_get_within, none-some}
use Rattle.naga_ir.specs.declared.module.Module.{Module}
use Rattle.naga_ir.specs.declared.module.FunctionArgument.{FunctionArgument}
use Rattle.naga_ir.specs.declared.module.Constant.{Constant}
use Rattle.naga_ir.specs.declared.module.EntryPoint.{EntryPoint}
use Rattle.naga_ir.specs.declared.module.LocalVariable.{LocalVariable}
use Rattle.naga_ir.specs.declared.module.Override.{Override}
use Rattle.naga_ir.specs.declared.types.StructMember.{StructMember}
use Rattle.naga_naming.specs.declared.key.NameKey.TheVariants as key
use Rattle.naga_naming.specs.Naming.{label_or, Names}
use Rattle.naga_naming.specs.Reset.{LabelledItem, labelled_items, key_fits, keys_fit, member_label}
use Rattle.naga_naming.specs.Reset.{members_of, labelled_type, labelled_types, labelled_entry_points}
use Rattle.naga_naming.specs.Reset.{labelled_functions, labelled_globals, labelled_declarations}
use Rattle.naga_naming.specs.Reset.{labelled_values, type_name, is_external, labelled_argument}
use Rattle.naga_naming.specs.Reset.{labelled_arguments, labelled_locals, labelled_function}
use Rattle.naga_naming.specs.Reset.{labelled_entry_arguments, labelled_entry_locals}
use Rattle.naga_naming.specs.Reset.{labelled_entry_point, labelled_global, value_label}
use Rattle.naga_naming.specs.Reset.{labelled_constants, labelled_overrides}
use Rattle.naga_naming.specs.Refusal.{KeysRunOut, SomeKeyIsFull}
use Rattle.naga_naming.proofs.Keys.{all_append, with_parts_all}
use Rattle.naga_naming.proofs.Members.{in_module}
use Rattle.naga_naming.proofs.Reset.{not_below, or_not_this}
use Rattle.naga_naming.proofs.NamedItems.{argument_stands, entry_point_stands, entry_argument_stands}

-- what stands in a list below its length
pub element : {X : Type 0} (xs : List X) (n : ℕ) → n < length xs → (x : X) × (slice_get xs n ≡ Some x)
element [] n lt = absurd (omega (arith, lt))
element (x ∷ xs) zero lt = (x, refl)
element (x ∷ xs) (suc n) lt = element xs n (omega (arith, lt))

one_unfit : (items : List LabelledItem) (i : ℕ) (item : LabelledItem) → slice_get items i ≡ Some item →
    key_fits item.0 ≡ false → keys_fit items ≡ false
one_unfit [] i item e unfit = absurd (none-some item e)
one_unfit (x ∷ items) zero item e unfit =
    ap (λ b. b && keys_fit items) (ap (λ (y : LabelledItem). key_fits y.0) (ap (λ o. unwrap_or o x) e) ∙ unfit)
one_unfit (x ∷ items) (suc i) item e unfit = or_not_this (key_fits x.0) (keys_fit items)
    (one_unfit items i item e unfit)

-- ---- a list that is too long
module _ (start : Names) («module» : Module) where
  pub run_out_unfit : KeysRunOut «module» → SomeKeyIsFull (labelled_items start «module»)
  run_out_unfit (inl long) =
      let last = element «module».entry_points.items (2 ^ 16) long in
      let s = entry_point_stands start «module» (2 ^ 16) last.0 last.1 in
      one_unfit (labelled_items start «module») s.index (key.EntryPoint (2 ^ 16), string_bytes last.0.name)
      s.there (not_below (2 ^ 16) (2 ^ 16) (λ lt. omega (arith, lt)))
  run_out_unfit (inr (inl long)) =
      let last = element (members_of long.ty.inner) (2 ^ 32) long.long in
      let s = in_module start «module» long.index long.ty long.there (2 ^ 32) last.0 last.1 in
      one_unfit (labelled_items start «module») s.index
      (key.StructMember long.index (2 ^ 32), member_label last.0) s.there
      (not_below (2 ^ 32) (2 ^ 32) (λ lt. omega (arith, lt)))
  run_out_unfit (inr (inr (inl long))) =
      let last = element long.function.arguments.items (2 ^ 32) long.long in
      let s = argument_stands start «module» long.index long.function (2 ^ 32) last.0 long.there last.1 in
      one_unfit (labelled_items start «module») s.index
      (key.FunctionArgument long.index (2 ^ 32), label_or last.0.name (codes "param")) s.there
      (not_below (2 ^ 32) (2 ^ 32) (λ lt. omega (arith, lt)))
  run_out_unfit (inr (inr (inr long))) =
      let last = element long.entry_point.function.arguments.items (2 ^ 32) long.long in
      let s = entry_argument_stands start «module» long.index long.entry_point (2 ^ 32) last.0 long.there last.1 in
      one_unfit (labelled_items start «module») s.index
      (key.EntryPointArgument long.index (2 ^ 32), label_or last.0.name (codes "param")) s.there
      (or_not_this (nat_lt long.index (2 ^ 16)) (nat_lt (2 ^ 32) (2 ^ 32))
      (not_below (2 ^ 32) (2 ^ 32) (λ lt. omega (arith, lt))))

-- ---- where a key does not fit
module _ (P : LabelledItem → Type 0) where
  sections_in : {X : Type 0} (section : ℕ → X → List LabelledItem) (n : ℕ) (xs : List X) →
      ((i : ℕ) (x : X) → slice_get xs i ≡ Some x → AllByRecursion P (section (n + i) x)) →
      AllByRecursion P (flat_map (λ p. section p.0 p.1) (enumerate_from n xs))
  sections_in section n [] each = tt
  sections_in section n (x ∷ xs) each =
      let here : n + 0 ≡ n = omega arith in
      all_append P (section n x) (flat_map (λ p. section p.0 p.1) (enumerate_from (n + 1) xs))
      (subst (λ k. AllByRecursion P (section k x)) here (each 0 x refl))
      (sections_in section (n + 1) xs (λ i y e. let next : n + suc i ≡ n + 1 + i = omega arith in subst
      (λ k. AllByRecursion P (section k y)) next (each (suc i) y e)))

  entries_in : {X : Type 0} (entry : ℕ → X → LabelledItem) (n : ℕ) (xs : List X) →
      ((i : ℕ) (x : X) → slice_get xs i ≡ Some x → P (entry (n + i) x)) →
      AllByRecursion P (map (λ p. entry p.0 p.1) (enumerate_from n xs))
  entries_in entry n [] each = tt
  entries_in entry n (x ∷ xs) each =
      let here : n + 0 ≡ n = omega arith in (
        subst (λ k. P (entry k x)) here (each 0 x refl),
        entries_in entry (n + 1) xs (λ i y e. let next : n + suc i ≡ n + 1 + i = omega arith in subst
            (λ k. P (entry k y)) next (each (suc i) y e)),
      )

found_unfit : (R : Type 0) (items : List LabelledItem) →
    AllByRecursion (λ (item : LabelledItem). key_fits item.0 ≡ false → R) items → keys_fit items ≡ false → R
found_unfit R [] all e = absurd (true≢false e)
found_unfit R (x ∷ items) all e = either (λ f. found_unfit R items all.1 f) (key_fits x.0) refl e
  where
    either : (keys_fit items ≡ false → R) → (b : Bool) → key_fits x.0 ≡ b → (b && keys_fit items) ≡ false → R
    either rest true is e = rest e
    either rest false is e = all.0 is

one_of : (a b : Bool) → (a && b) ≡ false → (a ≡ false) ⊎ (b ≡ false)
one_of true b e = inr e
one_of false b e = inl refl

too_long : (n bound long : ℕ) → n < long → nat_lt (0 + n) bound ≡ false → bound < long
too_long n bound long lt unfit =
    let past : bound ≤ 0 + n = ltb-false (0 + n) bound unfit in
    omega (arith, past, lt)

module _ (start : Names) («module» : Module) where
  abbrev Unfit : LabelledItem → Type 0
  Unfit item = key_fits item.0 ≡ false → KeysRunOut «module»

  types_unfit : AllByRecursion Unfit (labelled_types «module».entry_points.items «module».types)
  types_unfit = sections_in Unfit (labelled_type «module».entry_points.items) 0 «module».types (λ t ty found. (
    λ unfit. absurd (true≢false unfit),
    entries_in Unfit (λ n (m : StructMember). (key.StructMember (0 + t) n, member_label m)) 0 (members_of ty.inner)
        (λ n m there unfit. inr
        (inl (record {
          index = t;
          ty = ty;
          there = found;
          long =
              too_long n (2 ^ 32) (length (members_of ty.inner))
              (slice_get_within (members_of ty.inner) n m there) unfit;
        }))),
  ))

  entry_points_unfit : AllByRecursion Unfit (labelled_entry_points «module».entry_points.items)
  entry_points_unfit = sections_in Unfit labelled_entry_point 0 «module».entry_points.items (λ e p found.
      let long = slice_get_within «module».entry_points.items e p found in
      let arguments = p.function.arguments.items in (
        λ unfit. inl (too_long e (2 ^ 16) (length «module».entry_points.items) long unfit),
        all_append Unfit (labelled_entry_arguments (0 + e) arguments)
            (labelled_entry_locals (0 + e) p.function.local_variables)
            (entries_in Unfit (λ n (a : FunctionArgument).
            (key.EntryPointArgument (0 + e) n, label_or a.name (codes "param"))) 0 arguments
            (λ n a there unfit. either e p found long n (slice_get_within arguments n a there)
            (one_of (nat_lt (0 + e) (2 ^ 16)) (nat_lt (0 + n) (2 ^ 32)) unfit)))
            (entries_in Unfit (λ l (v : LocalVariable).
            (key.EntryPointLocal (0 + e) l, label_or v.name (codes "local"))) 0 p.function.local_variables
            (λ l v there unfit. inl (too_long e (2 ^ 16) (length «module».entry_points.items) long unfit))),
      ))
    where
      either : (e : ℕ) (p : EntryPoint) → slice_get «module».entry_points.items e ≡ Some p →
          e < length «module».entry_points.items → (n : ℕ) → n < length p.function.arguments.items →
          (nat_lt (0 + e) (2 ^ 16) ≡ false) ⊎ (nat_lt (0 + n) (2 ^ 32) ≡ false) →
          KeysRunOut «module»
      either e p found lt n few (inl unfit) = inl (too_long e (2 ^ 16) (length «module».entry_points.items) lt unfit)
      either e p found lt n few (inr unfit) =
          inr (inr (inr
          (record {
            index = e;
            entry_point = p;
            there = found;
            long = too_long n (2 ^ 32) (length p.function.arguments.items) few unfit;
          })))

  functions_unfit : AllByRecursion Unfit (labelled_functions «module».types «module».functions)
  functions_unfit = sections_in Unfit (labelled_function «module».types) 0 «module».functions (λ h f found.
      let arguments = f.arguments.items in (
        λ unfit. absurd (true≢false unfit),
        all_append Unfit (labelled_arguments «module».types (0 + h) arguments)
            (labelled_locals (0 + h) f.local_variables)
            (sections_in Unfit (labelled_argument «module».types (0 + h)) 0 arguments (λ n a there.
            let long : nat_lt (0 + n) (2 ^ 32) ≡ false → KeysRunOut «module» =
            λ unfit. inr
            (inr (inl (record {
              index = h;
              function = f;
              there = found;
              long =
                  too_long n (2 ^ 32) (length arguments) (slice_get_within arguments n a there)
                  unfit;
            }))) in
            with_parts_all (is_external «module».types a.ty)
            (key.ExternalTextureFunctionArgument (0 + h) (0 + n))
            (key.FunctionArgument (0 + h) (0 + n), label_or a.name (codes "param")) Unfit long
            (λ part label. long)))
            (entries_in Unfit (λ l (v : LocalVariable).
            (key.FunctionLocal (0 + h) l, label_or v.name (codes "local"))) 0 f.local_variables
            (λ l v there unfit. absurd (true≢false unfit))),
      ))

  globals_unfit : AllByRecursion Unfit (labelled_globals «module».types «module».global_variables)
  globals_unfit = sections_in Unfit (labelled_global «module».types) 0 «module».global_variables (λ g v found.
      with_parts_all (is_external «module».types v.ty) (key.ExternalTextureGlobalVariable (0 + g))
      (key.GlobalVariable (0 + g), label_or v.name (codes "global")) Unfit
      (λ unfit. absurd (true≢false unfit)) (λ part label unfit. absurd (true≢false unfit)))

  values_unfit : AllByRecursion Unfit (labelled_values (type_name start «module») «module»)
  values_unfit =
      let names = type_name start «module» in
      all_append Unfit (labelled_constants names «module».constants) (labelled_overrides names «module».overrides)
      (entries_in Unfit (λ c (v : Constant). (key.Constant c, value_label names (codes "const_") v.name v.ty)) 0
      «module».constants (λ c v there unfit. absurd (true≢false unfit)))
      (entries_in Unfit (λ o (v : Override).
      (key.Override o, value_label names (codes "override_") v.name v.ty)) 0 «module».overrides
      (λ o v there unfit. absurd (true≢false unfit)))

  pub unfit_run_out : SomeKeyIsFull (labelled_items start «module») → KeysRunOut «module»
  unfit_run_out unfit =
      let m = «module» in
      found_unfit (KeysRunOut m) (labelled_items start m)
      (all_append Unfit (labelled_declarations m) (labelled_values (type_name start m) m)
      (all_append Unfit (labelled_types m.entry_points.items m.types)
      (labelled_entry_points m.entry_points.items ++
      (labelled_functions m.types m.functions ++ labelled_globals m.types m.global_variables))
      types_unfit
      (all_append Unfit (labelled_entry_points m.entry_points.items)
      (labelled_functions m.types m.functions ++ labelled_globals m.types m.global_variables) entry_points_unfit
      (all_append Unfit (labelled_functions m.types m.functions) (labelled_globals m.types m.global_variables)
      functions_unfit globals_unfit)))
      values_unfit) unfit
