-- Keys of names tell each other apart.
use Rattle.std.proofs.Common.{◌≡◌, ℕ, ◌<◌, ◌≤◌, Bool, true, false, cond, ◌&&◌, List, [], ◌∷◌, ◌++◌}
use Rattle.std.proofs.Common.{refl, sym, ap, subst, ◌∙◌, arith, codes, ◌+◌, map, ◌==◌, get_or}
use Rattle.std.proofs.Common.{string_bytes}
use Rattle.std.specs.List.{flat_map, enumerate_from, AllByRecursion}
use Rattle.std.specs.Cmp.{IsEquivalence}
use Rattle.std.proofs.lemmas.Bool.{and_parts}
use Rattle.naga_ir.specs.declared.module.Module.{Module}
use Rattle.naga_ir.specs.declared.module.Function.{Function as AFunction}
use Rattle.naga_ir.specs.declared.module.FunctionArgument.{FunctionArgument as AnArgument}
use Rattle.naga_ir.specs.declared.types.StructMember.{StructMember as AMember}
use Rattle.naga_ir.specs.declared.types.Type_.{Type_ as AType}
use borrow.Author.Tests.{eqb-true}
use Rattle.naga_naming.specs.declared.key.NameKey.{NameKey}
use Rattle.naga_naming.specs.declared.key.NameKey.TheVariants.{Constant, Override, GlobalVariable}
use Rattle.naga_naming.specs.declared.key.NameKey.TheVariants.{Type_, StructMember, Function}
use Rattle.naga_naming.specs.declared.key.NameKey.TheVariants.{FunctionArgument, FunctionLocal}
use Rattle.naga_naming.specs.declared.key.NameKey.TheVariants.{FunctionOobLocal, EntryPoint}
use Rattle.naga_naming.specs.declared.key.NameKey.TheVariants.{EntryPointLocal, EntryPointArgument}
use Rattle.naga_naming.specs.declared.key.NameKey.TheVariants.{EntryPointOobLocal}
use Rattle.naga_naming.specs.declared.key.NameKey.TheVariants.{ExternalTextureGlobalVariable}
use Rattle.naga_naming.specs.declared.key.NameKey.TheVariants.{ExternalTextureFunctionArgument}
use Rattle.naga_naming.specs.declared.key.ExternalTextureNameKey.{ExternalTextureNameKey}
use Rattle.naga_naming.specs.declared.key.ExternalTextureNameKey.TheVariants.{Plane, Params}
use Rattle.naga_naming.specs.contracts.key.ExternalTextureNameKeyPartialEq.TheImpl as part_eq
use Rattle.naga_naming.specs.contracts.key.NameKeyEq.TheImpl.Laws.{laws-law}
use Rattle.naga_naming.specs.Naming.{label_or, Names}
use Rattle.naga_naming.specs.Keys.{same_key}
use Rattle.naga_naming.specs.Reset.{LabelledItem, labelled_items, member_label, labelled_members}
use Rattle.naga_naming.specs.Reset.{members_of, labelled_type, labelled_types, labelled_entry_points}
use Rattle.naga_naming.specs.Reset.{labelled_functions, labelled_globals, labelled_declarations}
use Rattle.naga_naming.specs.Reset.{labelled_values, type_label, type_name, is_external}
use Rattle.naga_naming.specs.Reset.{labelled_parts, with_parts, labelled_argument}
use Rattle.naga_naming.specs.Reset.{labelled_arguments, labelled_locals, labelled_function}
use Rattle.naga_naming.specs.Reset.{labelled_entry_arguments, labelled_entry_locals}
use Rattle.naga_naming.specs.Reset.{labelled_entry_point, labelled_global, value_label}
use Rattle.naga_naming.specs.Reset.{labelled_constants, labelled_overrides}
use Rattle.naga_ir.specs.declared.module.Constant.{Constant as AConstant}
use Rattle.naga_ir.specs.declared.module.Override.{Override as AnOverride}
use Rattle.naga_ir.specs.declared.module.EntryPoint.{EntryPoint as AnEntryPoint}
use Rattle.naga_ir.specs.declared.module.GlobalVariable.{GlobalVariable as AGlobal}
use Rattle.naga_ir.specs.declared.module.LocalVariable.{LocalVariable as ALocal}

abbrev pub part_code : ExternalTextureNameKey → ℕ
part_code (Plane n) = n + 2
part_code Params = 1

-- the group of a key (types, entry points, functions, globals, constants, overrides), its owner's
-- index, and what of the owner it is for: the kind, the index among that kind, and the part
abbrev pub key_code : NameKey → List ℕ
key_code (Type_ t) = 0 ∷ t ∷ 0 ∷ 0 ∷ 0 ∷ []
key_code (StructMember t n) = 0 ∷ t ∷ 1 ∷ n ∷ 0 ∷ []
key_code (EntryPoint e) = 1 ∷ e ∷ 0 ∷ 0 ∷ 0 ∷ []
key_code (EntryPointArgument e n) = 1 ∷ e ∷ 1 ∷ n ∷ 0 ∷ []
key_code (EntryPointLocal e l) = 1 ∷ e ∷ 2 ∷ l ∷ 0 ∷ []
key_code (EntryPointOobLocal e t) = 1 ∷ e ∷ 3 ∷ t ∷ 0 ∷ []
key_code (Function f) = 2 ∷ f ∷ 0 ∷ 0 ∷ 0 ∷ []
key_code (FunctionArgument f n) = 2 ∷ f ∷ 1 ∷ n ∷ 0 ∷ []
key_code (ExternalTextureFunctionArgument f n x) = 2 ∷ f ∷ 1 ∷ n ∷ part_code x ∷ []
key_code (FunctionLocal f l) = 2 ∷ f ∷ 2 ∷ l ∷ 0 ∷ []
key_code (FunctionOobLocal f t) = 2 ∷ f ∷ 3 ∷ t ∷ 0 ∷ []
key_code (GlobalVariable g) = 3 ∷ g ∷ 0 ∷ 0 ∷ 0 ∷ []
key_code (ExternalTextureGlobalVariable g x) = 3 ∷ g ∷ 0 ∷ 0 ∷ part_code x ∷ []
key_code (Constant c) = 4 ∷ c ∷ 0 ∷ 0 ∷ 0 ∷ []
key_code (Override o) = 5 ∷ o ∷ 0 ∷ 0 ∷ 0 ∷ []

wrong : {A : Type 0} → false ≡ true → A
wrong e = absurd (cc)

one : (a b : ℕ) → ((a == b) && true) ≡ true → a ≡ b
one a b e = eqb-true a b (and_parts (a == b) true e).0

pub same_part : (x y : ExternalTextureNameKey) → part_eq.eq-value.it x y ≡ true → part_code x ≡ part_code y
same_part (Plane m) (Plane n) e = ap (λ k. k + 2) (eqb-true m n e)
same_part Params Params e = refl
same_part x y e = wrong e

handle_then : (t u n m : ℕ) → (((t == u) && true) && (n == m)) ≡ true → (t ≡ u) × (n ≡ m)
handle_then t u n m e = let p = and_parts ((t == u) && true) (n == m) e in (one t u p.0, eqb-true n m p.1)

handle_then_handle : (t u n m : ℕ) → (((t == u) && true) && ((n == m) && true)) ≡ true → (t ≡ u) × (n ≡ m)
handle_then_handle t u n m e = let p = and_parts ((t == u) && true) ((n == m) && true) e in (one t u p.0, one n m p.1)

then_number : (t u n m : ℕ) → ((t == u) && (n == m)) ≡ true → (t ≡ u) × (n ≡ m)
then_number t u n m e = let p = and_parts (t == u) (n == m) e in (eqb-true t u p.0, eqb-true n m p.1)

then_handle : (t u n m : ℕ) → ((t == u) && ((n == m) && true)) ≡ true → (t ≡ u) × (n ≡ m)
then_handle t u n m e = let p = and_parts (t == u) ((n == m) && true) e in (eqb-true t u p.0, one n m p.1)

pub same_code : (a b : NameKey) → same_key a b ≡ true → key_code a ≡ key_code b
same_code (Type_ t) (Type_ u) e = ap (λ x. 0 ∷ x ∷ 0 ∷ 0 ∷ 0 ∷ []) (one t u e)
same_code (Constant t) (Constant u) e = ap (λ x. 4 ∷ x ∷ 0 ∷ 0 ∷ 0 ∷ []) (one t u e)
same_code (Override t) (Override u) e = ap (λ x. 5 ∷ x ∷ 0 ∷ 0 ∷ 0 ∷ []) (one t u e)
same_code (GlobalVariable t) (GlobalVariable u) e = ap (λ x. 3 ∷ x ∷ 0 ∷ 0 ∷ 0 ∷ []) (one t u e)
same_code (Function t) (Function u) e = ap (λ x. 2 ∷ x ∷ 0 ∷ 0 ∷ 0 ∷ []) (one t u e)
same_code (EntryPoint t) (EntryPoint u) e = ap (λ x. 1 ∷ x ∷ 0 ∷ 0 ∷ 0 ∷ []) (eqb-true t u e)
same_code (StructMember t n) (StructMember u m) e = let s = handle_then t u n m e in λ i. 0 ∷ s.0 i ∷ 1 ∷ s.1 i ∷ 0 ∷ []
same_code (EntryPointArgument t n) (EntryPointArgument u m) e = let s = then_number t u n m e in
    λ i. 1 ∷ s.0 i ∷ 1 ∷ s.1 i ∷ 0 ∷ []
same_code (EntryPointLocal t n) (EntryPointLocal u m) e = let s = then_handle t u n m e in
    λ i. 1 ∷ s.0 i ∷ 2 ∷ s.1 i ∷ 0 ∷ []
same_code (EntryPointOobLocal t n) (EntryPointOobLocal u m) e = let s = then_handle t u n m e in
    λ i. 1 ∷ s.0 i ∷ 3 ∷ s.1 i ∷ 0 ∷ []
same_code (FunctionArgument t n) (FunctionArgument u m) e = let s = handle_then t u n m e in
    λ i. 2 ∷ s.0 i ∷ 1 ∷ s.1 i ∷ 0 ∷ []
same_code (FunctionLocal t n) (FunctionLocal u m) e = let s = handle_then_handle t u n m e in
    λ i. 2 ∷ s.0 i ∷ 2 ∷ s.1 i ∷ 0 ∷ []
same_code (FunctionOobLocal t n) (FunctionOobLocal u m) e = let s = handle_then_handle t u n m e in
    λ i. 2 ∷ s.0 i ∷ 3 ∷ s.1 i ∷ 0 ∷ []
same_code (ExternalTextureGlobalVariable t x) (ExternalTextureGlobalVariable u y) e =
    let p = and_parts ((t == u) && true) (part_eq.eq-value.it x y) e in
    let a = one t u p.0 in
    let b = same_part x y p.1 in
    λ i. 3 ∷ a i ∷ 0 ∷ 0 ∷ b i ∷ []
same_code (ExternalTextureFunctionArgument t n x) (ExternalTextureFunctionArgument u m y) e =
    let p = and_parts ((t == u) && true) ((n == m) && part_eq.eq-value.it x y) e in
    let q = and_parts (n == m) (part_eq.eq-value.it x y) p.1 in
    let a = one t u p.0 in
    let c = eqb-true n m q.0 in
    let b = same_part x y q.1 in
    λ i. 2 ∷ a i ∷ 1 ∷ c i ∷ b i ∷ []
same_code a b e = wrong e

-- the test of keys is an equivalence
pub same_key_laws : IsEquivalence same_key
same_key_laws = laws-law

-- ---- items with different keys
-- no key stands twice
abbrev pub AreApart : List LabelledItem → Type 0
AreApart [] = Unit
AreApart (x ∷ xs) = AllByRecursion (λ y. same_key x.0 y.0 ≡ false) xs × AreApart xs

module _ {P Q : LabelledItem → Type 0} where
  pub all_weaken : ((x : LabelledItem) → P x → Q x) → (xs : List LabelledItem) → AllByRecursion P xs →
      AllByRecursion Q xs
  all_weaken f [] all = tt
  all_weaken f (x ∷ xs) all = (f x all.0, all_weaken f xs all.1)

module _ (P : LabelledItem → Type 0) where
  pub all_append : (xs ys : List LabelledItem) → AllByRecursion P xs → AllByRecursion P ys → AllByRecursion P (xs ++ ys)
  all_append [] ys x y = y
  all_append (a ∷ xs) ys x y = (x.0, all_append xs ys x.1 y)

  -- what holds of each section holds of all
  pub each_section : {X : Type 0} (section : ℕ → X → List LabelledItem) →
      ((n : ℕ) (x : X) → AllByRecursion P (section n x)) → (n : ℕ) (xs : List X) →
      AllByRecursion P (flat_map (λ p. section p.0 p.1) (enumerate_from n xs))
  each_section section each n [] = tt
  each_section section each n (x ∷ xs) =
      all_append (section n x) (flat_map (λ p. section p.0 p.1) (enumerate_from (n + 1) xs)) (each n x)
      (each_section section each (n + 1) xs)

module _ (f : NameKey → ℕ) (same : (a b : NameKey) → same_key a b ≡ true → f a ≡ f b) where
  different : (a b : NameKey) → (f a ≡ f b → ⊥) → same_key a b ≡ false
  different a b apart = either (same_key a b) refl
    where
      either : (t : Bool) → same_key a b ≡ t → t ≡ false
      either true e = absurd (apart (same a b e))
      either false e = refl

  below : (a : NameKey) (m : ℕ) → f a < m → (ys : List LabelledItem) → AllByRecursion (λ y. m ≤ f y.0) ys →
      AllByRecursion (λ y. same_key a y.0 ≡ false) ys
  below a m lt [] all = tt
  below a m lt (y ∷ ys) all = let le = all.0 in (different a y.0 (λ e. omega (arith, e, lt, le)), below a m lt ys all.1)

  pub apart_append : (m : ℕ) (xs ys : List LabelledItem) → AllByRecursion (λ x. f x.0 < m) xs →
      AllByRecursion (λ y. m ≤ f y.0) ys → AreApart xs → AreApart ys → AreApart (xs ++ ys)
  apart_append m [] ys low high x y = y
  apart_append m (a ∷ xs) ys low high x y = (
    all_append (λ y. same_key a.0 y.0 ≡ false) xs ys x.0 (below a.0 m low.0 ys high),
    apart_append m xs ys low.1 high x.1 y,
  )

  module _ {X : Type 0} (section : ℕ → X → List LabelledItem)
      (own : (n : ℕ) (x : X) → AllByRecursion (λ item. f item.0 ≡ n) (section n x))
      (apart : (n : ℕ) (x : X) → AreApart (section n x)) where
    from_on : (n m : ℕ) → m ≤ n → (xs : List X) →
        AllByRecursion (λ item. m ≤ f item.0) (flat_map (λ p. section p.0 p.1) (enumerate_from n xs))
    from_on n m le [] = tt
    from_on n m le (x ∷ xs) =
        all_append (λ item. m ≤ f item.0) (section n x) (flat_map (λ p. section p.0 p.1) (enumerate_from (n + 1) xs))
        (all_weaken (λ item e. omega (arith, le, e)) (section n x) (own n x)) (from_on (n + 1) m (omega (arith, le)) xs)

    -- sections that each have a number of their own
    pub sections_apart : (n : ℕ) (xs : List X) → AreApart (flat_map (λ p. section p.0 p.1) (enumerate_from n xs))
    sections_apart n [] = tt
    sections_apart n (x ∷ xs) =
        apart_append (n + 1) (section n x) (flat_map (λ p. section p.0 p.1) (enumerate_from (n + 1) xs))
        (all_weaken (λ item e. omega (arith, e)) (section n x) (own n x)) (from_on (n + 1) (n + 1) (omega arith) xs)
        (apart n x) (sections_apart (n + 1) xs)

-- the numbers of a key's code
abbrev pub digit_of : ℕ → NameKey → ℕ
digit_of i k = get_or (key_code k) i 0

pub same_digit : (i : ℕ) (a b : NameKey) → same_key a b ≡ true → digit_of i a ≡ digit_of i b
same_digit i a b e = ap (λ c. get_or c i 0) (same_code a b e)

-- types at two indices have different keys
pub unlike_types : (t u : ℕ) → (t ≡ u → ⊥) → same_key (Type_ t) (Type_ u) ≡ false
unlike_types t u apart = different (digit_of 1) (same_digit 1) (Type_ t) (Type_ u) apart

-- ---- the items of a module
pub single : {A : Type 0} (g : A → LabelledItem) (xs : List A) → flat_map (λ a. g a ∷ []) xs ≡ map g xs
single g [] = refl
single g (x ∷ xs) = ap (λ items. g x ∷ items) (single g xs)

module _ {X : Type 0} (entry : ℕ → X → LabelledItem) where
  entries_all : (P : LabelledItem → Type 0) → ((n : ℕ) (x : X) → P (entry n x)) → (n : ℕ) (xs : List X) →
      AllByRecursion P (map (λ p. entry p.0 p.1) (enumerate_from n xs))
  entries_all P each n [] = tt
  entries_all P each n (x ∷ xs) = (each n x, entries_all P each (n + 1) xs)

  entries_apart : (i : ℕ) → ((n : ℕ) (x : X) → digit_of i (entry n x).0 ≡ n) → (xs : List X) →
      AreApart (map (λ p. entry p.0 p.1) (enumerate_from 0 xs))
  entries_apart i own xs = subst AreApart (single (λ p. entry p.0 p.1) (enumerate_from 0 xs))
      (sections_apart (digit_of i) (same_digit i) (λ n x. entry n x ∷ []) (λ n x. (own n x, tt))
      (λ n x. (tt, tt)) 0 xs)

unlike : (a b : NameKey) (m n : ℕ) → digit_of 4 a ≡ m → digit_of 4 b ≡ n → (m ≡ n → ⊥) → same_key a b ≡ false
unlike a b m n e f apart = different (digit_of 4) (same_digit 4) a b (λ same. apart (sym e ∙ same ∙ f))

module _ (external : Bool) (make : ExternalTextureNameKey → NameKey) (item : LabelledItem) where
  pub with_parts_all : (P : LabelledItem → Type 0) → P item →
      ((part : ExternalTextureNameKey) (label : List ℕ) → P (make part, label)) →
      AllByRecursion P (with_parts external make item)
  with_parts_all P own each = (own, either external)
    where
      either : (b : Bool) → AllByRecursion P (cond b (labelled_parts make item.1) [])
      either true = (each (Plane 0) _, (each (Plane 1) _, (each (Plane 2) _, (each Params _, tt))))
      either false = tt

  with_parts_apart : digit_of 4 item.0 ≡ 0 →
      ((part : ExternalTextureNameKey) → digit_of 4 (make part) ≡ part_code part) →
      AreApart (with_parts external make item)
  with_parts_apart none own = either external
    where
      apart : (p q : ExternalTextureNameKey) → (part_code p ≡ part_code q → ⊥) → same_key (make p) (make q) ≡ false
      apart p q differ = unlike (make p) (make q) (part_code p) (part_code q) (own p) (own q) differ

      first : (p : ExternalTextureNameKey) → (0 ≡ part_code p → ⊥) → same_key item.0 (make p) ≡ false
      first p differ = unlike item.0 (make p) 0 (part_code p) none (own p) differ

      either : (b : Bool) → AreApart (item ∷ cond b (labelled_parts make item.1) [])
      either true = (
        (
          first (Plane 0) (λ e. omega (arith, e)),
          (
            first (Plane 1) (λ e. omega (arith, e)),
            (first (Plane 2) (λ e. omega (arith, e)), (first Params (λ e. omega (arith, e)), tt)),
          ),
        ),
        (
          (
            apart (Plane 0) (Plane 1) (λ e. omega (arith, e)),
            (
              apart (Plane 0) (Plane 2) (λ e. omega (arith, e)),
              (apart (Plane 0) Params (λ e. omega (arith, e)), tt),
            ),
          ),
          (
            (apart (Plane 1) (Plane 2) (λ e. omega (arith, e)), (apart (Plane 1) Params (λ e. omega (arith, e)), tt)),
            ((apart (Plane 2) Params (λ e. omega (arith, e)), tt), (tt, tt)),
          ),
        ),
      )
      either false = (tt, tt)

-- ---- functions
module _ (types : List AType) (h : ℕ) where
  arguments_all : (P : LabelledItem → Type 0) →
      ((n : ℕ) (label : List ℕ) → P (FunctionArgument h n, label)) →
      ((n : ℕ) (part : ExternalTextureNameKey) (label : List ℕ) →
      P (ExternalTextureFunctionArgument h n part, label)) → (arguments : List AnArgument) →
      AllByRecursion P (labelled_arguments types h arguments)
  arguments_all P own each arguments =
      each_section P (labelled_argument types h)
      (λ n a. with_parts_all (is_external types a.ty) (ExternalTextureFunctionArgument h n)
      (FunctionArgument h n, label_or a.name (codes "param")) P (own n _) (each n)) 0 arguments

  arguments_apart : (arguments : List AnArgument) → AreApart (labelled_arguments types h arguments)
  arguments_apart arguments =
      sections_apart (digit_of 3) (same_digit 3) (labelled_argument types h)
      (λ n a. with_parts_all (is_external types a.ty) (ExternalTextureFunctionArgument h n)
      (FunctionArgument h n, label_or a.name (codes "param")) (λ item. digit_of 3 item.0 ≡ n)
      refl (λ part label. refl))
      (λ n a. with_parts_apart (is_external types a.ty) (ExternalTextureFunctionArgument h n)
      (FunctionArgument h n, label_or a.name (codes "param")) refl (λ part. refl)) 0 arguments

  function_all : (P : LabelledItem → Type 0) → ((label : List ℕ) → P (Function h, label)) →
      ((n : ℕ) (label : List ℕ) → P (FunctionArgument h n, label)) →
      ((n : ℕ) (part : ExternalTextureNameKey) (label : List ℕ) →
      P (ExternalTextureFunctionArgument h n part, label)) →
      ((l : ℕ) (label : List ℕ) → P (FunctionLocal h l, label)) → (function : AFunction) →
      AllByRecursion P (labelled_function types h function)
  function_all P own arguments parts locals function = (
    own _,
    all_append P (labelled_arguments types h function.arguments.items)
        (labelled_locals h function.local_variables) (arguments_all P arguments parts function.arguments.items)
        (entries_all (λ l (v : ALocal). (FunctionLocal h l, label_or v.name (codes "local"))) P
        (λ l v. locals l _) 0 function.local_variables),
  )

  function_apart : (function : AFunction) → AreApart (labelled_function types h function)
  function_apart function =
      let arguments = labelled_arguments types h function.arguments.items in
      let locals = labelled_locals h function.local_variables in
      let locals_kind = entries_all (λ l (v : ALocal). (FunctionLocal h l, label_or v.name (codes "local"))) in
      apart_append (digit_of 2) (same_digit 2) 1 ((Function h, label_or function.name (codes "function")) ∷ [])
      (arguments ++ locals) (omega arith, tt)
      (all_append (λ y. 1 ≤ digit_of 2 y.0) arguments locals
      (arguments_all (λ y. 1 ≤ digit_of 2 y.0) (λ n label. omega arith)
      (λ n part label. omega arith) function.arguments.items)
      (locals_kind (λ y. 1 ≤ digit_of 2 y.0) (λ l v. omega arith) 0 function.local_variables))
      (tt, tt)
      (apart_append (digit_of 2) (same_digit 2) 2 arguments locals
      (arguments_all (λ y. digit_of 2 y.0 < 2) (λ n label. omega arith) (λ n part label. omega arith)
      function.arguments.items)
      (locals_kind (λ y. 2 ≤ digit_of 2 y.0) (λ l v. omega arith) 0 function.local_variables)
      (arguments_apart function.arguments.items)
      (entries_apart (λ l (v : ALocal). (FunctionLocal h l, label_or v.name (codes "local"))) 3
      (λ l v. refl) function.local_variables))

functions_all : (types : List AType) (P : LabelledItem → Type 0) →
    ((h : ℕ) (label : List ℕ) → P (Function h, label)) →
    ((h n : ℕ) (label : List ℕ) → P (FunctionArgument h n, label)) →
    ((h n : ℕ) (part : ExternalTextureNameKey) (label : List ℕ) →
    P (ExternalTextureFunctionArgument h n part, label)) →
    ((h l : ℕ) (label : List ℕ) → P (FunctionLocal h l, label)) → (functions : List AFunction) →
    AllByRecursion P (labelled_functions types functions)
functions_all types P own arguments parts locals functions =
    each_section P (labelled_function types)
    (λ h f. function_all types h P (own h) (arguments h) (parts h) (locals h) f) 0 functions

functions_apart : (types : List AType) (functions : List AFunction) → AreApart (labelled_functions types functions)
functions_apart types functions =
    sections_apart (digit_of 1) (same_digit 1) (labelled_function types)
    (λ h f. function_all types h (λ item. digit_of 1 item.0 ≡ h) (λ label. refl) (λ n label. refl)
    (λ n part label. refl) (λ l label. refl) f) (function_apart types) 0 functions

-- ---- entry points
module _ (e : ℕ) where
  entry_point_all : (P : LabelledItem → Type 0) → ((label : List ℕ) → P (EntryPoint e, label)) →
      ((n : ℕ) (label : List ℕ) → P (EntryPointArgument e n, label)) →
      ((l : ℕ) (label : List ℕ) → P (EntryPointLocal e l, label)) → (entry_point : AnEntryPoint) →
      AllByRecursion P (labelled_entry_point e entry_point)
  entry_point_all P own arguments locals entry_point = (
    own _,
    all_append P (labelled_entry_arguments e entry_point.function.arguments.items)
        (labelled_entry_locals e entry_point.function.local_variables)
        (entries_all (λ n (a : AnArgument). (EntryPointArgument e n, label_or a.name (codes "param"))) P
        (λ n a. arguments n _) 0 entry_point.function.arguments.items)
        (entries_all (λ l (v : ALocal). (EntryPointLocal e l, label_or v.name (codes "local"))) P
        (λ l v. locals l _) 0 entry_point.function.local_variables),
  )

  entry_point_apart : (entry_point : AnEntryPoint) → AreApart (labelled_entry_point e entry_point)
  entry_point_apart entry_point =
      let arguments = labelled_entry_arguments e entry_point.function.arguments.items in
      let locals = labelled_entry_locals e entry_point.function.local_variables in
      let arguments_kind =
      entries_all (λ n (a : AnArgument). (EntryPointArgument e n, label_or a.name (codes "param"))) in
      let locals_kind = entries_all (λ l (v : ALocal). (EntryPointLocal e l, label_or v.name (codes "local"))) in
      apart_append (digit_of 2) (same_digit 2) 1 ((EntryPoint e, string_bytes entry_point.name) ∷ [])
      (arguments ++ locals) (omega arith, tt)
      (all_append (λ y. 1 ≤ digit_of 2 y.0) arguments locals
      (arguments_kind (λ y. 1 ≤ digit_of 2 y.0) (λ n a. omega arith) 0
      entry_point.function.arguments.items)
      (locals_kind (λ y. 1 ≤ digit_of 2 y.0) (λ l v. omega arith) 0
      entry_point.function.local_variables))
      (tt, tt)
      (apart_append (digit_of 2) (same_digit 2) 2 arguments locals
      (arguments_kind (λ y. digit_of 2 y.0 < 2) (λ n a. omega arith) 0 entry_point.function.arguments.items)
      (locals_kind (λ y. 2 ≤ digit_of 2 y.0) (λ l v. omega arith) 0 entry_point.function.local_variables)
      (entries_apart (λ n (a : AnArgument). (EntryPointArgument e n, label_or a.name (codes "param"))) 3
      (λ n a. refl) entry_point.function.arguments.items)
      (entries_apart (λ l (v : ALocal). (EntryPointLocal e l, label_or v.name (codes "local"))) 3
      (λ l v. refl) entry_point.function.local_variables))

entry_points_all : (P : LabelledItem → Type 0) →
    ((e : ℕ) (label : List ℕ) → P (EntryPoint e, label)) →
    ((e n : ℕ) (label : List ℕ) → P (EntryPointArgument e n, label)) →
    ((e l : ℕ) (label : List ℕ) → P (EntryPointLocal e l, label)) →
    (entry_points : List AnEntryPoint) → AllByRecursion P (labelled_entry_points entry_points)
entry_points_all P own arguments locals entry_points =
    each_section P labelled_entry_point (λ e p. entry_point_all e P (own e) (arguments e) (locals e) p) 0 entry_points

entry_points_apart : (entry_points : List AnEntryPoint) → AreApart (labelled_entry_points entry_points)
entry_points_apart entry_points =
    sections_apart (digit_of 1) (same_digit 1) labelled_entry_point
    (λ e p. entry_point_all e (λ item. digit_of 1 item.0 ≡ e) (λ label. refl) (λ n label. refl)
    (λ l label. refl) p) entry_point_apart 0 entry_points

-- ---- globals and types
globals_all : (types : List AType) (P : LabelledItem → Type 0) →
    ((g : ℕ) (label : List ℕ) → P (GlobalVariable g, label)) →
    ((g : ℕ) (part : ExternalTextureNameKey) (label : List ℕ) →
    P (ExternalTextureGlobalVariable g part, label)) → (globals : List AGlobal) →
    AllByRecursion P (labelled_globals types globals)
globals_all types P own parts globals =
    each_section P (labelled_global types)
    (λ g v. with_parts_all (is_external types v.ty) (ExternalTextureGlobalVariable g)
    (GlobalVariable g, label_or v.name (codes "global")) P (own g _) (parts g)) 0 globals

globals_apart : (types : List AType) (globals : List AGlobal) → AreApart (labelled_globals types globals)
globals_apart types globals =
    sections_apart (digit_of 1) (same_digit 1) (labelled_global types)
    (λ g v. with_parts_all (is_external types v.ty) (ExternalTextureGlobalVariable g)
    (GlobalVariable g, label_or v.name (codes "global")) (λ item. digit_of 1 item.0 ≡ g) refl (λ part label. refl))
    (λ g v. with_parts_apart (is_external types v.ty) (ExternalTextureGlobalVariable g)
    (GlobalVariable g, label_or v.name (codes "global")) refl (λ part. refl)) 0 globals

-- a type and its members
module _ (entry_points : List AnEntryPoint) (t : ℕ) where
  type_all : (P : LabelledItem → Type 0) → ((label : List ℕ) → P (Type_ t, label)) →
      ((n : ℕ) (label : List ℕ) → P (StructMember t n, label)) →
      (ty : AType) → AllByRecursion P (labelled_type entry_points t ty)
  type_all P own each ty = (
    own _,
    entries_all (λ n (m : AMember). (StructMember t n, member_label m)) P
        (λ n m. each n _) 0 (members_of ty.inner),
  )

  type_apart : (ty : AType) → AreApart (labelled_type entry_points t ty)
  type_apart ty =
      let members = members_of ty.inner in
      apart_append (digit_of 2) (same_digit 2) 1 ((Type_ t, type_label entry_points t ty) ∷ [])
      (labelled_members t members) (omega arith, tt)
      (entries_all (λ n (m : AMember). (StructMember t n, member_label m)) (λ y. 1 ≤ digit_of 2 y.0)
      (λ n m. omega arith) 0 members) (tt, tt)
      (entries_apart (λ n (m : AMember). (StructMember t n, member_label m)) 3 (λ n m. refl) members)

pub types_all : (entry_points : List AnEntryPoint) (P : LabelledItem → Type 0) →
    ((t : ℕ) (label : List ℕ) → P (Type_ t, label)) →
    ((t n : ℕ) (label : List ℕ) → P (StructMember t n, label)) → (types : List AType) →
    AllByRecursion P (labelled_types entry_points types)
types_all entry_points P own each types = each_section P (labelled_type entry_points)
    (λ t ty. type_all entry_points t P (own t) (each t) ty) 0 types

pub types_apart : (entry_points : List AnEntryPoint) (types : List AType) → AreApart (labelled_types entry_points types)
types_apart entry_points types =
    sections_apart (digit_of 1) (same_digit 1) (labelled_type entry_points)
    (λ t ty. type_all entry_points t (λ item. digit_of 1 item.0 ≡ t) (λ label. refl) (λ n label. refl) ty)
    (type_apart entry_points) 0 types

-- what a module declares
module _ («module» : Module) where
  abbrev the_types : List LabelledItem
  the_types = labelled_types «module».entry_points.items «module».types

  abbrev the_entry_points : List LabelledItem
  the_entry_points = labelled_entry_points «module».entry_points.items

  abbrev the_functions : List LabelledItem
  the_functions = labelled_functions «module».types «module».functions

  abbrev the_globals : List LabelledItem
  the_globals = labelled_globals «module».types «module».global_variables

  pub declarations_apart : AreApart (labelled_declarations «module»)
  declarations_apart =
      let m = «module» in
      let low = types_all m.entry_points.items (λ x. digit_of 0 x.0 < 1) (λ t label. omega arith)
      (λ t n label. omega arith) m.types in
      let entry_low = entry_points_all (λ x. digit_of 0 x.0 < 2) (λ e label. omega arith)
      (λ e n label. omega arith) (λ e l label. omega arith) m.entry_points.items in
      let entry_high = entry_points_all (λ x. 1 ≤ digit_of 0 x.0) (λ e label. omega arith)
      (λ e n label. omega arith) (λ e l label. omega arith) m.entry_points.items in
      let functions_low = functions_all m.types (λ x. digit_of 0 x.0 < 3) (λ h label. omega arith)
      (λ h n label. omega arith) (λ h n part label. omega arith) (λ h l label. omega arith) m.functions in
      let functions_high = functions_all m.types (λ x. 2 ≤ digit_of 0 x.0) (λ h label. omega arith)
      (λ h n label. omega arith) (λ h n part label. omega arith) (λ h l label. omega arith) m.functions in
      let globals_high = globals_all m.types (λ x. 3 ≤ digit_of 0 x.0) (λ g label. omega arith)
      (λ g part label. omega arith) m.global_variables in
      let less = λ (k l : ℕ) (le : l ≤ k). all_weaken {P = λ x. k ≤ digit_of 0 x.0}
      {Q = λ x. l ≤ digit_of 0 x.0} (λ x e. omega (arith, e, le)) in
      apart_append (digit_of 0) (same_digit 0) 1 the_types (the_entry_points ++ (the_functions ++ the_globals)) low
      (all_append (λ x. 1 ≤ digit_of 0 x.0) the_entry_points (the_functions ++ the_globals) entry_high
      (all_append (λ x. 1 ≤ digit_of 0 x.0) the_functions the_globals
      (less 2 1 (omega arith) the_functions functions_high) (less 3 1 (omega arith) the_globals globals_high)))
      (types_apart m.entry_points.items m.types)
      (apart_append (digit_of 0) (same_digit 0) 2 the_entry_points (the_functions ++ the_globals) entry_low
      (all_append (λ x. 2 ≤ digit_of 0 x.0) the_functions the_globals functions_high
      (less 3 2 (omega arith) the_globals globals_high))
      (entry_points_apart m.entry_points.items)
      (apart_append (digit_of 0) (same_digit 0) 3 the_functions the_globals functions_low globals_high
      (functions_apart m.types m.functions) (globals_apart m.types m.global_variables)))

  declarations_low : AllByRecursion (λ x. digit_of 0 x.0 < 4) (labelled_declarations «module»)
  declarations_low =
      let m = «module» in
      all_append (λ x. digit_of 0 x.0 < 4) the_types
      (the_entry_points ++ (the_functions ++ the_globals))
      (types_all m.entry_points.items (λ x. digit_of 0 x.0 < 4) (λ t label. omega arith)
      (λ t n label. omega arith) m.types)
      (all_append (λ x. digit_of 0 x.0 < 4) the_entry_points (the_functions ++ the_globals)
      (entry_points_all (λ x. digit_of 0 x.0 < 4) (λ e label. omega arith)
      (λ e n label. omega arith) (λ e l label. omega arith) m.entry_points.items)
      (all_append (λ x. digit_of 0 x.0 < 4) the_functions the_globals
      (functions_all m.types (λ x. digit_of 0 x.0 < 4) (λ h label. omega arith)
      (λ h n label. omega arith) (λ h n part label. omega arith) (λ h l label. omega arith)
      m.functions)
      (globals_all m.types (λ x. digit_of 0 x.0 < 4) (λ g label. omega arith) (λ g part label. omega arith)
      m.global_variables)))

  values_apart : (names : ℕ → List ℕ) → AreApart (labelled_values names «module»)
  values_apart names =
      let constant : ℕ → AConstant → LabelledItem =
      λ c v. (Constant c, value_label names (codes "const_") v.name v.ty) in
      let override_ : ℕ → AnOverride → LabelledItem =
      λ o v. (Override o, value_label names (codes "override_") v.name v.ty) in
      apart_append (digit_of 0) (same_digit 0) 5 (labelled_constants names «module».constants)
      (labelled_overrides names «module».overrides)
      (entries_all constant (λ x. digit_of 0 x.0 < 5) (λ c v. omega arith) 0 «module».constants)
      (entries_all override_ (λ x. 5 ≤ digit_of 0 x.0) (λ o v. omega arith) 0 «module».overrides)
      (entries_apart constant 1 (λ c v. refl) «module».constants)
      (entries_apart override_ 1 (λ o v. refl) «module».overrides)

  values_high : (names : ℕ → List ℕ) → AllByRecursion (λ x. 4 ≤ digit_of 0 x.0) (labelled_values names «module»)
  values_high names =
      let constant : ℕ → AConstant → LabelledItem =
      λ c v. (Constant c, value_label names (codes "const_") v.name v.ty) in
      let override_ : ℕ → AnOverride → LabelledItem =
      λ o v. (Override o, value_label names (codes "override_") v.name v.ty) in
      all_append (λ x. 4 ≤ digit_of 0 x.0) (labelled_constants names «module».constants)
      (labelled_overrides names «module».overrides)
      (entries_all constant (λ x. 4 ≤ digit_of 0 x.0) (λ c v. omega arith) 0 «module».constants)
      (entries_all override_ (λ x. 4 ≤ digit_of 0 x.0) (λ o v. omega arith) 0 «module».overrides)

-- no item of a module has the key of another one
pub items_apart : (start : Names) («module» : Module) → AreApart (labelled_items start «module»)
items_apart start m =
    apart_append (digit_of 0) (same_digit 0) 4 (labelled_declarations m)
    (labelled_values (type_name start m) m) (declarations_low m)
    (values_high m (type_name start m)) (declarations_apart m)
    (values_apart m (type_name start m))
