-- The names that a function's text gives pass a test where each kind of them does: those of arguments,
-- of variables, and of `let`s, which front ends gave or handles have.
--
-- Throughout, f is a function with its names, i an index, h a handle, k is how many names front ends
-- gave before a point, and bs are handles that are bound.
use Rattle.std.proofs.Common.{◌≡◌, ℕ, zero, suc, ◌+◌, ◌<◌, ◌≤◌, Bool, true, false, cond, List, []}
use Rattle.std.proofs.Common.{◌∷◌, ◌++◌, Option, Some, None, refl, ap, ◌∙◌, arith, length, map}
use Rattle.std.proofs.Common.{get_or}
use Rattle.std.specs.List.{list_all}
use Rattle.std.proofs.lemmas.Bool.{and_from}
use Rattle.std.proofs.lemmas.List.{map-append}
use Rattle.std.proofs.lemmas.List.Folds.{list_all-append}
use Rattle.shader_runs.specs.NamedLets.{NamedLet, bound_names, cases_named_lets, emit_named_lets}
use Rattle.shader_runs.specs.NamedLets.{lines_lets, result_named_lets, statement_named_lets}
use Rattle.shader_runs.specs.NamedLets.{statements_named_lets}
use Rattle.shader_runs.specs.Form.{form_all, form_function, names_from, variables_from}
use Rattle.shader_runs.specs.Program.{Act, argument_count, binds, Block, case, Cases, Emit, end}
use Rattle.shader_runs.specs.Program.{from, If, is_named, local_count, Loop, Module, no_case}
use Rattle.shader_runs.specs.Program.{Statement, Statements, Switch, then}
use Rattle.shader_runs.specs.Scope.{at_start, bound_name, ModuleNames, named_after, named_after_all}
use Rattle.shader_runs.specs.Scope.{named_by, named_by_all, named_by_cases, Naming}
use Rattle.shader_runs.specs.Value.{Bytes}
use Rattle.shader_runs.proofs.NamedLets.{binds_as_meant}
use Rattle.shader_runs.proofs.Sources.{cases_more, list_more, named_all_more}
use Rattle.text_semantics.specs.Resolution.{own_names}

-- the names of variables in their order
variables_named : (f : Naming) (i : ℕ) (os : List (Option ℕ)) →
    map (λ v. v.name) (variables_from f i os) ≡ names_from f.names.local_ i (length os)
variables_named f i [] = refl
variables_named f i (o ∷ os) = ap (λ xs. f.names.local_ i ∷ xs) (variables_named f (suc i) os)

module _ (p : Module) (n : ModuleNames) (f : Naming) (test : Bytes → Bool)
    (arguments : (i : ℕ) → i < argument_count f.function → test (f.names.argument i) ≡ true)
    (locals : (i : ℕ) → i < local_count f.function → test (f.names.local_ i) ≡ true)
    (numbered : (h : ℕ) → test (f.names.numbered h) ≡ true)
    (named : (k : ℕ) → k < named_by_all f.function f.function.body 0 →
    test (f.names.named k) ≡ true) where
  -- ---- families of names
  family_passes : (name : ℕ → Bytes) (count i : ℕ) →
      ((j : ℕ) → j < i + count → test (name j) ≡ true) →
      list_all test (names_from name i count) ≡ true
  family_passes name zero i all = refl
  family_passes name (suc count) i all =
      and_from (test (name i)) (list_all test (names_from name (suc i) count)) (all i (omega arith))
      (family_passes name count (suc i) (λ j lt. all j (omega (arith, lt))))

  -- ---- `let`s
  abbrev total : ℕ
  total = named_by_all f.function f.function.body 0

  abbrev Pass : List NamedLet → Type 0
  Pass bs = list_all test (map (λ b. b.name) bs) ≡ true

  both_pass : (first second : List NamedLet) → Pass first → Pass second → Pass (first ++ second)
  both_pass first second a b =
      ap (list_all test) (map-append (λ b. b.name) first second)
      ∙ (list_all-append test (map (λ b. b.name) first) (map (λ b. b.name) second)
      ∙ and_from (list_all test (map (λ b. b.name) first))
      (list_all test (map (λ b. b.name) second)) a b)

  bound_passes : (k h : ℕ) → named_after f.function h k ≤ total → test (bound_name f k h) ≡ true
  bound_passes k h le = by (is_named f.function h) le
    where
      by : (b : Bool) → cond b (suc k) k ≤ total →
          test (cond b (f.names.named k) (f.names.numbered h)) ≡ true
      by true le = named k (omega (arith, le))
      by false le = numbered h

  emitted_pass : (k : ℕ) (hs : List ℕ) → named_after_all f.function hs k ≤ total →
      Pass (emit_named_lets f k hs)
  emitted_pass k [] le = refl
  emitted_pass k (h ∷ hs) le =
      let more = named_all_more f hs (named_after f.function h k) in
      by (binds f.function h) (bound_passes k h (omega (arith, le, more)))
      (emitted_pass (named_after f.function h k) hs le)
    where
      rest : List NamedLet
      rest = emit_named_lets f (named_after f.function h k) hs

      by : (b : Bool) → test (bound_name f k h) ≡ true → Pass rest →
          Pass (cond b (record { handle = h; name = bound_name f k h } ∷ rest) rest)
      by true own later =
          and_from (test (bound_name f k h)) (list_all test (map (λ b. b.name) rest)) own later
      by false own later = later

  result_passes : (r : Option ℕ) → Pass (result_named_lets f.names r)
  result_passes None = refl
  result_passes (Some h) = and_from (test (f.names.numbered h)) true (numbered h) refl

  mutual
    statement_passes : (k : ℕ) (st : Statement) → named_by f.function st k ≤ total →
        Pass (statement_named_lets f k st)
    statement_passes k (Emit first count) le = emitted_pass k (from first count) le
    statement_passes k (Block b) le = statements_pass k b le
    statement_passes k (If c a b) le =
        let k1 = named_by_all f.function a k in
        let more = list_more f b k1 in
        both_pass (statements_named_lets f k a) (statements_named_lets f k1 b)
        (statements_pass k a (omega (arith, le, more))) (statements_pass k1 b le)
    statement_passes k (Switch h cs) le = cases_pass k cs le
    statement_passes k (Loop b d e) le =
        let k1 = named_by_all f.function b k in
        let more = list_more f d k1 in
        both_pass (statements_named_lets f k b) (statements_named_lets f k1 d)
        (statements_pass k b (omega (arith, le, more))) (statements_pass k1 d le)
    statement_passes k (Act a xs r) le = result_passes r
    statement_passes k _ le = refl

    statements_pass : (k : ℕ) (ss : Statements) → named_by_all f.function ss k ≤ total →
        Pass (statements_named_lets f k ss)
    statements_pass k end le = refl
    statements_pass k (then st ss) le =
        let k1 = named_by f.function st k in
        let more = list_more f ss k1 in
        both_pass (statement_named_lets f k st) (statements_named_lets f k1 ss)
        (statement_passes k st (omega (arith, le, more))) (statements_pass k1 ss le)

    cases_pass : (k : ℕ) (cs : Cases) → named_by_cases f.function cs k ≤ total →
        Pass (cases_named_lets f k cs)
    cases_pass k no_case le = refl
    cases_pass k (case label b true cs) le = cases_pass (named_by_all f.function b k) cs le
    cases_pass k (case label b false cs) le =
        let k1 = named_by_all f.function b k in
        let more = cases_more f cs k1 in
        both_pass (statements_named_lets f k b) (cases_named_lets f k1 cs)
        (statements_pass k b (omega (arith, le, more))) (cases_pass k1 cs le)

  lets_are : lines_lets (form_all f 0 f.function.body (at_start f.function)) ≡ bound_names f
  lets_are = ap (λ xs. get_or xs 0 []) (binds_as_meant p n (f ∷ []))

  -- ---- all of them
  pub own_names_pass : list_all test (own_names (form_function f)) ≡ true
  own_names_pass =
      let t = form_function f in
      let variables = map (λ v. v.name) t.variables in
      let lets = lines_lets t.lines in
      let all : total ≤ total = omega arith in
      list_all-append test t.parameters (variables ++ lets)
      ∙ and_from (list_all test t.parameters) (list_all test (variables ++ lets))
      (family_passes f.names.argument (argument_count f.function) 0
      (λ j lt. arguments j (omega (arith, lt))))
      (list_all-append test variables lets
      ∙ and_from (list_all test variables) (list_all test lets)
      (ap (list_all test) (variables_named f 0 f.function.first_values)
      ∙ family_passes f.names.local_ (local_count f.function) 0
      (λ j lt. locals j (omega (arith, lt))))
      (ap (list_all test) lets_are ∙ statements_pass 0 f.function.body all))
