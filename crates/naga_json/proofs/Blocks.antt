-- Blocks, statements and cases of switches as their values say.
use Rattle.std.proofs.Common.{◌≡◌, ◌≢◌, ◌+◌, ◌-◌, ℕ, zero, suc, List, [], ◌∷◌, ◌++◌, map, drop}
use Rattle.std.proofs.Common.{Option, Some, None, refl, ap, sym, subst, ◌∙◌, append-nil, arith}
use Rattle.std.specs.Prelude.{Result, Ok, Err}
use Rattle.json.specs.Json.{Json, null, boolean, number, string, array, object, Items}
use Rattle.json.specs.Find.{as_array}
use Rattle.json.specs.Value.{value_view, items_view}
use Rattle.json.specs.declared.value.Value.{Value}
use Rattle.naga_ir.specs.StatementTree as tree
use Rattle.naga_ir.specs.StatementTree.{StatementTree, BlockTree}
use Rattle.naga_ir.specs.StatementViews.{block_of, cases_of, tree_of}
use Rattle.naga_ir.specs.declared.statement.Statement.{Statement}
use Rattle.naga_ir.specs.declared.statement.SwitchCase.{SwitchCase}
use Rattle.naga_json.specs.Said.{◌>>=◌, Gives, IsRefusal, IsStep, items_said, list_said}
use Rattle.naga_json.specs.declared.error.ReadError.{ReadError}
use Rattle.naga_json.specs.Statements.{block_said, block_tree, case_trees, seen_case, statement_said}

-- ---- what was read, seen from the value around it

module _ {X Y : Type 0} (view : X → Y) where
  pub step_none : (r : Result X ReadError) (e : ReadError) (o : Option Y) → Gives view o r → IsStep r (Err e) →
      IsRefusal e → o ≡ None
  step_none (Ok x) e o gives step refusal = absurd step
  step_none (Err f) e o gives step refusal = gives (step refusal)

  pub step_some : (r : Result X ReadError) (x : X) (o : Option Y) → Gives view o r → IsStep r (Ok x) → o ≡ Some (view x)
  step_some r x o gives step = subst (λ s. Gives view o s) step gives

-- ---- lists

list_by : {Y : Type 0} (said : Json → Option Y) (j : Json) → list_said said j ≡ (as_array j >>= λ js. items_said said js)
list_by said null = refl
list_by said (boolean b) = refl
list_by said (number s) = refl
list_by said (string s) = refl
list_by said (array js) = refl
list_by said (object ms) = refl

module _ {T Y A : Type 0} (said : Json → Option Y) (seen : T → Y) (read : List T) (xs : List (Value A)) where
  -- an item that says nothing, after those that were read
  pub none_from : (i : ℕ) (x : Value A) → drop i xs ≡ x ∷ drop (i + 1) xs → said (value_view x) ≡ None →
      (items_said said (items_view (drop i xs)) >>= λ ys. Some (map seen read ++ ys)) ≡ items_said said (items_view xs) →
      items_said said (items_view xs) ≡ None
  none_from i x here none all =
      sym all
      ∙ (ap (λ zs. items_said said (items_view zs) >>= λ ys. Some (map seen read ++ ys)) here
      ∙ ap (λ o. (o >>= λ y. items_said said (items_view (drop (i + 1) xs)) >>= λ ys. Some (y ∷ ys)) >>= λ ys. Some (map seen read ++ ys)) none)

  -- all items were read
  pub all_from : (i : ℕ) → drop i xs ≡ [] →
      (items_said said (items_view (drop i xs)) >>= λ ys. Some (map seen read ++ ys)) ≡ items_said said (items_view xs) →
      items_said said (items_view xs) ≡ Some (map seen read)
  all_from i end all =
      sym all
      ∙ (ap (λ zs. items_said said (items_view zs) >>= λ ys. Some (map seen read ++ ys)) end
      ∙ ap (λ zs. Some zs) (append-nil (map seen read)))

-- ---- blocks

pub block_seen : (ss : List Statement) → block_tree (map tree_of ss) ≡ block_of ss
block_seen [] = refl
block_seen (s ∷ ss) = ap (tree.statement (tree_of s)) (block_seen ss)

pub cases_seen : (cs : List SwitchCase) → case_trees (map seen_case cs) ≡ cases_of cs
cases_seen [] = refl
cases_seen (c ∷ cs) = ap (tree.case c.value c.body c.fall_through) (cases_seen cs)

pub no_levels : (levels : ℕ) (j : Json) → levels ≡ 0 → block_said levels j ≡ None
unfolding block_said
no_levels zero j e = refl
no_levels (suc n) j e = absurd (cc)

pub no_block : (levels : ℕ) (j : Json) → as_array j ≡ None → block_said levels j ≡ None
unfolding block_said
no_block zero j e = refl
no_block (suc n) j e = rw (list_by (statement_said (block_said n)) j, e) refl

-- a block by its statements, on the levels below
pub block_by : (levels : ℕ) (j : Json) (js : Items) (o : Option (List StatementTree)) → levels ≢ 0 → as_array j ≡ Some js →
    items_said (statement_said (block_said (levels - 1))) js ≡ o → block_said levels j ≡ (o >>= λ ss. Some (block_tree ss))
unfolding block_said
block_by zero j js o some e f = absurd (some refl)
block_by (suc n) j js o some e f =
    let less : suc n - 1 ≡ n = omega arith in
    let below : items_said (statement_said (block_said n)) js ≡ o =
    subst (λ k. items_said (statement_said (block_said k)) js ≡ o) less f in
    rw (list_by (statement_said (block_said n)) j, e, below) refl
