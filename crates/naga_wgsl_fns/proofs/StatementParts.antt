-- What a statement wants of its function, its parts want too.
-- Serves 7 contracts, `write_if` among them.
use Rattle.std.specs.List.{AllByRecursion}
use Rattle.std.specs.Prelude.{cond, ◌&&◌, ◌||◌, nat_lt, not}
use Rattle.naga_scope.specs.Continues.{before_continue, from_continue, holds_continue}
use Rattle.naga_ir.specs.StatementTree.{simple, store, StatementTree, block, branch, switch, loop}
use Rattle.naga_ir.specs.StatementTree.{BlockTree, no_statements, statement, CaseTrees}
use Rattle.naga_ir.specs.StatementTree.{case, has_no_statements}
use Rattle.std.proofs.Common.{◌≡◌, ℕ, Bool, true, false, List, [], ◌∷◌, ◌++◌, Option}
use Rattle.std.proofs.Common.{IsTrue, length, subst, refl, sym, ◌+◌, ◌<◌, drop, slice_index_or}
use Rattle.naga_ir.specs.StatementViews.{block_of, tree_of}
use Rattle.naga_ir.specs.declared.statement.Statement.{Statement}
use Rattle.naga_ir.proofs.Listed.{first_of}
use Rattle.shader_runs.proofs.Update.{and_both}
use Rattle.std.specs.Option.{option_to_list}
use Rattle.std.proofs.lemmas.Bool.{and_parts}
use Rattle.module_semantics.specs.acceptance.Numbers.{case_value_fits_32_bits}
use Rattle.module_semantics.specs.acceptance.Ranges.{block_in_range, cases_in_range, is_below}
use Rattle.module_semantics.specs.acceptance.Ranges.{statement_in_range}
use Rattle.module_semantics.specs.StatementForms.{block_has_forms, cases_have_forms}
use Rattle.module_semantics.specs.StatementForms.{statement_has_form}
use Rattle.module_semantics.specs.Written.{block_lets, block_handles, cases_lets, cases_handles}
use Rattle.module_semantics.specs.Written.{statement_lets, statement_handles}
use Rattle.naga_form.proofs.statements.WrittenHandles.{all_front, all_rest}
use Rattle.naga_ir.specs.declared.statement.SwitchValue.{SwitchValue}
use Rattle.naga_wgsl_fns.specs.FunctionText.{AreInText, CanWriteBlock, CanWriteCases}
use Rattle.naga_wgsl_fns.specs.FunctionText.{CanWriteStatement, IsInText, IsLet, bound, callees}
use Rattle.naga_wgsl_fns.specs.declared.functions.FunctionText.{FunctionText}

abbrev count : FunctionText → ℕ
count f = length f.function.now.expressions

-- ---- blocks
pub first_inside : (f : FunctionText) (st : StatementTree) (b : BlockTree) → CanWriteBlock f (statement st b) →
    CanWriteStatement f st
first_inside f st b w =
    record {
      in_range = (and_parts (statement_in_range (callees f) (count f) st)
          (block_in_range (callees f) (count f) b) w.in_range).0;
      formed = (and_parts (statement_has_form st) (block_has_forms b) w.formed).0;
      written = all_front (IsInText f) (statement_handles (bound f) st) (block_handles (bound f) b) w.written;
      lets = all_front (IsLet f) (statement_lets (bound f) st) (block_lets (bound f) b) w.lets;
    }

pub rest_inside : (f : FunctionText) (st : StatementTree) (b : BlockTree) → CanWriteBlock f (statement st b) →
    CanWriteBlock f b
rest_inside f st b w =
    record {
      in_range = (and_parts (statement_in_range (callees f) (count f) st)
          (block_in_range (callees f) (count f) b) w.in_range).1;
      formed = (and_parts (statement_has_form st) (block_has_forms b) w.formed).1;
      written = all_rest (IsInText f) (statement_handles (bound f) st) (block_handles (bound f) b) w.written;
      lets = all_rest (IsLet f) (statement_lets (bound f) st) (block_lets (bound f) b) w.lets;
    }

-- in a list of statements
pub first_at : (f : FunctionText) (items : List Statement) (n : ℕ) (item : Statement) → n < length items →
    item ≡ slice_index_or items n item →
    CanWriteBlock f (block_of (drop n items)) → CanWriteStatement f (tree_of item)
first_at f items n item lt here w =
    first_inside f (tree_of item) (block_of (drop (n + 1) items))
    (subst (CanWriteBlock f) (first_of items n item lt here) w)

pub rest_at : (f : FunctionText) (items : List Statement) (n : ℕ) (item : Statement) → n < length items →
    item ≡ slice_index_or items n item →
    CanWriteBlock f (block_of (drop n items)) → CanWriteBlock f (block_of (drop (n + 1) items))
rest_at f items n item lt here w =
    rest_inside f (tree_of item) (block_of (drop (n + 1) items))
    (subst (CanWriteBlock f) (first_of items n item lt here) w)

pub block_inside : (f : FunctionText) (b : BlockTree) → CanWriteStatement f (block b) → CanWriteBlock f b
block_inside f b w = record { in_range = w.in_range; formed = w.formed; written = w.written; lets = w.lets }

-- ---- choices
pub condition_inside : (f : FunctionText) (c : ℕ) (a r : BlockTree) → CanWriteStatement f (branch c a r) → IsInText f c
condition_inside f c a r w = w.written.0

pub accept_inside : (f : FunctionText) (c : ℕ) (a r : BlockTree) → CanWriteStatement f (branch c a r) →
    CanWriteBlock f a
accept_inside f c a r w =
    let ranges = and_parts (nat_lt c (count f))
    (block_in_range (callees f) (count f) a && block_in_range (callees f) (count f) r) w.in_range in
    record {
      in_range = (and_parts (block_in_range (callees f) (count f) a)
          (block_in_range (callees f) (count f) r) ranges.1).0;
      formed = (and_parts (block_has_forms a) (block_has_forms r) w.formed).0;
      written = all_front (IsInText f) (block_handles (bound f) a) (block_handles (bound f) r) w.written.1;
      lets = all_front (IsLet f) (block_lets (bound f) a) (block_lets (bound f) r) w.lets;
    }

pub reject_inside : (f : FunctionText) (c : ℕ) (a r : BlockTree) → CanWriteStatement f (branch c a r) →
    CanWriteBlock f r
reject_inside f c a r w =
    let ranges = and_parts (nat_lt c (count f))
    (block_in_range (callees f) (count f) a && block_in_range (callees f) (count f) r) w.in_range in
    record {
      in_range = (and_parts (block_in_range (callees f) (count f) a)
          (block_in_range (callees f) (count f) r) ranges.1).1;
      formed = (and_parts (block_has_forms a) (block_has_forms r) w.formed).1;
      written = all_rest (IsInText f) (block_handles (bound f) a) (block_handles (bound f) r) w.written.1;
      lets = all_rest (IsLet f) (block_lets (bound f) a) (block_lets (bound f) r) w.lets;
    }

-- ---- loops
pub body_inside : (f : FunctionText) (b c : BlockTree) (e : Option ℕ) → CanWriteStatement f (loop b c e) →
    CanWriteBlock f b
body_inside f b c e w =
    record {
      in_range = (and_parts (block_in_range (callees f) (count f) b)
          (block_in_range (callees f) (count f) c && is_below (count f) e) w.in_range).0;
      formed = (and_parts (block_has_forms b) (block_has_forms c) w.formed).0;
      written = all_front (IsInText f) (block_handles (bound f) b)
          (block_handles (bound f) c ++ option_to_list e) w.written;
      lets = all_front (IsLet f) (block_lets (bound f) b) (block_lets (bound f) c) w.lets;
    }

pub continuing_inside : (f : FunctionText) (b c : BlockTree) (e : Option ℕ) → CanWriteStatement f (loop b c e) →
    CanWriteBlock f c
continuing_inside f b c e w =
    let ranges = and_parts (block_in_range (callees f) (count f) b)
    (block_in_range (callees f) (count f) c && is_below (count f) e) w.in_range in
    record {
      in_range = (and_parts (block_in_range (callees f) (count f) c) (is_below (count f) e) ranges.1).0;
      formed = (and_parts (block_has_forms b) (block_has_forms c) w.formed).1;
      written = all_front (IsInText f) (block_handles (bound f) c) (option_to_list e)
          (all_rest (IsInText f) (block_handles (bound f) b) (block_handles (bound f) c ++ option_to_list e) w.written);
      lets = all_rest (IsLet f) (block_lets (bound f) b) (block_lets (bound f) c) w.lets;
    }

pub break_if_inside : (f : FunctionText) (b c : BlockTree) (e : Option ℕ) → CanWriteStatement f (loop b c e) →
    AreInText f (option_to_list e)
break_if_inside f b c e w =
    all_rest (IsInText f) (block_handles (bound f) c) (option_to_list e)
    (all_rest (IsInText f) (block_handles (bound f) b) (block_handles (bound f) c ++ option_to_list e) w.written)

-- ---- switches
pub selector_inside : (f : FunctionText) (h : ℕ) (cs : CaseTrees) → CanWriteStatement f (switch h cs) → IsInText f h
selector_inside f h cs w = w.written.0

pub cases_inside : (f : FunctionText) (h : ℕ) (cs : CaseTrees) → CanWriteStatement f (switch h cs) → CanWriteCases f cs
cases_inside f h cs w =
    record {
      in_range = (and_parts (nat_lt h (count f)) (cases_in_range (callees f) (count f) cs) w.in_range).1;
      formed = w.formed;
      written = w.written.1;
      lets = w.lets;
    }

module _ (f : FunctionText) (v : SwitchValue) (b : BlockTree) (falls : Bool) (cs : CaseTrees)
    (w : CanWriteCases f (case v b falls cs)) where
  ranges : IsTrue (block_in_range (callees f) (count f) b) × IsTrue (cases_in_range (callees f) (count f) cs)
  ranges =
      and_parts (block_in_range (callees f) (count f) b) (cases_in_range (callees f) (count f) cs)
      (and_parts (case_value_fits_32_bits v)
      (block_in_range (callees f) (count f) b && cases_in_range (callees f) (count f) cs) w.in_range).1

  forms : IsTrue (not falls || has_no_statements b) × IsTrue (block_has_forms b && cases_have_forms cs)
  forms = and_parts (not falls || has_no_statements b) (block_has_forms b && cases_have_forms cs) w.formed

  pub case_inside : CanWriteBlock f b
  case_inside = record {
    in_range = ranges.0;
    formed = (and_parts (block_has_forms b) (cases_have_forms cs) forms.1).0;
    written = all_front (IsInText f) (block_handles (bound f) b) (cases_handles (bound f) cs) w.written;
    lets = all_front (IsLet f) (block_lets (bound f) b) (cases_lets (bound f) cs) w.lets;
  }

  pub others_inside : CanWriteCases f cs
  others_inside = record {
    in_range = ranges.1;
    formed = (and_parts (block_has_forms b) (cases_have_forms cs) forms.1).1;
    written = all_rest (IsInText f) (block_handles (bound f) b) (cases_handles (bound f) cs) w.written;
    lets = all_rest (IsLet f) (block_lets (bound f) b) (cases_lets (bound f) cs) w.lets;
  }

  -- one that falls through has no statements
  pub falling_is_empty : IsTrue falls → b ≡ no_statements
  falling_is_empty is = by b (subst (λ g. IsTrue (not g || has_no_statements b)) is forms.0)
    where
      by : (b : BlockTree) → IsTrue (has_no_statements b) → b ≡ no_statements
      by no_statements empty = refl
      by (statement st rest) empty = absurd cc

-- ---- stores
pub stored_pointer : (f : FunctionText) (p v : ℕ) → CanWriteStatement f (simple (store p v)) → IsInText f p
stored_pointer f p v w = w.written.0

pub stored_value : (f : FunctionText) (p v : ℕ) → CanWriteStatement f (simple (store p v)) → IsInText f v
stored_value f p v w = w.written.1.0

pub stored_operands : (f : FunctionText) (p v : ℕ) → CanWriteStatement f (simple (store p v)) → AreInText f (p ∷ v ∷ [])
stored_operands f p v w = w.written

-- ---- a loop's body in two parts
both_all : (P : ℕ → Type 0) (xs ys : List ℕ) → AllByRecursion P xs → AllByRecursion P ys → AllByRecursion P (xs ++ ys)
both_all P [] ys one other = other
both_all P (x ∷ xs) ys one other = (one.0, both_all P xs ys one.1 other)

nothing_inside : (f : FunctionText) → CanWriteBlock f no_statements
nothing_inside f = record { in_range = refl; formed = refl; written = tt; lets = tt }

together : (f : FunctionText) (st : StatementTree) (b : BlockTree) → CanWriteStatement f st →
    CanWriteBlock f b → CanWriteBlock f (statement st b)
together f st b one other = record {
  in_range = and_both (statement_in_range (callees f) (count f) st) (block_in_range (callees f) (count f) b)
      one.in_range other.in_range;
  formed = and_both (statement_has_form st) (block_has_forms b) one.formed other.formed;
  written = both_all (IsInText f) (statement_handles (bound f) st) (block_handles (bound f) b) one.written
      other.written;
  lets = both_all (IsLet f) (statement_lets (bound f) st) (block_lets (bound f) b) one.lets other.lets;
}

before : (f : FunctionText) (b : BlockTree) → CanWriteBlock f b → CanWriteBlock f (before_continue b)
before f no_statements w = w
before f (statement st b) w = by (holds_continue st) (before f b (rest_inside f st b w))
  where
    by : (holds : Bool) → CanWriteBlock f (before_continue b) →
        CanWriteBlock f (cond holds no_statements (statement st (before_continue b)))
    by true more = nothing_inside f
    by false more = together f st (before_continue b) (first_inside f st b w) more

following : (f : FunctionText) (b : BlockTree) → CanWriteBlock f b → CanWriteBlock f (from_continue b)
following f no_statements w = w
following f (statement st b) w = by (holds_continue st) (following f b (rest_inside f st b w))
  where
    by : (holds : Bool) → CanWriteBlock f (from_continue b) →
        CanWriteBlock f (cond holds (statement st b) (from_continue b))
    by true more = w
    by false more = more

pub front_inside : (f : FunctionText) (b front : BlockTree) → front ≡ before_continue b → CanWriteBlock f b →
    CanWriteBlock f front
front_inside f b front is w = subst (CanWriteBlock f) (sym is) (before f b w)

pub back_inside : (f : FunctionText) (b back : BlockTree) → back ≡ from_continue b → CanWriteBlock f b →
    CanWriteBlock f back
back_inside f b back is w = subst (CanWriteBlock f) (sym is) (following f b w)

pub ruleset turns = (body_inside, continuing_inside, break_if_inside)

pub ruleset branches = (condition_inside, accept_inside, reject_inside)
