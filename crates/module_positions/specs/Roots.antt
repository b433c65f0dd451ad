-- Which expressions of a function have their values at a point of its body, and why others have none:
-- from an expression down its operands to the one that nothing gave in sight of where it was needed.
--
-- Throughout, es are the function's expressions, h is the handle of one, xs are its operands, values
-- say of each expression whether it has its value, s is a statement and n its number, b is a block, cs
-- are cases, end is the number of a statement, and left how many statements stand between it and the
-- ones at hand, which are gone past first.
use Rattle.std.specs.Prelude.{ℕ, zero, suc, ◌+◌, ◌-◌, Bool, true, false, ◌&&◌, List, [], ◌∷◌, ◌++◌}
use Rattle.std.specs.Prelude.{Option, None, Some, get_or, slice_get, slice_set, min}
use Rattle.std.specs.Prelude.{unwrap_or}
use Rattle.std.specs.Option.{option_map_or}
use Rattle.std.specs.Result.{result_err}
use Rattle.naga_ir.specs.Kinds.{kind_of}
use Rattle.naga_ir.specs.Operands.{expression_operands, own_result}
use Rattle.naga_ir.specs.InOrder.{trees_in}
use Rattle.naga_ir.specs.StatementTree.{StatementTree, simple, block, branch, switch, loop, emit}
use Rattle.naga_ir.specs.StatementTree.{BlockTree, no_statements, statement, CaseTrees, no_cases}
use Rattle.naga_ir.specs.StatementTree.{case}
use Rattle.naga_ir.specs.declared.expression.Expression.{Expression}
use Rattle.naga_ir.specs.declared.kind.ExpressionKind.{ExpressionKind}
use Rattle.naga_ir.specs.declared.kind.ExpressionKind.TheVariants as kind
use Rattle.naga_scope.specs.Continues.{before_continue, from_continue}
use Rattle.naga_listing.specs.Named.{sought, statement_trees}
use Rattle.module_positions.specs.declared.roots.Root.{Root}
use Rattle.module_positions.specs.declared.roots.Value.{Value}
use Rattle.module_positions.specs.declared.roots.Value.TheVariants.{Absent, Skipped, Constant, Present}
use Rattle.module_positions.specs.declared.roots.Value.TheVariants.{Lacking}
use Rattle.module_positions.specs.declared.roots.Stop.{Stop}
use Rattle.module_positions.specs.declared.roots.Stop.TheVariants.{Giving, BreakIf}

-- ---- expressions
abbrev pub value_at : List Value → ℕ → Value
value_at values h = get_or values h Absent

-- why an expression of which this is known has no value for the statement with this number, if it has
-- none: nothing gave it in sight, or an operand of it had none where it was given, for its own reason
abbrev pub root_by : (n h : ℕ) → Value → Option Root
root_by n h Absent = Some (record { expression = h; statement = n; skipped = None })
root_by n h (Skipped number) =
    Some (record { expression = h; statement = n; skipped = Some number })
root_by n h Constant = None
root_by n h Present = None
root_by n h (Lacking k x root) = Some root

-- the operand lacks its value for this reason, or else as the others say
abbrev pub lacking_or : (n x : ℕ) → Value → Option Root → Value
lacking_or n x others None = others
lacking_or n x others (Some root) = Lacking n x root

-- what is known of an expression with these operands once the Emit with this number gives it: it has
-- its value where each of them has
abbrev pub emitted_value : List Value → (n : ℕ) → (xs : List ℕ) → Value
emitted_value values n [] = Present
emitted_value values n (x ∷ xs) =
    lacking_or n x (emitted_value values n xs) (root_by n x (value_at values x))

abbrev pub is_constant : Value → Bool
is_constant Constant = true
is_constant _ = false

abbrev pub are_constant : List Value → List ℕ → Bool
are_constant values [] = true
are_constant values (x ∷ xs) = is_constant (value_at values x) && are_constant values xs

-- what is known of an expression where its function starts, by those before it: constants, leaves and
-- operators over constants alone have their values
abbrev pub first_by : ExpressionKind → (are_constant : Bool) → Value
first_by kind.Constant constant = Value.Constant
first_by kind.Leaf constant = Present
first_by kind.Pure true = Value.Constant
first_by kind.Pure false = Absent
first_by kind.Load constant = Absent
first_by kind.Request constant = Absent
first_by kind.Result constant = Absent

abbrev pub first_value : List Value → Expression → Value
first_value values e = first_by (kind_of e) (are_constant values (expression_operands e))

-- of these further expressions too
abbrev pub with_first : List Value → List Expression → List Value
with_first values [] = values
with_first values (e ∷ es) = with_first (values ++ (first_value values e ∷ [])) es

-- ---- what a statement gives
-- the Emit with this number gives this handle, or so many from a first one on
abbrev pub given_one : List Expression → (n h : ℕ) → List Value → List Value
given_one es n h values =
    slice_set values h
    (option_map_or (λ e. emitted_value values n (expression_operands e)) (slice_get es h) Absent)

abbrev pub given_range : List Expression → (n first count : ℕ) → List Value → List Value
given_range es n first zero values = values
given_range es n first (suc count) values =
    given_range es n (suc first) count (given_one es n first values)

-- the statement gives its handles or its result
abbrev pub given_result : Option ℕ → List Value → List Value
given_result None values = values
given_result (Some h) values = slice_set values h Present

abbrev pub given : List Expression → (n : ℕ) → StatementTree → List Value → List Value
given es n (simple (emit first end)) values = given_range es n first (end - first) values
given es n s values = given_result (own_result s) values

-- a `continue` may skip the statement that gives this handle, so many handles, or its result
abbrev pub skipped_value : (n : ℕ) → Value → Value
skipped_value n Absent = Skipped n
skipped_value n value = value

abbrev pub skipped_one : (n h : ℕ) → List Value → List Value
skipped_one n h values = slice_set values h (skipped_value n (value_at values h))

abbrev pub skipped_range : (n first count : ℕ) → List Value → List Value
skipped_range n first zero values = values
skipped_range n first (suc count) values =
    skipped_range n (suc first) count (skipped_one n first values)

abbrev pub skipped_result : (n : ℕ) → Option ℕ → List Value → List Value
skipped_result n None values = values
skipped_result n (Some h) values = skipped_one n h values

abbrev pub skipped : (n : ℕ) → StatementTree → List Value → List Value
skipped n (simple (emit first end)) values = skipped_range n first (end - first) values
skipped n s values = skipped_result n (own_result s) values

-- ---- what a loop's body leaves to what stands after it in the loop
-- how many are left after a statement
abbrev pub left_after : (left : ℕ) → StatementTree → ℕ
left_after left s = unwrap_or (result_err (sought left (statement_trees s))) 0

abbrev pub left_after_each : (left : ℕ) → BlockTree → ℕ
left_after_each left no_statements = left
left_after_each left (statement s b) = left_after_each (left_after left s) b

abbrev pub given_each : List Expression → (end left : ℕ) → BlockTree → List Value → List Value
given_each es end left no_statements values = values
given_each es end left (statement s b) values =
    given_each es end (left_after left s) b (given es (end - left) s values)

abbrev pub skipped_each : (end left : ℕ) → BlockTree → List Value → List Value
skipped_each end left no_statements values = values
skipped_each end left (statement s b) values =
    skipped_each end (left_after left s) b (skipped (end - left) s values)

-- a block by itself: no `continue` skips what stands before its first
abbrev pub left_after_turn : (left : ℕ) → BlockTree → ℕ
left_after_turn left b =
    left_after_each (left_after_each left (before_continue b)) (from_continue b)

abbrev pub given_turn : List Expression → (end left : ℕ) → BlockTree → List Value → List Value
given_turn es end left b values =
    skipped_each end (left_after_each left (before_continue b)) (from_continue b)
    (given_each es end left (before_continue b) values)

-- ---- at a point
-- in the statement with this number: before all that it does, where it gives a handle, or at its
-- `break if`
abbrev pub arrived : List Expression → (n : ℕ) → Stop → StatementTree → List Value → List Value
arrived es n (Giving h) (simple (emit first end)) values =
    given_range es n first (min end h - first) values
arrived es n (BreakIf next) (loop body continuing break_if) values =
    let left = next - n - 1 in
    given_turn es next (left_after_turn left body) continuing (given_turn es next left body values)
arrived es n stop s values = values

-- by whether the point stands in the first, or so many are left after that
abbrev pub in_or_past : {X : Type 0} → X → (ℕ → X) → Option ℕ → X
in_or_past inside past None = inside
in_or_past inside past (Some rest) = past rest

-- by whether the point is the statement at hand, or one in its blocks
abbrev pub here_or_inside : {X : Type 0} → (left : ℕ) → X → (ℕ → X) → X
here_or_inside zero here inside = here
here_or_inside (suc left) here inside = inside left

abbrev mutual
  pub inside : List Expression → (end : ℕ) → Stop → (left : ℕ) → StatementTree →
      List Value → List Value
  inside es end stop left (simple s) values = values
  inside es end stop left (block b) values = in_block es end stop left b values
  inside es end stop left (branch condition accept reject) values =
      in_or_past (in_block es end stop left accept values)
      (λ rest. in_block es end stop rest reject values) (result_err (sought left (trees_in accept)))
  inside es end stop left (switch selector cs) values = in_cases es end stop left cs values
  inside es end stop left (loop body continuing break_if) values =
      in_or_past (in_block es end stop left body values)
      (λ rest. in_block es end stop rest continuing (given_turn es end left body values))
      (result_err (sought left (trees_in body)))

  pub in_block : List Expression → (end : ℕ) → Stop → (left : ℕ) → BlockTree →
      List Value → List Value
  in_block es end stop left no_statements values = values
  in_block es end stop left (statement s b) values =
      in_or_past
      (here_or_inside left (arrived es end stop s values)
      (λ less. inside es end stop less s values))
      (λ rest. in_block es end stop rest b (given es (end - left) s values))
      (result_err (sought left (statement_trees s)))

  pub in_cases : List Expression → (end : ℕ) → Stop → (left : ℕ) → CaseTrees →
      List Value → List Value
  in_cases es end stop left no_cases values = values
  in_cases es end stop left (case v b falls cs) values =
      in_or_past (in_block es end stop left b values)
      (λ rest. in_cases es end stop rest cs values) (result_err (sought left (trees_in b)))

abbrev pub in_statement : List Expression → (end : ℕ) → Stop → (left : ℕ) → StatementTree →
    List Value → List Value
in_statement es end stop left s values =
    here_or_inside left (arrived es end stop s values)
    (λ less. inside es end stop less s values)

-- the values at this point of a body
abbrev pub values_at : List Expression → BlockTree → (n : ℕ) → Stop → List Value
values_at es body n stop = in_block es n stop n body (with_first [] es)
