-- Which `let`s a text has, and which handles a module binds by them. Throughout, k names were given
-- by front ends before a point.
use Rattle.std.specs.Prelude.{ℕ, true, false, cond, List, [], ◌∷◌, ◌++◌, map, Option, Some, None}
use Rattle.shader_runs.specs.Value.{Bytes}
use Rattle.shader_runs.specs.Program.{Statement, Emit, Block, If, Switch, Loop, Act, Statements}
use Rattle.shader_runs.specs.Program.{end, then, Cases, no_case, case, binds, from}
use Rattle.shader_runs.specs.Scope.{Names, Naming, bound_name, named_after, named_by, named_by_all}
use Rattle.shader_runs.specs.Text.{Line, Let, Braces, IfElse, SwitchOn, LoopOf, Lines, last, before}
use Rattle.shader_runs.specs.Text.{Groups, no_group, group, TextModule}

-- the names of the `let`s of a line, in their order
abbrev mutual
  pub line_lets : Line → List Bytes
  line_lets (Let x e) = x ∷ []
  line_lets (Braces b) = lines_lets b
  line_lets (IfElse e a b) = lines_lets a ++ lines_lets b
  line_lets (SwitchOn e groups) = groups_lets groups
  line_lets (LoopOf b d e) = lines_lets b ++ lines_lets d
  line_lets _ = []

  pub lines_lets : Lines → List Bytes
  lines_lets last = []
  lines_lets (before l ls) = line_lets l ++ lines_lets ls

  pub groups_lets : Groups → List Bytes
  groups_lets no_group = []
  groups_lets (group case_values b gs) = lines_lets b ++ groups_lets gs

-- those of each function, the last one first
abbrev pub text_lets : TextModule → List (List Bytes)
text_lets t = map (λ f. lines_lets f.lines) t.functions

-- a handle, and the name that it is bound to
pub record NamedLet : Type 0 where
  pub handle : ℕ
  pub name : Bytes

-- those of emitted handles that are bound
abbrev pub emit_named_lets : Naming → ℕ → List ℕ → List NamedLet
emit_named_lets f k [] = []
emit_named_lets f k (h ∷ hs) =
    let rest = emit_named_lets f (named_after f.function h k) hs in
    cond (binds f.function h) (record { handle = h; name = bound_name f k h } ∷ rest) rest

-- a result
abbrev pub result_named_lets : Names → Option ℕ → List NamedLet
result_named_lets n None = []
result_named_lets n (Some h) = record { handle = h; name = n.numbered h } ∷ []

abbrev mutual
  -- the handles that a statement binds, in their order. Of a case that falls through nothing is
  -- written
  pub statement_named_lets : Naming → ℕ → Statement → List NamedLet
  statement_named_lets f k (Emit first count) = emit_named_lets f k (from first count)
  statement_named_lets f k (Block b) = statements_named_lets f k b
  statement_named_lets f k (If c a b) =
      statements_named_lets f k a ++ statements_named_lets f (named_by_all f.function a k) b
  statement_named_lets f k (Switch h cases) = cases_named_lets f k cases
  statement_named_lets f k (Loop b d e) =
      statements_named_lets f k b ++ statements_named_lets f (named_by_all f.function b k) d
  statement_named_lets f k (Act a xs r) = result_named_lets f.names r
  statement_named_lets f k _ = []

  pub statements_named_lets : Naming → ℕ → Statements → List NamedLet
  statements_named_lets f k end = []
  statements_named_lets f k (then st ss) =
      statement_named_lets f k st ++ statements_named_lets f (named_by f.function st k) ss

  pub cases_named_lets : Naming → ℕ → Cases → List NamedLet
  cases_named_lets f k no_case = []
  cases_named_lets f k (case case_value b true cs) = cases_named_lets f (named_by_all f.function b k) cs
  cases_named_lets f k (case case_value b false cs) =
      statements_named_lets f k b ++ cases_named_lets f (named_by_all f.function b k) cs

-- those of a function's body
abbrev pub function_named_lets : Naming → List NamedLet
function_named_lets f = statements_named_lets f 0 f.function.body

-- the names that a function's `let`s have
abbrev pub bound_names : Naming → List Bytes
bound_names f = map (λ b. b.name) (function_named_lets f)
