-- Where the lines of a function's body stand, and what holds after a call that writes some.
--
-- Throughout, f is the function that is written, p is a point of its text, and st, b and cases are
-- a statement, a block and the cases of a switch.
use Rattle.std.specs.Prelude.{◌≡◌, ℕ, length}
use Rattle.naga_ir.specs.StatementTree.{BlockTree, CaseTrees, StatementTree}
use Rattle.naga_scope.specs.Availabilities.{TextPoint}
use Rattle.naga_scope.specs.Changes.{block_changes, cases_changes, statement_changes}
use Rattle.naga_scope.specs.Log.{Counted, HasRoom}
use Rattle.shader_runs.specs.Scope.{Handles}
use Rattle.naga_wgsl_fns.specs.FunctionText.{handles_in}
use Rattle.naga_wgsl_fns.specs.Statements.{named_following, named_after_cases}
use Rattle.naga_wgsl_fns.specs.Statements.{named_after_statement}
use Rattle.naga_wgsl_fns.specs.declared.functions.FunctionText.{FunctionText}
use Rattle.naga_wgsl_fns.specs.declared.lines.BodyState.{BodyState}

-- a text, by how many names stand in front of a point, and what is in scope there
abbrev pub text_at : {A : Type 0} → (f : FunctionText) → (p : TextPoint)
    → (text : FunctionText → ℕ → Handles → A) → A
text_at f p text = text f p.named (handles_in f p.table)

-- There is a cell for each expression of the function, and room for so many changes.
pub record HasScope (f : FunctionText) (p : TextPoint) (changes : ℕ) : Type 0 where
  pub size : length p.table ≡ length f.function.now.expressions
  pub room : HasRoom p changes

-- ---- after a call
-- So many names are given, no more than so many changes have been passed, and the level is that
-- before.
pub record LinesWritten (before after : BodyState) (names changes : ℕ) : Type 0 where
  pub named : after.scope.named ≡ names
  pub counted : Counted before.scope after.scope changes
  pub indent : after.indent ≡ before.indent

-- as it is after a statement, a block, and the cases of a switch
abbrev pub PassesStatement : FunctionText → (before after : BodyState) → StatementTree → Type 0
PassesStatement f before after st =
    LinesWritten before after (named_after_statement f st before.scope.named) (statement_changes st)

abbrev pub PassesBlock : FunctionText → (before after : BodyState) → BlockTree → Type 0
PassesBlock f before after b =
    LinesWritten before after (named_following f b before.scope.named) (block_changes b)

abbrev pub PassesCases : FunctionText → (before after : BodyState) → CaseTrees → Type 0
PassesCases f before after cases =
    LinesWritten before after (named_after_cases f cases before.scope.named) (cases_changes cases)
