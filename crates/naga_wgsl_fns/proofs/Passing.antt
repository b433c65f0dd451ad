-- What has been passed after statements: none, some and others, and some at a level of their own.
-- Serves `statement`, `write_case`, `write_else` and `write_plain_continuing`.
use Rattle.std.proofs.Common.{◌≡◌, ℕ, ◌+◌, true, refl, ap, ◌∙◌, arith, length}
use Rattle.naga_ir.specs.StatementTree.{BlockTree, no_statements, statement, has_no_statements}
use Rattle.naga_scope.specs.Availabilities.{TextPoint}
use Rattle.naga_scope.specs.Changes.{block_changes}
use Rattle.naga_scope.specs.Log.{Same}
use Rattle.naga_wgsl_fns.specs.BodyStates.{LinesWritten, PassesBlock}
use Rattle.naga_wgsl_fns.specs.Statements.{named_following}
use Rattle.naga_wgsl_fns.specs.declared.functions.FunctionText.{FunctionText}
use Rattle.naga_wgsl_fns.specs.declared.lines.BodyState.{BodyState}

pub none_passed : (at : BodyState) → LinesWritten at at at.scope.named 0
none_passed at = record {
  named = refl;
  counted = record { log = omega arith; names = omega arith };
  indent = refl;
}

-- of a block without statements
pub nothing_passed : (f : FunctionText) (b : BlockTree) (at : BodyState) → has_no_statements b ≡ true →
    PassesBlock f at at b
nothing_passed f no_statements at none = none_passed at
nothing_passed f (statement st b) at none = absurd cc

-- one block, and another after it
pub both_passed : (f : FunctionText) (b d : BlockTree) {before middle after : BodyState} →
    LinesWritten before middle (named_following f b before.scope.named) (block_changes b)
    → LinesWritten middle after (named_following f d middle.scope.named) (block_changes d)
    → LinesWritten before after (named_following f d (named_following f b before.scope.named))
    (block_changes b + block_changes d)
both_passed f b d {before} {middle} {after} one other =
    let log = one.counted.log in
    let names = one.counted.names in
    let logs = other.counted.log in
    let more = other.counted.names in
    record {
      named = other.named ∙ ap (named_following f d) one.named;
      counted = record { log = omega (arith, log, logs); names = omega (arith, names, more) };
      indent = other.indent ∙ one.indent;
    }

-- back at a point of the scope
pub passed_back : {before after : BodyState} {names changes : ℕ} (now : TextPoint) →
    LinesWritten before after names changes → Same before.scope now → now.named ≡ after.scope.named
    → LinesWritten before (record { scope = now; indent = after.indent }) names changes
passed_back {before} {after} {names} {changes} now passed same kept =
    let log = ap length same.log in
    let more = passed.counted.names in
    record {
      named = kept ∙ passed.named;
      counted = record { log = omega (arith, log); names = omega (arith, kept, more) };
      indent = passed.indent;
    }

-- back at a level
pub level_back : {after : BodyState} {names changes : ℕ} (before : BodyState) (deeper left : ℕ) →
    LinesWritten (record before { indent = deeper }) after names changes → left ≡ before.indent
    → LinesWritten before (record { scope = after.scope; indent = left }) names changes
level_back {after} {names} {changes} before deeper left passed back = record {
  named = passed.named;
  counted = passed.counted;
  indent = back;
}
