-- The types that the `let`s of a text tell.
use Rattle.std.specs.Prelude.{ℕ, List, [], ◌∷◌, ◌++◌, Option, Some, None}
use Rattle.wgsl_text.specs.Reading.{printed_type}
use Rattle.wgsl_text.specs.Statements.{Statement, Let, TypedLet, If, Loop, LoopBreakIf, Switch}
use Rattle.wgsl_text.specs.Statements.{Block, Statements, NoStatements, Then, OptionalBlock}
use Rattle.wgsl_text.specs.Statements.{NoBlock, SomeBlock, Cases, NoCases, Case}

-- the types that `let`s tell, by their spellings, in the order of the text: one for each, if it
-- tells one
abbrev mutual
  pub statement_annotations : Statement → List (Option (List ℕ))
  statement_annotations (Let w e) = None ∷ []
  statement_annotations (TypedLet w t e) = Some (printed_type t) ∷ []
  statement_annotations (If e accept reject) =
      statements_annotations accept ++ optional_annotations reject
  statement_annotations (Loop body rest) =
      statements_annotations body ++ optional_annotations rest
  statement_annotations (LoopBreakIf body rest e) =
      statements_annotations body ++ statements_annotations rest
  statement_annotations (Switch e cases) = cases_annotations cases
  statement_annotations (Block body) = statements_annotations body
  statement_annotations _ = []

  pub statements_annotations : Statements → List (Option (List ℕ))
  statements_annotations NoStatements = []
  statements_annotations (Then s more) = statement_annotations s ++ statements_annotations more

  pub optional_annotations : OptionalBlock → List (Option (List ℕ))
  optional_annotations NoBlock = []
  optional_annotations (SomeBlock body) = statements_annotations body

  pub cases_annotations : Cases → List (Option (List ℕ))
  cases_annotations NoCases = []
  cases_annotations (Case case_values body more) = statements_annotations body ++ cases_annotations more
