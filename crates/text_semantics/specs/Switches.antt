-- The case values of the switches of a text.
--
-- Throughout, l is a case value, n a number, e an expression and s a statement.
use Rattle.std.specs.Prelude.{ℕ, ℤ, List, [], ◌∷◌, ◌++◌}
use Rattle.wgsl_text.specs.Statements.{CaseValue, DefaultCase, SignedCase, UnsignedCase, CaseValues}
use Rattle.wgsl_text.specs.Statements.{LastCaseValue, MoreCaseValues, Statement, If, Loop}
use Rattle.wgsl_text.specs.Statements.{LoopBreakIf}
use Rattle.wgsl_text.specs.Statements.{Switch, Block, Statements, NoStatements, Then, OptionalBlock}
use Rattle.wgsl_text.specs.Statements.{NoBlock, SomeBlock, Cases, NoCases, Case}
use Rattle.text_semantics.specs.Literals.{integer_of_sign}

-- what a case value tells: a number, with whether it has the `u` of an unsigned selector's, or that
-- the case is the default
pub data CaseValueInterface : Type 0 where
  Signed : ℤ → CaseValueInterface
  Unsigned : ℕ → CaseValueInterface
  Default : CaseValueInterface

abbrev pub case_value_interface_read : CaseValue → CaseValueInterface
case_value_interface_read DefaultCase = Default
case_value_interface_read (SignedCase negative n) = Signed (integer_of_sign negative n)
case_value_interface_read (UnsignedCase n) = Unsigned n

-- the values of one case, and those of all cases, in the order of the text
abbrev pub own_case_values_read : CaseValues → List CaseValueInterface
own_case_values_read (LastCaseValue l) = case_value_interface_read l ∷ []
own_case_values_read (MoreCaseValues l more) =
    case_value_interface_read l ∷ own_case_values_read more

abbrev pub all_case_values_read : Cases → List CaseValueInterface
all_case_values_read NoCases = []
all_case_values_read (Case case_values body more) =
    own_case_values_read case_values ++ all_case_values_read more

-- the case values of each switch, in the order of the text: those of a switch stand before those of
-- the switches in its cases
abbrev mutual
  pub statement_switches : Statement → List (List CaseValueInterface)
  statement_switches (If e accept reject) =
      statements_switches accept ++ optional_switches reject
  statement_switches (Loop body rest) = statements_switches body ++ optional_switches rest
  statement_switches (LoopBreakIf body rest e) =
      statements_switches body ++ statements_switches rest
  statement_switches (Switch e cases) = all_case_values_read cases ∷ cases_switches cases
  statement_switches (Block body) = statements_switches body
  statement_switches _ = []

  pub statements_switches : Statements → List (List CaseValueInterface)
  statements_switches NoStatements = []
  statements_switches (Then s more) = statement_switches s ++ statements_switches more

  pub optional_switches : OptionalBlock → List (List CaseValueInterface)
  optional_switches NoBlock = []
  optional_switches (SomeBlock body) = statements_switches body

  pub cases_switches : Cases → List (List CaseValueInterface)
  cases_switches NoCases = []
  cases_switches (Case case_values body more) = statements_switches body ++ cases_switches more
