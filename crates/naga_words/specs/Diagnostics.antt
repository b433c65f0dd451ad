-- WGSL's words for how bad a diagnostic is and for the rule that it comes from.
--
-- Throughout, w is a word.
use Rattle.std.specs.Prelude.{◌≡◌, ◌≢◌, ℕ, List, [], ◌∷◌, ◌++◌, Option, Some, None, codes}
use Rattle.std.specs.Prelude.{string_bytes}
use Rattle.std.specs.List.{find}
use Rattle.std.specs.Str.{bytes_eq}
use Rattle.std.specs.declared.string.String.{String}
use Rattle.naga_ir.specs.declared.diagnostics.FilterableTriggeringRule.{FilterableTriggeringRule}
use Rattle.naga_ir.specs.declared.diagnostics.FilterableTriggeringRule.TheVariants as rule
use Rattle.naga_ir.specs.declared.diagnostics.Severity.{Severity}
use Rattle.naga_ir.specs.declared.diagnostics.Severity.TheVariants.{Off, Info, Warning, Error}
use Rattle.naga_ir.specs.declared.diagnostics.StandardFilterableTriggeringRule as standard
use Rattle.naga_ir.specs.declared.diagnostics.StandardFilterableTriggeringRule.TheVariants as named

-- how bad a diagnostic is
abbrev pub severity_word : Severity → List ℕ
severity_word Off = codes "off"
severity_word Info = codes "info"
severity_word Warning = codes "warning"
severity_word Error = codes "error"

-- all of them
abbrev pub severities : List Severity
severities = Off ∷ Info ∷ Warning ∷ Error ∷ []

-- a rule of the standard
abbrev pub standard_word : standard.StandardFilterableTriggeringRule → List ℕ
standard_word named.DerivativeUniformity = codes "derivative_uniformity"

-- all of these
abbrev pub standard_rules : List standard.StandardFilterableTriggeringRule
standard_rules = named.DerivativeUniformity ∷ []

-- the value whose word this is, if it is that of one
abbrev pub value_of : {A : Type 0} → (word : A → List ℕ) → (values : List A) → List ℕ → Option A
value_of word values w = find (λ value. bytes_eq w (word value)) values

abbrev pub severity_of : List ℕ → Option Severity
severity_of = value_of severity_word severities

abbrev pub standard_rule_of : List ℕ → Option standard.StandardFilterableTriggeringRule
standard_rule_of = value_of standard_word standard_rules

-- parts of a name, with a dot between
abbrev pub dotted : {Y : Type 0} → List (String Y) → List ℕ
dotted [] = []
dotted (segment ∷ []) = string_bytes segment
dotted (segment ∷ segments) = string_bytes segment ++ (codes "." ++ dotted segments)

-- the name of a rule: its word, if it is of the standard; as it was found, if nobody knows it; that
-- of its tool and its own, if it is a tool's
abbrev pub rule_name : FilterableTriggeringRule → List ℕ
rule_name (rule.Standard known) = standard_word known
rule_name (rule.Unknown name) = string_bytes name
rule_name (rule.User segments) = dotted segments

-- A word and its value determine each other: the value of a value's word is that value, a word of
-- which there is a value is that value's, and of any other word there is none.
pub record DetermineEachOther {A : Type 0} (word : A → List ℕ) (of : List ℕ → Option A) :
    Type 0 where
  pub read : (value : A) → of (word value) ≡ Some value
  pub alone : (w : List ℕ) (value : A) → of w ≡ Some value → w ≡ word value
  pub others : (w : List ℕ) → ((value : A) → w ≢ word value) → of w ≡ None
