-- Which rules have names that can stand in WGSL.
--
-- Throughout, w is a word.
use Rattle.std.specs.Prelude.{ℕ, Bool, true, ◌&&◌, not, List, string_bytes}
use Rattle.std.specs.List.{list_all, list_any}
use Rattle.std.specs.Str.{bytes_eq}
use Rattle.naga_ir.specs.declared.diagnostics.FilterableTriggeringRule.{FilterableTriggeringRule}
use Rattle.naga_ir.specs.declared.diagnostics.FilterableTriggeringRule.TheVariants as rule
use Rattle.naga_keywords.specs.Plain.{is_identifier}
use Rattle.naga_keywords.specs.declared.keywords.TheConstants.{RESERVED}

-- a keyword of WGSL, or a word that is kept for later ones
unfoldable pub is_reserved : List ℕ → Bool
is_reserved w = list_any (λ word. bytes_eq w word.now) RESERVED.now

-- An identifier. WGSL also has ones of other letters than those of ASCII, of which no name here is.
abbrev pub is_name : List ℕ → Bool
is_name w = is_identifier w && not (is_reserved w)

-- A rule of the standard has a name. Any other has one if that is an identifier; a tool's rule, if
-- the names of the tool and of the rule are.
abbrev pub has_name : FilterableTriggeringRule → Bool
has_name (rule.Standard known) = true
has_name (rule.Unknown name) = is_name (string_bytes name)
has_name (rule.User segments) = list_all (λ segment. is_name (string_bytes segment)) segments
