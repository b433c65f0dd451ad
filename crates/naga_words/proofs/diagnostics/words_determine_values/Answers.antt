use Rattle.std.proofs.Common.{refl}
use Rattle.naga_ir.specs.declared.diagnostics.Severity.TheVariants.{Off, Info, Warning, Error}
use Rattle.naga_ir.specs.declared.diagnostics.StandardFilterableTriggeringRule.TheVariants as named
use Rattle.naga_words.specs.Diagnostics.{severity_word, severities, standard_word, standard_rules}
use Rattle.naga_words.proofs.FoundWords.{found, none_of_others}
use Rattle.naga_words.proofs.diagnostics.words_determine_values.Goals as goal

pub returns-clause-severities : goal.returns-clause-severities
returns-clause-severities c = record {
  read = elim [ Off ↦ refl | Info ↦ refl | Warning ↦ refl | Error ↦ refl ];
  alone = found severity_word severities;
  others = none_of_others severity_word severities;
}

pub returns-clause-rules : goal.returns-clause-rules
returns-clause-rules c = record {
  read = elim [ named.DerivativeUniformity ↦ refl ];
  alone = found standard_word standard_rules;
  others = none_of_others standard_word standard_rules;
}
