use Rattle.std.proofs.Common.{◌≡◌, string_bytes, string_len}
use Rattle.naga_naming.specs.Label.{without_last_separators}
use Rattle.naga_names.proofs.namer.label.drop_last_separators.Given as goal

abbrev pub invariant-loop-text : goal.invariant-loop-text
invariant-loop-text l = without_last_separators (string_bytes l.text)
    ≡ without_last_separators (string_bytes l.initial.text)

abbrev pub decreases-loop-text : goal.decreases-loop-text
decreases-loop-text l = string_len l.text
