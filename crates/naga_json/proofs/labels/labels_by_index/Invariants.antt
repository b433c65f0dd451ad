-- the labels that were read, with those to come, are what all say
use Rattle.std.proofs.Common.{◌≡◌, []}
use Rattle.naga_json.specs.Labels.{labels_from, seen_by_name, seen_labels}
use Rattle.naga_json.proofs.labels.labels_by_index.Given as goal

abbrev pub invariant-loop-name : goal.invariant-loop-name
invariant-loop-name l =
    labels_from (seen_labels l.labels.entries) (seen_by_name l.name-iterator)
    ≡ labels_from [] (seen_by_name l.members.entries)
