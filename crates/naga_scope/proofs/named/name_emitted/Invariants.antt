use Rattle.std.proofs.Common.{◌-◌, map, string_bytes}
use Rattle.module_semantics.specs.ExpressionLabels.{labels_of_each}
use Rattle.shader_runs.specs.Program.{from}
use Rattle.naga_scope.proofs.ExpressionNames.{NamedSoFar}
use Rattle.naga_scope.proofs.named.name_emitted.Given as goal

abbrev pub invariant-loop-index : goal.invariant-loop-index
invariant-loop-index l =
    NamedSoFar l.initial.namer (map string_bytes l.initial.names.items)
    (labels_of_each l.function (from l.fn.range.first (l.fn.range.end - l.fn.range.first)))
    (labels_of_each l.function (from l.index (l.fn.range.end - l.index)))
    l.namer (map string_bytes l.names.items)
