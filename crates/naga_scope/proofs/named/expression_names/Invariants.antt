use Rattle.std.proofs.Common.{[], drop, map, string_bytes}
use Rattle.std.specs.List.{flat_map}
use Rattle.naga_ir.specs.InOrder.{trees_of}
use Rattle.naga_scope.specs.InOrder.{own_labels}
use Rattle.naga_scope.proofs.ExpressionNames.{NamedSoFar}
use Rattle.naga_scope.proofs.named.expression_names.Given as goal

abbrev pub invariant-loop-statement : goal.invariant-loop-statement
invariant-loop-statement l =
    NamedSoFar l.initial.namer [] (flat_map (own_labels l.function) (trees_of l.statements))
    (flat_map (own_labels l.function) (trees_of (drop l.statement-index l.statements))) l.namer
    (map string_bytes l.names.items)
