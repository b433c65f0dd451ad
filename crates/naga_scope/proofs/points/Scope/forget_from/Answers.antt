use Rattle.std.proofs.Common.{arith}
use Rattle.naga_scope.proofs.Logs.{forget_done, forget_named, forget_log, forgotten_reverts, forgotten_says}
use Rattle.naga_scope.proofs.points.Scope.forget_from.Goals as goal

pub forget_at-requires : goal.forget_at-requires
forget_at-requires c = omega (arith, forget_log _ _ _ c.loop-left.invariant.so_far)

pub returns-clause-named : goal.returns-clause-named
returns-clause-named c = forget_named _ _ _ c.loop-left.invariant.so_far

pub returns-clause-forgets : goal.returns-clause-forgets
returns-clause-forgets c before named at extends =
    forgotten_says named _ _ _ _ extends at (forget_done _ _ _ _ c.loop-left.invariant.so_far (omega arith))

pub returns-clause-reverts : goal.returns-clause-reverts
returns-clause-reverts c before at extends =
    forgotten_reverts _ _ _ _ (forget_done _ _ _ _ c.loop-left.invariant.so_far (omega arith)) at extends
