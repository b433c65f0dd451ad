use Rattle.std.proofs.Common.{sym, ◌∙◌}
use Rattle.naga_acceptance.proofs.FaultOrder.{disagreement_fails, first_named, first_operator}
use Rattle.naga_acceptance.proofs.FaultOrder.{first_needed, told_first, typed_further, typed_named}
use Rattle.naga_acceptance.proofs.FirstFaults.{accepted_named, accepted_operators, accepted_needed}
use Rattle.naga_acceptance.proofs.FirstFaults.{fails_named, fails_needed}
use Rattle.naga_acceptance.proofs.acceptance.unaccepted.Goals as goal

pub returns-then-is_some-clause-accepted : goal.returns-then-is_some-clause-accepted
returns-then-is_some-clause-accepted c =
    accepted_named c.args.module.now c.args.info.now c.ranges_fault-named.result c.ranges_fault-named.ensures
    (sym c.is_some.ensures ∙ c.if-is_some.true)

pub returns-then-is_some-clause-fault : goal.returns-then-is_some-clause-fault
returns-then-is_some-clause-fault c =
    let m = c.args.module.now in
    let info = c.args.info.now in
    let named = c.ranges_fault-named.result in
    told_first m info named (fails_named m info named c.ranges_fault-named.ensures)
    (first_named m info named c.ranges_fault-named.ensures) (typed_named m info named c.ranges_fault-named.ensures)

pub returns-then-is_some-2-clause-accepted : goal.returns-then-is_some-2-clause-accepted
returns-then-is_some-2-clause-accepted c =
    accepted_needed c.args.module.now c.args.info.now c.ranges_fault-named.result c.sound_fault-unsound.result
    c.ranges_fault-named.ensures (sym c.is_some.ensures ∙ c.if-is_some.false)
    c.sound_fault-unsound.ensures (sym c.is_some-2.ensures ∙ c.if-is_some-2.true)

pub returns-then-is_some-2-clause-fault : goal.returns-then-is_some-2-clause-fault
returns-then-is_some-2-clause-fault c =
    let m = c.args.module.now in
    let info = c.args.info.now in
    let named = c.ranges_fault-named.result in
    let wanted = c.sound_fault-unsound.result in
    let none = sym c.is_some.ensures ∙ c.if-is_some.false in
    told_first m info wanted (fails_needed m info wanted c.sound_fault-unsound.ensures)
    (first_needed m info named wanted c.ranges_fault-named.ensures none c.sound_fault-unsound.ensures)
    (typed_further m info named wanted c.ranges_fault-named.ensures none)

pub returns-clause-accepted : goal.returns-clause-accepted
returns-clause-accepted c =
    accepted_operators c.args.module.now c.args.info.now c.ranges_fault-named.result c.sound_fault-unsound.result
    c.operators_fault.result
    c.ranges_fault-named.ensures (sym c.is_some.ensures ∙ c.if-is_some.false)
    c.sound_fault-unsound.ensures (sym c.is_some-2.ensures ∙ c.if-is_some-2.false)
    c.operators_fault.ensures.agree

pub returns-clause-fault : goal.returns-clause-fault
returns-clause-fault c =
    let m = c.args.module.now in
    let info = c.args.info.now in
    let named = c.ranges_fault-named.result in
    let found = c.operators_fault.result in
    let none = sym c.is_some.ensures ∙ c.if-is_some.false in
    told_first m info found (disagreement_fails m info found c.operators_fault.ensures.fault)
    (first_operator m info named c.sound_fault-unsound.result found c.ranges_fault-named.ensures none
    c.sound_fault-unsound.ensures (sym c.is_some-2.ensures ∙ c.if-is_some-2.false) c.operators_fault.ensures.fault)
    (typed_further m info named found c.ranges_fault-named.ensures none)
