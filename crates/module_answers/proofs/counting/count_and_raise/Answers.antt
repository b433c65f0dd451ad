use Rattle.std.proofs.Common.{inl, inr}
use Rattle.module_answers.proofs.RaisedCounts.{bound_after_count, counted_anew, counted_still}
use Rattle.module_answers.proofs.RaisedCounts.{raised_after, raised_still}
use Rattle.module_answers.proofs.counting.count_and_raise.Goals as goal

pub returns-in_err-bind_deep_operands-clause-raised : goal.returns-in_err-bind_deep_operands-clause-raised
returns-in_err-bind_deep_operands-clause-raised c =
    raised_after c.args.«module».now c.args.info.now c.count_uses.new.info c.bind_deep_operands.new.info
    c.count_uses.ensures.counted c.bind_deep_operands.ensures.raised.0
    c.bind_deep_operands.ensures.raised.1 c.bind_deep_operands.ensures.types

pub returns-in_err-is_refused-clause-raised : goal.returns-in_err-is_refused-clause-raised
returns-in_err-is_refused-clause-raised c =
    raised_after c.args.«module».now c.args.info.now c.count_uses.new.info c.bind_deep_operands.new.info
    c.count_uses.ensures.counted c.bind_deep_operands.ensures.raised.0
    c.bind_deep_operands.ensures.raised.1 c.bind_deep_operands.ensures.types

-- refused with raised counts: counted anew
pub returns-then-branch-2-clause-counted : goal.returns-then-branch-2-clause-counted
returns-then-branch-2-clause-counted c =
    let m = c.args.«module».now in
    let old = c.args.info.now in
    let bound = bound_after_count m old c.count_uses.new.info c.bind_deep_operands.new.info
    c.count_uses.ensures.counted c.in_ok-bind_deep_operands.ensures.functions
    c.in_ok-bind_deep_operands.ensures.entry_points
    c.bind_deep_operands.ensures.types c.in_ok-bind_deep_operands.ensures.shallow.0
    c.in_ok-bind_deep_operands.ensures.shallow.1 in
    inr (record {
      counted = counted_anew m old c.bind_deep_operands.new.info c.count_uses-then-branch-2.new.info bound
          c.count_uses-then-branch-2.ensures.counted;
      raised = c.bind_deep_operands.new.info;
      bound = bound;
      refused = c.in_ok-is_refused.ensures.refused c.if-branch-2.true;
    })

pub returns-then-branch-2-clause-raised : goal.returns-then-branch-2-clause-raised
returns-then-branch-2-clause-raised c =
    let m = c.args.«module».now in
    let old = c.args.info.now in
    let bound = bound_after_count m old c.count_uses.new.info c.bind_deep_operands.new.info
    c.count_uses.ensures.counted c.in_ok-bind_deep_operands.ensures.functions
    c.in_ok-bind_deep_operands.ensures.entry_points
    c.bind_deep_operands.ensures.types c.in_ok-bind_deep_operands.ensures.shallow.0
    c.in_ok-bind_deep_operands.ensures.shallow.1 in
    raised_still m old c.count_uses-then-branch-2.new.info
    (counted_anew m old c.bind_deep_operands.new.info c.count_uses-then-branch-2.new.info bound
    c.count_uses-then-branch-2.ensures.counted)

-- written with them
pub returns-else-branch-2-clause-counted : goal.returns-else-branch-2-clause-counted
returns-else-branch-2-clause-counted c =
    inl (
      bound_after_count c.args.«module».now c.args.info.now c.count_uses.new.info c.bind_deep_operands.new.info
          c.count_uses.ensures.counted c.in_ok-bind_deep_operands.ensures.functions
          c.in_ok-bind_deep_operands.ensures.entry_points
          c.bind_deep_operands.ensures.types c.in_ok-bind_deep_operands.ensures.shallow.0
          c.in_ok-bind_deep_operands.ensures.shallow.1,
      inr (c.in_ok-is_refused.ensures.written c.if-branch-2.false),
    )

pub returns-else-branch-2-clause-raised : goal.returns-else-branch-2-clause-raised
returns-else-branch-2-clause-raised c =
    raised_after c.args.«module».now c.args.info.now c.count_uses.new.info c.bind_deep_operands.new.info
    c.count_uses.ensures.counted c.bind_deep_operands.ensures.raised.0
    c.bind_deep_operands.ensures.raised.1 c.bind_deep_operands.ensures.types

-- none was raised
pub returns-else-branch-clause-counted : goal.returns-else-branch-clause-counted
returns-else-branch-clause-counted c =
    let unchanged = c.in_ok-bind_deep_operands.ensures.unchanged c.if-branch.false in
    inl (
      bound_after_count c.args.«module».now c.args.info.now c.count_uses.new.info c.bind_deep_operands.new.info
          c.count_uses.ensures.counted c.in_ok-bind_deep_operands.ensures.functions
          c.in_ok-bind_deep_operands.ensures.entry_points
          c.bind_deep_operands.ensures.types c.in_ok-bind_deep_operands.ensures.shallow.0
          c.in_ok-bind_deep_operands.ensures.shallow.1,
      inl (counted_still c.args.«module».now c.args.info.now c.count_uses.new.info c.bind_deep_operands.new.info
          c.count_uses.ensures.counted unchanged.0 unchanged.1 c.bind_deep_operands.ensures.types),
    )

pub returns-else-branch-clause-raised : goal.returns-else-branch-clause-raised
returns-else-branch-clause-raised c =
    raised_after c.args.«module».now c.args.info.now c.count_uses.new.info c.bind_deep_operands.new.info
    c.count_uses.ensures.counted c.bind_deep_operands.ensures.raised.0
    c.bind_deep_operands.ensures.raised.1 c.bind_deep_operands.ensures.types
