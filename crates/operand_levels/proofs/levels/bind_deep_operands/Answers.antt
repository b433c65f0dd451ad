use Rattle.std.proofs.Common.{ap, sym, subst, ◌∙◌, refl, map}
use Rattle.std.specs.Vec.{with_items}
use Rattle.std.proofs.lemmas.List.{with_items_is}
use Rattle.operand_levels.specs.Levels.{all_bound_where_deep}
use Rattle.operand_levels.specs.Raised.{AllRaised, AllShallow}
use Rattle.operand_levels.proofs.Accepted.{accepted_with, still_accepted}
use Rattle.operand_levels.proofs.Raising.{all_count, all_raised_still}
use Rattle.operand_levels.proofs.Shallow.{all_shallow}
use Rattle.operand_levels.proofs.levels.bind_deep_operands.Goals as goal

pub returns-in_err-in_functions-clause-raised : goal.returns-in_err-in_functions-clause-raised
returns-in_err-in_functions-clause-raised c =
    let old = c.args.info.now.functions in
    let raised = subst (λ kss. AllRaised kss c.bind_in_functions.new.infos) c.as_mut_slice.ensures.value
    c.bind_in_functions.ensures.raised in
    let kept = with_items_is old c.bind_in_functions.new.infos
    (all_count old.items c.bind_in_functions.new.infos raised ∙ sym old.ok.0) in (
      subst (AllRaised old.items) (sym kept) raised,
      all_raised_still c.args.info.now.entry_points.items,
    )

pub returns-in_err-in_functions-clause-accepted : goal.returns-in_err-in_functions-clause-accepted
returns-in_err-in_functions-clause-accepted c =
    let raised = returns-in_err-in_functions-clause-raised c in
    still_accepted c.args.«module».now c.args.info.now
    (record {
      functions = with_items c.args.info.now.functions c.bind_in_functions.new.infos;
      entry_points = c.args.info.now.entry_points;
      const_expression_types = c.args.info.now.const_expression_types;
    })
    refl raised.0 raised.1

pub returns-in_err-in_entry_points-clause-accepted : goal.returns-in_err-in_entry_points-clause-accepted
returns-in_err-in_entry_points-clause-accepted c =
    accepted_with c.args.«module».now c.args.info.now c.bind_in_functions.new.infos c.bind_in_entry_points.new.infos
    (subst (λ kss. AllRaised kss c.bind_in_functions.new.infos) c.as_mut_slice.ensures.value
    c.bind_in_functions.ensures.raised)
    (subst (λ kss. AllRaised kss c.bind_in_entry_points.new.infos) c.as_mut_slice-2.ensures.value
    c.bind_in_entry_points.ensures.raised)

pub returns-clause-accepted : goal.returns-clause-accepted
returns-clause-accepted c =
    accepted_with c.args.«module».now c.args.info.now c.bind_in_functions.new.infos c.bind_in_entry_points.new.infos
    (subst (λ kss. AllRaised kss c.bind_in_functions.new.infos) c.as_mut_slice.ensures.value
    c.bind_in_functions.ensures.raised)
    (subst (λ kss. AllRaised kss c.bind_in_entry_points.new.infos) c.as_mut_slice-2.ensures.value
    c.bind_in_entry_points.ensures.raised)

pub returns-clause-shallow : goal.returns-clause-shallow
returns-clause-shallow c =
    let functions = c.args.info.now.functions in
    let points = c.args.info.now.entry_points in
    let raised = subst (λ kss. AllRaised kss c.bind_in_functions.new.infos) c.as_mut_slice.ensures.value
    c.bind_in_functions.ensures.raised in
    let points_raised = subst (λ kss. AllRaised kss c.bind_in_entry_points.new.infos) c.as_mut_slice-2.ensures.value
    c.bind_in_entry_points.ensures.raised in
    let kept = with_items_is functions c.bind_in_functions.new.infos
    (all_count functions.items c.bind_in_functions.new.infos raised ∙ sym functions.ok.0) in
    let points_kept = with_items_is points c.bind_in_entry_points.new.infos
    (all_count points.items c.bind_in_entry_points.new.infos points_raised ∙ sym points.ok.0) in (
      subst (AllShallow c.args.«module».now.functions) (sym (kept ∙ c.in_ok-in_functions.ensures.bound))
          (all_shallow c.args.«module».now.functions c.as_mut_slice.result.now),
      subst (AllShallow (map (λ p. p.function) c.args.«module».now.entry_points.items))
          (sym (points_kept ∙ (c.in_ok-in_entry_points.ensures.bound
          ∙ ap (λ ps. all_bound_where_deep (map (λ p. p.function) ps) c.as_mut_slice-2.result.now)
          c.deref.ensures.value)))
          (all_shallow (map (λ p. p.function) c.args.«module».now.entry_points.items) c.as_mut_slice-2.result.now),
    )
