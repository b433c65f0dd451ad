use Rattle.std.proofs.Common.{◌≡◌, ◌≤◌, ◌<◌, ◌+◌, ap, sym, ◌∙◌, suc, length, arith, refl, ℕ, true}
use Rattle.std.specs.Option.{is_none}
use Rattle.std.proofs.lemmas.Option.{slice_get_within}
use Rattle.module_semantics.specs.acceptance.AgreeingOperators.{groups_of}
use Rattle.module_semantics.specs.acceptance.Operations.{all_agree}
use Rattle.naga_acceptance.specs.Uses.{group_of, group_uses, share_uses}
use Rattle.naga_ir.proofs.Listed.{past_end}
use Rattle.naga_acceptance.proofs.Remembering.{none_remembered, remembers_same}
use Rattle.naga_acceptance.proofs.agreeing.disagreement_by.Goals as goal

pub loop-group-init : goal.loop-group-init
loop-group-init c = record {
  agree = refl;
  remembered = none_remembered c.args.module.now.types (groups_of c.args.module.now c.args.info.now)
      c.args.slots _ c.requires.empty;
  within = omega arith;
}

pub loop-group-smaller : goal.loop-group-smaller
loop-group-smaller c =
    let gs = groups_of c.args.module.now c.args.info.now
    in let within : c.loop-group.number < length gs =
    slice_get_within gs c.loop-group.number (group_of c.in-Some.group) (sym c.in-Some.ensures.group)
    in omega (arith, within)

pub loop-group-preserved : goal.loop-group-preserved
loop-group-preserved c =
    let types = c.args.module.now.types
    in let gs = groups_of c.args.module.now c.args.info.now
    in let within : c.loop-group.number < length gs =
    slice_get_within gs c.loop-group.number (group_of c.in-Some.group) (sym c.in-Some.ensures.group)
    in let next : suc c.loop-group.number ≡ c.loop-group.number + 1 = omega arith
    in let before = λ (n : ℕ). share_uses c.args.share (group_uses types gs n)
    in let none : is_none c.in_ok-found.found ≡ true = ap is_none c.in_default-found.is
    in record {
      agree = ap (λ n. all_agree (before n)) (sym next) ∙ c.in_ok-found.ensures.agree none;
      remembered = remembers_same types gs _ _ _ _ (ap before next) (c.in_ok-found.ensures.table none);
      within = omega (arith, within);
    }

pub returns-clause-found : goal.returns-clause-found
returns-clause-found c =
    let types = c.args.module.now.types
    in let gs = groups_of c.args.module.now c.args.info.now
    in let past : length gs ≤ c.loop-group.number = past_end gs c.loop-group.number (sym c.in_default.ensures.group)
    in let all : length gs ≡ c.loop-group.number = omega (arith, past, c.loop-group.invariant.within)
    in ap (λ n. all_agree (share_uses c.args.share (group_uses types gs n))) all ∙ c.loop-group.invariant.agree
