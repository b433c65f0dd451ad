use Rattle.std.proofs.Common.{◌≡◌, ◌≤◌, ◌<◌, ◌+◌, ap, sym, ◌∙◌, length, arith, refl, slice_get, None, Some}
use Rattle.std.proofs.lemmas.Option.{slice_get_within}
use Rattle.std.specs.Option.{option_and_then}
use Rattle.module_semantics.specs.acceptance.AgreeingOperators.{groups_of}
use Rattle.naga_acceptance.specs.FirstUses.{first_below, first_other_at, first_other_in}
use Rattle.naga_acceptance.specs.OtherUses.{seen}
use Rattle.naga_acceptance.specs.Uses.{group_of, operation}
use Rattle.naga_acceptance.proofs.FirstUses.{found_within, none_next}
use Rattle.naga_ir.proofs.Listed.{past_end}
use Rattle.naga_acceptance.proofs.other_uses.first_other.Goals as goal

pub loop-group-init : goal.loop-group-init
loop-group-init c = record {
  none = refl;
  within = omega arith;
}

pub loop-group-smaller : goal.loop-group-smaller
loop-group-smaller c =
    let gs = groups_of c.args.module.now c.args.info.now
    in let within : c.loop-group.number < length gs =
    slice_get_within gs c.loop-group.number (group_of c.in-Some.group) (sym c.in-Some.ensures.group)
    in omega (arith, within)

pub returns-in-Some-first_other_in : goal.returns-in-Some-first_other_in
returns-in-Some-first_other_in c =
    let types = c.args.module.now.types
    in let gs = groups_of c.args.module.now c.args.info.now
    in let v = operation types c.args.used.now
    in let f = first_other_at types c.args.here.now gs v
    in let found = seen c.in-Some-first_other_in.seen
    in let group : slice_get gs c.loop-group.number ≡ Some (group_of c.in-Some.group) = sym c.in-Some.ensures.group
    in let here : f c.loop-group.number ≡ Some found =
    ap (option_and_then (first_other_in types c.args.here.now v)) group ∙ sym c.in-Some-first_other_in.ensures
    in sym (found_within f c.loop-group.number (length gs) found
    (slice_get_within gs c.loop-group.number (group_of c.in-Some.group) group) c.loop-group.invariant.none here)

pub loop-group-preserved : goal.loop-group-preserved
loop-group-preserved c =
    let types = c.args.module.now.types
    in let gs = groups_of c.args.module.now c.args.info.now
    in let v = operation types c.args.used.now
    in let f = first_other_at types c.args.here.now gs v
    in let group : slice_get gs c.loop-group.number ≡ Some (group_of c.in-Some.group) = sym c.in-Some.ensures.group
    in let within : c.loop-group.number < length gs =
    slice_get_within gs c.loop-group.number (group_of c.in-Some.group) group
    in let here : f c.loop-group.number ≡ None =
    ap (option_and_then (first_other_in types c.args.here.now v)) group ∙ sym c.in_default-first_other_in.ensures
    in record {
      none = none_next f c.loop-group.number (c.loop-group.number + 1) c.loop-group.invariant.none here (omega arith);
      within = omega (arith, within);
    }

pub returns : goal.returns
returns c =
    let types = c.args.module.now.types
    in let gs = groups_of c.args.module.now c.args.info.now
    in let f = first_other_at types c.args.here.now gs (operation types c.args.used.now)
    in let past : length gs ≤ c.loop-group.number = past_end gs c.loop-group.number (sym c.in_default.ensures.group)
    in let all : length gs ≡ c.loop-group.number = omega (arith, past, c.loop-group.invariant.within)
    in sym (ap (first_below f) all ∙ c.loop-group.invariant.none)
