use Rattle.std.proofs.Common.{◌≡◌, ap, sym, ◌∙◌, arith, Some, true}
use Rattle.std.specs.Option.{option_and_then}
use Rattle.std.specs.Prelude.{unwrap_or}
use Rattle.module_semantics.specs.acceptance.AgreeingOperators.{groups_of}
use Rattle.naga_acceptance.specs.declared.agreeing.Site.{Site}
use Rattle.naga_acceptance.specs.Uses.{earlier_uses, group_of, has_hash, is_in, operation}
use Rattle.naga_acceptance.specs.Uses.{share_uses, use_at, use_in}
use Rattle.naga_acceptance.proofs.Agreement.{sought_agrees}
use Rattle.naga_acceptance.proofs.OperatorShares.{first_taken, one_more_agrees, part_use_more}
use Rattle.naga_acceptance.proofs.OperatorShares.{same_share}
use Rattle.naga_acceptance.proofs.Remembering.{empty_probe, entered_remembered, full_found}
use Rattle.naga_acceptance.proofs.Remembering.{further_remembered, remembers_same, seen_found}
use Rattle.naga_acceptance.proofs.Remembering.{seen_probe, slot_within}
use Rattle.naga_acceptance.proofs.agreeing.use_agrees.Goals as goal

pub bounds-table-slot : goal.bounds-table-slot
bounds-table-slot c =
    let types = c.args.module.now.types
    in let gs = groups_of c.args.module.now c.args.info.now
    in let v = operation types c.in-Some.used
    in omega (
      arith,
      c.requires.table.size,
      slot_within types gs c.args.slots c.args.table.now v c.in-Empty.slot c.in-Empty.ensures,
    )

pub returns-in-Empty-clause-agree : goal.returns-in-Empty-clause-agree
returns-in-Empty-clause-agree c =
    let types = c.args.module.now.types
    in let gs = groups_of c.args.module.now c.args.info.now
    in let g = group_of c.args.group
    in let before = share_uses c.args.share (earlier_uses types gs c.args.number g c.args.index)
    in let v = operation types c.in-Some.used
    in let own : is_in c.args.share v ≡ true =
    ap (has_hash c.args.share) (sym c.hash_of-hash.ensures) ∙ sym c.has_hash.ensures ∙ c.if-not-has_hash.false
    in sym (one_more_agrees types gs c.args.share c.args.number g c.args.index v
    (sym c.in-Some.ensures) own c.requires.agree
    ∙ empty_probe types gs before c.args.slots c.args.table.now v c.in-Empty.slot c.requires.table c.in-Empty.ensures)

pub returns-in-Seen-clause-agree : goal.returns-in-Seen-clause-agree
returns-in-Seen-clause-agree c =
    let types = c.args.module.now.types
    in let gs = groups_of c.args.module.now c.args.info.now
    in let g = group_of c.args.group
    in let before = share_uses c.args.share (earlier_uses types gs c.args.number g c.args.index)
    in let v = operation types c.in-Some.used
    in let own : is_in c.args.share v ≡ true =
    ap (has_hash c.args.share) (sym c.hash_of-hash.ensures) ∙ sym c.has_hash.ensures ∙ c.if-not-has_hash.false
    in seen_probe types gs before c.args.slots c.args.table.now v c.in-Seen.alike
    c.requires.agree c.requires.table c.in-Seen.ensures
    ∙ sym (one_more_agrees types gs c.args.share c.args.number g c.args.index v
    (sym c.in-Some.ensures) own c.requires.agree)

pub returns-else-share-clause-agree : goal.returns-else-share-clause-agree
returns-else-share-clause-agree c =
    let types = c.args.module.now.types
    in let gs = groups_of c.args.module.now c.args.info.now
    in let g = group_of c.args.group
    in let before = share_uses c.args.share (earlier_uses types gs c.args.number g c.args.index)
    in let v = operation types c.in-Some.used
    in let own : is_in c.args.share v ≡ true =
    ap (has_hash c.args.share) (sym c.hash_of-hash.ensures) ∙ sym c.has_hash.ensures ∙ c.if-not-has_hash.false
    in c.unwrap_or.ensures
    ∙ ap (λ o. unwrap_or o true) c.earlier_answer.ensures
    ∙ sym (one_more_agrees types gs c.args.share c.args.number g c.args.index v
    (sym c.in-Some.ensures) own c.requires.agree
    ∙ sought_agrees before c.requires.agree v
    ∙ sym (ap (λ o. unwrap_or o true)
    (first_taken (is_in c.args.share) v (λ w same. same_share c.args.share v w same own)
    (earlier_uses types gs c.args.number g c.args.index))))

pub returns-in-Empty-clause-table : goal.returns-in-Empty-clause-table
returns-in-Empty-clause-table c =
    let types = c.args.module.now.types
    in let gs = groups_of c.args.module.now c.args.info.now
    in let g = group_of c.args.group
    in let before = share_uses c.args.share (earlier_uses types gs c.args.number g c.args.index)
    in let v = operation types c.in-Some.used
    in let own : is_in c.args.share v ≡ true =
    ap (has_hash c.args.share) (sym c.hash_of-hash.ensures) ∙ sym c.has_hash.ensures ∙ c.if-not-has_hash.false
    in let site : Site = record { group = c.args.number; index = c.args.index; hash = c.hash_of-hash.result }
    in let there : use_at types gs site ≡ Some v =
    ap (option_and_then (λ g. use_in types g c.args.index)) c.requires.group ∙ sym c.in-Some.ensures
    in λ _. remembers_same types gs _ _ _ _
    (sym (part_use_more types gs c.args.share c.args.number g c.args.index v (sym c.in-Some.ensures) own))
    (entered_remembered types gs before c.args.slots c.args.table.now v c.in-Empty.slot site
    c.requires.table c.in-Empty.ensures there c.hash_of-hash.ensures)

pub returns-in-Seen-clause-table : goal.returns-in-Seen-clause-table
returns-in-Seen-clause-table c =
    let types = c.args.module.now.types
    in let gs = groups_of c.args.module.now c.args.info.now
    in let g = group_of c.args.group
    in let before = share_uses c.args.share (earlier_uses types gs c.args.number g c.args.index)
    in let v = operation types c.in-Some.used
    in let own : is_in c.args.share v ≡ true =
    ap (has_hash c.args.share) (sym c.hash_of-hash.ensures) ∙ sym c.has_hash.ensures ∙ c.if-not-has_hash.false
    in λ _. remembers_same types gs _ _ _ _
    (sym (part_use_more types gs c.args.share c.args.number g c.args.index v (sym c.in-Some.ensures) own))
    (further_remembered types gs before c.args.slots c.args.table.now v c.requires.table
    (seen_found types gs c.args.slots c.args.table.now v c.in-Seen.alike c.in-Seen.ensures))

pub returns-else-share-clause-table : goal.returns-else-share-clause-table
returns-else-share-clause-table c =
    let types = c.args.module.now.types
    in let gs = groups_of c.args.module.now c.args.info.now
    in let g = group_of c.args.group
    in let before = share_uses c.args.share (earlier_uses types gs c.args.number g c.args.index)
    in let v = operation types c.in-Some.used
    in let own : is_in c.args.share v ≡ true =
    ap (has_hash c.args.share) (sym c.hash_of-hash.ensures) ∙ sym c.has_hash.ensures ∙ c.if-not-has_hash.false
    in λ _. remembers_same types gs _ _ _ _
    (sym (part_use_more types gs c.args.share c.args.number g c.args.index v (sym c.in-Some.ensures) own))
    (further_remembered types gs before c.args.slots c.args.table.now v c.requires.table
    (full_found types gs c.args.slots c.args.table.now v c.in-Full.ensures))
