use Rattle.std.proofs.Common.{◌≡◌, ◌≤◌, ◌+◌, ℕ, true, ap, sym, ◌∙◌, suc, length, arith}
use Rattle.module_semantics.specs.acceptance.AgreeingOperators.{groups_of}
use Rattle.module_semantics.specs.acceptance.Operations.{all_agree}
use Rattle.naga_acceptance.specs.Uses.{earlier_uses, group_of, group_uses, share_uses}
use Rattle.naga_acceptance.proofs.Groups.{group_end}
use Rattle.naga_acceptance.proofs.Remembering.{remembers_same}
use Rattle.naga_acceptance.proofs.agreeing.first_disagreeing.Goals as goal

pub loop-index-preserved : goal.loop-index-preserved
loop-index-preserved c =
    let types = c.args.module.now.types
    in let gs = groups_of c.args.module.now c.args.info.now
    in let g = group_of c.args.group
    in let next : suc c.loop-index.index ≡ c.loop-index.index + 1 = omega arith
    in let before = λ (n : ℕ). share_uses c.args.share (earlier_uses types gs c.args.number g n)
    in let agree : all_agree (before (suc c.loop-index.index)) ≡ true =
    sym c.in_ok-agrees.ensures.agree ∙ c.if-not-agrees.false
    in record {
      agree = ap (λ n. all_agree (before n)) (sym next) ∙ agree;
      remembered = remembers_same types gs _ _ _ _ (ap before next)
          (c.in_ok-agrees.ensures.table c.if-not-agrees.false);
    }

pub returns-clause-agree : goal.returns-clause-agree
returns-clause-agree c =
    let types = c.args.module.now.types
    in let gs = groups_of c.args.module.now c.args.info.now
    in let g = group_of c.args.group
    in let all : c.loop-index.index ≡ length g.expressions = omega arith
    in let ended : earlier_uses types gs c.args.number g c.loop-index.index ≡ group_uses types gs (suc c.args.number) =
    ap (earlier_uses types gs c.args.number g) all ∙ group_end types gs c.args.number g c.requires.group
    in λ _. ap (λ os. all_agree (share_uses c.args.share os)) (sym ended) ∙ c.loop-index.invariant.agree

pub returns-clause-table : goal.returns-clause-table
returns-clause-table c =
    let types = c.args.module.now.types
    in let gs = groups_of c.args.module.now c.args.info.now
    in let g = group_of c.args.group
    in let all : c.loop-index.index ≡ length g.expressions = omega arith
    in let ended : earlier_uses types gs c.args.number g c.loop-index.index ≡ group_uses types gs (suc c.args.number) =
    ap (earlier_uses types gs c.args.number g) all ∙ group_end types gs c.args.number g c.requires.group
    in λ _. remembers_same types gs _ _ _ _ (ap (share_uses c.args.share) ended) c.loop-index.invariant.remembered

pub returns-then-not-agrees-clause-fault : goal.returns-then-not-agrees-clause-fault
returns-then-not-agrees-clause-fault c =
    let g = group_of c.args.group
    in let within : suc c.loop-index.index ≤ length g.expressions = omega arith
    in (
      g,
      c.requires.group,
      within,
      c.loop-index.invariant.agree,
      sym c.in_ok-agrees.ensures.agree ∙ c.if-not-agrees.true,
    )
