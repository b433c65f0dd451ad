use Rattle.std.proofs.Common.{false}
use Rattle.std.proofs.lemmas.List.{drop_all}
use Rattle.std.specs.Option.{option_map_or}
use Rattle.naga_ir.specs.declared.types.StructMember.{StructMember}
use Rattle.module_semantics.specs.Enables.{Extension}
use Rattle.naga_wgsl_out.proofs.FoundEnables.{found_all, found_at}
use Rattle.naga_wgsl_out.proofs.enables.of_members.Goals as goal

pub loop-member-preserved : goal.loop-member-preserved
loop-member-preserved c =
    found_at (λ (x : Extension) (m : StructMember). option_map_or x.for_binding m.binding false) _ _ _ _ _ _ _
    c.loop-member-test.true c.member-item.is c.or-found.ensures c.of_any_binding.ensures
    c.loop-member.invariant

pub returns : goal.returns
returns c =
    found_all (λ (x : Extension) (m : StructMember). option_map_or x.for_binding m.binding false) _ _ _
    (drop_all c.loop-member.member-index c.args.members.now c.loop-member-test.false) c.loop-member.invariant
