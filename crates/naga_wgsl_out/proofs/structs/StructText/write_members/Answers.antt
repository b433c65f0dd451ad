use Rattle.std.proofs.Common.{◌<◌, ◌^◌, arith, length, refl}
use Rattle.std.proofs.lemmas.Option.{slice_get_read}
use Rattle.naga_words.proofs.Writing.{leaves_as, leaves_more, leaves_none, leaves_start}
use Rattle.naga_wgsl_out.proofs.StructRows.{member_declared, members_more, members_none, members_start}
use Rattle.naga_wgsl_out.proofs.StructRows.{number_fits}
use Rattle.naga_wgsl_out.specs.Structs.{members_text}
use Rattle.naga_wgsl_out.proofs.structs.StructText.write_members.Goals as goal

pub loop-index-init : goal.loop-index-init
loop-index-init g c =
    leaves_as (members_start c.args.self.now.text.shader.now c.args.self.now.handle c.args.self.now.members.now)
    (leaves_start _ (members_text c.args.self.now.text.shader.now c.args.self.now.handle c.args.self.now.members.now))

pub given_size-size-requires-clause-there : goal.given_size-size-requires-clause-there
given_size-size-requires-clause-there g c =
    slice_get_read c.args.self.now.members.now (length c.args.self.now.members.now) c.loop-index.index
    c.index-members-index.result refl c.loop-index-test.true c.index-members-index.is

pub write_member-requires-clause-there : goal.write_member-requires-clause-there
write_member-requires-clause-there g c =
    member_declared c.args.self.now.text.shader.now c.args.self.now.handle c.args.self.now.members.now c.args.self.now.span
    c.requires.declared c.loop-index.index c.index-members-index.result
    (slice_get_read c.args.self.now.members.now (length c.args.self.now.members.now) c.loop-index.index
    c.index-members-index.result refl c.loop-index-test.true c.index-members-index.is)

pub loop-index-preserved : goal.loop-index-preserved
loop-index-preserved g c =
    leaves_more _ _ _ _ _ _ _ c.loop-index.invariant
    (members_more c.args.self.now.text.shader.now c.args.self.now.handle c.loop-index.index
    c.args.self.now.members.now c.index-members-index.result c.loop-index-test.true c.index-members-index.is)
    c.write_member.ensures

pub returns : goal.returns
returns g c =
    leaves_none _ _ _ _ c.loop-index.invariant
    (members_none c.args.self.now.text.shader.now c.args.self.now.handle c.loop-index.index
    c.args.self.now.members.now c.loop-index-test.false)

pub overflow_cast-number : goal.overflow_cast-number
overflow_cast-number g c =
    let i = c.loop-index.index in
    let s = c.index-members-index.result in
    let there = slice_get_read c.args.self.now.members.now (length c.args.self.now.members.now) i s refl
    c.loop-index-test.true c.index-members-index.is in
    let d = member_declared c.args.self.now.text.shader.now c.args.self.now.handle c.args.self.now.members.now
    c.args.self.now.span c.requires.declared i s there in
    let fits : i < 2 ^ 32 =
    number_fits c.args.self.now.text.shader.now c.requires.can.keys c.args.self.now.handle d.whole d.at i s d.there in
    omega (arith, fits)
