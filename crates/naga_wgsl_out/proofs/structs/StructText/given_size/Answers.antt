use Rattle.std.proofs.Common.{◌∙◌}
use Rattle.naga_wgsl_out.proofs.Sizes.{has_after, has_layout, no_size, size_is}
use Rattle.naga_wgsl_out.proofs.structs.StructText.given_size.Goals as goal

pub returns-in_err-whole : goal.returns-in_err-whole
returns-in_err-whole c =
    let s = c.args.self.now in
    c.from_residual.ensures
    ∙ no_size s.text c.requires.can.can s.handle s.members.now s.span
    c.requires.can.declared c.in_err-whole.ensures.layout c.args.number

pub returns-in_err-own : goal.returns-in_err-own
returns-in_err-own c =
    let s = c.args.self.now in
    absurd
    (has_layout s.text c.requires.can.can s.handle s.members.now s.span
    c.requires.can.declared c.args.number c.args.member.now c.requires.there c.in_ok-whole.whole
    c.in_ok-whole.ensures.layout c.in_err-own.ensures.layout)

pub returns-in_err-after : goal.returns-in_err-after
returns-in_err-after c =
    let s = c.args.self.now in
    absurd
    (has_after s.text c.requires.can.can s.handle s.members.now s.span
    c.requires.can.declared c.args.number c.args.member.now c.requires.there c.in_ok-whole.whole
    c.in_ok-whole.ensures.layout c.in_err-after.ensures.after)

pub returns : goal.returns
returns c =
    let s = c.args.self.now in
    size_is s.text c.requires.can.can s.handle s.members.now s.span
    c.requires.can.declared c.args.number c.args.member.now c.requires.there c.in_ok-whole.whole
    c.in_ok-whole.ensures.layout c.in_ok-own.own c.in_ok-own.ensures.layout c.in_ok-after.after
    c.in_ok-after.ensures.after c.gap_size.result c.gap_size.ensures
