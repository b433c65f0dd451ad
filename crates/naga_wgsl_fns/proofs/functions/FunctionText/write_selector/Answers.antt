use Rattle.std.proofs.Common.{sym, ◌∙◌}
use Rattle.naga_words.proofs.Writing.{writes_as}
use Rattle.naga_wgsl_fns.proofs.PartRows.{member_selector_row}
use Rattle.naga_wgsl_fns.proofs.Preconditions.{member_is, member_there}
use Rattle.naga_wgsl_fns.proofs.functions.FunctionText.write_selector.Goals as goal

pub write_named_member-requires : goal.write_named_member-requires
write_named_member-requires g c =
    record {
      named =
          member_there c.args.self.now c.requires.can c.args.base c.args.index c.in-Some.whole
          c.requires.has_form (sym c.struct_known.ensures ∙ c.in-Some.is);
    }

pub returns-in-Some : goal.returns-in-Some
returns-in-Some g c =
    writes_as
    (member_selector_row c.args.self.now c.args.base c.args.index c.in-Some.whole
    (member_is c.args.self.now c.requires.can c.args.base c.args.index c.in-Some.whole c.requires.has_form
    (sym c.struct_known.ensures ∙ c.in-Some.is)))
    c.write_named_member.ensures
