use Rattle.std.proofs.Common.{sym, subst, ◌∙◌}
use Rattle.naga_naming.specs.Keys.{names_in}
use Rattle.naga_naming.specs.Reset.{labelled_members, NamesItems}
use Rattle.naga_naming.specs.Refusal.{RefusesItems}
use Rattle.naga_naming.specs.Members.{HasNamedMembers, RefusesMembers}
use Rattle.naga_naming.proofs.Label.{on_ok_then}
use Rattle.naga_naming.proofs.Naming.{has_named_nothing}
use Rattle.naga_naming.proofs.Reset.{if_err_more}
use Rattle.naga_naming.proofs.Members.{members_named, members_refused, within, outside_again}
use Rattle.naga_names.proofs.namer.Namer.name_members.Goals as goal

pub name_each_member-named-requires : goal.name_each_member-named-requires
name_each_member-named-requires c = has_named_nothing _ (c.replace-uses.ensures.after ∙ c.new.ensures)

pub returns-clause-ok : goal.returns-clause-ok
returns-clause-ok c =
    let start = within _ c.args.self.now c.replace-uses.new.dest
    c.replace-builtin_identifiers.new.dest c.self.view_is (c.replace-uses.ensures.after
    ∙ c.new.ensures) (c.replace-builtin_identifiers.ensures.after ∙ c.new-no_words.ensures) in
    on_ok_then c.name_each_member-named.result c.name_each_member-named.ensures.ok
    (λ named. subst (λ names. NamesItems c.args.self.now (names_in c.args.output.now)
    (labelled_members c.args.ty c.args.members.now) names (names_in c.name_each_member-named.new.output))
    (sym (outside_again _ c.args.self.now _ c.name_each_member-named.new.self c.replace-uses.result
    c.replace-builtin_identifiers.result c.replace-builtin_identifiers.new.dest c.self.view_is
    c.self-2.view_is c.name_each_member-named.ensures.words c.replace-uses.ensures.value
    c.replace-builtin_identifiers.ensures.value))
    (members_named c.args.self.now (names_in c.args.output.now) (names_in c.name_each_member-named.new.output)
    c.args.ty c.args.members.now c.name_each_member-named.new.self
    (subst (λ names. HasNamedMembers names (names_in c.args.output.now) c.args.ty c.args.members.now
    c.name_each_member-named.new.self (names_in c.name_each_member-named.new.output)) start named)))

pub returns-clause-err : goal.returns-clause-err
returns-clause-err c =
    let start = within _ c.args.self.now c.replace-uses.new.dest
    c.replace-builtin_identifiers.new.dest c.self.view_is (c.replace-uses.ensures.after
    ∙ c.new.ensures) (c.replace-builtin_identifiers.ensures.after ∙ c.new-no_words.ensures) in
    if_err_more c.name_each_member-named.result
    _ (RefusesItems c.args.self.now (names_in c.args.output.now)
    (labelled_members c.args.ty c.args.members.now)
    (names_in c.name_each_member-named.new.output)) c.name_each_member-named.ensures.err
    (λ e refused. members_refused c.args.self.now (names_in c.args.output.now)
    (names_in c.name_each_member-named.new.output) c.args.ty c.args.members.now e
    (subst (λ names. RefusesMembers names (names_in c.args.output.now) c.args.ty c.args.members.now
    (names_in c.name_each_member-named.new.output) e) start refused))
