use Rattle.std.proofs.Common.{ap, sym, ◌∙◌}
use Rattle.std.specs.Option.{option_copied}
use Rattle.naga_acceptance.specs.KnownTypes.{known_types}
use Rattle.naga_acceptance.proofs.Identities.{first_known, second_known}
use Rattle.naga_acceptance.proofs.uses.is_alike_at.Goals as goal

pub returns-in-None-known_type : goal.returns-in-None-known_type
returns-in-None-known_type c =
    sym (first_known c.args.types.now (known_types c.args.known) (known_types c.args.other_known) c.args.handle
    c.args.other c.in-Some.a.now
    (sym c.known_type.ensures ∙ ap option_copied c.in-Some.is)
    (sym c.known_type-in-Some.ensures ∙ ap option_copied c.in-None-known_type.is))

pub returns-in-Some-known_type-2 : goal.returns-in-Some-known_type-2
returns-in-Some-known_type-2 c =
    sym (second_known c.args.types.now (known_types c.args.known) (known_types c.args.other_known) c.args.handle
    c.args.other c.in-Some-known_type-2.field-0.now
    (sym c.known_type.ensures ∙ ap option_copied c.in-None.is)
    (sym c.known_type-in-None.ensures ∙ ap option_copied c.in-Some-known_type-2.is))
