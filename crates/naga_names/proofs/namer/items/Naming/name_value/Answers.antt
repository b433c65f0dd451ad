use Rattle.std.proofs.Common.{refl}
use Rattle.naga_naming.specs.declared.key.NameKey.TheVariants as key
use Rattle.naga_names.proofs.Progress.{gives_up_memory}
use Rattle.naga_names.proofs.namer.items.Naming.name_value.Goals as goal

pub returns-in-Some-clause-kept : goal.returns-in-Some-clause-kept
returns-in-Some-clause-kept c = λ t. c.name.ensures.others (key.Type_ t) (c.requires.no_type t)

pub returns-in-Ok-clause-kept : goal.returns-in-Ok-clause-kept
returns-in-Ok-clause-kept c = λ t. c.name-in-Ok.ensures.others (key.Type_ t) (c.requires.no_type t)

pub returns-in-Err-clause-named : goal.returns-in-Err-clause-named
returns-in-Err-clause-named c = gives_up_memory _ _ _ refl c.refuse.ensures.refusal
