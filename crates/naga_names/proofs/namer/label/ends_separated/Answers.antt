use Rattle.std.proofs.Common.{ap, ◌∙◌, ◌==◌}
use Rattle.naga_naming.proofs.Label.{ends_separated-last}
use Rattle.naga_names.proofs.namer.label.ends_separated.Goals as goal

pub returns-in-Some : goal.returns-in-Some
returns-in-Some c = ap (λ b. b == 95) (c.in-Some.ensures.item.3.1 0) ∙ ends_separated-last c.args.text.now
