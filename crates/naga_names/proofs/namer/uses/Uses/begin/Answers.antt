use Rattle.std.proofs.Common.{ap, ◌∙◌, string_bytes}
use Rattle.std.specs.FinMap as finite
use Rattle.naga_naming.proofs.Naming.{uses_in-insert}
use Rattle.naga_names.proofs.namer.uses.Uses.begin.Goals as goal

pub returns-clause-ok : goal.returns-clause-ok
returns-clause-ok c =
    uses_in-insert (string_bytes c.args.stem) 0 c.self.inside.later c.insert.new.self
    c.in_ok-insert.ensures.updates
    ∙ ap (λ uses. finite.insert uses (string_bytes c.args.stem) 1) c.self.view_is
