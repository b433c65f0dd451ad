use Rattle.std.proofs.Common.{◌≡◌, string_bytes, IfOk, subst}
use Rattle.naga_naming.specs.Naming.{name_after}
use Rattle.naga_names.proofs.namer.Namer.call_or.Goals as goal

pub returns-clause-history : goal.returns-clause-history
returns-clause-history c = λ earlier has.
    subst (λ label. IfOk c.call.result (λ name. string_bytes name ≡ name_after c.args.self.now earlier label))
    c.label_or.ensures (c.call.ensures.history earlier has)
