use Rattle.std.proofs.Common.{sym, ap}
use Rattle.naga_naming.specs.Reset.{with_parts}
use Rattle.naga_names.specs.Progress.{part_key}
use Rattle.naga_names.proofs.Progress.{gives_same, gives_then}
use Rattle.naga_names.proofs.namer.items.Naming.name_with_parts.Goals as goal

pub returns-then-has_parts : goal.returns-then-has_parts
returns-then-has_parts c =
    gives_same (ap (λ has_parts. with_parts has_parts (part_key c.args.key.now)
    (c.args.key.now, c.args.label.now)) (sym c.if-has_parts.true))
    (gives_then c.name.ensures.named
    (gives_then c.name_part.ensures
    (gives_then c.name_part-then-has_parts.ensures
    (gives_then c.name_part-then-has_parts-2.ensures c.name_part-then-has_parts-3.ensures))))
