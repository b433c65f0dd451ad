use Rattle.std.proofs.Common.{sym, ◌∙◌, map}
use Rattle.naga_naming.proofs.Label.{stem_of-plain}
use Rattle.naga_names.proofs.namer.label.own_stem.Goals as goal

pub returns-then-not-begins_reserved : goal.returns-then-not-begins_reserved
returns-then-not-begins_reserved c =
    sym (stem_of-plain (map (λ p. p.now) c.args.prefixes.now) _ c.args.label.now
    (c.is_plain.ensures c.if-is_plain.true) c.without_last_separator-stem.ensures
    (sym c.begins_reserved.ensures ∙ c.if-not-begins_reserved.true))
