use Rattle.std.proofs.Common.{◌∙◌, refl}
use Rattle.naga_builder.proofs.Names.{by_index}
use Rattle.naga_builder.proofs.function.FunctionBuilder.name.Goals as goal

pub returns-clause-ok : goal.returns-clause-ok
returns-clause-ok c = record {
  name = c.in_ok-label.label;
  labelled = c.in_ok-label.ensures.ok;
  names = c.in_ok-insert.ensures.entries
      ∙ by_index c.args.self.now.function.named_expressions.entries c.args.handle c.in_ok-label.label;
  rest = record { looks_at = refl; function = refl; known = refl; body = refl };
}
