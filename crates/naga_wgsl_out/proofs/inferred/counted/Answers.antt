use Rattle.naga_wgsl_out.proofs.inferred.counted.Goals as goal

pub returns-clause-inferred : goal.returns-clause-inferred
returns-clause-inferred c = record {
  typed = c.args.info;
  is_typed = c.requires.typed;
  accepted = c.requires.accepted;
  is_counted = record {
    functions = c.count.ensures.functions;
    entry_points = c.count.ensures.entry_points;
    types = c.count.ensures.types;
  };
}
