use Rattle.naga_wgsl_out.proofs.inferred.write_typed.Goals as goal

pub returns : goal.returns
returns c = record {
  counted = c.counted-info.result;
  inferred = c.counted-info.ensures.inferred;
  faithful = c.write_string.ensures.faithful;
  matches = c.write_string.ensures.matches;
  text = c.write_string.ensures.text;
  told = c.write_string.ensures.told;
}
