-- Words that are operators', and words that are not.
use Rattle.std.proofs.Common.{refl}
use Rattle.wgsl_text.specs.Operators.{is_built_in, OperatorWords}

pub operator_words : OperatorWords
unfolding is_built_in
operator_words = record {
  sum = refl;
  shift = refl;
  negation = refl;
  maximum = refl;
  choice = refl;
  length = refl;
  bits = refl;
  scalar = refl;
  splat = refl;
  vector = refl;
  array = refl;
  declared = refl;
  other_struct = refl;
  unknown = refl;
  longer = refl;
  space = refl;
  format = refl;
}
