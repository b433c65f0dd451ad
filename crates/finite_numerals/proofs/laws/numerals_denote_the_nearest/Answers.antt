use Rattle.finite_numerals.specs.declared.precision.Precision.TheVariants.{Half, Single, Double}
use Rattle.finite_numerals.proofs.Sizes.{is_nearest_float}
use Rattle.finite_numerals.proofs.laws.numerals_denote_the_nearest.Goals as goal

pub returns-clause-half : goal.returns-clause-half
returns-clause-half c = is_nearest_float Half

pub returns-clause-single : goal.returns-clause-single
returns-clause-single c = is_nearest_float Single

pub returns-clause-double : goal.returns-clause-double
returns-clause-double c = is_nearest_float Double
