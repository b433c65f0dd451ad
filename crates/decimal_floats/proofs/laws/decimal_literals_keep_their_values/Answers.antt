use Rattle.decimal_floats.proofs.Literals.{decimal_scalar, decimal_value}
use Rattle.decimal_floats.proofs.laws.decimal_literals_keep_their_values.Goals as goal

pub returns : goal.returns
returns c = record { value = decimal_value; scalar = decimal_scalar }
