use Rattle.decimal_floats.proofs.Literals.{decimal_stays}
use Rattle.decimal_floats.proofs.laws.numerals_stay.Goals as goal

pub returns : goal.returns
returns c = decimal_stays
