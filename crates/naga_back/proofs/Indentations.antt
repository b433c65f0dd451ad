-- One level more.
use Rattle.std.proofs.Common.{◌≡◌, ℕ, ◌+◌, zero, suc, ◌++◌, codes, refl, ap, add-one}
use Rattle.naga_back.specs.Indentation.{indentation}

blanks-commute : (level : ℕ) → indentation level ++ codes "    " ≡ codes "    " ++ indentation level
blanks-commute zero = refl
blanks-commute (suc level) = ap (λ blanks. codes "    " ++ blanks) (blanks-commute level)

pub indentation-deeper : (level : ℕ) → indentation level ++ codes "    " ≡ indentation (level + 1)
indentation-deeper level = rw add-one (blanks-commute level)
