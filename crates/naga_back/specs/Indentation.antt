-- The blanks before a line.
use Rattle.std.specs.Prelude.{ℕ, List, [], ◌++◌, codes}
use Prim.Native.Nat.{zero, suc}

-- four for each level of nesting
abbrev pub indentation : ℕ → List ℕ
indentation zero = []
indentation (suc level) = codes "    " ++ indentation level
