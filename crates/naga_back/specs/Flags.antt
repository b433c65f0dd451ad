-- What the flags say of how a module is written.
use Rattle.std.specs.Prelude.{ℕ, Bool, ◌==◌, bit_and}
use Rattle.naga_back.specs.declared.flags.WriterFlags.{WriterFlags}

-- the flags as a number, of which each flag is a bit
abbrev pub bits_of : WriterFlags → ℕ
bits_of flags = flags.0

-- each `let` tells its type
abbrev pub annotates_types : WriterFlags → Bool
annotates_types flags = bit_and (bits_of flags) 1 == 1

-- the text has what standard compilers ask for
abbrev pub is_portable : WriterFlags → Bool
is_portable flags = bit_and (bits_of flags) 2 == 2
