use Rattle.std.proofs.Common.{◌+◌, ◌*◌}
use Rattle.naga_spelling.specs.Spelling.{end_of_base}
use Rattle.naga_words.proofs.types.spelling.+spelling.Given as goal

abbrev pub decreases-write_type_in : goal.decreases-write_type_in
decreases-write_type_in g l = 8 * l.handle + 4

abbrev pub decreases-write_named : goal.decreases-write_named
decreases-write_named g l = 8 * l.handle + 3

abbrev pub decreases-write_inner_in : goal.decreases-write_inner_in
decreases-write_inner_in g l = 8 * end_of_base l.inner.now + 2

abbrev pub decreases-write_pointer : goal.decreases-write_pointer
decreases-write_pointer g l = 8 * l.base + 9

abbrev pub decreases-write_pointer_in : goal.decreases-write_pointer_in
decreases-write_pointer_in g l = 8 * l.base + 8

abbrev pub decreases-write_array : goal.decreases-write_array
decreases-write_array g l = 8 * l.base + 9
