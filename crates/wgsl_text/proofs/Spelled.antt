-- The words of the grammar are spelled so.
use Rattle.std.proofs.Common.{refl}
use Rattle.std.specs.Fmt.{digits}
use Rattle.wgsl_text.specs.Words.{is_reserved}
use Rattle.wgsl_text.specs.Spelled.{SpelledTypes, SpelledCalls, SpelledMarks, SpelledAttributes}
use Rattle.wgsl_text.specs.Spelled.{SpelledPieces}

types : SpelledTypes
unfolding is_reserved
types = record {
  vectors = refl;
  matrices = refl;
  atomics = refl;
  arrays = refl;
  pointers = refl;
  sampled_images = refl;
  depth_images = refl;
  storage_images = refl;
  samplers = refl;
  rays = refl;
  cooperative_matrices = refl;
}

calls : SpelledCalls
unfolding is_reserved
calls = record { enables = refl; type_taking = refl; gathers = refl; levels = refl }

marks : SpelledMarks
unfolding is_reserved
marks = record {
  keywords_in_order = refl;
  brackets = refl;
  separators = refl;
  operators = refl;
  double_operators = refl;
  suffixes = refl;
  precisions = refl;
}

attributes : SpelledAttributes
unfolding digits
attributes = record {
  plain_attributes = refl;
  numbered_attributes = refl;
  worded_attributes = refl;
  interpolated_attributes = refl;
  workgroup_size = refl;
  named_sizes = refl;
}

pub spelled : SpelledPieces
spelled = record { types = types; calls = calls; marks = marks; attributes = attributes }
