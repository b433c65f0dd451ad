use Rattle.naga_form.proofs.Runs.{reads_as_shapes_under}
use Rattle.naga_form.proofs.is_read_as_its_shapes.Goals as goal

pub returns : goal.returns
returns c = reads_as_shapes_under
