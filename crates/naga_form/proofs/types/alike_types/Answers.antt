use Rattle.naga_form.proofs.types.AlikeLaw.{alike_by_numbers}
use Rattle.naga_form.proofs.types.Readable.{alike_itself, alike_back, alike_through}
use Rattle.naga_form.proofs.types.Readable.{strides_are_alike}
use Rattle.naga_form.proofs.types.alike_types.Goals as goal

pub returns : goal.returns
returns c = record {
  itself = alike_itself;
  back = alike_back;
  through = alike_through;
  stride = strides_are_alike;
  numbers = alike_by_numbers;
}
