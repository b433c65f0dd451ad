use Rattle.naga_form.proofs.types.Layouts.{keeps_layouts}
use Rattle.naga_form.proofs.keeps_the_layouts.Goals as goal

pub returns : goal.returns
returns c = λ m info flags named accepted declarations have.
    keeps_layouts m info flags named accepted declarations
