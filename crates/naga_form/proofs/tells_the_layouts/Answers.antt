use Rattle.naga_form.proofs.types.Layouts.{tells_layouts}
use Rattle.naga_form.proofs.tells_the_layouts.Goals as goal

pub returns : goal.returns
returns c = λ m info flags named accepted declarations have.
    tells_layouts m info flags named accepted declarations
