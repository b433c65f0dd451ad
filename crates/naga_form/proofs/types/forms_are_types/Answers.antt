use Rattle.naga_form.proofs.types.TypeTrees.{resolution_is}
use Rattle.naga_form.proofs.types.forms_are_types.Goals as goal

pub returns : goal.returns
returns c = record {
  form = resolution_is;
  reading = λ n overrides named r within t is. c.one_reading_of_a_type.ensures.printed t
      (resolution_is n overrides named r within t is);
}
