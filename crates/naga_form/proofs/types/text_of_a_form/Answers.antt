use Rattle.naga_form.proofs.types.TypeTrees.{only_text, lacks_unknown, type_row, inner_tree_row}
use Rattle.naga_form.proofs.types.text_of_a_form.Goals as goal

pub returns : goal.returns
returns c = record {
  type_ = type_row c.text_of_joined.ensures;
  inner = inner_tree_row c.text_of_joined.ensures;
  only = only_text;
  refused = lacks_unknown;
}
