use Rattle.naga_wgsl_fns.proofs.MeantFunctions.{all_of_items_shown, items_shown}
use Rattle.naga_wgsl_fns.proofs.items.answers_tell_of_items.Goals as goal

pub returns-clause-some : goal.returns-clause-some
returns-clause-some c = items_shown

pub returns-clause-all : goal.returns-clause-all
returns-clause-all c = all_of_items_shown
