use Rattle.std.proofs.Common.{◌≡◌, ◌∙◌, Bool, true, false, not, sym, Option, Some, None}
use Rattle.std.specs.Option.{is_none, is_some}
use Rattle.module_semantics.proofs.Layouts.{accepted_in_order}
use Rattle.naga_acceptance.proofs.acceptance.accepts.Goals as goal

none_found : {X : Type 0} (o : Option X) (answer accepted : Bool) → is_some o ≡ not answer →
    is_none o ≡ accepted → answer ≡ accepted
none_found None true accepted reported none = none
none_found None false accepted reported none = absurd cc
none_found (Some x) true accepted reported none = absurd cc
none_found (Some x) false accepted reported none = none

-- By hand: a search that is to show of a wrong answer that a module is not accepted ends at its
-- limits.
pub returns-clause-accepted : goal.returns-clause-accepted
returns-clause-accepted c =
    none_found c.unaccepted.result _ _ c.is_none.ensures c.unaccepted.ensures.accepted

pub returns-clause-ordered : goal.returns-clause-ordered
returns-clause-ordered c answered =
    accepted_in_order c.args.module.now c.args.info.now
    (sym (none_found c.unaccepted.result _ _ c.is_none.ensures c.unaccepted.ensures.accepted) ∙ answered)
