use Rattle.std.proofs.Common.{◌≡◌, length, nat_eq, false, rules}
use Rattle.json.specs.Value.{value_view}
use Rattle.naga_json.proofs.TypeLists.{other_pair}
use Rattle.naga_json.proofs.type_lists.predeclared_pair.Goals as goal
use Rattle.naga_json.proofs.type_lists.predeclared_pair.Goals.{in_default-via-then-as_slice-lt2, in_default-via-else-as_slice-lt2+else-this-lt3}

pub returns-in_default : goal.returns-in_default
returns-in_default c refusal =
    let items = c.in_ok-items_of.field-0.now.items in
    let other : nat_eq (length items) 2 ≡ false = elim c.in_default.branch [
      | in_default-via-then-as_slice-lt2 w ↦ search rules
      | in_default-via-else-as_slice-lt2+else-this-lt3 w ↦ search rules
    ] in
    other_pair (value_view c.args.value.now) items c.in_ok-items_of.ensures other
