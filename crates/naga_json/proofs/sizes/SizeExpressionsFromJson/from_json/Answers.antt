use Rattle.std.proofs.Common.{◌≡◌, length, nat_eq, false, rules}
use Rattle.json.specs.Value.{value_view}
use Rattle.naga_json.specs.Numbers.{index_said}
use Rattle.naga_json.specs.Said.{option_said}
use Rattle.naga_json.proofs.Lists.{other_length}
use Rattle.naga_json.proofs.sizes.SizeExpressionsFromJson.from_json.Goals as goal
use Rattle.naga_json.proofs.sizes.SizeExpressionsFromJson.from_json.Goals.{in_default-via-then-as_slice-lt3, in_default-via-else-as_slice-lt3+else-this-lt4}

pub returns-in_default : goal.returns-in_default
returns-in_default c refusal =
    let items = c.in_ok-items_of.field-0.now.items in
    let other : nat_eq (length items) 3 ≡ false = elim c.in_default.branch [
      | in_default-via-then-as_slice-lt3 w ↦ search rules
      | in_default-via-else-as_slice-lt3+else-this-lt4 w ↦ search rules
    ] in
    other_length 3 (option_said index_said) (value_view c.args.value.now) items c.in_ok-items_of.ensures other
