use Rattle.std.proofs.Common.{string_bytes, subst}
use Rattle.fault_details.specs.Told.{TellsBoth}
use Rattle.fault_details.proofs.spelled.other_type.Goals as goal

pub returns : goal.returns
returns c =
    subst (λ r. TellsBoth c.args.«module».now r c.args.got.now (string_bytes c.in_ok-expected.field-0.expected)
    (string_bytes c.in_ok-expected.field-0.got))
    c.resolution-expected.ensures c.in_ok-expected.ensures
