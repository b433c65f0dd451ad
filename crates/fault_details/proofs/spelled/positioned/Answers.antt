use Rattle.std.proofs.Common.{◌∙◌, ap, string_bytes, subst, sym}
use Rattle.fault_details.specs.Told.{IsPositioned, IsTold, with_position}
use Rattle.fault_details.proofs.Apart.{ok_then}
use Rattle.fault_details.proofs.spelled.positioned.Goals as goal

pub returns-in_ok-alone-in-Value : goal.returns-in_ok-alone-in-Value
returns-in_ok-alone-in-Value c =
    let m = c.args.«module».now in
    let alone = string_bytes c.in_ok-alone-in-Value.alone in
    ok_then c.with_position.result
    (λ t is. subst (λ r. IsPositioned m r (string_bytes t)) (sym c.in-Value.is) (
      alone,
      subst (λ r. IsTold m r alone) c.in-Value.is c.in_ok-alone-in-Value.ensures,
      is
          ∙ ap (with_position alone) c.named_type.ensures,
    ))
    c.with_position.ensures
