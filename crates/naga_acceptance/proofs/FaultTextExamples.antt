-- Positions and faults as they are displayed.
use Rattle.std.proofs.Common.{◌≡◌, codes, refl}
use Rattle.std.specs.Fmt.{digits}
use Rattle.naga_acceptance.specs.FaultTexts.{item_text, unaccepted_text}
use Rattle.naga_acceptance.specs.declared.faults.Fault.TheVariants as fault
use Rattle.naga_acceptance.specs.declared.faults.FunctionPosition.TheVariants as part
use Rattle.naga_acceptance.specs.declared.faults.FaultPosition.TheVariants as item

the_module : item_text item.Module ≡ codes "module"
the_module = refl

a_type : item_text (item.Type 5) ≡ codes "type 5"
unfolding digits
a_type = refl

a_statement : item_text (item.EntryPoint 0 (part.Statement 12)) ≡ codes "entry point 0, statement 12"
unfolding digits
a_statement = refl

a_fault : unaccepted_text (record { item = item.Function 3 (part.Expression 41); fault = fault.OtherType })
    ≡ codes "function 3, expression 41: the known type is another"
unfolding digits
a_fault = refl
