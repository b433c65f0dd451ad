-- What is displayed of a position at which a module is not accepted and of the kind of fault there, as
-- `function 3, expression 41: the known type is another`.
--
-- Throughout, h is a handle or an index, and n the number of a statement.
use Rattle.std.specs.Prelude.{ℕ, List, [], ◌++◌, codes, decimal}
use Rattle.naga_acceptance.specs.declared.faults.Fault.{Fault}
use Rattle.naga_acceptance.specs.declared.faults.Fault.TheVariants as fault
use Rattle.naga_acceptance.specs.declared.faults.FaultPosition.{FaultPosition}
use Rattle.naga_acceptance.specs.declared.faults.FaultPosition.TheVariants as item
use Rattle.naga_acceptance.specs.declared.faults.FunctionPosition.{FunctionPosition}
use Rattle.naga_acceptance.specs.declared.faults.FunctionPosition.TheVariants as part
use Rattle.naga_acceptance.specs.declared.faults.Unaccepted.{Unaccepted}

-- a kind of fault
abbrev pub fault_text : Fault → List ℕ
fault_text fault.InfoSize = codes "not one thing is known of each"
fault_text fault.HandlePointer = codes "a pointer in the space of handles"
fault_text fault.TypeParts = codes "a part does not stand before the type"
fault_text fault.TypeLength = codes "the override of the length is not there"
fault_text fault.SpecialTypes = codes "a special type is not there"
fault_text fault.Names = codes "what is named is not there"
fault_text fault.Numeral = codes "the numeral is out of range"
fault_text fault.Signature = codes "a type of the signature is not there"
fault_text fault.NamedExpressions = codes "a named expression is not there"
fault_text fault.Operands = codes "an operand does not stand before the expression"
fault_text fault.LaterInitialiser = codes "an initialiser does not stand before the expression"
fault_text fault.KnownType = codes "the known type may not be there"
fault_text fault.OtherType = codes "the known type is another"
fault_text fault.OperandTypes = codes "the operands are of types that it does not take"
fault_text fault.InitialiserType = codes "the initialiser is of another type"
fault_text fault.Unsatisfied = codes "the statement does not get what it needs"
fault_text fault.Disagreement = codes "the operator does not agree with an earlier one"

-- a part of a function, after the function, as `, expression 41`; nothing of the whole
abbrev pub function_position_text : FunctionPosition → List ℕ
function_position_text part.Whole = []
function_position_text (part.Local h) = codes ", local " ++ decimal h
function_position_text (part.Expression h) = codes ", expression " ++ decimal h
function_position_text (part.Statement n) = codes ", statement " ++ decimal n

-- an item by its kind and its number, as `type 5`, with the part of a function
abbrev pub item_text : FaultPosition → List ℕ
item_text item.Module = codes "module"
item_text (item.Type h) = codes "type " ++ decimal h
item_text (item.Constant h) = codes "constant " ++ decimal h
item_text (item.Override h) = codes "override " ++ decimal h
item_text (item.GlobalVariable h) = codes "global variable " ++ decimal h
item_text (item.GlobalExpression h) = codes "global expression " ++ decimal h
item_text (item.Function h position) = codes "function " ++ decimal h ++ function_position_text position
item_text (item.EntryPoint h position) = codes "entry point " ++ decimal h ++ function_position_text position

-- the position, and after a colon the fault
abbrev pub unaccepted_text : Unaccepted → List ℕ
unaccepted_text u = item_text u.item ++ codes ": " ++ fault_text u.fault
