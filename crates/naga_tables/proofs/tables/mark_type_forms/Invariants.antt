use Rattle.std.proofs.Common.{false, length}
use Rattle.module_semantics.specs.AlikeTypes.{has_type_form}
use Rattle.naga_info.specs.declared.info.TypeResolution.TheVariants.{Handle}
use Rattle.naga_tables.proofs.WrittenConstants.{CellsBelow}
use Rattle.naga_tables.proofs.tables.mark_type_forms.Given as goal

abbrev pub invariant-loop-index : goal.invariant-loop-index
invariant-loop-index l =
    CellsBelow false (λ h. has_type_form l.module.types (Handle h)) (length l.module.types) l.marks l.index
