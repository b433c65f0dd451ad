use Rattle.std.specs.Prelude.{IsTrue}
use Rattle.module_semantics.specs.Layouts.{module_rule}
use Rattle.naga_layout.specs.Types.{arrays_are_kept}
use Rattle.naga_tables.proofs.Searching.{Passed}
use Rattle.naga_tables.proofs.declarations.other_stride.Given as goal

abbrev pub invariant-loop-member : goal.invariant-loop-member
invariant-loop-member l =
    Passed (λ i s. IsTrue (arrays_are_kept (module_rule l.module) l.module.types s.ty)) l.members l.member-index
