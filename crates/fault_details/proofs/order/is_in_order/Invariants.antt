use Rattle.std.proofs.Common.{◌≡◌, ◌<◌, ℕ, length, slice_get, Some}
use Rattle.naga_ir.specs.declared.types.Type_.{Type_}
use Rattle.naga_spelling.specs.Spelling.{StandsAfter}
use Rattle.fault_details.proofs.order.is_in_order.Given as goal

abbrev pub invariant-loop-index : goal.invariant-loop-index
invariant-loop-index l =
    (handle : ℕ) → handle < l.index → (t : Type_) → slice_get l.«module».types handle ≡ Some t →
    StandsAfter handle (length l.«module».overrides) t.inner
