use Rattle.std.proofs.Common.{◌≡◌, ◌<◌, ℕ, slice_get, Some}
use Rattle.naga_ir.specs.declared.types.Type_.{Type_}
use Rattle.naga_spelling.specs.Spelling.{StandsAfter}
use Rattle.naga_words.proofs.types.order.types_in_order.Given as goal

abbrev pub invariant-loop-index : goal.invariant-loop-index
invariant-loop-index l = (handle : ℕ) → handle < l.index → (t : Type_) → slice_get l.types handle ≡ Some t →
    StandsAfter handle l.overrides t.inner
