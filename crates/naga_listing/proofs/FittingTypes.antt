-- What is asked of a type by itself before it is spelled.
use Rattle.std.proofs.Common.{List, length}
use Rattle.std.specs.Prelude.{IsTrue}
use Rattle.naga_ir.specs.declared.module.Override.{Override}
use Rattle.naga_ir.specs.declared.types.Type_.{Type_}
use Rattle.naga_ir.specs.declared.types.TypeInner.{TypeInner}
use Rattle.naga_ir.specs.declared.types.TypeInner.TheVariants as inner
use Rattle.naga_ir.specs.declared.types.ArraySize.{ArraySize}
use Rattle.naga_ir.specs.declared.types.ArraySize.TheVariants as size
use Rattle.naga_spelling.specs.Contexts.{global_context}
use Rattle.naga_spelling.specs.Spelling.{Fits, StandsAfter, knows_override, knows_size}
use Rattle.naga_spelling.specs.Spelling.{length_within, size_within}

module _ (types : List Type_) (overrides : List Override) where
  size_known : (it : ArraySize) → IsTrue (size_within (length overrides) it)
      → IsTrue (knows_size (global_context types overrides) it)
  size_known (size.Constant number) k = k
  size_known (size.Pending handle) k = k
  size_known size.Dynamic k = k

  length_known : (it : TypeInner) → IsTrue (length_within (length overrides) it)
      → IsTrue (knows_override (global_context types overrides) it)
  length_known (inner.Array base size stride) k = size_known size k
  length_known (inner.BindingArray base size) k = size_known size k
  length_known (inner.Scalar scalar) k = k
  length_known (inner.Vector size scalar) k = k
  length_known (inner.Matrix columns rows scalar) k = k
  length_known (inner.CooperativeMatrix columns rows scalar role) k = k
  length_known (inner.Atomic scalar) k = k
  length_known (inner.Pointer base space) k = k
  length_known (inner.ValuePointer size scalar space) k = k
  length_known (inner.Struct members span) k = k
  length_known (inner.Image dim arrayed class) k = k
  length_known (inner.Sampler comparison) k = k
  length_known (inner.AccelerationStructure vertex_return) k = k
  length_known (inner.RayQuery vertex_return) k = k

  -- what stands after all types fits their context
  pub fits : (it : TypeInner) → StandsAfter (length types) (length overrides) it
      → Fits (global_context types overrides) it
  fits it following = record { in_range = following.before; knows = length_known it following.known }
