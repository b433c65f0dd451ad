-- What is told of a module that came without an info.
use Rattle.std.proofs.Common.{◌≡◌, ℕ, None, refl}
use Rattle.module_answers.specs.Shaders.{TellsUnasked}
use Rattle.module_answers.specs.declared.shaders.Unasked.TheVariants as unasked
use Rattle.module_limits.specs.Nesting.{nested_past}
use Rattle.naga_inference.specs.Following.{NoneIsAccepted}
use Rattle.naga_inference.specs.Inferred.{IsFirstUntyped}
use Rattle.naga_inference.specs.declared.errors.Untyped.{Untyped}
use Rattle.naga_ir.specs.declared.module.Module.{Module}

-- an expression of it has no type
pub untyped_unasked : (levels : ℕ) (m : Module) (untyped : Untyped) → nested_past levels m ≡ None →
    IsFirstUntyped m untyped → NoneIsAccepted m → TellsUnasked levels m None (unasked.Untyped untyped)
untyped_unasked levels m untyped flat first none = record { nested = flat; alone = refl; first = first; none = none }
