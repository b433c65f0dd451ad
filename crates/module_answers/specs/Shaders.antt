-- What is known of a module that may come without an info.
--
-- Throughout, m is the module, came is the info that came with it, if one did, levels is how deep it
-- may be nested, and from is what the JSON holds by which positions are told.
use Rattle.std.specs.Prelude.{◌≡◌, ⊤, ℕ, Bool, true, false, List, ◌++◌, None, Option, Some, codes}
use Rattle.module_answers.specs.declared.shaders.Unasked.{Unasked}
use Rattle.module_answers.specs.declared.shaders.Unasked.TheVariants as unasked
use Rattle.module_limits.specs.Nesting.{nested_past}
use Rattle.module_positions.specs.Faults.{TellsPosition}
use Rattle.module_positions.specs.declared.positions.JsonHolder.{JsonHolder}
use Rattle.module_positions.specs.declared.positions.JsonHolder.TheVariants as holder
use Rattle.naga_inference.specs.ErrorTexts.{missing_text}
use Rattle.naga_inference.specs.Following.{NoneIsAccepted}
use Rattle.naga_inference.specs.Inferred.{IsFirstUntyped, IsTyped}
use Rattle.naga_inference.specs.declared.errors.Untyped.{Untyped}
use Rattle.naga_info.specs.declared.info.ModuleInfo.{ModuleInfo}
use Rattle.naga_ir.specs.declared.module.Module.{Module}

-- the info that came with it, or that which the rules of types give
abbrev pub IsInfoOf : Module → (came : Option ModuleInfo) → (info : ModuleInfo) → Type 0
IsInfoOf m (Some known) info = info ≡ known
IsInfoOf m None info = IsTyped m info

-- It came without an info, and this expression is the first to which the rules give no type. So no
-- info that follows them is accepted.
pub record IsUntyped (levels : ℕ) (m : Module) (came : Option ModuleInfo)
    (untyped : Untyped) : Type 0 where
  pub nested : nested_past levels m ≡ None
  pub alone : came ≡ None
  pub first : IsFirstUntyped m untyped
  pub none : NoneIsAccepted m

-- why nothing more is asked of it
abbrev pub TellsUnasked : (levels : ℕ) → Module → (came : Option ModuleInfo) → Unasked → Type 0
TellsUnasked levels m came (unasked.TooDeep nested) = nested_past levels m ≡ Some nested
TellsUnasked levels m came (unasked.Untyped untyped) = IsUntyped levels m came untyped
TellsUnasked levels m came (unasked.Memory error) = ⊤

-- what the JSON holds
abbrev pub holder_of : (is_bare : Bool) → JsonHolder
holder_of true = holder.Module
holder_of false = holder.Member

-- `module.functions[0].expressions[3], in "half": it has no type`
abbrev pub TellsUntypedAt : JsonHolder → Module → Untyped → (line : List ℕ) → Type 0
TellsUntypedAt from m untyped line =
    (position : List ℕ) × TellsPosition from m untyped.position position
    × (line ≡ position ++ (codes ": " ++ missing_text untyped.missing))
