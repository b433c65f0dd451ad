-- Why there is no plan of a function, and where that stands.
use Rattle.std.specs.Prelude.{◌≡◌, ℕ, Bool}
use Rattle.naga_ir.specs.declared.module.Module.{Module}
use Rattle.naga_info.specs.declared.info.ModuleInfo.{ModuleInfo}
use Rattle.module_semantics.specs.Written.{OfFunctionAt}
use Rattle.naga_naming.specs.Naming.{Names}
use Rattle.naga_scope.specs.Plans.{IsFirstToPlanOf, IsRefusalToPlanOf}
use Rattle.naga_scope.specs.declared.plan.PlanError.{PlanError}
use Rattle.naga_scope.specs.declared.plan.PlanError.TheVariants as plan_error
use Rattle.naga_wgsl_fns.specs.PlanRefusals.{IsConstructOf}
use Rattle.naga_refusals.specs.Constructs.{IsToldAs}
use Rattle.naga_refusals.specs.declared.construct.Construct.{Construct}
use Rattle.naga_refusals.specs.declared.error.Error.{Error}
use Rattle.naga_refusals.specs.declared.error.Error.TheVariants.{Memory}
use Rattle.naga_scope.specs.declared.positions.FunctionRefusalPosition.{FunctionRefusalPosition}
use Rattle.naga_scope.specs.declared.positions.FunctionRefusalPosition.TheVariants as part
use Rattle.naga_wgsl_fns.specs.declared.plans.Unplanned.{Unplanned}
use Rattle.naga_wgsl_fns.specs.declared.plans.Unplanned.TheVariants as unplanned

-- the part of a function that an error of a plan tells of
abbrev pub function_position : PlanError → FunctionRefusalPosition
function_position (plan_error.OutOfScope fault) = part.Scope fault
function_position (plan_error.StatementWithoutForm number statement) = part.Statement number
function_position (plan_error.WithoutForm line handle) = part.Expression line handle
function_position (plan_error.TypeWithoutForm at ty) = part.Type_ at ty
function_position (plan_error.LetWithoutForm number handle) = part.Let number handle
function_position (plan_error.Unnamed error) = part.Labels
function_position (plan_error.Memory error) = part.Labels

-- With this namer the function with this number has no plan, for the first construct in the order of
-- the text, which stands at this part of the function.
pub record IsRefusedFor (explicit : Bool) (m : Module) (info : ModuleInfo) (number : ℕ)
    (namer : Names) (it : Construct) (at : FunctionRefusalPosition) : Type 0 where
  pub error : PlanError
  pub refused : IsRefusalToPlanOf explicit m info number namer error
  pub first : IsFirstToPlanOf explicit m info number namer error
  pub construct : OfFunctionAt m info number (λ f known. IsConstructOf m f known error it)
  pub part : at ≡ function_position error

-- so it is, or memory ran out
abbrev pub IsUnplanned : (explicit : Bool) → Module → ModuleInfo → (number : ℕ) → Names →
    Unplanned → Type 0
IsUnplanned explicit m info number namer (unplanned.Refused it at) =
    IsRefusedFor explicit m info number namer it at
IsUnplanned explicit m info number namer (unplanned.Memory e) = Unit {0}

-- the error that is told of that
abbrev pub TellsUnplanned : Unplanned → Error → Type 0
TellsUnplanned (unplanned.Refused it at) error = IsToldAs it error
TellsUnplanned (unplanned.Memory e) error = error ≡ Memory e

-- an error tells why there is no plan of the function with this number
abbrev pub IsToldOfUnplanned : (explicit : Bool) → Module → ModuleInfo → (number : ℕ) → Names →
    Error → Type 0
IsToldOfUnplanned explicit m info number namer error =
    (u : Unplanned) × IsUnplanned explicit m info number namer u × TellsUnplanned u error
