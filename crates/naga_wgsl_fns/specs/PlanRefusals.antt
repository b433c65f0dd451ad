-- Why a function is refused, each reason with what it says.
--
-- Throughout, m is the module, e an error of memory, and explicit says whether `let`s tell types.
use Rattle.std.specs.Prelude.{◌≡◌, ⊤, ℕ, ◌<◌, List, [], ◌∷◌, ◌⊎◌, codes, string_bytes}
use Rattle.std.specs.declared.alloc.AllocError.{AllocError}
use Rattle.std.specs.Prelude.{IsSomeAnd, Some, length, slice_get, Bool}
use Rattle.std.specs.Prelude.{IsFalse}
use Rattle.std.specs.List.{IsAmong}
use Rattle.naga_info.specs.declared.info.TypeResolution.{TypeResolution}
use Rattle.naga_info.specs.declared.info.TypeResolution.TheVariants.{Handle}
use Rattle.naga_ir.specs.declared.module.Function.{Function}
use Rattle.naga_ir.specs.declared.module.Module.{Module}
use Rattle.module_semantics.specs.FunctionNumbers.{all_functions, all_infos}
use Rattle.module_semantics.specs.ExpressionForms.{expression_has_form}
use Rattle.module_semantics.specs.Written.{IsSpelledIn, IsWrittenIn, WrittenHaveFormsAt}
use Rattle.module_semantics.specs.Undeclared.{is_spellable}
use Rattle.naga_info.specs.declared.info.ExpressionInfo.{ExpressionInfo}
use Rattle.naga_info.specs.declared.info.ModuleInfo.{ModuleInfo}
use Rattle.module_semantics.specs.ExpressionLabels.{SomeLabelIsFull}
use Rattle.module_semantics.specs.Names.{labels_named_in, wgsl_names}
use Rattle.naga_naming.specs.Naming.{HasNamed, Names}
use Rattle.naga_scope.specs.ExpressionNames.{HasOtherUses}
use Rattle.module_semantics.specs.Premises.{ScopeHoldsIn}
use Rattle.naga_scope.specs.Plans.{HasScopeFaultIn}
use Rattle.naga_scope.specs.declared.plan.PlanError.{PlanError}
use Rattle.naga_scope.specs.declared.plan.PlanError.TheVariants.{LetWithoutForm, OutOfScope}
use Rattle.naga_scope.specs.declared.plan.PlanError.TheVariants.{TypeWithoutForm, Unnamed}
use Rattle.naga_scope.specs.declared.plan.PlanError.TheVariants.{StatementWithoutForm, WithoutForm}
use Rattle.naga_scope.specs.UnsupportedStatements.{unsupported_statement}
use Rattle.naga_scope.specs.declared.plan.PlanError.TheVariants as plan_error
use Rattle.naga_naming.specs.declared.error.NamerError.{NamerError}
use Rattle.naga_naming.specs.declared.error.NamerError.TheVariants as namer_error
use Rattle.naga_refusals.specs.Constructs.{IsToldAs}
use Rattle.naga_refusals.specs.Errors.{TellsOfModule}
use Rattle.naga_refusals.specs.declared.construct.Construct.{Construct}
use Rattle.naga_refusals.specs.declared.construct.Construct.TheVariants as construct
use Rattle.naga_refusals.specs.declared.error.Error.{Error}
use Rattle.naga_refusals.specs.declared.error.Error.TheVariants.{FmtError, Custom}
use Rattle.naga_refusals.specs.declared.error.Error.TheVariants.{Memory, Unimplemented}
use Rattle.naga_refusals.specs.declared.error.Error.TheVariants.{Unsupported}
use Rattle.naga_refusals.specs.declared.error.Error.TheVariants.{UnsupportedRelationalFunction}
use Rattle.naga_tables.specs.Refusals.{expression_refusal, unspelled}
use Rattle.naga_wgsl_shared.specs.Refusals.{NamesExpression, NamesType}

-- the names of some labels that front ends gave in the function with this number can't be told
-- after these earlier labels, since so many of them have one base
abbrev pub ExpressionNamesAreFullIn : Module → (earlier : List (List ℕ)) → (number : ℕ) → Type 0
ExpressionNamesAreFullIn m earlier number =
    SomeLabelIsFull (wgsl_names m) earlier (labels_named_in m number)

-- ---- what has no form in a function
-- a statement without a form stands in the function with this number, and is named
pub record NamesUnsupportedStatement (m : Module) (info : ModuleInfo) (number : ℕ) (error : Error) :
    Type 0 where
  pub function : Function
  pub known : List ExpressionInfo
  pub stands : slice_get (all_functions m) number ≡ Some function
  pub is_known : slice_get (all_infos info) number ≡ Some known
  pub statement : Construct
  pub unsupported : unsupported_statement function.body ≡ Some statement
  pub named : IsToldAs statement error

-- an expression is written in the function with this number that has no form, and is named
pub record NamesUnsupported (m : Module) (info : ModuleInfo) (number : ℕ) (error : Error) :
    Type 0 where
  pub function : Function
  pub known : List ExpressionInfo
  pub stands : slice_get (all_functions m) number ≡ Some function
  pub is_known : slice_get (all_infos info) number ≡ Some known
  pub expression : ℕ
  pub written : IsWrittenIn m info function known expression
  pub named : IsSomeAnd (slice_get function.expressions expression) (λ e.
      IsFalse (expression_has_form m known function.expressions e)
      × NamesExpression m known function.expressions e error)

-- or a type without a form is spelled beside its expressions, and is named
pub record NamesUnsupportedType (explicit : Bool) (m : Module) (info : ModuleInfo) (number : ℕ)
    (error : Error) : Type 0 where
  pub function : Function
  pub known : List ExpressionInfo
  pub stands : slice_get (all_functions m) number ≡ Some function
  pub is_known : slice_get (all_infos info) number ≡ Some known
  pub type : TypeResolution
  pub spelled : IsSpelledIn explicit m info function known type
  pub unsupported : IsFalse (is_spellable m type)
  pub named : NamesType m type error

abbrev pub HasUnsupportedIn : (explicit : Bool) → Module → ModuleInfo → (number : ℕ) → Error →
    Type 0
HasUnsupportedIn explicit m info number error =
    NamesUnsupported m info number error
    ⊎ (NamesUnsupportedType explicit m info number error
    ⊎ NamesUnsupportedStatement m info number error)

-- ---- refusals
-- the error tells that an operand is out of scope
abbrev pub TellsOfScope : Error → Type 0
TellsOfScope (Custom message) = string_bytes message ≡ codes "operand out of scope"
TellsOfScope _ = ⊥

-- what errors say of an expression, a type or a statement without a form: the texts of `Custom`,
abbrev pub custom_texts : List (List ℕ)
custom_texts =
    codes "Abstract types should not appear in IR presented to backends" ∷
    codes "operator in a constant" ∷ codes "image load with sample and level" ∷
    codes "cannot index" ∷ codes "predeclared struct" ∷ codes "type without a WGSL form" ∷ []

-- those of `Unimplemented`,
abbrev pub unimplemented_texts : List (List ℕ)
unimplemented_texts =
    codes "float literal" ∷ codes "conversion of this type" ∷ codes "sampling form" ∷
    codes "ray query" ∷ codes "subgroup operation" ∷ codes "fall-through switch case block" ∷
    codes "image compare exchange" ∷ []

-- and the kinds of `Unsupported`
abbrev pub unsupported_kinds : List (List ℕ)
unsupported_kinds = codes "math function" ∷ codes "scalar type" ∷ []

-- the error tells of such an expression, type or statement: it says one of these, or names any
-- function that tests a number or truth values
abbrev pub TellsOfForm : Error → Type 0
TellsOfForm (FmtError e) = ⊥
TellsOfForm (Custom message) = IsAmong custom_texts (string_bytes message)
TellsOfForm (Unimplemented message) = IsAmong unimplemented_texts (string_bytes message)
TellsOfForm (UnsupportedRelationalFunction fun) = ⊤
TellsOfForm (Unsupported kind value) = IsAmong unsupported_kinds kind.now
TellsOfForm (Memory e) = ⊥

-- the error tells that a name can't be told
abbrev pub TellsOfFullNamer : Error → Type 0
TellsOfFullNamer (Custom message) = string_bytes message ≡ codes "namer is full"
TellsOfFullNamer _ = ⊥

-- the rules of scope hold in the function with this number, each written handle of it, each of its
-- statements and each type that it spells has a form, and after these labels those that front ends
-- gave in it can be named
pub record IsWritableAt (explicit : Bool) (m : Module) (info : ModuleInfo)
    (earlier : List (List ℕ)) (number : ℕ) : Type 0 where
  pub in_scope : ScopeHoldsIn m info number
  pub formed : WrittenHaveFormsAt explicit m info number
  pub nameable : ExpressionNamesAreFullIn m earlier number → ⊥

-- why it has no plan: it breaks a rule of scope at some point, a statement without a form stands in
-- it, an expression without one is written there or a type without one spelled, a label that a
-- front end gave in it gets no name, or memory ran out
abbrev pub IsReasonForNoPlan : (explicit : Bool) → Module → ModuleInfo → (earlier : List (List ℕ)) →
    (number : ℕ) → Error → Type 0
IsReasonForNoPlan explicit m info earlier number error =
    (TellsOfScope error × HasScopeFaultIn m info number)
    ⊎ (HasUnsupportedIn explicit m info number error
    ⊎ (TellsOfFullNamer error × ExpressionNamesAreFullIn m earlier number))

abbrev pub IsPlanRefusal : (explicit : Bool) → Module → ModuleInfo → (earlier : List (List ℕ)) →
    (number : ℕ) → Error → Type 0
IsPlanRefusal explicit m info earlier number (Memory e) = ⊤
IsPlanRefusal explicit m info earlier number error =
    TellsOfModule error × IsReasonForNoPlan explicit m info earlier number error

-- the handle that an error of a plan tells of has an expression without a form, or one of which a
-- type is known
abbrev pub IsOfPlan : Module → Function → List ExpressionInfo → PlanError → Type 0
IsOfPlan m f known (WithoutForm line handle) =
    IsSomeAnd (slice_get f.expressions handle) (λ e.
    IsFalse (expression_has_form m known f.expressions e))
IsOfPlan m f known (LetWithoutForm number handle) = handle < length known
IsOfPlan m f known error = ⊤

-- it is the construct for which a label, or an item, gets no name
abbrev pub IsConstructOfNames : NamerError → Construct → Type 0
IsConstructOfNames namer_error.Full it = it ≡ construct.FullNamer
IsConstructOfNames namer_error.KeyFull it = it ≡ construct.NameKey
IsConstructOfNames (namer_error.Memory e) it = ⊥

-- and that for which a function has no plan
abbrev pub IsConstructOf : Module → Function → List ExpressionInfo → PlanError → Construct → Type 0
IsConstructOf m f known (OutOfScope fault) it = it ≡ construct.OutOfScope
IsConstructOf m f known (StatementWithoutForm number statement) it = it ≡ statement
IsConstructOf m f known (WithoutForm line handle) it =
    IsSomeAnd (slice_get f.expressions handle) (λ e.
    expression_refusal m known f.expressions e ≡ Some it)
IsConstructOf m f known (TypeWithoutForm at ty) it = it ≡ unspelled m (Handle ty)
IsConstructOf m f known (LetWithoutForm number handle) it =
    IsSomeAnd (slice_get known handle) (λ k. it ≡ unspelled m k.ty)
IsConstructOf m f known (Unnamed e) it = IsConstructOfNames e it
IsConstructOf m f known (plan_error.Memory e) it = ⊥

-- memory ran out, with this error
abbrev pub IsMemoryOf : PlanError → AllocError → Type 0
IsMemoryOf (Unnamed (namer_error.Memory e)) wanting = e ≡ wanting
IsMemoryOf (plan_error.Memory e) wanting = e ≡ wanting
IsMemoryOf error wanting = ⊥

-- the namer has the words and prefixes of WGSL, keeps digits where the module says so, and has named
-- these labels
pub record HasNamedLabels (m : Module) (earlier : List (List ℕ)) (namer : Names) : Type 0 where
  pub words : HasOtherUses (wgsl_names m) namer
  pub labels : HasNamed namer earlier
