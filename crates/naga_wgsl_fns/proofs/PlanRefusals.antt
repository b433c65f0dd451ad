-- What a plan of a function says, and what is told of one that has none.
-- Serves `plan_of`, `plan_or_refusal`, `write_by_plan` and `write_function`.
use Rattle.naga_scope.specs.declared.plan.PlanError.TheVariants.{StatementWithoutForm}
use Rattle.naga_scope.specs.declared.plan.PlanError.TheVariants.{LetWithoutForm, OutOfScope}
use Rattle.naga_scope.specs.declared.plan.PlanError.TheVariants.{TypeWithoutForm, Unnamed}
use Rattle.naga_scope.specs.declared.plan.PlanError.TheVariants.{WithoutForm}
use Rattle.naga_wgsl_fns.specs.PlanRefusals.{ExpressionNamesAreFullIn, IsConstructOf}
use Rattle.naga_wgsl_fns.specs.PlanRefusals.{IsConstructOfNames}
use Rattle.naga_wgsl_fns.specs.PlanRefusals.{IsReasonForNoPlan, IsWritableAt, IsOfPlan}
use Rattle.naga_wgsl_fns.specs.PlanRefusals.{IsPlanRefusal}
use Rattle.naga_wgsl_fns.specs.PlanRefusals.{HasUnsupportedIn}
use Rattle.naga_wgsl_shared.specs.Refusals.{NamesExpression}
use Rattle.naga_wgsl_fns.specs.PlanRefusals.{NamesUnsupportedType}
use Rattle.naga_wgsl_fns.specs.PlanRefusals.{NamesUnsupported}
use Rattle.naga_scope.proofs.FormedStatements.{some_unsupported}
use Rattle.naga_form.proofs.statements.AcceptedFunctions.{all_counted}
use Rattle.std.proofs.Common.{◌≡◌, ◌<◌, ◌∙◌, ℕ, Bool, zero, suc, List, [], ◌∷◌, None}
use Rattle.std.proofs.Common.{Option, Some, ap, arith, inl, inr, length, refl, subst, codes, sym}
use Rattle.std.proofs.Common.{◌++◌}
use Rattle.std.specs.Prelude.{IfSome, IsFalse, IsSomeAnd, IsTrue, slice_get}
use Rattle.std.specs.Option.{option_map_or}
use Rattle.std.proofs.lemmas.Option.{slice_get_within}
use Rattle.naga_ir.specs.declared.expression.Expression.{Expression}
use Rattle.naga_ir.specs.declared.module.Function as ir_function
use Rattle.naga_ir.specs.declared.module.Module.{Module}
use Rattle.naga_info.specs.declared.info.ExpressionInfo.{ExpressionInfo}
use Rattle.naga_info.specs.declared.info.ModuleInfo.{ModuleInfo}
use Rattle.shader_runs.specs.Program.{Function, binds}
use Rattle.shader_runs.specs.ScopeFaults.{HasScopeFault}
use Rattle.shader_runs.specs.ScopeRules.{ScopeHolds}
use Rattle.shader_runs.proofs.ScopeFaults.{fault_is_no_rule}
use Rattle.module_semantics.specs.acceptance.Accepted.{is_accepted}
use Rattle.module_semantics.specs.ExpressionForms.{expression_has_form}
use Rattle.module_semantics.specs.Written.{IsSpelledIn}
use Rattle.module_semantics.specs.FunctionNumbers.{all_functions, all_infos}
use Rattle.module_semantics.specs.FunctionShapes.{function_shape, function_shapes}
use Rattle.module_semantics.specs.Undeclared.{is_spellable}
use Rattle.naga_info.specs.declared.info.TypeResolution.{TypeResolution}
use Rattle.naga_info.specs.declared.info.TypeResolution.TheVariants.{Handle}
use Rattle.naga_naming.specs.Naming.{HasNamed, Names, label_stem, labels_with_stem}
use Rattle.naga_naming.specs.declared.error.NamerError.{NamerError}
use Rattle.naga_naming.specs.declared.error.NamerError.TheVariants as namer_error
use Rattle.naga_naming.proofs.Refusal.{element}
use Rattle.module_semantics.specs.ExpressionLabels.{SomeLabelIsFull, expression_labels}
use Rattle.module_semantics.specs.Names.{labels_named_in, wgsl_names}
use Rattle.naga_scope.specs.ExpressionNames.{HasOtherUses, IsRefusalOfLabels}
use Rattle.module_semantics.specs.Premises.{function_shape_at}
use Rattle.naga_scope.specs.Plans.{HasScopeFaultIn, IsPlanOf, IsRefusalToPlanOf, Planned}
use Rattle.naga_scope.proofs.ScopeFaults.{fault_breaks}
use Rattle.naga_scope.specs.declared.scope_faults.ScopeFault.{ScopeFault}
use Rattle.naga_scope.specs.declared.plan.PlanError.{PlanError}
use Rattle.naga_scope.specs.declared.plan.PlanError.TheVariants as plan_error
use Rattle.naga_scope.proofs.Planned.{shape_found}
use Rattle.naga_scope.proofs.SpelledTypes.{declared_is_spelled}
use Rattle.naga_scope.proofs.WrittenLines.{in_the_function}
use Rattle.naga_refusals.specs.declared.error.Error.{Error}
use Rattle.naga_refusals.specs.declared.error.Error.TheVariants.{Custom, FmtError}
use Rattle.naga_refusals.specs.declared.error.Error.TheVariants.{Memory}
use Rattle.naga_refusals.specs.Errors.{IsCustom}
use Rattle.naga_wgsl_shared.proofs.Wants.{named_no_sink, told_no_sink}
use Rattle.naga_tables.proofs.Refusals.{type_refused}
use Rattle.naga_tables.specs.Refusals.{expression_refusal, type_refusal, unspelled}
use Rattle.naga_refusals.specs.Constructs.{IsToldAs, IsToldOf}
use Rattle.naga_wgsl_fns.specs.Unplanned.{IsRefusedFor, IsUnplanned, TellsUnplanned}
use Rattle.naga_wgsl_fns.specs.declared.plans.Unplanned.{Unplanned}
use Rattle.naga_wgsl_fns.specs.declared.plans.Unplanned.TheVariants as unplanned
use Rattle.naga_refusals.specs.declared.construct.Construct.{Construct}
use Rattle.naga_scope.specs.declared.positions.FunctionRefusalPosition.{FunctionRefusalPosition}

-- ---- functions with a plan
-- what holds of the shape of each function that there is holds of the shape with its handle
of_shape : (m : Module) (info : ModuleInfo) (fs : List ir_function.Function)
    (ess : List (List ExpressionInfo)) (i : ℕ) (Q : Function → Type 0) →
    ((f : ir_function.Function) (es : List ExpressionInfo) → slice_get fs i ≡ Some f →
    slice_get ess i ≡ Some es → Q (function_shape m info f es)) →
    IfSome (slice_get (function_shapes m info fs ess) i) Q
of_shape m info [] ess i Q each = tt
of_shape m info (f ∷ fs) [] i Q each = tt
of_shape m info (f ∷ fs) (es ∷ ess) zero Q each = each f es refl refl
of_shape m info (f ∷ fs) (es ∷ ess) (suc i) Q each = of_shape m info fs ess i Q each

pub planned_holds : (explicit : Bool) (m : Module) (info : ModuleInfo) (earlier : List (List ℕ))
    (i : ℕ) (planned : Planned) → IsPlanOf explicit m info i planned →
    (ExpressionNamesAreFullIn m earlier i → ⊥) → IsWritableAt explicit m info earlier i
planned_holds explicit m info earlier i planned plan nameable = record {
  in_scope = of_shape m info (all_functions m) (all_infos info) i ScopeHolds
      (λ f es at known. (plan f es at known).in_scope);
  formed = λ f es at known. (plan f es at known).formed;
  nameable = nameable;
}

-- ---- functions without one
-- what is named stands in the function, and has no form
module _ (m : Module) (info : ModuleInfo) (i : ℕ) (error : Error)
    (n : NamesUnsupported m info i error) where
  pub named : (x : Expression) × (slice_get n.function.expressions n.expression ≡ Some x)
      × IsFalse (expression_has_form m n.known n.function.expressions x)
      × NamesExpression m n.known n.function.expressions x error
  named = by (slice_get n.function.expressions n.expression) refl n.named
    where
      by : (o : Option Expression) → slice_get n.function.expressions n.expression ≡ o →
          IsSomeAnd o
          (λ e. IsFalse (expression_has_form m n.known n.function.expressions e)
          × NamesExpression m n.known n.function.expressions e error) →
          (x : Expression) × (slice_get n.function.expressions n.expression ≡ Some x)
          × IsFalse (expression_has_form m n.known n.function.expressions x)
          × NamesExpression m n.known n.function.expressions x error
      by None at is = absurd is
      by (Some x) at is = (x, at, is.0, is.1)

  expression_fails : (explicit : Bool) (earlier : List (List ℕ)) →
      IsWritableAt explicit m info earlier i → ⊥
  expression_fails explicit earlier w =
      let formed = (w.formed n.function n.known n.stands n.is_known).expressions n.expression named.0 named.1
      n.written in
      let unsupported = named.2 in
      absurd cc

-- so does a type that is spelled
module _ (explicit : Bool) (m : Module) (info : ModuleInfo) (i : ℕ) (error : Error) where
  pub unsupported_fails : HasUnsupportedIn explicit m info i error → (earlier : List (List ℕ)) →
      IsWritableAt explicit m info earlier i → ⊥
  unsupported_fails (inl n) earlier w = expression_fails m info i error n explicit earlier w
  unsupported_fails (inr (inl n)) earlier w =
      let formed = (w.formed n.function n.known n.stands n.is_known).types n.type n.spelled in
      let unsupported = n.unsupported in
      absurd cc
  unsupported_fails (inr (inr n)) earlier w =
      let formed = (w.formed n.function n.known n.stands n.is_known).statements in
      let unsupported = some_unsupported n.function.body n.statement n.unsupported in
      absurd cc

-- a function that breaks a rule of scope
scope_fails : (o : Option Function) → IsSomeAnd o HasScopeFault → IfSome o ScopeHolds → ⊥
scope_fails None fault holds = fault
scope_fails (Some f) fault holds = fault_is_no_rule f fault holds

-- a fault
pub reason_fails : (explicit : Bool) (m : Module) (info : ModuleInfo) (earlier : List (List ℕ)) (i : ℕ)
    (error : Error) → IsReasonForNoPlan explicit m info earlier i error →
    IsWritableAt explicit m info earlier i → ⊥
reason_fails explicit m info earlier i error (inl scope) w =
    scope_fails (function_shape_at m info i) scope.1 w.in_scope
reason_fails explicit m info earlier i error (inr (inl unsupported)) w =
    unsupported_fails explicit m info i error unsupported earlier w
reason_fails explicit m info earlier i error (inr (inr full)) w = w.nameable full.1

-- ---- what is told of a plan's error
module _ (explicit : Bool) (m : Module) (info : ModuleInfo) (accepted : IsTrue (is_accepted m info))
    (i : ℕ) (f : ir_function.Function)
    (stands : slice_get (all_functions m) i ≡ Some f) where
  counted : length (all_functions m) ≡ length (all_infos info)
  counted = all_counted m info accepted

  within : i < length (all_functions m)
  within = slice_get_within (all_functions m) i f stands

  known : (es : List ExpressionInfo) × (slice_get (all_infos info) i ≡ Some es)
  known = element (all_infos info) i (omega (arith, within, counted))

  -- where the check of the function fails, it breaks a rule of scope
  out_of_scope : (namer : Names) (fault : ScopeFault) → IsRefusalToPlanOf explicit m info i namer (OutOfScope fault) →
      HasScopeFaultIn m info i
  out_of_scope namer fault refusal =
      subst (λ o. IsSomeAnd o HasScopeFault)
      (sym (shape_found m info (all_functions m) (all_infos info) i f known.0 stands known.1))
      (fault_breaks (function_shape m info f known.0) fault (refusal f known.0 stands known.1))

  -- a handle of which something is known is in range
  known_there : (es : List ExpressionInfo) (h : ℕ) (P : ExpressionInfo → Type 0) →
      IsSomeAnd (slice_get es h) P → h < length es
  known_there es h P is = by (slice_get es h) refl is
    where
      by : (o : Option ExpressionInfo) → slice_get es h ≡ o → IsSomeAnd o P → h < length es
      by None at is = absurd is
      by (Some k) at is = slice_get_within es h k at

  pub is_of_plan : (es : List ExpressionInfo) → slice_get (all_infos info) i ≡ Some es →
      (namer : Names) (error : PlanError) → IsRefusalToPlanOf explicit m info i namer error →
      IsOfPlan m f es error
  is_of_plan es here namer (OutOfScope fault) refusal = tt
  is_of_plan es here namer (StatementWithoutForm number statement) refusal = tt
  is_of_plan es here namer (WithoutForm line h) refusal = (refusal f es stands here).1
  is_of_plan es here namer (TypeWithoutForm at ty) refusal = tt
  is_of_plan es here namer (LetWithoutForm number h) refusal =
      known_there es h
      (λ k. IsSpelledIn explicit m info f es k.ty × IsFalse (is_spellable m k.ty))
      (refusal f es stands here).1
  is_of_plan es here namer (Unnamed e) refusal = tt
  is_of_plan es here namer (plan_error.Memory e) refusal = tt

  -- after these labels
  module _ (earlier : List (List ℕ)) where
    for_scope : (reported : Error) → IsCustom (codes "operand out of scope") reported →
        HasScopeFaultIn m info i → IsPlanRefusal explicit m info earlier i reported
    for_scope (Custom message) is fault = (tt, inl (is, fault))
    for_scope (Memory e) is fault = tt
    for_scope _ is fault = absurd is

    for_form : (reported : Error) → HasUnsupportedIn explicit m info i reported →
        IsPlanRefusal explicit m info earlier i reported
    for_form (FmtError reason) (inl n) =
        let at = named m info i (FmtError reason) n in
        absurd (named_no_sink (expression_refusal m n.known n.function.expressions at.0) reason at.3)
    for_form (FmtError reason) (inr (inl n)) = absurd (named_no_sink (type_refusal m n.type) reason n.named)
    for_form (FmtError reason) (inr (inr n)) = absurd (told_no_sink n.statement reason n.named)
    for_form (Memory e) n = tt
    for_form _ n = (tt, inr (inl n))

    for_full : (reported : Error) → IsCustom (codes "namer is full") reported →
        ExpressionNamesAreFullIn m earlier i →
        IsPlanRefusal explicit m info earlier i reported
    for_full (Custom message) is full = (tt, inr (inr (is, full)))
    for_full (Memory e) is full = tt
    for_full _ is full = absurd is

    -- the labels of the function are those of its handle
    labels_are : expression_labels f ≡ labels_named_in m i
    labels_are = sym (ap (λ o. option_map_or expression_labels o []) stands)

    pub full_is : (namer : Names) → HasOtherUses (wgsl_names m) namer →
        SomeLabelIsFull namer earlier (expression_labels f) → ExpressionNamesAreFullIn m earlier i
    full_is namer words full = record {
      named = full.named;
      label = full.label;
      left = full.left;
      all = sym labels_are ∙ full.all;
      full = sym (ap (λ (n : Names). labels_with_stem n (earlier ++ full.named)
          (label_stem n full.label)) words) ∙ full.full;
    }

    -- and the other way round
    pub is_full : (namer : Names) → HasOtherUses (wgsl_names m) namer →
        ExpressionNamesAreFullIn m earlier i → SomeLabelIsFull namer earlier (expression_labels f)
    is_full namer words full = record {
      named = full.named;
      label = full.label;
      left = full.left;
      all = labels_are ∙ full.all;
      full = ap (λ (n : Names). labels_with_stem n (earlier ++ full.named)
          (label_stem n full.label)) words ∙ full.full;
    }

    for_names : (namer : Names) → HasOtherUses (wgsl_names m) namer → (error : NamerError) (it : Construct)
        (reported : Error) → IsRefusalOfLabels namer earlier (expression_labels f) error →
        IsConstructOfNames error it → IsToldAs it reported → IsPlanRefusal explicit m info earlier i reported
    for_names namer words namer_error.Full it reported refusal is told =
        for_full reported (subst (λ it. IsToldAs it reported) is told) (full_is namer words refusal)
    for_names namer words namer_error.KeyFull it reported refusal is told = absurd refusal
    for_names namer words (namer_error.Memory e) it reported refusal is told = absurd is

    type_named : (es : List ExpressionInfo) → slice_get (all_infos info) i ≡ Some es →
        (reported : Error) (it : Construct) (r : TypeResolution) → IsSpelledIn explicit m info f es r →
        IsFalse (is_spellable m r) → it ≡ unspelled m r → IsToldAs it reported →
        NamesUnsupportedType explicit m info i reported
    type_named es at reported it r spelled unsupported is told = record {
      function = f;
      known = es;
      stands = stands;
      is_known = at;
      type = r;
      spelled = spelled;
      unsupported = unsupported;
      named = subst (λ o. IsToldOf o reported) (sym (type_refused m r unsupported))
          (subst (λ it. IsToldAs it reported) is told);
    }

    pub plan_refusal : (es : List ExpressionInfo) → slice_get (all_infos info) i ≡ Some es →
        (namer : Names) → HasOtherUses (wgsl_names m) namer → HasNamed namer earlier →
        (error : PlanError) (it : Construct) (reported : Error) →
        IsRefusalToPlanOf explicit m info i namer error → IsConstructOf m f es error it →
        IsToldAs it reported → IsPlanRefusal explicit m info earlier i reported
    plan_refusal es at namer words has (Unnamed e) it reported refusal is told =
        for_names namer words e it reported (refusal f es stands at earlier has) is told
    plan_refusal es at namer words has (OutOfScope fault) it reported refusal is told =
        for_scope reported (subst (λ it. IsToldAs it reported) is told) (out_of_scope namer fault refusal)
    plan_refusal es at namer words has (StatementWithoutForm number statement) it reported refusal is told =
        for_form reported (inr (inr (record {
          function = f;
          known = es;
          stands = stands;
          is_known = at;
          statement = statement;
          unsupported = (refusal f es stands at).0;
          named = subst (λ it. IsToldAs it reported) is told;
        })))
    plan_refusal es at namer words has (WithoutForm line h) it reported refusal is told =
        let here = refusal f es stands at in
        for_form reported (inl (record {
          function = f;
          known = es;
          stands = stands;
          is_known = at;
          expression = h;
          written = in_the_function (binds (function_shape m info f es)) f f.expressions line h here.0;
          named = both (slice_get f.expressions h) here.1 is;
        }))
      where
        both : (o : Option Expression) →
            IsSomeAnd o (λ e. IsFalse (expression_has_form m es f.expressions e)) →
            IsSomeAnd o (λ e. expression_refusal m es f.expressions e ≡ Some it) →
            IsSomeAnd o (λ e. IsFalse (expression_has_form m es f.expressions e)
            × NamesExpression m es f.expressions e reported)
        both None lacks is = absurd lacks
        both (Some e) lacks is = (lacks, subst (λ o. IsToldOf o reported) (sym is) told)
    plan_refusal es at namer words has (TypeWithoutForm declared ty) it reported refusal is told =
        let here = refusal f es stands at in
        let spelled = declared_is_spelled m f explicit info es declared ty here.0 in
        for_form reported (inr (inl (type_named es at reported it (Handle ty) spelled here.1 is told)))
    plan_refusal es at namer words has (LetWithoutForm number h) it reported refusal is told =
        by (slice_get es h) (refusal f es stands at).1 is
      where
        by : (o : Option ExpressionInfo) →
            IsSomeAnd o (λ k. IsSpelledIn explicit m info f es k.ty × IsFalse (is_spellable m k.ty)) →
            IsSomeAnd o (λ k. it ≡ unspelled m k.ty) →
            IsPlanRefusal explicit m info earlier i reported
        by None here is = absurd here
        by (Some k) here is =
            for_form reported (inr (inl (type_named es at reported it k.ty here.0 here.1 is told)))
    plan_refusal es at namer words has (plan_error.Memory e) it reported refusal is told = absurd is

    -- what is told of a construct for which it has no plan
    pub unplanned_refusal : (namer : Names) → HasOtherUses (wgsl_names m) namer → HasNamed namer earlier →
        (it : Construct) (at : FunctionRefusalPosition) → IsRefusedFor explicit m info i namer it at →
        (reported : Error) → IsToldAs it reported → IsPlanRefusal explicit m info earlier i reported
    unplanned_refusal namer words has it at r reported told =
        plan_refusal known.0 known.1 namer words has r.error it reported r.refused
        (r.construct f known.0 stands known.1) told

    pub unplanned_told : (namer : Names) → HasOtherUses (wgsl_names m) namer → HasNamed namer earlier →
        (u : Unplanned) (reported : Error) → IsUnplanned explicit m info i namer u → TellsUnplanned u reported →
        IsPlanRefusal explicit m info earlier i reported
    unplanned_told namer words has (unplanned.Refused it at) reported r told =
        unplanned_refusal namer words has it at r reported told
    unplanned_told namer words has (unplanned.Memory e) reported r told =
        subst (IsPlanRefusal explicit m info earlier i) (sym told) tt
