-- How far down a module's chain of filters was gone.
--
-- Throughout, nodes are the filters of a module, last is the last of a chain among the first here + 1 of
-- them, and met are filters that stand after that chain.
use Rattle.std.proofs.Common.{◌≡◌, ◌∙◌, ◌<◌, ◌≤◌, ◌-◌, arith, ℕ, zero, suc, true, List, ◌∷◌, ◌++◌, Option, Some, subst, sym}
use Rattle.std.specs.Prelude.{Contains, slice_get}
use Rattle.naga_ir.specs.declared.diagnostics.DiagnosticFilterNode.{DiagnosticFilterNode}
use Rattle.naga_ir.specs.declared.diagnostics.DiagnosticFilter.{DiagnosticFilter}
use Rattle.naga_ir.specs.declared.module.Module.{Module}
use Rattle.naga_words.specs.Diagnostics.{rule_name}
use Rattle.naga_words.specs.declared.sink.SinkError.TheVariants as sink
use Rattle.diagnostic_directives.specs.Directives.{HasNoDirectives}
use Rattle.diagnostic_directives.specs.Filters.{StandsBelow, StandsOnChain, chain_below, ends_at, in_force}
use Rattle.diagnostic_directives.specs.Filters.{module_chain}
use Rattle.diagnostic_directives.specs.Found.{NoStep, NotAdded, Steps, Tells}
use Rattle.diagnostic_directives.specs.declared.error.DirectiveError.{DirectiveError}
use Rattle.diagnostic_directives.specs.declared.error.DirectiveError.TheVariants.{RuleName, Sink}
use Rattle.diagnostic_directives.specs.declared.found.Found.{Found}
use Rattle.diagnostic_directives.proofs.Chains.{is_in_force, kept_in_force, met_here, stands_here}

-- Of the chain these filters were met, which stand at its end, and what was found of them is kept. The
-- others are a chain among the filters below.
pub record IsMet (m : Module) (below : ℕ) (last : Option ℕ) (found : Found) : Type 0 where
  pub met : List DiagnosticFilter
  pub whole : chain_below m.diagnostic_filters below last ++ met ≡ module_chain m
  pub stands : (h : ℕ) → StandsBelow m.diagnostic_filters below last h → StandsOnChain m h
  pub tells : Tells met found

module _ (nodes : List DiagnosticFilterNode) (here : ℕ) (last : Option ℕ) (met : List DiagnosticFilter)
    (node : DiagnosticFilterNode) (ends : ends_at last here ≡ true) (is : slice_get nodes here ≡ Some node) where
  -- no step was taken at its last filter
  pub no_step : (old : Found) (error : DirectiveError) → Tells met old → NotAdded old here node.inner error →
      NoStep nodes here last met error
  no_step old (RuleName h) tells lacks = (
    node,
    subst (λ k. slice_get nodes k ≡ Some node) (sym lacks.0) is,
    subst (StandsBelow nodes (suc here) last) (sym lacks.0) (stands_here nodes here last ends),
    subst (λ chain. Contains (in_force chain) node.inner) (sym (met_here nodes here last met node ends is))
        (kept_in_force (chain_below nodes here node.parent) (node.inner ∷ met) node.inner
        (is_in_force node.inner met (sym (tells.rules (rule_name node.inner.triggering_rule)) ∙ lacks.1))),
    lacks.2,
  )
  no_step old (Sink sink.Failed) tells lacks = lacks
  no_step old (Sink (sink.Memory e)) tells lacks = tt

-- one more step down the chain of a module
pub stepped : (m : Module) (here : ℕ) (last below : Option ℕ) (old new : Found) (is : IsMet m (suc here) last old) →
    Steps m.diagnostic_filters here last below is.met new → IsMet m here below new
stepped m here last below old new is step =
    record {
      met = step.now;
      whole = step.whole ∙ is.whole;
      stands = λ h below. is.stands h (step.stands h below);
      tells = step.tells;
    }

-- no more of them
pub not_stepped : (m : Module) (here : ℕ) (last : Option ℕ) (old : Found) (error : DirectiveError)
    (is : IsMet m (suc here) last old) → NoStep m.diagnostic_filters here last is.met error → HasNoDirectives m error
not_stepped m here last old (RuleName h) is lacks = (
  lacks.0,
  lacks.1,
  is.stands h lacks.2,
  subst (λ chain. Contains (in_force chain) lacks.0.inner) is.whole lacks.3,
  lacks.4,
)
not_stepped m here last old (Sink sink.Failed) is lacks = lacks
not_stepped m here last old (Sink (sink.Memory e)) is lacks = lacks

-- the index before one that is not the first
pub met_below : (m : Module) (index : ℕ) (last : Option ℕ) (found : Found) → 0 < index → IsMet m index last found →
    IsMet m (suc (index - 1)) last found
met_below m index last found more is =
    let next : index ≡ suc (index - 1) = omega arith in subst (λ i. IsMet m i last found) next is

-- all of the chain was met
pub all_met : (m : Module) (index : ℕ) (last : Option ℕ) (found : Found) → index ≤ 0 → IsMet m index last found →
    Tells (module_chain m) found
all_met m zero last found none is = subst (λ fs. Tells fs found) is.whole is.tells
all_met m (suc index) last found none is = absurd (omega arith)
