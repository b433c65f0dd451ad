-- Filters of diagnostics, and the directives that stand for them.
use Rattle.std.proofs.Common.{◌≡◌, ℕ, true, false, List, [], ◌∷◌, Option, None, Some, map, refl}
use Rattle.std.specs.Prelude.{codes}
use Rattle.naga_ir.specs.declared.diagnostics.DiagnosticFilterNode.{DiagnosticFilterNode}
use Rattle.naga_ir.specs.declared.diagnostics.FilterableTriggeringRule.{FilterableTriggeringRule}
use Rattle.naga_ir.specs.declared.diagnostics.FilterableTriggeringRule.TheVariants as rule
use Rattle.naga_ir.specs.declared.diagnostics.Severity.{Severity}
use Rattle.naga_ir.specs.declared.diagnostics.Severity.TheVariants.{Off, Info, Warning, Error}
use Rattle.naga_ir.specs.declared.diagnostics.StandardFilterableTriggeringRule.TheVariants as standard
use Rattle.naga_ir.specs.declared.module.Module.{Module}
use Rattle.diagnostic_directives.specs.Directives.{module_directives}
use Rattle.diagnostic_directives.specs.Filters.{module_chain}
use Rattle.diagnostic_directives.specs.Names.{is_name, is_reserved}

-- a filter of this rule with this parent
abbrev node_of : FilterableTriggeringRule → Severity → (parent : Option ℕ) → DiagnosticFilterNode
node_of rule severity parent =
    record { inner = record { new_severity = severity; triggering_rule = rule }; parent = parent }

-- of the rule of the standard
abbrev node : Severity → (parent : Option ℕ) → DiagnosticFilterNode
node severity parent = node_of (rule.Standard standard.DerivativeUniformity) severity parent

module _ (other : Module) where
  -- a module with these filters, of which this is the leaf
  abbrev with_filters : List DiagnosticFilterNode → (leaf : Option ℕ) → Module
  with_filters nodes leaf = record other { diagnostic_filters = nodes; diagnostic_filter_leaf = leaf }

  -- the severities of the filters of its chain
  abbrev chain : List DiagnosticFilterNode → (leaf : Option ℕ) → List Severity
  chain nodes leaf = map (λ f. f.new_severity) (module_chain (with_filters nodes leaf))

  -- one filter
  off : module_directives (with_filters (node Off None ∷ []) (Some 0))
      ≡ codes "diagnostic(off, derivative_uniformity);\n\n"
  off = refl

  -- none: there is no filter, or no leaf, or none at the leaf
  nothing : module_directives (with_filters [] None) ≡ []
  nothing = refl

  leafless : module_directives (with_filters (node Off None ∷ []) None) ≡ []
  leafless = refl

  past : module_directives (with_filters (node Off None ∷ []) (Some 1)) ≡ []
  past = refl

  -- a chain has the outermost filter first, and none that is not on it
  nested : chain (node Off None ∷ node Info (Some 0) ∷ node Warning (Some 1) ∷ []) (Some 2)
      ≡ Off ∷ Info ∷ Warning ∷ []
  nested = refl

  beside : chain (node Off None ∷ node Info (Some 0) ∷ node Warning (Some 0) ∷ []) (Some 2)
      ≡ Off ∷ Warning ∷ []
  beside = refl

  -- one that does not go down begins where it would not
  its_own_parent : chain (node Off (Some 0) ∷ []) (Some 0) ≡ Off ∷ []
  its_own_parent = refl

  later_parent : chain (node Off None ∷ node Info (Some 2) ∷ node Warning (Some 1) ∷ []) (Some 2)
      ≡ Info ∷ Warning ∷ []
  later_parent = refl

  -- of two of one rule the one nearest to the leaf is in force
  overruled : module_directives (with_filters (node Off None ∷ node Error (Some 0) ∷ []) (Some 1))
      ≡ codes "diagnostic(error, derivative_uniformity);\n\n"
  overruled = refl

-- words that are names, and others
names : map is_name
    (codes "derivative_uniformity" ∷ codes "_x1" ∷ codes "" ∷ codes "_" ∷ codes "__x" ∷ codes "1x"
    ∷ codes "a.b" ∷ codes "x); fn f() {}" ∷ codes "if" ∷ codes "override" ∷ codes "f32" ∷ [])
    ≡ true ∷ true ∷ false ∷ false ∷ false ∷ false ∷ false ∷ false ∷ false ∷ false ∷ true ∷ []
unfolding is_reserved
names = refl
