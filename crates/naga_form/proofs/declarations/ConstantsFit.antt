-- What is asked of a program's constants holds of the program of shapes of an accepted module,
-- where words and names stand apart; and so does what is asked of the constants in its functions.
use Rattle.module_semantics.specs.Names.{TypesAreDistinguished}
use Rattle.std.proofs.Common.{◌≡◌, ℕ, ◌<◌, List, Some, slice_get, length}
use Rattle.std.specs.Prelude.{IsTrue}
use Rattle.naga_ir.specs.declared.module.Function.{Function}
use Rattle.naga_ir.specs.declared.module.Module.{Module}
use Rattle.naga_info.specs.declared.info.ExpressionInfo.{ExpressionInfo}
use Rattle.naga_info.specs.declared.info.ModuleInfo.{ModuleInfo}
use Rattle.shader_runs.specs.Program.{ConstantTree}
use Rattle.shader_runs.specs.Premises.{ConstantsFit, EachWord, OperatesOutside}
use Rattle.shader_runs.specs.Scope.{ModuleNames}
use Rattle.module_semantics.specs.acceptance.Accepted.{is_accepted}
use Rattle.module_semantics.specs.acceptance.AgreeingOperators.{function_group}
use Rattle.module_semantics.specs.ModuleShapes.{module_shape}
use Rattle.naga_form.proofs.declarations.AcceptedGroups.{IsSoundGroup}
use Rattle.naga_form.proofs.declarations.ConstantInitialisers.{initialiser_in_range}
use Rattle.naga_form.proofs.declarations.ConstantInitialisers.{initialiser_typed}
use Rattle.naga_form.proofs.declarations.ConstantInitialisers.{tree_in_range, tree_typed}
use Rattle.naga_form.proofs.declarations.ConstantOrder.{constant_rank, constants_within_types}
use Rattle.naga_form.proofs.declarations.ConstantOrder.{initialiser_before}
use Rattle.naga_form.proofs.operators.Leaves.{ConstantsAreTyped}
use Rattle.naga_form.proofs.declarations.OwnExpressions.{constant_has_tree, constant_named}

pub constants_fit : (m : Module) (info : ModuleInfo) → IsTrue (is_accepted m info) →
    TypesAreDistinguished m → (n : ModuleNames) →
    ((i : ℕ) (e : ConstantTree) → slice_get (module_shape m info).initialisers i ≡ Some e →
    EachWord (OperatesOutside (module_shape m info) n) e) →
    ((i k : ℕ) → i < length (module_shape m info).constant_types →
    k < length (module_shape m info).constant_types → n.constant i ≡ n.constant k → i ≡ k) →
    ConstantsFit (module_shape m info) n
constants_fit m info accepted distinguished n words distinct = record {
  counted = constants_within_types m info;
  rank = constant_rank m info;
  initialisers = λ i e at. record {
    range = initialiser_in_range m info accepted distinguished i e at;
    type = initialiser_typed m info accepted distinguished i e at;
    words = words i e at;
    before = initialiser_before m info accepted distinguished i e at;
  };
  distinct = distinct;
}

-- the constants in each function have their types
pub constants_are_typed : (m : Module) (info : ModuleInfo) → IsTrue (is_accepted m info) →
    TypesAreDistinguished m → (f : Function) (es : List ExpressionInfo) →
    IsSoundGroup m info (Some f) (function_group f es) → ConstantsAreTyped m info f es
constants_are_typed m info accepted distinguished f es group =
    let g = function_group f es in
    record {
      types = tree_typed m info accepted distinguished (Some f) g group;
      ranges = tree_in_range m info accepted distinguished (Some f) g group;
      written = λ h c at.
          let named = constant_named m info accepted (Some f) g group h c at in
          constant_has_tree m info accepted distinguished c named.0 named.1;
    }
