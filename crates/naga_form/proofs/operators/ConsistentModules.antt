-- The operators of the program of shapes of every accepted module are typed consistently: what is
-- spelled is of expressions, and what expressions spell alike is of types alike. So there is a
-- meaning that keeps the types.
use Rattle.module_semantics.specs.Names.{ItemsAreDistinguished}
use Rattle.std.proofs.Common.{◌≡◌, ◌⊎◌, ℕ, Some, slice_get, sym, subst}
use Rattle.std.specs.Prelude.{IsTrue}
use Rattle.naga_ir.specs.declared.module.Module as ir_module
use Rattle.naga_info.specs.declared.info.ModuleInfo.{ModuleInfo}
use Rattle.module_semantics.specs.acceptance.Accepted.{is_accepted}
use Rattle.module_semantics.specs.Meanings.{OperatorsAreConsistent, HasTypedMeaning}
use Rattle.module_semantics.specs.ModuleShapes.{module_shape}
use Rattle.shader_runs.specs.Program.{Function, expression_of, handle_type}
use Rattle.shader_runs.specs.Typing.{Signature, IsSpelled, LeafTreesFit, PartsFit}
use Rattle.naga_form.proofs.operators.AgreeingSignatures.{all_agree}
use Rattle.naga_form.proofs.declarations.ConstantInitialisers.{initialiser_fits}
use Rattle.naga_form.proofs.declarations.ConstantInitialisers.{initialiser_spelled}
use Rattle.naga_form.proofs.declarations.ConstantInitialisers.{tree_fits, tree_spelled}
use Rattle.naga_form.proofs.operators.LeafTrees.{leaf_trees_fit}
use Rattle.naga_form.proofs.types.PartsFit.{parts_fit}
use Rattle.shader_runs.proofs.Typing.{has_typed_meaning}
use Rattle.naga_form.proofs.ModuleIndices.{function_at}
use Rattle.naga_form.proofs.operators.Signatures.{IsOfExpression, IsOfZero}
use Rattle.naga_form.proofs.operators.SpelledSignatures.{of_spelled}

module _ (m : ir_module.Module) (info : ModuleInfo) (accepted : IsTrue (is_accepted m info))
    (distinguished : ItemsAreDistinguished m) where
  -- what expressions over pointers or truth values give, in each function of the module
  parts : (number : ℕ) (f : Function) → slice_get (module_shape m info).functions number ≡ Some f → (h : ℕ) →
      PartsFit (module_shape m info).parts f (handle_type f h) (expression_of f h)
  parts number f there h =
      let k = function_at m info accepted distinguished.types number f there in
      subst (λ f. PartsFit (module_shape m info).parts f (handle_type f h) (expression_of f h)) (sym k.same)
      (parts_fit m info accepted distinguished k.function k.known k.sound h)

  -- and so do the constants in it
  constants : (number : ℕ) (f : Function) → slice_get (module_shape m info).functions number ≡ Some f →
      (h : ℕ) → LeafTreesFit (module_shape m info) (expression_of f h)
  constants number f there h =
      let k = function_at m info accepted distinguished.types number f there in
      subst (λ f. LeafTreesFit (module_shape m info) (expression_of f h)) (sym k.same)
      (leaf_trees_fit m info (tree_fits m info accepted distinguished.types) k.function k.known k.sound h)

  -- what is spelled is of an expression, or of a zero value
  spelled : (x : Signature) → IsSpelled (module_shape m info) x →
      IsOfExpression m info x ⊎ IsOfZero m info x
  spelled = of_spelled m info (tree_spelled m info accepted distinguished.types) accepted distinguished.types
      (initialiser_spelled m info accepted distinguished.types)

  pub consistent : OperatorsAreConsistent m info
  consistent = record {
    alike = λ x y is_x is_y.
        all_agree m info accepted distinguished x y (spelled x is_x) (spelled y is_y);
    parts = parts;
    constants = constants;
    initialisers = initialiser_fits m info accepted distinguished.types;
  }

  -- so that there is a typed meaning
  pub has_meaning : HasTypedMeaning m info
  has_meaning = has_typed_meaning (module_shape m info) consistent
