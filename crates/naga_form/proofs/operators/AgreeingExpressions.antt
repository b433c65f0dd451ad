-- Expressions of an accepted module over operands of equal types: their operands are told alike,
-- and where one key tells what they apply, or one type what they have, their values are of one
-- type.
use Rattle.module_semantics.specs.Names.{TypesAreDistinguished}
use Rattle.std.proofs.Common.{◌≡◌, ℕ, List, [], sym, ap, ◌∙◌, Some, slice_get, map}
use Rattle.std.specs.Prelude.{IsTrue}
use Rattle.std.specs.Option.{option_map_or}
use Rattle.std.proofs.lemmas.Slice.Eq.{bytes_eq-Decides}
use Rattle.naga_ir.specs.Operands.{expression_operands}
use Rattle.naga_ir.specs.declared.module.Module.{Module}
use Rattle.naga_info.specs.declared.info.ModuleInfo.{ModuleInfo}
use Rattle.naga_info.specs.declared.info.TypeResolution.{TypeResolution}
use Rattle.shader_runs.specs.Typing.{Signature}
use Rattle.module_semantics.specs.acceptance.Accepted.{is_accepted}
use Rattle.module_semantics.specs.acceptance.AgreeingOperators.{operator_key, identity_at}
use Rattle.module_semantics.specs.AlikeTypes.{type_identity}
use Rattle.module_semantics.specs.acceptance.ExpressionTypes.{expected_type, LikeThis, is_expected}
use Rattle.naga_form.proofs.declarations.AcceptedGroups.{types_are_counted, agree, operands_known}
use Rattle.naga_form.proofs.declarations.AcceptedGroups.{own_known}
use Rattle.naga_form.proofs.operators.AgreeingUses.{IsUse, AreKnown, value_at, uses_agree}
use Rattle.naga_form.proofs.operators.AgreeingUses.{all_distinguished_alike, valued_alike}
use Rattle.naga_form.proofs.types.SameValues.{TypesAreCounted}
use Rattle.naga_form.proofs.operators.Signatures.{IsOfExpression}

module _ (m : Module) (info : ModuleInfo) (accepted : IsTrue (is_accepted m info))
    (named : TypesAreDistinguished m) where
  abbrev pub are : TypesAreCounted m
  are = types_are_counted m info accepted named

  -- ---- one expression
  module _ {x : Signature} (a : IsOfExpression m info x) where
    -- its own type
    pub own_type : (r : TypeResolution) × (slice_get a.group.known a.handle ≡ Some r)
    own_type = own_known m info a.function a.group a.sound a.handle a.expression a.there

    pub operands_are : AreKnown m info a.group.known (expression_operands a.expression)
    operands_are = operands_known m info a.function a.group a.sound a.handle a.expression a.there

    -- where its operator asks for one type, its own is alike to it
    pub own_is : (r : TypeResolution) → expected_type m a.function a.group.known a.expression ≡ LikeThis r →
        identity_at m.types a.group.known a.handle ≡ type_identity m.types r
    own_is r wanted =
        let own = own_type in
        ap (λ o. option_map_or (type_identity m.types) o []) own.1
        ∙ (bytes_eq-Decides (type_identity m.types own.0) (type_identity m.types r)).0
        (sym (ap (λ w. is_expected m.types w own.0) wanted) ∙ a.sound.typed a.handle a.expression own.0 a.there own.1)

    abbrev pub use_of : (k : List ℕ) → operator_key m.types a.group.known a.expression ≡ Some k → IsUse m info
    use_of k at = record {
      number = a.sound.among.0;
      group = a.group;
      handle = a.handle;
      expression = a.expression;
      key = k;
      group_there = a.sound.among.1;
      expression_there = a.there;
      key_is = at;
    }

  -- ---- two of them
  module _ {x y : Signature} (a : IsOfExpression m info x) (b : IsOfExpression m info y) where
    -- told alike, they are of one type
    pub by_identity : identity_at m.types a.group.known a.handle ≡ identity_at m.types b.group.known b.handle →
        x.result ≡ y.result
    by_identity e =
        let one = own_type a in let two = own_type b in
        a.result ∙ (valued_alike m info are a.group.known b.group.known a.sound.fits b.sound.fits a.handle
        b.handle one.0 one.1 two.0 two.1 e ∙ sym b.result)

    module _ (operands : x.operands ≡ y.operands) where
      pub same_values : map (value_at m info a.group.known) (expression_operands a.expression)
          ≡ map (value_at m info b.group.known) (expression_operands b.expression)
      same_values = sym a.operands ∙ (operands ∙ b.operands)

      pub same_operands : map (identity_at m.types a.group.known) (expression_operands a.expression)
          ≡ map (identity_at m.types b.group.known) (expression_operands b.expression)
      same_operands = all_distinguished_alike m info are a.group.known b.group.known a.sound.fits
          b.sound.fits (expression_operands a.expression) (expression_operands b.expression)
          (operands_are a) (operands_are b) same_values

      -- of one key, they are of one type
      pub by_key : (k l : List ℕ) → operator_key m.types a.group.known a.expression ≡ Some k →
          operator_key m.types b.group.known b.expression ≡ Some l → k ≡ l → x.result ≡ y.result
      by_key k l one two e = by_identity (uses_agree m info (agree m info accepted) (use_of a k one)
          (use_of b l two) e same_operands)
