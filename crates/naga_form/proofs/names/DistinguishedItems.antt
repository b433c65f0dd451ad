-- Structs, overrides and members are told apart by their names.
use Rattle.std.proofs.Common.{◌≡◌, ℕ}
use Rattle.naga_ir.specs.declared.module.Module.{Module}
use Rattle.naga_naming.specs.declared.key.NameKey.TheVariants as key
use Rattle.naga_naming.proofs.Refusal.{element}
use Rattle.module_semantics.specs.Names.{ItemsAreDistinguished, TypesAreDistinguished}
use Rattle.naga_form.proofs.names.ItemKeys.{keys_tell, override_has, type_has}
use Rattle.naga_form.proofs.names.MemberNames.{member_names_tell}

module _ (m : Module) where
  one_type : (h k : ℕ) → key.Type_ h ≡ key.Type_ k → h ≡ k
  one_type h k e = cc

  one_override : (o p : ℕ) → key.Override o ≡ key.Override p → o ≡ p
  one_override o p e = cc

  no_override : (h o : ℕ) → key.Type_ h ≡ key.Override o → ⊥
  no_override h o e = cc

  pub types_are_distinguished : TypesAreDistinguished m
  types_are_distinguished = record {
    structs = λ h k t u at there is_t is_u e.
        one_type h k
        (keys_tell m (key.Type_ h) (key.Type_ k) (type_has m h t at) (type_has m k u there) e);
    overrides = λ o p lo lp e.
        let a = element m.overrides o lo in let b = element m.overrides p lp in
        one_override o p
        (keys_tell m (key.Override o) (key.Override p) (override_has m o a.0 a.1)
        (override_has m p b.0 b.1) e);
    apart = λ h o t at is lo e.
        let b = element m.overrides o lo in
        no_override h o
        (keys_tell m (key.Type_ h) (key.Override o) (type_has m h t at)
        (override_has m o b.0 b.1) e);
  }

  pub items_are_distinguished : ItemsAreDistinguished m
  items_are_distinguished = record {
    types = types_are_distinguished;
    members = λ h t at i j a b x y e.
        member_names_tell m h t at i j a b x y e;
  }
