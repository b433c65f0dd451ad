-- The names of members: words of WGSL, and of their own within a struct.
use Rattle.std.proofs.Common.{◌≡◌, ℕ, [], refl, sym, ap, ◌∙◌, Some, None, slice_get, unwrap_or}
use Rattle.std.proofs.Common.{map, subst, take}
use Rattle.naga_ir.specs.declared.module.Module.{Module}
use Rattle.naga_ir.specs.declared.types.StructMember.{StructMember}
use Rattle.naga_ir.specs.declared.types.Type_.{Type_}
use Rattle.naga_naming.specs.Reset.{PutsInto, labelled_items, named_items, members_of}
use Rattle.naga_naming.specs.Reset.{member_label, member_names}
use Rattle.naga_naming.specs.declared.key.NameKey.TheVariants as key
use Rattle.naga_naming.proofs.Members.{member_put, put_members_distinguished}
use Rattle.module_semantics.specs.Names.{module_names, wgsl_names, name_in}
use Rattle.wgsl_text.specs.Words.{IsWord}
use Rattle.naga_form.proofs.names.Names.{is_word_after}

-- the names of a module are those of its items alone
pub puts : (m : Module) →
    PutsInto (λ _. None) (named_items (wgsl_names m) (labelled_items (wgsl_names m) m)) (module_names m)
unfolding module_names
puts m = record { finds = λ key. refl }

-- members of one name are one
pub member_names_tell : (m : Module) (t : ℕ) (ty : Type_) → slice_get m.types t ≡ Some ty →
    (n k : ℕ) (a b : StructMember) → slice_get (members_of ty.inner) n ≡ Some a →
    slice_get (members_of ty.inner) k ≡ Some b →
    name_in (module_names m) (key.StructMember t n) ≡ name_in (module_names m) (key.StructMember t k) → n ≡ k
member_names_tell m t ty found n k a b here there same =
    let one = member_put (wgsl_names m) m t ty found n a here (λ _. None) (module_names m) (puts m) in
    let two = member_put (wgsl_names m) m t ty found k b there (λ _. None) (module_names m) (puts m) in
    put_members_distinguished (wgsl_names m) m (λ _. None) (module_names m) (puts m) t ty found n k a b here there
    (one ∙ (ap Some (sym (ap (λ o. unwrap_or o []) one) ∙ (same ∙ ap (λ o. unwrap_or o []) two)) ∙ sym two))

-- each is named by a word
pub member_is_word : (m : Module) (t : ℕ) (ty : Type_) → slice_get m.types t ≡ Some ty →
    (n : ℕ) (a : StructMember) → slice_get (members_of ty.inner) n ≡ Some a →
    IsWord (name_in (module_names m) (key.StructMember t n))
member_is_word m t ty found n a there =
    let put = member_put (wgsl_names m) m t ty found n a there (λ _. None) (module_names m) (puts m) in
    subst IsWord (sym (ap (λ o. unwrap_or o []) put))
    (is_word_after m (member_names (wgsl_names m)) refl (map member_label (take n (members_of ty.inner)))
    (member_label a))
