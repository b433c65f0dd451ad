-- The identifiers of a type's tree stand for what the module's type is over.
--
-- Throughout, m is a module, names tell what each name stands for, h and b are handles of types, s is
-- a scalar, x the tree of what a type is over, and t the tree of the type.
use Rattle.std.proofs.Common.{◌≡◌, ℕ, zero, suc, ◌<◌, Bool, true, false, List, [], ◌∷◌, ◌++◌}
use Rattle.std.proofs.Common.{Option, Some, None, map, length, slice_get, refl, sym, ap, ap₂, subst}
use Rattle.std.proofs.Common.{◌∙◌, codes}
use Rattle.std.specs.Prelude.{if◌then◌else◌}
use Rattle.std.specs.Option.{option_map, option_map_or}
use Rattle.std.proofs.lemmas.Bool.{ltb-true}
use Rattle.std.proofs.lemmas.List.{map-append}
use Rattle.std.proofs.lemmas.Option.{same_Some}
use Rattle.naga_info.proofs.Options.{map_some}
use Rattle.naga_info.specs.declared.info.TypeResolution.{TypeResolution}
use Rattle.naga_info.specs.declared.info.TypeResolution.TheVariants.{Handle, Value}
use Rattle.naga_ir.specs.declared.image.ImageClass.{ImageClass}
use Rattle.naga_ir.specs.declared.image.ImageClass.TheVariants as class
use Rattle.naga_ir.specs.declared.image.ImageDimension.{ImageDimension}
use Rattle.naga_ir.specs.declared.module.Module.{Module}
use Rattle.naga_ir.specs.declared.types.ArraySize.{ArraySize}
use Rattle.naga_ir.specs.declared.types.ArraySize.TheVariants as size
use Rattle.naga_ir.specs.declared.types.Scalar.{Scalar}
use Rattle.naga_ir.specs.declared.types.Type_.{Type_}
use Rattle.naga_ir.specs.declared.types.TypeInner.{TypeInner}
use Rattle.naga_ir.specs.declared.types.TypeInner.TheVariants as inner
use Rattle.naga_ir.specs.declared.types.VectorSize.{VectorSize}
use Rattle.naga_spelling.specs.Contexts.{Names}
use Rattle.naga_spelling.specs.Spelling.{is_struct, length_within, size_within}
use Rattle.naga_spelling.specs.Words.{cooperative_word, image_word, sampler_word}
use Rattle.wgsl_words.specs.Words.{format_word, image_access_word, matrix_role_word, scalar_word}
use Rattle.wgsl_words.specs.Words.{space_word, space_access_word}
use Rattle.std.specs.Int.NonZero.{non_zero_u32_get}
use Rattle.wgsl_text.proofs.Building.{in_front}
use Rattle.wgsl_text.proofs.ValueWords.{value_words}
use Rattle.wgsl_text.specs.Tables.{depth_image_words, ray_words, sampler_words, scalar_words}
use Rattle.wgsl_text.specs.Types.{TypeSpecifier, Named, TemplateArguments, TypeArgument}
use Rattle.wgsl_text.specs.Types.{NoTemplateArguments, SizeArgument, Template, TemplateRule}
use Rattle.wgsl_text.specs.Types.{TakesElements, TakesFormat, TakesRole, of_one, of_two}
use Rattle.wgsl_text.specs.Types.{plain_type_words, pointer_tree, rule_among, type_templates}
use Rattle.wgsl_text.specs.Words.{stands_in}
use Rattle.shader_runs.specs.Resolution.{ConstantTarget}
use Rattle.text_semantics.specs.Resolution.{Item, StructItem, ValueItem, length_items, part_items}
use Rattle.text_semantics.specs.Resolution.{type_items}
use Rattle.module_semantics.specs.DeclaredItems.{handle_items, items_by, items_within, length_meant}
use Rattle.module_semantics.specs.DeclaredItems.{resolution_items, struct_number}
use Rattle.module_semantics.specs.ExpressionContexts.{override_number}
use Rattle.module_semantics.specs.Types.{type_names}
use Rattle.module_semantics.specs.Undeclared.{is_undeclared, names_undeclared, names_undeclared_by}
use Rattle.module_semantics.specs.Undeclared.{names_undeclared_within}
use Rattle.naga_form.proofs.types.TypeTrees.{cooperative_rule, depth_is_plain, storage_rule}
use Rattle.naga_form.specs.TypeTrees.{array_tree, found_tree_by, image_tree, inner_tree_by}
use Rattle.naga_form.specs.TypeTrees.{pointer_tree_in, ray_tree, resolution_tree, scalar_tree}
use Rattle.naga_form.specs.TypeTrees.{tree_within, type_tree, value_pointer_tree_in, value_tree}

-- a struct that a text declares, and an override, is what its name stands for, and the struct's name
-- is no type of the language
pub record ItemsAreNamed (m : Module) (names : List ℕ → Option Item) : Type 0 where
  pub structs : (h : ℕ) (t : Type_) → slice_get m.types h ≡ Some t → is_struct t.inner ≡ true →
      is_undeclared m.special_types h ≡ false →
      (names ((type_names m).struct_name h) ≡ Some (StructItem (struct_number m h))) ×
      (stands_in plain_type_words ((type_names m).struct_name h) ≡ false)
  pub overrides : (o : ℕ) → o < length m.overrides →
      names ((type_names m).override_name o) ≡ Some (ValueItem (ConstantTarget (override_number m o)))

module _ (names : List ℕ → Option Item) where
  -- ---- what names nothing
  abbrev NamesNothing : TypeSpecifier → Type 0
  NamesNothing t = type_items names t ≡ []

  plain_items : (w : List ℕ) → stands_in plain_type_words w ≡ true → NamesNothing (Named w)
  plain_items w plain = ap (λ b. if b then [] else names w ∷ []) plain

  same_items : (s t : TypeSpecifier) → NamesNothing s → Some s ≡ Some t → NamesNothing t
  same_items s t none e = subst NamesNothing (same_Some s t e) none

  scalar_items : (s : Scalar) (t : TypeSpecifier) → scalar_tree s ≡ Some t → NamesNothing t
  scalar_items s t e =
      let w = map_some Named (scalar_word s) t e in
      subst NamesNothing w.2
      (plain_items w.0 (in_front scalar_words (sampler_words ++ (ray_words ++ depth_image_words)) w.0
      (value_words.scalars.each s w.0 w.1)))

  -- a word with one part that names nothing
  one_items : (w : List ℕ) (x : TypeSpecifier) → NamesNothing x → NamesNothing (of_one w x)
  one_items w x none = by (rule_among type_templates w)
    where
      by : (rule : TemplateRule) → part_items names rule (TypeArgument x NoTemplateArguments) ≡ []
      by TakesElements = ap (λ items. items ++ []) none
      by _ = refl

  mapped_items : (f : TypeSpecifier → TypeSpecifier) →
      ((x : TypeSpecifier) → NamesNothing x → NamesNothing (f x)) → (o : Option TypeSpecifier) →
      ((x : TypeSpecifier) → o ≡ Some x → NamesNothing x) → (t : TypeSpecifier) →
      option_map f o ≡ Some t → NamesNothing t
  mapped_items f keeps o none t e =
      let x = map_some f o t e in subst NamesNothing x.2 (keeps x.0 (none x.0 x.1))

  of_scalar : (w : List ℕ) (s : Scalar) (t : TypeSpecifier) → option_map (of_one w) (scalar_tree s) ≡ Some t →
      NamesNothing t
  of_scalar w s t e = mapped_items (of_one w) (one_items w) (scalar_tree s) (scalar_items s) t e

  value_items : (v : Option VectorSize) (s : Scalar) (t : TypeSpecifier) → value_tree v s ≡ Some t → NamesNothing t
  value_items None s t e = scalar_items s t e
  value_items (Some v) s t e = of_scalar _ s t e

  -- a word whose parts are no types
  parts_items : (w : List ℕ) (parts : TemplateArguments) (rule : TemplateRule) → rule_among type_templates w ≡ rule →
      part_items names rule parts ≡ [] → part_items names (rule_among type_templates w) parts ≡ []
  parts_items w parts rule is none = ap (λ r. part_items names r parts) is ∙ none

  image_items : (dim : ImageDimension) (arrayed : Bool) (c : ImageClass) (t : TypeSpecifier) →
      image_tree dim arrayed c ≡ Some t → NamesNothing t
  image_items dim arrayed (class.Sampled kind multi) t e = of_scalar _ (record { kind = kind; width = 4 }) t e
  image_items dim arrayed (class.Depth multi) t e =
      same_items _ t (plain_items (image_word (codes "texture_depth_") multi dim arrayed)
      (depth_is_plain multi dim arrayed)) e
  image_items dim arrayed class.External t e = same_items _ t refl e
  image_items dim arrayed (class.Storage format access) t e =
      same_items _ t
      (parts_items (image_word (codes "texture_storage_") false dim arrayed)
      (TypeArgument (Named (format_word format)) (TypeArgument (Named (image_access_word access)) NoTemplateArguments))
      TakesFormat (storage_rule dim arrayed) refl) e

  sampler_items : (comparison : Bool) → NamesNothing (Named (sampler_word comparison))
  sampler_items true = refl
  sampler_items false = refl

  structure_items : (b : Bool) → NamesNothing (ray_tree (codes "acceleration_structure") b)
  structure_items true = refl
  structure_items false = refl

  query_items : (b : Bool) → NamesNothing (ray_tree (codes "ray_query") b)
  query_items true = refl
  query_items false = refl

  -- a pointer names what the type that it points to does
  pointer_items : (space : List ℕ) (access : Option (List ℕ)) (x : TypeSpecifier) →
      type_items names (pointer_tree space access x) ≡ type_items names x
  pointer_items space None x = refl
  pointer_items space (Some access) x = refl

-- ---- what a type is over
module _ (m : Module) (names : List ℕ → Option Item) (are : ItemsAreNamed m names) where
  abbrev n : Names
  n = type_names m

  -- the tree names these items of the module
  abbrev Names_ : TypeSpecifier → List Item → Type 0
  Names_ t items = type_items names t ≡ map Some items

  elements : (w : List ℕ) → rule_among type_templates w ≡ TakesElements →
      (x : TypeSpecifier) (more : TemplateArguments) →
      type_items names (Template w (TypeArgument x more)) ≡ type_items names x ++ length_items names more
  elements w rule x more = ap (λ r. part_items names r (TypeArgument x more)) rule

  array_items : (w : List ℕ) → rule_among type_templates w ≡ TakesElements → (l : ArraySize) →
      size_within (length m.overrides) l ≡ true → (x : TypeSpecifier) (items : List Item) →
      Names_ x items → Names_ (array_tree n w l x) (items ++ length_meant m l)
  array_items w rule (size.Constant number) within x items is =
      elements w rule x (SizeArgument (non_zero_u32_get number) NoTemplateArguments)
      ∙ ap (λ all. all ++ []) is ∙ sym (map-append Some items [])
  array_items w rule (size.Pending o) within x items is =
      elements w rule x (TypeArgument (Named (n.override_name o)) NoTemplateArguments)
      ∙ ap₂ (λ all item. all ++ (item ∷ [])) is (are.overrides o (ltb-true o (length m.overrides) within))
      ∙ sym (map-append Some items (length_meant m (size.Pending o)))
  array_items w rule size.Dynamic within x items is =
      elements w rule x NoTemplateArguments
      ∙ ap (λ all. all ++ []) is ∙ sym (map-append Some items [])

  -- by what is known of the types that it may be over
  module _ (f : ℕ → Option TypeSpecifier) (own : ℕ → List Item) (undeclared : ℕ → Bool)
      (all : (b : ℕ) → undeclared b ≡ false → (x : TypeSpecifier) → f b ≡ Some x → Names_ x (own b))
    where
      over_array : (w : List ℕ) → rule_among type_templates w ≡ TakesElements → (b : ℕ) (l : ArraySize) →
          undeclared b ≡ false → size_within (length m.overrides) l ≡ true → (t : TypeSpecifier) →
          option_map (array_tree n w l) (f b) ≡ Some t → Names_ t (own b ++ length_meant m l)
      over_array w rule b l free within t e =
          let x = map_some (array_tree n w l) (f b) t e in
          subst (λ t. Names_ t (own b ++ length_meant m l)) x.2
          (array_items w rule l within x.0 (own b) (all b free x.0 x.1))

      -- a type that is no struct
      inner_items : (h : ℕ) (it : TypeInner) → names_undeclared_by m.special_types undeclared h it ≡ false →
          length_within (length m.overrides) it ≡ true → (t : TypeSpecifier) →
          inner_tree_by n f it ≡ Some t → Names_ t (items_by m own h it)
      inner_items h (inner.Scalar s) free within t e = scalar_items names s t e
      inner_items h (inner.Vector v s) free within t e = of_scalar names _ s t e
      inner_items h (inner.Matrix c r s) free within t e = of_scalar names _ s t e
      inner_items h (inner.CooperativeMatrix c r s l) free within t e =
          mapped_items names (λ x. of_two (cooperative_word c r) x (Named (matrix_role_word l)))
          (λ x none. parts_items names (cooperative_word c r)
          (TypeArgument x (TypeArgument (Named (matrix_role_word l)) NoTemplateArguments))
          TakesRole (cooperative_rule c r) refl)
          (scalar_tree s) (scalar_items names s) t e
      inner_items h (inner.Atomic s) free within t e = of_scalar names _ s t e
      inner_items h (inner.Pointer base a) free within t e = by (space_word a) e
        where
          by : (o : Option (List ℕ)) → pointer_tree_in o (space_access_word a) (f base) ≡ Some t → Names_ t (own base)
          by None e = all base free t e
          by (Some space) e =
              let x = map_some (pointer_tree space (space_access_word a)) (f base) t e in
              subst (λ t. Names_ t (own base)) x.2
              (pointer_items names space (space_access_word a) x.0 ∙ all base free x.0 x.1)
      inner_items h (inner.ValuePointer v s a) free within t e = by (space_word a) e
        where
          by : (o : Option (List ℕ)) → value_pointer_tree_in o (space_access_word a) (value_tree v s) ≡ Some t →
              Names_ t []
          by None e = absurd cc
          by (Some space) e =
              mapped_items names (pointer_tree space (space_access_word a))
              (λ x none. pointer_items names space (space_access_word a) x ∙ none) (value_tree v s)
              (value_items names v s) t e
      inner_items h (inner.Array base l stride) free within t e = over_array _ refl base l free within t e
      inner_items h (inner.BindingArray base l) free within t e = over_array _ refl base l free within t e
      inner_items h (inner.Struct members span) free within t e = absurd cc
      inner_items h (inner.Image dim arrayed c) free within t e = image_items names dim arrayed c t e
      inner_items h (inner.Sampler comparison) free within t e = same_items names _ t (sampler_items names comparison) e
      inner_items h (inner.AccelerationStructure b) free within t e = same_items names _ t (structure_items names b) e
      inner_items h (inner.RayQuery b) free within t e = same_items names _ t (query_items names b) e

      -- the type at a handle
      found_items : (h : ℕ) (u : Type_) → slice_get m.types h ≡ Some u →
          names_undeclared_by m.special_types undeclared h u.inner ≡ false →
          length_within (length m.overrides) u.inner ≡ true → (t : TypeSpecifier) →
          found_tree_by n f h (Some u) ≡ Some t → Names_ t (items_by m own h u.inner)
      found_items h u at free within t e = by u.inner (λ is. are.structs h u at is) free within e
        where
          struct_items : (t : TypeSpecifier) → (names (n.struct_name h) ≡ Some (StructItem (struct_number m h))) ×
              (stands_in plain_type_words (n.struct_name h) ≡ false) → Some (Named (n.struct_name h)) ≡ Some t →
              Names_ t (StructItem (struct_number m h) ∷ [])
          struct_items t is e =
              subst (λ t. Names_ t (StructItem (struct_number m h) ∷ [])) (same_Some _ t e)
              (ap (λ b. if b then [] else names (n.struct_name h) ∷ []) is.1 ∙ ap (λ item. item ∷ []) is.0)

          by : (it : TypeInner) → (is_struct it ≡ true → is_undeclared m.special_types h ≡ false →
              (names (n.struct_name h) ≡ Some (StructItem (struct_number m h))) ×
              (stands_in plain_type_words (n.struct_name h) ≡ false)) →
              names_undeclared_by m.special_types undeclared h it ≡ false →
              length_within (length m.overrides) it ≡ true →
              (if is_struct it then Some (Named (n.struct_name h)) else inner_tree_by n f it) ≡ Some t →
              Names_ t (items_by m own h it)
          by (inner.Struct members span) named free within e = struct_items t (named refl free) e
          by (inner.Scalar s) named free within e = inner_items h (inner.Scalar s) free within t e
          by (inner.Vector v s) named free within e = inner_items h (inner.Vector v s) free within t e
          by (inner.Matrix c r s) named free within e = inner_items h (inner.Matrix c r s) free within t e
          by (inner.CooperativeMatrix c r s l) named free within e =
              inner_items h (inner.CooperativeMatrix c r s l) free within t e
          by (inner.Atomic s) named free within e = inner_items h (inner.Atomic s) free within t e
          by (inner.Pointer base a) named free within e = inner_items h (inner.Pointer base a) free within t e
          by (inner.ValuePointer v s a) named free within e = inner_items h (inner.ValuePointer v s a) free within t e
          by (inner.Array base l stride) named free within e = inner_items h (inner.Array base l stride) free within t e
          by (inner.BindingArray base l) named free within e = inner_items h (inner.BindingArray base l) free within t e
          by (inner.Image dim arrayed c) named free within e = inner_items h (inner.Image dim arrayed c) free within t e
          by (inner.Sampler comparison) named free within e = inner_items h (inner.Sampler comparison) free within t e
          by (inner.AccelerationStructure b) named free within e =
              inner_items h (inner.AccelerationStructure b) free within t e
          by (inner.RayQuery b) named free within e = inner_items h (inner.RayQuery b) free within t e

  -- ---- of the module's types
  module _ (lengths : (h : ℕ) (t : Type_) → slice_get m.types h ≡ Some t →
      length_within (length m.overrides) t.inner ≡ true) where
    within_items : (k h : ℕ) → names_undeclared_within k m h ≡ false → (t : TypeSpecifier) →
        tree_within k n h ≡ Some t → Names_ t (items_within k m h)
    within_items zero h free t e = absurd cc
    within_items (suc k) h free t e = by (within_items k) (slice_get m.types h) refl free e
      where
        by : ((b : ℕ) → names_undeclared_within k m b ≡ false → (x : TypeSpecifier) → tree_within k n b
            ≡ Some x → Names_ x (items_within k m b)) →
            (o : Option Type_) → slice_get m.types h ≡ o →
            option_map_or (λ u. names_undeclared_by m.special_types (names_undeclared_within k m) h u.inner) o
            false ≡ false →
            found_tree_by n (tree_within k n) h o ≡ Some t →
            Names_ t (option_map_or (λ u. items_by m (items_within k m) h u.inner) o [])
        by all None at free e = absurd cc
        by all (Some u) at free e =
            found_items (tree_within k n) (items_within k m) (names_undeclared_within k m) all h u at free
            (lengths h u at) t e

    -- a type of the module, or one by itself
    pub resolution_named : (r : TypeResolution) → names_undeclared m r ≡ false →
        ((it : TypeInner) → r ≡ Value it → length_within (length m.overrides) it ≡ true) →
        (t : TypeSpecifier) → resolution_tree n r ≡ Some t → Names_ t (resolution_items m r)
    unfolding type_tree
    resolution_named (Handle h) free within t e = within_items (suc h) h free t e
    resolution_named (Value it) free within t e =
        inner_items (type_tree n) (handle_items m) (λ b. names_undeclared_within (suc b) m b)
        (λ b. within_items (suc b) b) 0 it (own it free e) (within it refl) t e
      where
        own : (it : TypeInner) → names_undeclared m (Value it) ≡ false → inner_tree_by n (type_tree n) it ≡ Some t →
            names_undeclared_by m.special_types (λ b. names_undeclared_within (suc b) m b) 0 it ≡ false
        own (inner.Struct members span) free e = absurd cc
        own (inner.Pointer base a) free e = free
        own (inner.Array base l stride) free e = free
        own (inner.BindingArray base l) free e = free
        own _ free e = refl
