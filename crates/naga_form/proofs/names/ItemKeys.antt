-- The items of a module by the keys of their names: no two with different keys have one name, and none
-- has a word of WGSL's own, or no word at all, for its name.
use Rattle.std.proofs.Common.{◌≡◌, ◌≢◌, ℕ, ◌+◌, ◌-◌, ◌<◌, Bool, true, false, List, [], ◌∷◌, length}
use Rattle.std.proofs.Common.{Option, Some, None, nat_eq, refl, sym, ap, ◌∙◌, subst}
use Rattle.std.specs.Prelude.{not, slice_get, ◌&&◌, ◌||◌}
use Rattle.std.specs.Option.{option_map_or}
use Rattle.std.proofs.lemmas.Bool.{and_parts, true≢false}
use Rattle.naga_back.specs.FunctionContext.{function_key}
use Rattle.naga_back.specs.declared.context.FunctionType.{FunctionType}
use Rattle.naga_back.specs.declared.context.FunctionType.TheVariants as function
use Rattle.naga_ir.specs.declared.module.Module.{Module}
use Rattle.naga_ir.specs.declared.module.Override.{Override}
use Rattle.naga_ir.specs.declared.types.Type_.{Type_}
use Rattle.naga_keywords.specs.Plain.{is_word}
use Rattle.naga_naming.specs.Reset.{labelled_items}
use Rattle.naga_naming.specs.declared.key.NameKey.{NameKey}
use Rattle.naga_naming.specs.declared.key.NameKey.TheVariants as key
use Rattle.naga_naming.proofs.NamedItems.{Stands, constant_stands, global_stands, override_stands}
use Rattle.naga_naming.proofs.NamedItems.{type_stands}
use Rattle.naga_naming.proofs.Refusal.{element}
use Rattle.module_semantics.specs.ExpressionContexts.{named_count}
use Rattle.module_semantics.specs.FunctionNumbers.{all_functions, function_type}
use Rattle.module_semantics.specs.Names.{function_name, global_name, module_names, name_in}
use Rattle.module_semantics.specs.Names.{wgsl_names}
use Rattle.module_semantics.specs.Namings.{named_handles, numbered_key}
use Rattle.shader_runs.specs.Program as shapes
use Rattle.wgsl_text.specs.Words.{is_builtin}
use Rattle.naga_form.proofs.declarations.NamedConstants.{IsNumberedIn, OfConstant, OfOverride}
use Rattle.naga_form.proofs.declarations.NamedConstants.{which_constant}
use Rattle.naga_form.proofs.names.Names.{function_there, identifier_is_another, item_is_identifier}
use Rattle.naga_form.proofs.names.Names.{items_tell}
use Rattle.naga_form.proofs.operators.OperatingWords.{is_signed, names_no_item}

-- A program of shapes has as many functions, constants with overrides, and variables as the module.
pub record CountsItems (m : Module) (p : shapes.Module) : Type 0 where
  pub functions : length p.functions ≡ length (all_functions m)
  pub constants : length p.constant_types ≡ named_count m.constants + length m.overrides
  pub globals : length p.globals ≡ length m.global_variables

-- ---- keys
-- that of a type
abbrev pub is_of_type : NameKey → Bool
is_of_type (key.Type_ h) = true
is_of_type _ = false

function_of_no_type : (ty : FunctionType) → is_of_type (function_key ty) ≡ false
function_of_no_type (function.Function h) = refl
function_of_no_type (function.EntryPoint j) = refl

-- none that has a number among the constants of the runs is one
numbered_of_no_type : (m : Module) (i : ℕ) → is_of_type (numbered_key m i) ≡ false
numbered_of_no_type m i =
    by (slice_get (named_handles 0 m.constants) i) (key.Override (i - named_count m.constants)) refl
  where
    by : (o : Option ℕ) (other : NameKey) → is_of_type other ≡ false →
        is_of_type (option_map_or key.Constant o other) ≡ false
    by (Some h) other is = refl
    by None other is = is

-- what names no item is no word, or one of WGSL's own
pub no_word_of_item : (w : List ℕ) → names_no_item w ≡ true → (not (is_word w) || is_builtin w) ≡ true
no_word_of_item [] free = absurd cc
no_word_of_item (c ∷ rest) free =
    let one =
    and_parts (not (nat_eq c 95))
    (is_signed (c ∷ rest) && (not (is_word (c ∷ rest)) || is_builtin (c ∷ rest))) free in
    (and_parts (is_signed (c ∷ rest)) (not (is_word (c ∷ rest)) || is_builtin (c ∷ rest)) one.1).1

module _ (m : Module) where
  -- ---- items
  -- an item with this key is among those that are named
  abbrev pub HasItem : NameKey → Type 0
  HasItem k = (label : List ℕ) × Stands (labelled_items (wgsl_names m) m) (k, label)

  -- items with one name have one key
  pub keys_tell : (j k : NameKey) → HasItem j → HasItem k →
      name_in (module_names m) j ≡ name_in (module_names m) k → j ≡ k
  keys_tell j k a b e = ap (λ item. item.0) (items_tell m (j, a.0) (k, b.0) a.1 b.1 e)

  pub function_has : (g : ℕ) → g < length (all_functions m) → HasItem (function_key (function_type m g))
  function_has g lt =
      let a = element (all_functions m) g lt in (_, function_there m g a.0 a.1)

  pub global_has : (v : ℕ) → v < length m.global_variables → HasItem (key.GlobalVariable v)
  global_has v lt =
      let a = element m.global_variables v lt in (_, global_stands (wgsl_names m) m v a.0 a.1)

  pub type_has : (h : ℕ) (t : Type_) → slice_get m.types h ≡ Some t → HasItem (key.Type_ h)
  type_has h t at = (_, type_stands (wgsl_names m) m h t at)

  pub override_has : (h : ℕ) (o : Override) → slice_get m.overrides h ≡ Some o →
      HasItem (key.Override h)
  override_has h o at = (_, override_stands (wgsl_names m) m h o at)

  pub numbered_has : (i : ℕ) → i < named_count m.constants + length m.overrides →
      HasItem (numbered_key m i)
  numbered_has i lt = by (which_constant m i lt)
    where
      by : IsNumberedIn m i → HasItem (numbered_key m i)
      by (OfConstant h c there count is) =
          subst HasItem (sym is) (_, constant_stands (wgsl_names m) m h c there)
      by (OfOverride h o there count is) = subst HasItem (sym is) (override_has h o there)

  -- ---- words
  -- an item's name is no such word
  pub item_is_no_word : (w : List ℕ) → (not (is_word w) || is_builtin w) ≡ true → (k : NameKey) →
      HasItem k → name_in (module_names m) k ≢ w
  item_is_no_word w other k has =
      identifier_is_another (name_in (module_names m) k) w (item_is_identifier m (k, has.0) has.1)
      other

  -- the word is the name of no item but of a type
  abbrev pub IsNoItem : List ℕ → Type 0
  IsNoItem w = (k : NameKey) → is_of_type k ≡ false → HasItem k → name_in (module_names m) k ≢ w

  pub word_is_no_item : (w : List ℕ) → names_no_item w ≡ true → IsNoItem w
  word_is_no_item w free k other has = item_is_no_word w (no_word_of_item w free) k has

  pub type_is_no_item : (h : ℕ) (t : Type_) → slice_get m.types h ≡ Some t →
      IsNoItem (name_in (module_names m) (key.Type_ h))
  type_is_no_item h t at k other has e =
      true≢false
      (sym (ap is_of_type (keys_tell k (key.Type_ h) has (type_has h t at) e)) ∙ other)

  -- ---- what runs know
  -- such a word names no function, constant, override or variable
  module _ (p : shapes.Module) (counts : CountsItems m p) (w : List ℕ) (none : IsNoItem w) where
    pub no_function_is : (g : ℕ) → g < length p.functions → function_name m (module_names m) g ≢ w
    no_function_is g lt =
        none (function_key (function_type m g)) (function_of_no_type (function_type m g))
        (function_has g (subst (λ n. g < n) counts.functions lt))

    pub no_constant_is : (i : ℕ) → i < length p.constant_types →
        name_in (module_names m) (numbered_key m i) ≢ w
    no_constant_is i lt =
        none (numbered_key m i) (numbered_of_no_type m i)
        (numbered_has i (subst (λ n. i < n) counts.constants lt))

    pub no_global_is : (v : ℕ) → v < length p.globals → global_name (module_names m) v ≢ w
    no_global_is v lt =
        none (key.GlobalVariable v) refl (global_has v (subst (λ n. v < n) counts.globals lt))
