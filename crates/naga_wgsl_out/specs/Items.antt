-- What the texts of declarations want of the module, and the parts that they share.
--
-- Throughout, m is a module, t its text, and k what is known of it.
use Rattle.std.specs.Prelude.{◌≡◌, ℕ, ◌++◌, List, Option, Some, codes}
use Rattle.std.specs.Option.{option_map}
use Rattle.naga_ir.specs.declared.module.Module.{Module}
use Rattle.naga_naming.specs.Keys.{names_in}
use Rattle.naga_naming.specs.declared.key.NameKey.{NameKey}
use Rattle.module_semantics.specs.DeclarationForms.{DeclarationsHaveForms}
use Rattle.module_semantics.specs.Names.{module_names, name_in}
use Rattle.module_semantics.specs.Types.{type_names}
use Rattle.naga_form.specs.ConstantForms.{global_form}
use Rattle.wgsl_text.specs.Functions.{value_pieces}
use Rattle.wgsl_text.specs.Text.{text}
use Rattle.naga_wgsl_shared.specs.ModuleText.{CanWriteIn}
use Rattle.naga_wgsl_shared.specs.Types.{spelled_text}
use Rattle.naga_wgsl_shared.specs.declared.module_text.ModuleText.{ModuleText}
use Rattle.naga_scope.specs.KnownModules.{IsKnownModule}
use Rattle.naga_scope.specs.declared.known_module.KnownModule.{KnownModule}
use Rattle.naga_wgsl_out.specs.ModuleRefusals.{HasAllNames, KeyIsOutOfRange}

-- it can be written, what it declares has forms, and there is a key for each of its items
pub record CanDeclare (t : ModuleText) : Type 0 where
  pub can : CanWriteIn t
  pub forms : DeclarationsHaveForms t.shader.now
  pub keys : KeyIsOutOfRange t.shader.now → ⊥

-- what it declares has forms too, and the map has the names of all its items, which can all be told
pub record CanWriteModule (k : KnownModule) : Type 0 where
  pub known : IsKnownModule k
  pub declared : DeclarationsHaveForms k.shader.now
  pub names : HasAllNames k.shader.now (names_in k.names.now)

-- the item with this key has its name
abbrev pub IsNamedIn : ModuleText → NameKey → Type 0
IsNamedIn t key = names_in t.names.now key ≡ Some (name_in (module_names t.shader.now) key)

-- the name of an item, and its type
unfoldable pub typed_text : Module → NameKey → (ty : ℕ) → List ℕ
typed_text m key ty = name_in (module_names m) key ++ (codes ": " ++ spelled_text m ty)

-- the value of an item, if it has one, and the end of its line
unfoldable pub value_text : Module → (value : Option ℕ) → List ℕ
value_text m value = text (value_pieces (option_map (global_form m (type_names m)) value))

-- the same of one that has a value
unfoldable pub first_value_text : Module → (value : ℕ) → List ℕ
first_value_text m value = text (value_pieces (Some (global_form m (type_names m) value)))
