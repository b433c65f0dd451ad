-- The identifiers that a program declares, and those that the value of a map of names tells. Both are lists
-- in the order of the declarations.
--
-- Throughout, d is a value of JSON, ds and ms are the items and members of one, and key is the text of a
-- member's key.
use Rattle.std.specs.Prelude.{◌≡◌, ℕ, List, [], ◌∷◌, codes, map}
use Rattle.std.specs.Prelude.{if◌then◌else◌}
use Rattle.std.specs.Str.{bytes_eq}
use Rattle.naga_back.specs.declared.flags.WriterFlags.{WriterFlags}
use Rattle.naga_info.specs.declared.info.ModuleInfo.{ModuleInfo}
use Rattle.naga_ir.specs.declared.module.Module.{Module}
use Rattle.module_semantics.specs.Faithful.{TellsInterfaceOf}
use Rattle.module_semantics.specs.ModuleShapes.{module_shape}
use Rattle.module_semantics.specs.Names.{module_names}
use Rattle.serde_json.specs.Data.{Data, array, string, object, null, Items, no_items, item, Members}
use Rattle.serde_json.specs.Data.{no_members, member}
use Rattle.shader_runs.specs.Premises.{IsTyped, SettingsFit}
use Rattle.shader_runs.specs.World.{Meaning, Settings, World}
use Rattle.wgsl_text.specs.Declarations.{Program, Struct}
use Rattle.name_maps.specs.NameMaps.{name_map}

-- those of each kind of declaration, of structs each beside those of its members
pub record Identifiers : Type 0 where
  pub constants : List (List ℕ)
  pub entry_points : List (List ℕ)
  pub functions : List (List ℕ)
  pub globals : List (List ℕ)
  pub overrides : List (List ℕ)
  pub structs : List (List ℕ × List (List ℕ))

-- ---- of a program
abbrev pub declared_members : Struct → List ℕ × List (List ℕ)
declared_members s = (s.name, map (λ m. m.name) s.members)

abbrev pub declared_identifiers : Program → Identifiers
declared_identifiers program =
    record {
      constants = map (λ c. c.name) program.constants;
      entry_points = map (λ e. e.function.name) program.entry_points;
      functions = map (λ f. f.name) program.functions;
      globals = map (λ g. g.name) program.globals;
      overrides = map (λ o. o.name) program.overrides;
      structs = map declared_members program.structs;
    }

-- ---- of a value
-- what stands at a key; nothing where there is no such one
abbrev pub member_at : (key : List ℕ) → Members → Data
member_at key no_members = null
member_at key (member own d ms) = if bytes_eq own key then d else member_at key ms

abbrev pub told_at : (key : List ℕ) → Data → Data
told_at key (object ms) = member_at key ms
told_at key _ = null

abbrev pub items_in : Items → List Data
items_in no_items = []
items_in (item d ds) = d ∷ items_in ds

abbrev pub list_in : Data → List Data
list_in (array ds) = items_in ds
list_in _ = []

abbrev pub text_in : Data → List ℕ
text_in (string text) = text
text_in _ = []

-- the identifier that a row tells, and those of the rows at a key
abbrev pub identifier_in : Data → List ℕ
identifier_in d = text_in (told_at (codes "identifier") d)

abbrev pub identifiers_at : (key : List ℕ) → Data → List (List ℕ)
identifiers_at key d = map identifier_in (list_in (told_at key d))

abbrev pub told_members : Data → List ℕ × List (List ℕ)
told_members d = (identifier_in d, identifiers_at (codes "members") d)

abbrev pub told_identifiers : Data → Identifiers
told_identifiers d =
    record {
      constants = identifiers_at (codes "constants") d;
      entry_points = identifiers_at (codes "entry_points") d;
      functions = identifiers_at (codes "functions") d;
      globals = identifiers_at (codes "globals") d;
      overrides = identifiers_at (codes "overrides") d;
      structs = map told_members (list_in (told_at (codes "structs") d));
    }

-- ---- both
-- The map of a module under the names of its text tells just the identifiers which that text declares, each
-- kind in the same order: the text is any that tells the module's interface. That is asked under values of
-- overrides, a meaning and a world, on which names don't depend, so that there have to be some.
abbrev pub MapsTellTexts : Type 0
MapsTellTexts =
    (m : Module) (info : ModuleInfo) (flags : WriterFlags) (program : Program) →
    (settings : Settings) → SettingsFit (module_shape m info) settings →
    (meaning : Meaning) → IsTyped (module_shape m info) meaning → World →
    TellsInterfaceOf m info flags program →
    told_identifiers (name_map m (module_names m)) ≡ declared_identifiers program
