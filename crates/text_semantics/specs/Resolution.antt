-- What the names of a text's declarations stand for: those in types, in initialisers and in the
-- attributes of entry points, and which member of a struct a word stands for. What the identifiers
-- and words of functions stand for is told of the abstract text.
--
-- Throughout, names tell what each name stands for at the level of the module, p is a program, t a
-- type, w a word, f a function, and v, s, l and e are an override or a variable, a struct, a member
-- and an entry point.
use Rattle.std.specs.Prelude.{ℕ, suc, Bool, List, [], ◌∷◌, ◌++◌, map, Option, Some, None}
use Rattle.std.specs.Prelude.{if◌then◌else◌, slice_get}
use Rattle.std.specs.List.{filter_map, flat_map, list_all}
use Rattle.std.specs.Option.{is_none, option_and_then, option_map, option_or}
use Rattle.std.specs.Str.{bytes_eq}
use Rattle.wgsl_text.specs.Attributes.{Attribute, Worded, Mesh, Payload, IncomingPayload}
use Rattle.wgsl_text.specs.Attributes.{WorkgroupSize, SizePart, FixedSize, NamedSize}
use Rattle.wgsl_text.specs.Declarations.{Program, Struct}
use Rattle.wgsl_text.specs.Expressions.{Expression}
use Rattle.wgsl_text.specs.Types.{TypeSpecifier, Named, Template, TemplateArguments, TypeArgument}
use Rattle.wgsl_text.specs.Types.{NoTemplateArguments, TemplateRule, TakesElements, TakesPointee}
use Rattle.wgsl_text.specs.Types.{rule_among, type_templates, plain_type_words}
use Rattle.wgsl_text.specs.Words.{stands_in}
use Rattle.shader_runs.specs.NamedLets.{lines_lets}
use Rattle.shader_runs.specs.Text.{TextFunction}
use Rattle.shader_runs.specs.Resolution.{Target, Lookup, text_names, tree_targets_if}
use Rattle.text_semantics.specs.Abstraction.{expression_read, program_read}

-- what a name stands for at the level of the module: a struct, by its number among those that the
-- text declares, or a constant, an override, a variable or a function
pub data Item : Type 0 where
  StructItem : (number : ℕ) → Item
  ValueItem : Target → Item

-- the index of a word among several
abbrev pub index_among : List ℕ → List (List ℕ) → Option ℕ
index_among w [] = None
index_among w (x ∷ xs) = if bytes_eq w x then Some 0 else option_map (λ i. suc i) (index_among w xs)

-- the number of the struct with this name
abbrev pub struct_named : List Struct → List ℕ → Option ℕ
struct_named structs w = index_among w (map (λ s. s.name) structs)

-- what each name stands for
abbrev pub item_named : Program → List ℕ → Option Item
item_named p w =
    option_or (option_map StructItem (struct_named p.structs w))
    (option_map ValueItem (text_names (program_read p) w))

-- ---- types
-- the name of an override may stand for the length of an array
abbrev pub length_items : (names : List ℕ → Option Item) → TemplateArguments → List (Option Item)
length_items names (TypeArgument (Named w) NoTemplateArguments) = names w ∷ []
length_items names _ = []

abbrev mutual
  -- the identifiers of a type in their order, each with what it stands for: a word of one of the
  -- language's types is none, and neither are spaces, accesses, formats and roles
  pub type_items : (names : List ℕ → Option Item) → TypeSpecifier → List (Option Item)
  type_items names (Named w) = if stands_in plain_type_words w then [] else names w ∷ []
  type_items names (Template w parts) = part_items names (rule_among type_templates w) parts

  -- those of the parts that a word takes
  pub part_items :
      (names : List ℕ → Option Item) → TemplateRule → TemplateArguments → List (Option Item)
  part_items names TakesElements (TypeArgument t more) =
      type_items names t ++ length_items names more
  part_items names TakesPointee (TypeArgument space (TypeArgument t more)) = type_items names t
  part_items names _ _ = []

-- the names that a function gives: to its arguments, its variables and its `let`s
abbrev pub own_names : TextFunction → List (List ℕ)
own_names f = f.parameters ++ (map (λ v. v.name) f.variables ++ lines_lets f.lines)

-- a name that no type has: that of no struct and of no override
abbrev pub is_in_no_type : Program → List ℕ → Bool
is_in_no_type p w =
    is_none (index_among w (map (λ s. s.name) p.structs ++ map (λ v. v.name) p.overrides))

-- a function gives no name that a type has
abbrev pub hides_no_type : Program → TextFunction → Bool
hides_no_type p f = list_all (is_in_no_type p) (own_names f)

-- no function does, so that a type means the same wherever it stands
abbrev pub types_are_not_hidden : Program → Bool
types_are_not_hidden p = list_all (hides_no_type p) (program_read p).functions

-- ---- initialisers and attributes
-- the identifiers and words of an initialiser, if there is one
abbrev pub initialiser_targets : Lookup → Option Expression → List (Option Target)
initialiser_targets names value = tree_targets_if names (option_map expression_read value)

-- of each override, and then of each variable
abbrev pub program_initialiser_targets : Program → List (List (Option Target))
program_initialiser_targets p =
    let names = text_names (program_read p) in
    map (λ v. initialiser_targets names v.value) p.overrides ++
    map (λ v. initialiser_targets names v.value) p.globals

-- the name that stands for a part of a workgroup's size, if it is no number
abbrev pub size_name : SizePart → Option (List ℕ)
size_name (FixedSize n) = None
size_name (NamedSize w) = Some w

-- the names in an attribute of a stage: of a variable, or of what sets a workgroup's size
abbrev pub names_in : Attribute → List (List ℕ)
names_in (Worded Mesh w) = w ∷ []
names_in (Worded Payload w) = w ∷ []
names_in (Worded IncomingPayload w) = w ∷ []
names_in (WorkgroupSize x y z) = filter_map size_name (x ∷ y ∷ z ∷ [])
names_in _ = []

-- what they stand for, of each entry point
abbrev pub stage_targets : Program → List (List (Option Target))
stage_targets p =
    map (λ e. map (text_names (program_read p)) (flat_map names_in e.stage)) p.entry_points

-- ---- members
-- the number of the member with this word, in the struct with this name
abbrev pub member_named : List Struct → (struct word : List ℕ) → Option ℕ
member_named structs struct word =
    option_and_then
    (λ s. index_among word (map (λ l. l.name) s.members))
    (option_and_then (slice_get structs) (struct_named structs struct))
