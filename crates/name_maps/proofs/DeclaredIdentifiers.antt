-- A map of names tells the identifiers that a text declares: row by row they are the names of the module's
-- interface, and those are the names of the program's.
-- Serves `maps_tell_texts`.
--
-- Throughout, one is the row of an item p, and name is what its declaration is called.
use Rattle.std.proofs.Common.{◌≡◌, ◌∙◌, ℕ, ◌+◌, ◌<◌, List, [], ◌∷◌, Option, Some, None, ap, arith}
use Rattle.std.proofs.Common.{Bool, true, false, if◌then◌else◌, length, map, refl, sym}
use Rattle.std.specs.List.{cons_option, enumerate_from, filter_map}
use Rattle.std.specs.Option.{is_some, option_map}
use Rattle.std.proofs.lemmas.Simd.{map-map}
use Rattle.naga_back.specs.FunctionContext.{function_key}
use Rattle.naga_back.specs.declared.flags.WriterFlags.{WriterFlags}
use Rattle.naga_info.specs.declared.info.ModuleInfo.{ModuleInfo}
use Rattle.naga_ir.specs.declared.module.Function.{Function}
use Rattle.naga_ir.specs.declared.module.Module.{Module}
use Rattle.naga_ir.specs.declared.types.Type_.{Type_}
use Rattle.naga_naming.specs.Keys.{NameMap}
use Rattle.naga_naming.specs.Reset.{members_of}
use Rattle.naga_naming.specs.declared.key.NameKey.TheVariants as key
use Rattle.naga_spelling.specs.Contexts.{names_of}
use Rattle.module_semantics.proofs.FunctionNumbers.{type_of_function}
use Rattle.module_semantics.specs.Interface.{constant_interface, entry_point_interface, function_interfaces}
use Rattle.module_semantics.specs.Interface.{global_expression_value, global_interface, member_interface}
use Rattle.module_semantics.specs.Interface.{module_interface, override_interface, struct_interface}
use Rattle.module_semantics.specs.ModuleShapes.{module_shape}
use Rattle.module_semantics.specs.Names.{module_names, name_in}
use Rattle.module_semantics.specs.Undeclared.{is_declared}
use Rattle.serde_json.specs.Data.{Data}
use Rattle.serde_json.specs.View.{items_of}
use Rattle.shader_runs.specs.Constants.{text_initialiser_value}
use Rattle.shader_runs.specs.Value.{PartTypes, Value}
use Rattle.shader_runs.specs.World.{Meaning, Settings, World}
use Rattle.text_semantics.specs.Abstraction.{expression_read, program_read}
use Rattle.text_semantics.specs.Interface.{constant_interface_read, entry_point_interface_read}
use Rattle.text_semantics.specs.Interface.{function_interface_read, global_interface_read, Interface}
use Rattle.text_semantics.specs.Interface.{interface_read, member_interface_read, override_interface_read}
use Rattle.text_semantics.specs.Interface.{struct_interface_read}
use Rattle.text_semantics.specs.Interface.{ConstantInterface, EntryPointInterface, FunctionInterface}
use Rattle.text_semantics.specs.Interface.{GlobalInterface, MemberInterface, OverrideInterface}
use Rattle.text_semantics.specs.Interface.{StructInterface}
use Rattle.text_semantics.specs.Vocabulary.{vocabulary_read}
use Rattle.wgsl_text.specs.Declarations.{Program, Struct}
use Rattle.wgsl_text.specs.Expressions.{Expression}
use Rattle.name_maps.specs.Identifiers.{declared_identifiers, declared_members, identifier_in, items_in}
use Rattle.name_maps.specs.Identifiers.{Identifiers, MapsTellTexts, told_identifiers, told_members}
use Rattle.name_maps.specs.NameMaps.{constant_row, declared_struct, entry_point_row, function_row, global_row}
use Rattle.name_maps.specs.NameMaps.{member_row, name_map, named_constant, override_row, struct_row}

-- ---- lists
-- what is told of each row is what each declaration is called
module _ {P A B : Type 0} (called : Data → B) (name : A → B) where
  each : (one : P → Data) (declared : P → A) → ((p : P) → called (one p) ≡ name (declared p)) →
      (ps : List P) → map called (items_in (items_of (map one ps))) ≡ map name (map declared ps)
  each one declared same [] = refl
  each one declared same (p ∷ ps) = λ i. same p i ∷ each one declared same ps i

  some : (one : P → Option Data) (declared : P → Option A) →
      ((p : P) → option_map called (one p) ≡ option_map name (declared p)) → (ps : List P) →
      map called (items_in (items_of (filter_map one ps))) ≡ map name (filter_map declared ps)
  some one declared same [] = refl
  some one declared same (p ∷ ps) =
      put (one p) (filter_map one ps)
      ∙ ((λ i. cons_option (same p i) (some one declared same ps i))
      ∙ sym (taken (declared p) (filter_map declared ps)))
    where
      put : (o : Option Data) (ds : List Data) → map called (items_in (items_of (cons_option o ds)))
          ≡ cons_option (option_map called o) (map called (items_in (items_of ds)))
      put None ds = refl
      put (Some d) ds = refl

      taken : (o : Option A) (xs : List A) →
          map name (cons_option o xs) ≡ cons_option (option_map name o) (map name xs)
      taken None xs = refl
      taken (Some x) xs = refl

-- one that is there where a test passes
chosen : {A B C : Type 0} (f : A → C) (g : B → C) (x : A) (y : B) (b : Bool) → f x ≡ g y →
    option_map f (if b then Some x else None) ≡ option_map g (if b then Some y else None)
chosen f g x y true same = ap Some same
chosen f g x y false same = refl

-- what the declarations of an interface are called
abbrev called_members : StructInterface → List ℕ × List (List ℕ)
called_members s = (s.name, map (λ m. m.name) s.members)

abbrev called : Interface → Identifiers
called declared =
    record {
      constants = map (λ c. c.name) declared.constants;
      entry_points = map (λ e. e.function.name) declared.entry_points;
      functions = map (λ f. f.name) declared.functions;
      globals = map (λ g. g.name) declared.globals;
      overrides = map (λ o. o.name) declared.overrides;
      structs = map called_members declared.structs;
    }

-- ---- of a module
module _ (m : Module) (info : ModuleInfo) (flags : WriterFlags) (settings : Settings) (meaning : Meaning) where
  abbrev names : NameMap
  names = module_names m

  constants :
      map identifier_in
      (items_in (items_of (filter_map (named_constant names) (enumerate_from 0 m.constants))))
      ≡ (called (module_interface settings meaning names m info flags)).constants
  constants =
      some identifier_in (λ c. c.name) (named_constant names)
      (constant_interface names (names_of m.types names) (global_expression_value m info settings meaning))
      (λ p. chosen identifier_in (λ c. c.name) (constant_row names p) _ (is_some p.1.name) refl)
      (enumerate_from 0 m.constants)

  -- the functions from this number on
  functions : (g : ℕ) (fs : List Function) → g + length fs ≡ length m.functions →
      map identifier_in (items_in (items_of (map (function_row names) (enumerate_from g fs))))
      ≡ map (λ f. f.name) (function_interfaces names m g fs)
  functions g [] all = refl
  functions g (f ∷ fs) all =
      let lt : g < length m.functions = omega (arith, all) in
      let rest = functions (g + 1) fs (omega (arith, all)) in
      let name = ap (λ it. name_in names (function_key it)) (sym (type_of_function m g lt)) in
      λ i. name i ∷ rest i

  structs :
      map told_members
      (items_in (items_of (filter_map (declared_struct names m.special_types) (enumerate_from 0 m.types))))
      ≡ (called (module_interface settings meaning names m info flags)).structs
  structs =
      some told_members called_members (declared_struct names m.special_types)
      (struct_interface names (names_of m.types names) m) one (enumerate_from 0 m.types)
    where
      one : (p : ℕ × Type_) → option_map told_members (declared_struct names m.special_types p)
          ≡ option_map called_members (struct_interface names (names_of m.types names) m p)
      one p =
          let members =
          each identifier_in (λ a. a.name) (member_row names p.0)
          (member_interface names (names_of m.types names) m p.0) (λ q. refl)
          (enumerate_from 0 (members_of p.1.inner)) in
          chosen told_members called_members (struct_row names p.0 p.1.name (members_of p.1.inner)) _
          (is_declared m.special_types p.0 p.1.inner)
          (λ i. (name_in names (key.Type_ p.0), members i))

  of_module : told_identifiers (name_map m names)
      ≡ called (module_interface settings meaning names m info flags)
  unfolding name_map
  of_module =
      let t = names_of m.types names in
      let value = global_expression_value m info settings meaning in
      let es =
      each identifier_in (λ e. e.function.name) (entry_point_row names) (entry_point_interface names t)
      (λ p. refl) (enumerate_from 0 m.entry_points.items) in
      let gs =
      each identifier_in (λ g. g.name) (global_row names) (global_interface names t value) (λ p. refl)
      (enumerate_from 0 m.global_variables) in
      let os =
      each identifier_in (λ o. o.name) (override_row names) (override_interface names t value) (λ p. refl)
      (enumerate_from 0 m.overrides) in
      let fs = functions 0 m.functions (omega arith) in
      λ i. record {
        constants = constants i;
        entry_points = es i;
        functions = fs i;
        globals = gs i;
        overrides = os i;
        structs = structs i;
      }

-- ---- of a program
module _ (settings : Settings) (meaning : Meaning) (world : World) (program : Program) where
  -- the value of an initialiser, on which no name depends
  abbrev value_in : PartTypes → Expression → Option Value
  value_in parts e =
      text_initialiser_value (program_read program) parts settings world meaning (vocabulary_read program)
      (expression_read e)

  of_program : (parts : PartTypes) →
      called (interface_read parts settings meaning world program) ≡ declared_identifiers program
  of_program parts = λ i. record {
    constants =
        map-map {B = ConstantInterface} (λ c. c.name) (constant_interface_read (value_in parts))
        program.constants i;
    entry_points =
        map-map {B = EntryPointInterface} (λ e. e.function.name) entry_point_interface_read
        program.entry_points i;
    functions = map-map {B = FunctionInterface} (λ f. f.name) function_interface_read program.functions i;
    globals =
        map-map {B = GlobalInterface} (λ g. g.name) (global_interface_read (value_in parts)) program.globals i;
    overrides =
        map-map {B = OverrideInterface} (λ o. o.name) (override_interface_read (value_in parts))
        program.overrides i;
    structs = structs_read program.structs i;
  }
    where
      structs_read : (ss : List Struct) →
          map called_members (map struct_interface_read ss) ≡ map declared_members ss
      structs_read [] = refl
      structs_read (s ∷ ss) = λ i.
          (s.name, map-map {B = MemberInterface} (λ a. a.name) member_interface_read s.members i) ∷ structs_read ss i

pub maps_tell_texts : MapsTellTexts
maps_tell_texts m info flags program settings fit meaning typed world tells =
    of_module m info flags settings meaning
    ∙ (ap called (sym (tells settings fit meaning typed world))
    ∙ of_program settings meaning world program (module_shape m info).parts)
