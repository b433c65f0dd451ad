-- The syntax tree that is written for a module under its names.
--
-- Throughout, names are those of the module m, flags say how it is written, t are the names that
-- types are spelled with, named tells the names of the labels that front ends gave, and each
-- declaration goes by its first letter and stands beside its handle: member, type of a struct,
-- constant, override, global variable, entry point.
use Rattle.std.specs.Prelude.{ℕ, ◌+◌, List, [], ◌∷◌, length, map, Option, Some, None}
use Rattle.std.specs.Prelude.{if◌then◌else◌}
use Rattle.std.specs.List.{enumerate_from, filter_map}
use Rattle.std.specs.Option.{is_some, option_map}
use Rattle.naga_info.specs.declared.info.ExpressionInfo.{ExpressionInfo}
use Rattle.naga_info.specs.declared.info.ModuleInfo.{ModuleInfo}
use Rattle.naga_ir.specs.declared.module.Constant as ir_constant
use Rattle.naga_ir.specs.declared.module.EntryPoint as ir_entry_point
use Rattle.naga_ir.specs.declared.module.GlobalVariable.{GlobalVariable}
use Rattle.naga_ir.specs.declared.module.Module.{Module}
use Rattle.naga_ir.specs.declared.module.Override as ir_override
use Rattle.naga_ir.specs.declared.types.AddressSpace.{AddressSpace}
use Rattle.naga_ir.specs.declared.types.StructMember as ir_member
use Rattle.naga_ir.specs.declared.types.Type_.{Type_}
use Rattle.naga_naming.specs.Keys.{NameMap}
use Rattle.naga_naming.specs.Reset.{members_of}
use Rattle.naga_naming.specs.declared.key.NameKey.TheVariants as key
use Rattle.naga_spelling.specs.Contexts.{Names as TypeNames}
use Rattle.wgsl_text.specs.Declarations.{Program, StructMember, Struct}
use Rattle.wgsl_text.specs.Declarations.{NamedConstant, Override, Global, Space, NoSpace}
use Rattle.wgsl_text.specs.Declarations.{SpaceAlone, SpaceAndAccess}
use Rattle.wgsl_text.specs.Functions.{EntryPoint}
use Rattle.wgsl_words.specs.Words.{space_word, space_access_word}
use Rattle.module_semantics.specs.Enables.{written_enables}
use Rattle.module_semantics.specs.Layouts.{written_size}
use Rattle.module_semantics.specs.Names.{module_names, name_in, constant_name, expression_name}
use Rattle.module_semantics.specs.Names.{global_name, LabelNames, override_name}
use Rattle.module_semantics.specs.Types.{type_names}
use Rattle.module_semantics.specs.Undeclared.{is_declared}
use Rattle.naga_form.specs.Attributes.{global_attributes, id_attributes, member_attributes}
use Rattle.naga_form.specs.Attributes.{stage_attributes}
use Rattle.naga_form.specs.ConstantForms.{global_form}
use Rattle.naga_form.specs.Functions.{function_form, functions_under}
use Rattle.naga_form.specs.Types.{type_form}
use Rattle.naga_back.specs.declared.flags.WriterFlags.{WriterFlags}

-- ---- structs
-- a member of the struct at this handle
abbrev pub member_form :
    NameMap → TypeNames → Module → (handle : ℕ) → ℕ × ir_member.StructMember → StructMember
member_form names t m handle p =
    record {
      attributes =
          member_attributes (written_size m handle p.0) p.1.binding;
      name = name_in names (key.StructMember handle p.0);
      type = type_form t p.1.ty;
    }

-- a struct that a text declares
abbrev pub struct_form : NameMap → TypeNames → Module → ℕ × Type_ → Option Struct
struct_form names t m p =
    if is_declared m.special_types p.0 p.1.inner then Some (record {
      name = name_in names (key.Type_ p.0);
      members = map (member_form names t m p.0) (enumerate_from 0 (members_of p.1.inner));
    }) else None

-- ---- constants, overrides and variables
-- a constant that has a name
abbrev pub constant_form :
    NameMap → TypeNames → Module → ℕ × ir_constant.Constant → Option NamedConstant
constant_form names t m p =
    if is_some p.1.name then Some (record {
      name = constant_name names p.0;
      type = type_form t p.1.ty;
      value = global_form m t p.1.init;
    }) else None

abbrev pub override_form : NameMap → TypeNames → Module → ℕ × ir_override.Override → Override
override_form names t m p =
    record {
      attributes = id_attributes p.1.id;
      name = override_name names p.0;
      type = type_form t p.1.ty;
      value = option_map (global_form m t) p.1.init;
    }

-- a space and what may be done there, where WGSL has words for these
abbrev pub space_of_words : (space access : Option (List ℕ)) → Space
space_of_words None access = NoSpace
space_of_words (Some space) None = SpaceAlone space
space_of_words (Some space) (Some access) = SpaceAndAccess space access

abbrev pub space_form : AddressSpace → Space
space_form space = space_of_words (space_word space) (space_access_word space)

abbrev pub variable_form : NameMap → TypeNames → Module → ℕ × GlobalVariable → Global
variable_form names t m p =
    record {
      attributes = global_attributes p.1;
      space = space_form p.1.space;
      name = global_name names p.0;
      type = type_form t p.1.ty;
      value = option_map (global_form m t) p.1.init;
    }

-- ---- entry points
-- one of the functions, by its number and what is known of it, after the attributes of its stage
abbrev pub entry_point_under :
    LabelNames → WriterFlags → NameMap → Module → ModuleInfo → (number : ℕ) →
    ir_entry_point.EntryPoint → List ExpressionInfo → EntryPoint
entry_point_under named flags names m info number p es =
    record {
      stage = stage_attributes names p p.stage;
      function = function_form flags names (named number) m info number p.function es;
    }

-- those from this number on
abbrev pub entry_points_under :
    LabelNames → WriterFlags → NameMap → Module → ModuleInfo → (number : ℕ) →
    List ir_entry_point.EntryPoint → List (List ExpressionInfo) → List EntryPoint
entry_points_under named flags names m info number (p ∷ ps) (es ∷ ess) =
    entry_point_under named flags names m info number p es
    ∷ entry_points_under named flags names m info (number + 1) ps ess
entry_points_under named flags names m info number _ _ = []

-- so they are in a text of the whole module
abbrev pub entry_point_form :
    WriterFlags → NameMap → Module → ModuleInfo → (number : ℕ) → ir_entry_point.EntryPoint →
    List ExpressionInfo → EntryPoint
entry_point_form flags names m info number p es =
    entry_point_under (expression_name m) flags names m info number p es

abbrev pub entry_points_form :
    WriterFlags → NameMap → Module → ModuleInfo → (number : ℕ) →
    List ir_entry_point.EntryPoint → List (List ExpressionInfo) → List EntryPoint
entry_points_form flags names m info number ps ess =
    entry_points_under (expression_name m) flags names m info number ps ess

-- ---- modules
-- the syntax tree for a module where labels have these names, by what is known of it, and by the
-- flags
abbrev pub program_under : LabelNames → Module → ModuleInfo → WriterFlags → Program
program_under named m info flags =
    let names = module_names m in
    let t : TypeNames = type_names m in
    record {
      enables = written_enables m info flags;
      structs = filter_map (struct_form names t m) (enumerate_from 0 m.types);
      constants = filter_map (constant_form names t m) (enumerate_from 0 m.constants);
      overrides = map (override_form names t m) (enumerate_from 0 m.overrides);
      globals = map (variable_form names t m) (enumerate_from 0 m.global_variables);
      functions = functions_under named flags names m info 0 m.functions info.functions.items;
      entry_points =
          entry_points_under named flags names m info (length m.functions)
          m.entry_points.items info.entry_points.items;
    }

-- and the one that is written, a text of the whole module
abbrev pub written_program : Module → ModuleInfo → WriterFlags → Program
written_program m info flags = program_under (expression_name m) m info flags
