-- The interface of a program: what it declares for others. It is told of a syntax tree, and of a
-- module under its names. A type is told by its spelling, a binding by what it means, and an
-- initialiser by its value, under what the caller of a shader chooses and a meaning of operators.
--
-- Throughout, value tells the value of an initialiser, if it has one, p is a parameter, and each
-- declaration goes by its first letter: member, struct, constant, override, global, function, entry
-- point.
use Rattle.std.specs.Prelude.{ℕ, Bool, List, map, Option, Some, None}
use Rattle.std.specs.List.{list_any}
use Rattle.std.specs.Option.{option_map}
use Rattle.wgsl_text.specs.Reading.{printed_type}
use Rattle.wgsl_text.specs.Expressions.{Expression}
use Rattle.wgsl_text.specs.Functions.{Parameter, Result, NoResult, ResultOf, Function, EntryPoint}
use Rattle.wgsl_text.specs.Declarations.{StructMember, Struct, NamedConstant, Override, Global}
use Rattle.wgsl_text.specs.Declarations.{Space, NoSpace, SpaceAlone, SpaceAndAccess, Program}
use Rattle.shader_runs.specs.Value.{PartTypes, Value}
use Rattle.shader_runs.specs.World.{World, Meaning, Settings}
use Rattle.shader_runs.specs.Constants.{text_initialiser_value}
use Rattle.text_semantics.specs.Abstraction.{expression_read, program_read}
use Rattle.text_semantics.specs.Attributes.{StageBinding, stage_binding_read, size_read, after_size}
use Rattle.text_semantics.specs.Attributes.{alignment_read, after_alignment, id_read}
use Rattle.text_semantics.specs.Attributes.{ResourceBinding, resource_binding_read, is_coherent}
use Rattle.text_semantics.specs.Attributes.{is_volatile, Stage, stage_read}
use Rattle.text_semantics.specs.Switches.{CaseValueInterface, statements_switches}
use Rattle.text_semantics.specs.Vocabulary.{vocabulary_read}

-- a member of a struct: how it passes in or out of a stage, the size and the alignment that it is
-- given, if it is given any, and its type
pub record MemberInterface : Type 0 where
  pub name : List ℕ
  pub binding : StageBinding
  pub size : Option ℕ
  pub alignment : Option ℕ
  pub type : List ℕ

pub record StructInterface : Type 0 where
  pub name : List ℕ
  pub members : List MemberInterface

pub record ConstantInterface : Type 0 where
  pub name : List ℕ
  pub type : List ℕ
  pub value : Option Value

-- An override, by its number if it has one. Its initialiser is told by its value, and that there is
-- none, too: a pipeline then has to choose a value.
pub record OverrideInterface : Type 0 where
  pub name : List ℕ
  pub id : Option ℕ
  pub type : List ℕ
  pub initialiser : Option (Option Value)

-- a variable of the module: where it is bound, the space that it is in and what may be done with it
-- there, where the text has words for these, how its accesses are ordered, and its initialiser
pub record GlobalInterface : Type 0 where
  pub name : List ℕ
  pub binding : Option ResourceBinding
  pub space : Option (List ℕ)
  pub access : Option (List ℕ)
  pub coherent : Bool
  pub volatile : Bool
  pub type : List ℕ
  pub initialiser : Option (Option Value)

-- what passes in or out of a function: how, and its type
pub record IoValue : Type 0 where
  pub binding : StageBinding
  pub type : List ℕ

-- A function by its name, the types of its arguments and that of its result. The types of its
-- locals, in their order, are told too, since no run looks at the type that a local is declared
-- with; and so are the values of each switch of its body, case by case, since a run sees a case
-- value only where it is taken.
pub record FunctionInterface : Type 0 where
  pub name : List ℕ
  pub arguments : List IoValue
  pub result : Option IoValue
  pub locals : List (List ℕ)
  pub switches : List (List CaseValueInterface)

pub record EntryPointInterface : Type 0 where
  pub stage : Stage
  pub function : FunctionInterface

-- what a program declares, each kind in its order
pub record Interface : Type 0 where
  pub enables : List (List ℕ)
  pub structs : List StructInterface
  pub constants : List ConstantInterface
  pub overrides : List OverrideInterface
  pub globals : List GlobalInterface
  pub functions : List FunctionInterface
  pub entry_points : List EntryPointInterface

-- ---- of a syntax tree
abbrev pub member_interface_read : StructMember → MemberInterface
member_interface_read m =
    let following = after_size m.attributes in
    record {
      name = m.name;
      binding = stage_binding_read (after_alignment following);
      size = size_read m.attributes;
      alignment = alignment_read following;
      type = printed_type m.type;
    }

abbrev pub struct_interface_read : Struct → StructInterface
struct_interface_read s = record { name = s.name; members = map member_interface_read s.members }

abbrev pub constant_interface_read :
    (value : Expression → Option Value) → NamedConstant → ConstantInterface
constant_interface_read value c =
    record { name = c.name; type = printed_type c.type; value = value c.value }

abbrev pub override_interface_read :
    (value : Expression → Option Value) → Override → OverrideInterface
override_interface_read value o =
    record {
      name = o.name;
      id = id_read o.attributes;
      type = printed_type o.type;
      initialiser = option_map value o.value;
    }

-- the words of a space and of what may be done there
abbrev pub space_read : Space → Option (List ℕ)
space_read NoSpace = None
space_read (SpaceAlone space) = Some space
space_read (SpaceAndAccess space access) = Some space

abbrev pub access_read : Space → Option (List ℕ)
access_read NoSpace = None
access_read (SpaceAlone space) = None
access_read (SpaceAndAccess space access) = Some access

abbrev pub global_interface_read : (value : Expression → Option Value) → Global → GlobalInterface
global_interface_read value g =
    record {
      name = g.name;
      binding = resource_binding_read g.attributes;
      space = space_read g.space;
      access = access_read g.space;
      coherent = list_any is_coherent g.attributes;
      volatile = list_any is_volatile g.attributes;
      type = printed_type g.type;
      initialiser = option_map value g.value;
    }

abbrev pub parameter_read : Parameter → IoValue
parameter_read p =
    record { binding = stage_binding_read p.attributes; type = printed_type p.type }

abbrev pub result_read : Result → Option IoValue
result_read NoResult = None
result_read (ResultOf attributes type) =
    Some (record { binding = stage_binding_read attributes; type = printed_type type })

abbrev pub function_interface_read : Function → FunctionInterface
function_interface_read f =
    record {
      name = f.name;
      arguments = map parameter_read f.parameters;
      result = result_read f.result;
      locals = map (λ l. printed_type l.type) f.locals;
      switches = statements_switches f.body;
    }

abbrev pub entry_point_interface_read : EntryPoint → EntryPointInterface
entry_point_interface_read e =
    record { stage = stage_read e.stage; function = function_interface_read e.function }

-- The interface of a text. A world is asked for nothing, since an initialiser makes no event. What
-- the parts of its places are is told, as it is to a run.
abbrev pub interface_read : PartTypes → Settings → Meaning → World → Program → Interface
interface_read parts settings meaning world program =
    let text = program_read program in
    let value : Expression → Option Value =
    λ e. text_initialiser_value text parts settings world meaning (vocabulary_read program)
    (expression_read e) in
    record {
      enables = program.enables;
      structs = map struct_interface_read program.structs;
      constants = map (constant_interface_read value) program.constants;
      overrides = map (override_interface_read value) program.overrides;
      globals = map (global_interface_read value) program.globals;
      functions = map function_interface_read program.functions;
      entry_points = map entry_point_interface_read program.entry_points;
    }
