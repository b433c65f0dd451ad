-- Short words for worked trees, and what their text is.
--
-- Throughout, w is a word, t a type, e an expression, s a statement or an address space, n a
-- number, f a function, a an attribute or a space, m an access, i an interpolation, and x, y and z
-- the sizes of a workgroup.
use Prim.Native.String.{String}
use Rattle.std.specs.Prelude.{◌≡◌, ℕ, false, List, [], ◌∷◌, ◌++◌, codes, Option}
use Rattle.wgsl_text.specs.Token.{SuffixI, SuffixU}
use Rattle.wgsl_text.specs.Literals.{Suffixed}
use Rattle.wgsl_text.specs.Types.{TypeSpecifier, Named, Template, TemplateArguments}
use Rattle.wgsl_text.specs.Types.{NoTemplateArguments, TypeArgument}
use Rattle.wgsl_text.specs.Types.{SizeArgument}
use Rattle.wgsl_text.specs.Expressions.{Expression, Constant, Name, Call, Member, Arguments}
use Rattle.wgsl_text.specs.Expressions.{NoArguments, Argument}
use Rattle.wgsl_text.specs.Statements.{Statement, Let, TypedLet, Statements, NoStatements, Then}
use Rattle.wgsl_text.specs.Attributes.{WordedAttribute, Attribute, Worded, Interpolated}
use Rattle.wgsl_text.specs.Attributes.{WorkgroupSize, SizePart, FixedSize, NamedSize}
use Rattle.wgsl_text.specs.Functions.{Parameter, Result, ResultOf, Local, Function, EntryPoint}
use Rattle.wgsl_text.specs.Declarations.{StructMember, Struct, NamedConstant, Override, Space}
use Rattle.wgsl_text.specs.Declarations.{SpaceAlone, SpaceAndAccess, Global, Program}
use Rattle.wgsl_text.specs.Declarations.{no_declarations, IsProgram}
use Rattle.wgsl_text.specs.Reading.{printed_program}

-- The tree is a program, and it is printed as these bytes.
pub record IsText (program : Program) (bytes : List ℕ) : Type 0 where
  pub form : IsProgram program
  pub text : printed_program program ≡ bytes

-- lines, each with its end
abbrev pub lines : List String → List ℕ
lines [] = []
lines (line ∷ more) = codes line ++ (codes "\n" ++ lines more)

-- short words for trees
abbrev pub named_type : String → TypeSpecifier
named_type w = Named (codes w)

abbrev pub parts : List TypeSpecifier → TemplateArguments
parts [] = NoTemplateArguments
parts (t ∷ more) = TypeArgument t (parts more)

abbrev pub template : String → List TypeSpecifier → TypeSpecifier
template w list = Template (codes w) (parts list)

abbrev pub named_parts : List String → TemplateArguments
named_parts [] = NoTemplateArguments
named_parts (w ∷ more) = TypeArgument (named_type w) (named_parts more)

abbrev pub template_of : String → List String → TypeSpecifier
template_of w words = Template (codes w) (named_parts words)

abbrev pub sized_template : String → TypeSpecifier → ℕ → TypeSpecifier
sized_template w t n = Template (codes w) (TypeArgument t (SizeArgument n NoTemplateArguments))

abbrev pub name : String → Expression
name w = Name (codes w)

abbrev pub names : List String → Arguments
names [] = NoArguments
names (w ∷ more) = Argument (name w) (names more)

abbrev pub integer : ℕ → Expression
integer n = Constant (Suffixed false n SuffixI)

abbrev pub unsigned : ℕ → Expression
unsigned n = Constant (Suffixed false n SuffixU)

abbrev pub call : String → Arguments → Expression
call w arguments = Call (Named (codes w)) arguments

abbrev pub member_of : Expression → String → Expression
member_of e w = Member e (codes w)

abbrev pub let_statement : String → Expression → Statement
let_statement w e = Let (codes w) e

abbrev pub typed_let_statement : String → TypeSpecifier → Expression → Statement
typed_let_statement w t e = TypedLet (codes w) t e

abbrev pub statements : List Statement → Statements
statements [] = NoStatements
statements (s ∷ more) = Then s (statements more)

abbrev pub parameter : String → TypeSpecifier → Parameter
parameter w t = record { attributes = []; name = codes w; type = t }

abbrev pub attributed_parameter : List Attribute → String → TypeSpecifier → Parameter
attributed_parameter attributes w t = record { attributes = attributes; name = codes w; type = t }

abbrev pub gives : String → Result
gives w = ResultOf [] (named_type w)

abbrev pub local : String → TypeSpecifier → Option Expression → Local
local w t value = record { name = codes w; type = t; value = value }

abbrev pub function : String → List Parameter → Result → List Local → List Statement → Function
function w parameters result locals body =
    record {
      name = codes w;
      parameters = parameters;
      result = result;
      locals = locals;
      body = statements body;
    }

abbrev pub worded_attribute : WordedAttribute → String → Attribute
worded_attribute a w = Worded a (codes w)

abbrev pub interpolated_attribute : String → String → Attribute
interpolated_attribute i s = Interpolated (codes i) (codes s)

-- a size of numbers alone
abbrev pub workgroup_size : ℕ → ℕ → ℕ → Attribute
workgroup_size x y z = WorkgroupSize (FixedSize x) (FixedSize y) (FixedSize z)

-- the size that this name stands for, along an axis
abbrev pub named_size : String → SizePart
named_size w = NamedSize (codes w)

abbrev pub member : List Attribute → String → TypeSpecifier → StructMember
member attributes w t = record { attributes = attributes; name = codes w; type = t }

abbrev pub struct : String → List StructMember → Struct
struct w members = record { name = codes w; members = members }

abbrev pub constant : String → TypeSpecifier → Expression → NamedConstant
constant w t e = record { name = codes w; type = t; value = e }

abbrev pub override : List Attribute → String → TypeSpecifier → Option Expression → Override
override attributes w t value =
    record { attributes = attributes; name = codes w; type = t; value = value }

abbrev pub space : String → Space
space a = SpaceAlone (codes a)

abbrev pub space_and_access : String → String → Space
space_and_access a m = SpaceAndAccess (codes a) (codes m)

abbrev pub global : List Attribute → Space → String → TypeSpecifier → Option Expression → Global
global attributes s w t value =
    record { attributes = attributes; space = s; name = codes w; type = t; value = value }

abbrev pub entry_point : List Attribute → Function → EntryPoint
entry_point stage f = record { stage = stage; function = f }

abbrev pub of_functions : List Function → Program
of_functions functions = record no_declarations { functions = functions }
