-- Declarations other than functions, and programs: their trees, their pieces and the order that
-- they stand in, and which of them the grammar has.
--
-- Throughout, a is an attribute or an address space, m an access or a member, w a word, n a number,
-- e an expression, and each declaration goes by its first letter: struct, constant, override,
-- global, function, entry point.
use Rattle.std.specs.Prelude.{ℕ, Bool, List, [], ◌∷◌, Option, true, ◌++◌, codes, ◌&&◌, IsTrue}
use Rattle.wgsl_text.specs.Attributes.{Binding, Attribute, Numbered, attribute_pieces}
use Rattle.wgsl_text.specs.Attributes.{attributes_pieces, IsAttributes, is_member_binding, is_id}
use Rattle.wgsl_text.specs.Attributes.{is_global_binding}
use Rattle.wgsl_text.specs.Expressions.{Expression, expression_pieces, IsExpression}
use Rattle.wgsl_text.specs.Functions.{Function, EntryPoint, value_pieces, group_end}
use Rattle.wgsl_text.specs.Functions.{functions_pieces, entry_points_pieces, IsValue, Each}
use Rattle.wgsl_text.specs.Functions.{IsFunction, IsEntryPoint}
use Rattle.wgsl_text.specs.Token.{OpenBrace, CloseBrace, Comma, Semicolon, Colon, Equals, LessThan}
use Rattle.wgsl_text.specs.Token.{GreaterThan, KeywordVar, KeywordStruct, KeywordConst}
use Rattle.wgsl_text.specs.Token.{KeywordEnable, KeywordOverride, Piece, Blank, LineEnd, Indent}
use Rattle.wgsl_text.specs.Token.{mark, word}
use Rattle.wgsl_text.specs.Types.{TypeSpecifier, type_pieces, IsType}
use Rattle.std.specs.Str.{bytes_eq}
use Rattle.wgsl_text.specs.Words.{stands_in, IsWord, IsIdentifier}
use Rattle.wgsl_text.specs.Tables.{address_space_words, access_words, enable_words}

pub record StructMember : Type 0 where
  pub attributes : List Attribute
  pub name : List ℕ
  pub type : TypeSpecifier

pub record Struct : Type 0 where
  pub name : List ℕ
  pub members : List StructMember

pub record NamedConstant : Type 0 where
  pub name : List ℕ
  pub type : TypeSpecifier
  pub value : Expression

pub record Override : Type 0 where
  pub attributes : List Attribute
  pub name : List ℕ
  pub type : TypeSpecifier
  pub value : Option Expression

-- the address space of a global, and its access
pub data Space : Type 0 where
  NoSpace : Space
  SpaceAlone : List ℕ → Space
  SpaceAndAccess : List ℕ → List ℕ → Space

pub record Global : Type 0 where
  pub attributes : List Attribute
  pub space : Space
  pub name : List ℕ
  pub type : TypeSpecifier
  pub value : Option Expression

-- the declarations of a text, in their order
pub record Program : Type 0 where
  pub enables : List (List ℕ)
  pub structs : List Struct
  pub constants : List NamedConstant
  pub overrides : List Override
  pub globals : List Global
  pub functions : List Function
  pub entry_points : List EntryPoint

abbrev pub no_declarations : Program
no_declarations =
    record {
      enables = [];
      structs = [];
      constants = [];
      overrides = [];
      globals = [];
      functions = [];
      entry_points = [];
    }

-- The pieces of declarations.

abbrev pub enables_pieces : List (List ℕ) → List Piece
enables_pieces [] = []
enables_pieces (w ∷ more) =
    mark KeywordEnable ∷ Blank ∷ word w ∷ mark Semicolon ∷ LineEnd ∷ enables_pieces more

abbrev pub members_pieces : List StructMember → List Piece
members_pieces [] = []
members_pieces (m ∷ more) =
    Indent 1 ∷
    (attributes_pieces m.attributes ++
    (word m.name ∷ mark Colon ∷ Blank ∷
    (type_pieces m.type ++
    (mark Comma ∷ LineEnd ∷ members_pieces more))))

-- an empty line after each
abbrev pub structs_pieces : List Struct → List Piece
structs_pieces [] = []
structs_pieces (s ∷ more) =
    mark KeywordStruct ∷ Blank ∷ word s.name ∷ Blank ∷ mark OpenBrace ∷ LineEnd ∷
    (members_pieces s.members ++
    (mark CloseBrace ∷ LineEnd ∷ LineEnd ∷ structs_pieces more))

abbrev pub constants_pieces : List NamedConstant → List Piece
constants_pieces [] = []
constants_pieces (c ∷ more) =
    mark KeywordConst ∷ Blank ∷ word c.name ∷ mark Colon ∷ Blank ∷
    (type_pieces c.type ++
    (Blank ∷ mark Equals ∷ Blank ∷
    (expression_pieces c.value ++
    (mark Semicolon ∷ LineEnd ∷ constants_pieces more))))

abbrev pub overrides_pieces : List Override → List Piece
overrides_pieces [] = []
overrides_pieces (o ∷ more) =
    attributes_pieces o.attributes ++
    (mark KeywordOverride ∷ Blank ∷ word o.name ∷ mark Colon ∷ Blank ∷
    (type_pieces o.type ++
    (value_pieces o.value ++
    overrides_pieces more)))

-- a line end after the binding
abbrev pub after_attribute : Attribute → List Piece
after_attribute (Numbered Binding n) = LineEnd ∷ []
after_attribute _ = []

abbrev pub global_attributes_pieces : List Attribute → List Piece
global_attributes_pieces [] = []
global_attributes_pieces (a ∷ more) =
    attribute_pieces a ++ (after_attribute a ++ global_attributes_pieces more)

abbrev pub space_pieces : Space → List Piece
space_pieces NoSpace = []
space_pieces (SpaceAlone a) = mark LessThan ∷ word a ∷ mark GreaterThan ∷ []
space_pieces (SpaceAndAccess a m) =
    mark LessThan ∷ word a ∷ mark Comma ∷ Blank ∷ word m ∷ mark GreaterThan ∷ []

abbrev pub globals_pieces : List Global → List Piece
globals_pieces [] = []
globals_pieces (g ∷ more) =
    global_attributes_pieces g.attributes ++
    (mark KeywordVar ∷
    (space_pieces g.space ++
    (Blank ∷ word g.name ∷ mark Colon ∷ Blank ∷
    (type_pieces g.type ++
    (value_pieces g.value ++
    globals_pieces more)))))

-- an empty line after the enables, the constants, the overrides and the globals, if there are any
abbrev pub program_pieces : Program → List Piece
program_pieces p =
    enables_pieces p.enables ++
    (group_end p.enables ++
    (structs_pieces p.structs ++
    (constants_pieces p.constants ++
    (group_end p.constants ++
    (overrides_pieces p.overrides ++
    (group_end p.overrides ++
    (globals_pieces p.globals ++
    (group_end p.globals ++
    (functions_pieces p.functions ++
    entry_points_pieces p.entry_points)))))))))

-- Which declarations the grammar has.

pub record IsMember (m : StructMember) : Type 0 where
  pub attributes : IsAttributes m.attributes
  pub binding : IsTrue (is_member_binding m.attributes)
  pub name : IsWord m.name
  pub type : IsType m.type

pub record IsStruct (s : Struct) : Type 0 where
  pub name : IsIdentifier s.name
  pub members : Each IsMember s.members

pub record IsNamedConstant (c : NamedConstant) : Type 0 where
  pub name : IsIdentifier c.name
  pub type : IsType c.type
  pub value : IsExpression c.value

pub record IsOverride (o : Override) : Type 0 where
  pub attributes : IsAttributes o.attributes
  pub id : IsTrue (is_id o.attributes)
  pub name : IsIdentifier o.name
  pub type : IsType o.type
  pub value : IsValue o.value

-- `storage` alone may have an access mode
abbrev pub is_space : Space → Bool
is_space NoSpace = true
is_space (SpaceAlone a) = stands_in address_space_words a
is_space (SpaceAndAccess a m) = bytes_eq (codes "storage") a && stands_in access_words m

pub record IsGlobal (g : Global) : Type 0 where
  pub attributes : IsAttributes g.attributes
  pub binding : IsTrue (is_global_binding g.attributes)
  pub space : IsTrue (is_space g.space)
  pub name : IsIdentifier g.name
  pub type : IsType g.type
  pub value : IsValue g.value

abbrev pub IsEnable : List ℕ → Type 0
IsEnable w = IsTrue (stands_in enable_words w)

pub record IsProgram (p : Program) : Type 0 where
  pub enables : Each IsEnable p.enables
  pub structs : Each IsStruct p.structs
  pub constants : Each IsNamedConstant p.constants
  pub overrides : Each IsOverride p.overrides
  pub globals : Each IsGlobal p.globals
  pub functions : Each IsFunction p.functions
  pub entry_points : Each IsEntryPoint p.entry_points
