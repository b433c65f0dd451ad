-- A machine that reads a tree back from its tokens, one token at a time. It is a left inverse of
-- the pieces and no more: it may also accept what the grammar does not have.
use Rattle.std.specs.Prelude.{ℕ, zero, Bool, true, false, cond, List, [], ◌∷◌, codes, Option, None}
use Rattle.std.specs.Prelude.{Some}
use Rattle.std.specs.Str.{bytes_eq}
use Rattle.wgsl_text.specs.Token.{Mark, OpenParen, CloseParen, OpenBracket, CloseBracket, OpenBrace}
use Rattle.wgsl_text.specs.Token.{CloseBrace, Comma, Semicolon, Colon, Dot, At, Equals, LessThan}
use Rattle.wgsl_text.specs.Token.{GreaterThan, Plus, Minus, Star, Slash, Percent, Ampersand, Bar}
use Rattle.wgsl_text.specs.Token.{Caret, Not, Tilde, EqualsEquals, NotEquals, LessEquals, AndAnd}
use Rattle.wgsl_text.specs.Token.{BarBar, LessLess, KeywordTrue, KeywordFalse, KeywordLet}
use Rattle.wgsl_text.specs.Token.{KeywordVar, KeywordIf, KeywordElse, KeywordLoop}
use Rattle.wgsl_text.specs.Token.{KeywordContinuing, KeywordBreak, KeywordContinue, KeywordSwitch}
use Rattle.wgsl_text.specs.Token.{KeywordCase, KeywordDefault, KeywordReturn, KeywordDiscard}
use Rattle.wgsl_text.specs.Token.{KeywordFn, KeywordStruct, KeywordConst, KeywordEnable}
use Rattle.wgsl_text.specs.Token.{KeywordOverride, Suffix, NoSuffix, SuffixU, Token, Fixed, Word}
use Rattle.wgsl_text.specs.Token.{Number, ZeroPointZero, Foreign, Piece, TokenPiece, Blank, LineEnd}
use Rattle.wgsl_text.specs.Token.{Decimal, Indent}
use Rattle.wgsl_text.specs.Literals.{Literal, Truth, Suffixed, SignedShort, UnsignedShort, Floating}
use Rattle.wgsl_text.specs.Literals.{LeastInteger, LeastLong}
use Rattle.wgsl_text.specs.Types.{TypeSpecifier, Named, Template, TemplateArguments}
use Rattle.wgsl_text.specs.Types.{NoTemplateArguments, TypeArgument, SizeArgument}
use Rattle.wgsl_text.specs.Expressions.{BinaryOperator, Add, Subtract, Multiply, Divide, Modulo}
use Rattle.wgsl_text.specs.Expressions.{Equal, NotEqual, Less, LessEqual, Greater, GreaterEqual}
use Rattle.wgsl_text.specs.Expressions.{And, ExclusiveOr, InclusiveOr, LogicalAnd, LogicalOr}
use Rattle.wgsl_text.specs.Expressions.{ShiftLeft, ShiftRight, UnaryOperator, Negate, LogicalNot}
use Rattle.wgsl_text.specs.Expressions.{BitwiseNot, Expression, Constant, Name, Binary, Unary, Call}
use Rattle.wgsl_text.specs.Expressions.{Member, Index, IndexAt, AddressOf, Dereference, Arguments}
use Rattle.wgsl_text.specs.Expressions.{NoArguments, Argument, NumberArgument, ZeroArgument}
use Rattle.wgsl_text.specs.Statements.{CaseValue, DefaultCase, SignedCase, UnsignedCase, CaseValues}
use Rattle.wgsl_text.specs.Statements.{LastCaseValue, MoreCaseValues, Statement, Let, TypedLet}
use Rattle.wgsl_text.specs.Statements.{Assign, CallStatement, Return, ReturnValue, Discard, Break}
use Rattle.wgsl_text.specs.Statements.{Continue, If, Loop, LoopBreakIf, Switch, Block, NoBlock}
use Rattle.wgsl_text.specs.Statements.{SomeBlock, Statements, NoStatements, Then, Cases, NoCases}
use Rattle.wgsl_text.specs.Statements.{Case}
use Rattle.wgsl_text.specs.Attributes.{PlainAttribute, Invariant, PerPrimitive, Coherent, Volatile}
use Rattle.wgsl_text.specs.Attributes.{Vertex, Fragment, Compute, Task, RayGeneration, AnyHit}
use Rattle.wgsl_text.specs.Attributes.{ClosestHit, Miss, NumberedAttribute, Location, BlendSource}
use Rattle.wgsl_text.specs.Attributes.{Id, Group, Binding, Size, Align, WordedAttribute, Builtin}
use Rattle.wgsl_text.specs.Attributes.{Interpolate, Mesh, Payload, IncomingPayload, Attribute}
use Rattle.wgsl_text.specs.Attributes.{Plain, Numbered, Worded, Interpolated, WorkgroupSize}
use Rattle.wgsl_text.specs.Attributes.{SizePart, FixedSize, NamedSize}
use Rattle.wgsl_text.specs.Attributes.{plain_attribute_word, numbered_attribute_word}
use Rattle.wgsl_text.specs.Attributes.{worded_attribute_word}
use Rattle.wgsl_text.specs.Functions.{Parameter, Result, NoResult, ResultOf, Local, Function}
use Rattle.wgsl_text.specs.Functions.{EntryPoint}
use Rattle.wgsl_text.specs.Declarations.{StructMember, Struct, NamedConstant, Override, Space}
use Rattle.wgsl_text.specs.Declarations.{NoSpace, SpaceAlone, SpaceAndAccess, Global, Program}

-- what is open, innermost first, with what has been read of it
pub data Stack : Type 0 where
  Bottom : Stack
  InParens : Stack → Stack
  InRight : Expression → BinaryOperator → Stack → Stack
  InUnary : UnaryOperator → Stack → Stack
  InAddress : Stack → Stack
  InDeref : Stack → Stack
  InArguments : TypeSpecifier → Arguments → Stack → Stack
  InIndex : Expression → Stack → Stack
  InTemplate : List ℕ → TemplateArguments → Stack → Stack
  InCallee : Stack → Stack
  -- statements, newest first, and what they stand in
  InStatements : Statements → Stack → Stack
  InBlock : Stack → Stack
  InAccept : Expression → Stack → Stack
  InReject : Expression → Statements → Stack → Stack
  InLoop : Stack → Stack
  InContinuing : Statements → Stack → Stack
  InCase : Expression → Cases → CaseValues → Stack → Stack
  -- parts of a statement
  InLetType : List ℕ → Stack → Stack
  InLet : List ℕ → Stack → Stack
  InTypedLet : List ℕ → TypeSpecifier → Stack → Stack
  InAssign : Expression → Stack → Stack
  InReturn : Stack → Stack
  InCondition : Stack → Stack
  InSelector : Stack → Stack
  InBreakIf : Stack → Stack
  -- parts of a function
  InParameters : List ℕ → List Parameter → List Attribute → Stack → Stack
  InParameterType : List ℕ → List Parameter → List Attribute → List ℕ → Stack → Stack
  InResult : List ℕ → List Parameter → List Attribute → Stack → Stack
  InLocals : List ℕ → List Parameter → Result → List Local → Stack → Stack
  InLocalType : List ℕ → Stack → Stack
  InLocalValue : List ℕ → TypeSpecifier → Stack → Stack
  -- the attributes of what comes next, and the declarations; all lists have the newest first
  InProgram : List Attribute → Program → Stack
  InMembers : List ℕ → List StructMember → List Attribute → Stack → Stack
  InMemberType : List ℕ → Stack → Stack
  InConstantType : List ℕ → Stack → Stack
  InConstant : List ℕ → TypeSpecifier → Stack → Stack
  InOverrideType : List ℕ → Stack → Stack
  InOverride : List ℕ → TypeSpecifier → Stack → Stack
  InGlobalType : Space → List ℕ → Stack → Stack
  InGlobal : Space → List ℕ → TypeSpecifier → Stack → Stack

-- an attribute whose word has been read
pub data AttributeKind : Type 0 where
  PlainKind : PlainAttribute → AttributeKind
  NumberedKind : NumberedAttribute → AttributeKind
  WordedKind : WordedAttribute → AttributeKind
  SizeKind NoKind : AttributeKind

-- a part of an attribute
pub data AttributePart : Type 0 where
  WordPart : List ℕ → AttributePart
  NumberPart : ℕ → AttributePart

-- what is wanted next, or what has just been read
pub data Reader : Type 0 where
  Failed : Reader
  Expect : Stack → Reader
  Got : Expression → Stack → Reader
  ExpectOperand : UnaryOperator → Stack → Reader
  ExpectMember : Expression → Stack → Reader
  GotIndex : Expression → ℕ → Stack → Reader
  GotNumberArgument : TypeSpecifier → Arguments → Bool → ℕ → Stack → Reader
  AfterArgument : TypeSpecifier → Arguments → Stack → Reader
  InLeastLong : Stack → Reader
  ExpectType : Stack → Reader
  GotType : TypeSpecifier → Stack → Reader
  AfterPart : List ℕ → TemplateArguments → Stack → Reader
  LetName : Stack → Reader
  AfterLetName : List ℕ → Stack → Reader
  ExpectBrace : Stack → Reader
  ExpectEnd : Statement → Stack → Reader
  AfterBreak : Stack → Reader
  CloseTwice : Statement → Stack → Reader
  CloseOnce : Statement → Stack → Reader
  AtCase : Expression → Cases → Stack → Reader
  ExpectCaseValue : Expression → Cases → List CaseValue → Stack → Reader
  AfterCaseValue : Expression → Cases → List CaseValue → CaseValue → Stack → Reader
  FunctionName : Stack → Reader
  AfterFunctionName : List ℕ → Stack → Reader
  ExpectParameter : Stack → Reader
  AfterParameterName : List ℕ → Stack → Reader
  AfterParameters : List ℕ → List Parameter → Stack → Reader
  ExpectResult : Stack → Reader
  LocalName : Stack → Reader
  AfterLocalName : List ℕ → Stack → Reader
  AttributeName : Stack → Reader
  AttributeOpen : AttributeKind → Stack → Reader
  ExpectAttributePart : AttributeKind → List AttributePart → Stack → Reader
  AfterAttributePart : AttributeKind → List AttributePart → Stack → Reader
  EnableName : Stack → Reader
  AfterEnable : List ℕ → Stack → Reader
  StructName : Stack → Reader
  AfterStructName : List ℕ → Stack → Reader
  ExpectMemberName : Stack → Reader
  AfterMemberName : List ℕ → Stack → Reader
  ConstantName : Stack → Reader
  AfterConstantName : List ℕ → Stack → Reader
  OverrideName : Stack → Reader
  AfterOverrideName : List ℕ → Stack → Reader
  AfterVar : Stack → Reader
  ExpectSpace : Stack → Reader
  AfterSpace : List ℕ → Stack → Reader
  ExpectAccess : List ℕ → Stack → Reader
  AfterAccess : List ℕ → List ℕ → Stack → Reader
  GlobalName : Space → Stack → Reader
  AfterGlobalName : Space → List ℕ → Stack → Reader

-- the first after the second, turned round
abbrev pub unwind_arguments : Arguments → Arguments → Arguments
unwind_arguments NoArguments args = args
unwind_arguments (Argument e done) args = unwind_arguments done (Argument e args)
unwind_arguments (NumberArgument n done) args = unwind_arguments done (NumberArgument n args)
unwind_arguments (ZeroArgument whole done) args = unwind_arguments done (ZeroArgument whole args)

abbrev pub unwind_parts : TemplateArguments → TemplateArguments → TemplateArguments
unwind_parts NoTemplateArguments args = args
unwind_parts (TypeArgument t done) args = unwind_parts done (TypeArgument t args)
unwind_parts (SizeArgument n done) args = unwind_parts done (SizeArgument n args)

abbrev pub unwind_statements : Statements → Statements → Statements
unwind_statements NoStatements more = more
unwind_statements (Then s done) more = unwind_statements done (Then s more)

abbrev pub unwind_cases : Cases → Cases → Cases
unwind_cases NoCases more = more
unwind_cases (Case case_values body done) more = unwind_cases done (Case case_values body more)

abbrev pub unwind_case_values : List CaseValue → CaseValues → CaseValues
unwind_case_values [] case_values = case_values
unwind_case_values (l ∷ done) case_values = unwind_case_values done (MoreCaseValues l case_values)

-- a statement has been read
abbrev pub add_statement : Statement → Stack → Reader
add_statement st (InStatements done s) = Expect (InStatements (Then st done) s)
add_statement st _ = Failed

-- the first, turned round, in front of the second
abbrev pub turned : {A : Type 0} → List A → List A → List A
turned [] more = more
turned (x ∷ done) more = turned done (x ∷ more)

-- a function has been read; it is an entry point if it has attributes
abbrev pub function_added : List Attribute → Function → Program → Program
function_added [] f p = record p { functions = f ∷ p.functions }
function_added (a ∷ attributes) f p = let e : EntryPoint = record { stage = a ∷ attributes; function = f } in
    record p { entry_points = e ∷ p.entry_points }

abbrev pub add_function : Function → Stack → Reader
add_function f (InProgram attributes p) = Expect (InProgram [] (function_added (turned attributes []) f p))
add_function f _ = Failed

abbrev pub add_local : List ℕ → TypeSpecifier → Option Expression → Stack → Reader
add_local w t value (InLocals f parameters result done s) =
    let l : Local = record { name = w; type = t; value = value } in
    Expect (InStatements NoStatements (InLocals f parameters result (l ∷ done) s))
add_local w t value _ = Failed

abbrev pub add_enable : List ℕ → Stack → Reader
add_enable w (InProgram attributes p) = Expect (InProgram [] (record p { enables = w ∷ p.enables }))
add_enable w _ = Failed

abbrev pub add_struct : List ℕ → List StructMember → Stack → Reader
add_struct w members (InProgram attributes p) =
    let d : Struct = record { name = w; members = members } in
    Expect (InProgram [] (record p { structs = d ∷ p.structs }))
add_struct w members _ = Failed

abbrev pub add_constant : List ℕ → TypeSpecifier → Expression → Stack → Reader
add_constant w t e (InProgram attributes p) =
    let d : NamedConstant = record { name = w; type = t; value = e } in
    Expect (InProgram [] (record p { constants = d ∷ p.constants }))
add_constant w t e _ = Failed

abbrev pub add_global : Space → List ℕ → TypeSpecifier → Option Expression → Stack → Reader
add_global space w t value (InProgram attributes p) =
    let d : Global = record { attributes = turned attributes []; space = space; name = w; type = t; value = value } in
    Expect (InProgram [] (record p { globals = d ∷ p.globals }))
add_global space w t value _ = Failed

abbrev pub add_override : List ℕ → TypeSpecifier → Option Expression → Stack → Reader
add_override w t value (InProgram attributes p) =
    let d : Override = record { attributes = turned attributes []; name = w; type = t; value = value } in
    Expect (InProgram [] (record p { overrides = d ∷ p.overrides }))
add_override w t value _ = Failed

-- an attribute has been read: of a declaration, a member, a parameter or a result
abbrev pub add_attribute : Attribute → Stack → Reader
add_attribute a (InProgram attributes p) = Expect (InProgram (a ∷ attributes) p)
add_attribute a (InMembers w done attributes s) = ExpectMemberName (InMembers w done (a ∷ attributes) s)
add_attribute a (InParameters f done attributes s) = ExpectParameter (InParameters f done (a ∷ attributes) s)
add_attribute a (InResult f parameters attributes s) = ExpectResult (InResult f parameters (a ∷ attributes) s)
add_attribute a _ = Failed

abbrev pub add_member : List ℕ → TypeSpecifier → Stack → Reader
add_member w t (InMembers name done attributes s) =
    let m : StructMember = record { attributes = turned attributes []; name = w; type = t } in
    ExpectMemberName (InMembers name (m ∷ done) [] s)
add_member w t _ = Failed

abbrev pub close_struct : Stack → Reader
close_struct (InMembers w done attributes s) = add_struct w (turned done []) s
close_struct _ = Failed

-- a block of statements has been read
abbrev pub close_block : Statements → Stack → Reader
close_block body (InBlock s) = add_statement (Block body) s
close_block body (InAccept e s) = add_statement (If e body NoBlock) s
close_block body (InReject e accept s) = add_statement (If e accept (SomeBlock body)) s
close_block body (InLoop s) = add_statement (Loop body NoBlock) s
close_block body (InContinuing first s) = CloseOnce (Loop first (SomeBlock body)) s
close_block body (InCase e done case_values s) = AtCase e (Case case_values body done) s
close_block body (InLocals f parameters result locals s) =
    add_function (record {
      name = f;
      parameters = parameters;
      result = result;
      locals = turned locals [];
      body = body;
    }) s
close_block body _ = Failed

abbrev pub expect_close_brace : Stack → Reader
expect_close_brace (InStatements done s) = close_block (unwind_statements done NoStatements) s
expect_close_brace _ = Failed

abbrev pub expect_semicolon : Stack → Reader
expect_semicolon (InReturn s) = add_statement Return s
expect_semicolon _ = Failed

-- `else` after an `if` that has been read without one
abbrev pub else_of : Statements → Stack → Reader
else_of (Then (If e accept NoBlock) done) s = ExpectBrace (InReject e accept (InStatements done s))
else_of _ s = Failed

abbrev pub expect_else : Stack → Reader
expect_else (InStatements done s) = else_of done s
expect_else _ = Failed

abbrev pub continuing_of : Statements → Stack → Reader
continuing_of body (InLoop s) = ExpectBrace (InContinuing body s)
continuing_of body _ = Failed

abbrev pub expect_continuing : Stack → Reader
expect_continuing (InStatements done s) = continuing_of (unwind_statements done NoStatements) s
expect_continuing _ = Failed

abbrev pub expect_var : Stack → Reader
expect_var (InStatements done s) = LocalName s
expect_var (InProgram attributes p) = AfterVar (InProgram attributes p)
expect_var _ = Failed

-- a parenthesis opened where an expression is wanted: what stands in it
abbrev pub expect_star : Stack → Reader
expect_star (InParens s) = Expect (InDeref s)
expect_star _ = Failed

abbrev pub expect_and : Stack → Reader
expect_and (InParens s) = Expect (InAddress s)
expect_and _ = Failed

-- the second sign of `>=` and `>>`
abbrev pub expect_equals : Stack → Reader
expect_equals (InRight a Greater s) = Expect (InRight a GreaterEqual s)
expect_equals _ = Failed

abbrev pub expect_greater : Stack → Reader
expect_greater (InRight a Greater s) = Expect (InRight a ShiftRight s)
expect_greater _ = Failed

-- the end of an empty list of arguments
abbrev pub expect_close : Stack → Reader
expect_close (InArguments t done s) = Got (Call t (unwind_arguments done NoArguments)) s
expect_close _ = Failed

abbrev pub expect_mark : Mark → Stack → Reader
expect_mark OpenParen s = Expect (InParens s)
expect_mark CloseParen s = expect_close s
expect_mark Minus s = ExpectOperand Negate s
expect_mark Not s = ExpectOperand LogicalNot s
expect_mark Tilde s = ExpectOperand BitwiseNot s
expect_mark Star s = expect_star s
expect_mark Ampersand s = expect_and s
expect_mark Equals s = expect_equals s
expect_mark GreaterThan s = expect_greater s
expect_mark KeywordTrue s = Got (Constant (Truth true)) s
expect_mark KeywordFalse s = Got (Constant (Truth false)) s
expect_mark Semicolon s = expect_semicolon s
expect_mark OpenBrace s = Expect (InStatements NoStatements (InBlock s))
expect_mark CloseBrace s = expect_close_brace s
expect_mark KeywordLet s = LetName s
expect_mark KeywordVar s = expect_var s
expect_mark KeywordReturn s = Expect (InReturn s)
expect_mark KeywordIf s = Expect (InCondition s)
expect_mark KeywordElse s = expect_else s
expect_mark KeywordLoop s = ExpectBrace (InLoop s)
expect_mark KeywordContinuing s = expect_continuing s
expect_mark KeywordBreak s = AfterBreak s
expect_mark KeywordContinue s = ExpectEnd Continue s
expect_mark KeywordDiscard s = ExpectEnd Discard s
expect_mark KeywordSwitch s = Expect (InSelector s)
expect_mark KeywordFn s = FunctionName s
expect_mark At s = AttributeName s
expect_mark KeywordEnable s = EnableName s
expect_mark KeywordOverride s = OverrideName s
expect_mark KeywordStruct s = StructName s
expect_mark KeywordConst s = ConstantName s
expect_mark _ s = Failed

-- a number without a suffix stands in an index or among arguments
abbrev pub expect_plain : Bool → ℕ → Stack → Reader
expect_plain negative n (InIndex e s) = GotIndex e n s
expect_plain negative n (InArguments t done s) = GotNumberArgument t done negative n s
expect_plain negative n _ = Failed

abbrev pub expect_number : Suffix → Bool → ℕ → Stack → Reader
expect_number NoSuffix negative n s = expect_plain negative n s
expect_number suffix negative n s = Got (Constant (Suffixed negative n suffix)) s

abbrev pub expect_zero : Stack → Reader
expect_zero (InArguments t done s) = AfterArgument t (ZeroArgument false done) s
expect_zero _ = Failed

abbrev pub expected_token : Token → Stack → Reader
expected_token (Fixed m) s = expect_mark m s
expected_token (Word w) s = Got (Name w) s
expected_token (Number negative n suffix) s = expect_number suffix negative n s
expected_token (Decimal negative whole fraction precision) s =
    Got (Constant (Floating negative whole fraction precision)) s
expected_token ZeroPointZero s = expect_zero s
expected_token (Foreign b) s = Failed

abbrev pub after_argument_mark : Mark → TypeSpecifier → Arguments → Stack → Reader
after_argument_mark Comma t done s = Expect (InArguments t done s)
after_argument_mark CloseParen t done s = Got (Call t (unwind_arguments done NoArguments)) s
after_argument_mark _ t done s = Failed

abbrev pub got_close : Expression → Stack → Reader
got_close e (InParens s) = Got e s
got_close e (InRight a op s) = Got (Binary a op e) s
got_close e (InUnary op s) = Got (Unary op e) s
got_close e (InAddress s) = Got (AddressOf e) s
got_close e (InDeref s) = Got (Dereference e) s
got_close e (InArguments t done s) = after_argument_mark CloseParen t (Argument e done) s
got_close e _ = Failed

abbrev pub got_comma : Expression → Stack → Reader
got_comma e (InArguments t done s) = after_argument_mark Comma t (Argument e done) s
got_comma e _ = Failed

abbrev pub got_close_bracket : Expression → Stack → Reader
got_close_bracket i (InIndex e s) = Got (Index e i) s
got_close_bracket i _ = Failed

abbrev pub got_operator : BinaryOperator → Expression → Stack → Reader
got_operator op a (InParens s) = Expect (InRight a op s)
got_operator op a _ = Failed

-- arguments follow a word
abbrev pub got_open : Expression → Stack → Reader
got_open (Name w) s = Expect (InArguments (Named w) NoArguments s)
got_open _ s = Failed

-- Is this the word of a type, or of a call that takes a type?
abbrev pub got_less : (List ℕ → Bool) → Expression → Stack → Reader
got_less takes_types (Name w) s =
    cond (takes_types w) (ExpectType (InTemplate w NoTemplateArguments (InCallee s))) (got_operator Less (Name w) s)
got_less takes_types e s = got_operator Less e s

abbrev pub call_statement : Expression → Statements → Stack → Reader
call_statement (Call t args) done s = Expect (InStatements (Then (CallStatement t args) done) s)
call_statement _ done s = Failed

abbrev pub break_if_in : Expression → Statements → Stack → Reader
break_if_in e rest (InContinuing body s) = CloseTwice (LoopBreakIf body rest e) s
break_if_in e rest _ = Failed

abbrev pub break_if : Expression → Stack → Reader
break_if e (InStatements done s) = break_if_in e (unwind_statements done NoStatements) s
break_if e _ = Failed

abbrev pub got_semicolon : Expression → Stack → Reader
got_semicolon e (InLet w s) = add_statement (Let w e) s
got_semicolon e (InTypedLet w t s) = add_statement (TypedLet w t e) s
got_semicolon e (InAssign a s) = add_statement (Assign a e) s
got_semicolon e (InReturn s) = add_statement (ReturnValue e) s
got_semicolon e (InStatements done s) = call_statement e done s
got_semicolon e (InBreakIf s) = break_if e s
got_semicolon e (InLocalValue w t s) = add_local w t (Some e) s
got_semicolon e (InConstant w t s) = add_constant w t e s
got_semicolon e (InOverride w t s) = add_override w t (Some e) s
got_semicolon e (InGlobal space w t s) = add_global space w t (Some e) s
got_semicolon e _ = Failed

abbrev pub got_equals : Expression → Stack → Reader
got_equals e (InStatements done s) = Expect (InAssign e (InStatements done s))
got_equals e _ = Failed

abbrev pub got_open_brace : Expression → Stack → Reader
got_open_brace e (InCondition s) = Expect (InStatements NoStatements (InAccept e s))
got_open_brace e (InSelector s) = AtCase e NoCases s
got_open_brace e _ = Failed

abbrev pub got_mark : (List ℕ → Bool) → Mark → Expression → Stack → Reader
got_mark b CloseParen e s = got_close e s
got_mark b CloseBracket e s = got_close_bracket e s
got_mark b Comma e s = got_comma e s
got_mark b Dot e s = ExpectMember e s
got_mark b OpenBracket e s = Expect (InIndex e s)
got_mark b OpenParen e s = got_open e s
got_mark b Semicolon e s = got_semicolon e s
got_mark b Equals e s = got_equals e s
got_mark b OpenBrace e s = got_open_brace e s
got_mark b Plus e s = got_operator Add e s
got_mark b Minus e s = got_operator Subtract e s
got_mark b Star e s = got_operator Multiply e s
got_mark b Slash e s = got_operator Divide e s
got_mark b Percent e s = got_operator Modulo e s
got_mark b EqualsEquals e s = got_operator Equal e s
got_mark b NotEquals e s = got_operator NotEqual e s
got_mark b LessThan e s = got_less b e s
got_mark b LessEquals e s = got_operator LessEqual e s
got_mark b GreaterThan e s = got_operator Greater e s
got_mark b Ampersand e s = got_operator And e s
got_mark b Caret e s = got_operator ExclusiveOr e s
got_mark b Bar e s = got_operator InclusiveOr e s
got_mark b AndAnd e s = got_operator LogicalAnd e s
got_mark b BarBar e s = got_operator LogicalOr e s
got_mark b LessLess e s = got_operator ShiftLeft e s
got_mark b _ e s = Failed

abbrev pub expect_operand : Mark → UnaryOperator → Stack → Reader
expect_operand OpenParen op s = Expect (InUnary op s)
expect_operand _ op s = Failed

abbrev pub got_index : Mark → Expression → ℕ → Stack → Reader
got_index CloseBracket e n s = Got (IndexAt e n) s
got_index _ e n s = Failed

-- a plain number alone in parentheses is a literal, and with more after it an argument
abbrev pub wrapped_literal : List ℕ → Bool → ℕ → Literal
wrapped_literal w negative n = cond (bytes_eq (codes "i16") w) (SignedShort negative n)
    (cond (bytes_eq (codes "u16") w) (UnsignedShort n) LeastInteger)

abbrev pub wrapped : TypeSpecifier → Bool → ℕ → Stack → Reader
wrapped (Named w) negative n s = Got (Constant (wrapped_literal w negative n)) s
wrapped (Template w args) negative n s = Failed

-- after others a zero is a level
abbrev pub number_then : Arguments → ℕ → Arguments
number_then NoArguments n = NumberArgument n NoArguments
number_then done zero = ZeroArgument true done
number_then done n = NumberArgument n done

abbrev pub close_number : Arguments → TypeSpecifier → Bool → ℕ → Stack → Reader
close_number NoArguments t negative n s = wrapped t negative n s
close_number done t negative n s = Got (Call t (unwind_arguments (number_then done n) NoArguments)) s

abbrev pub got_number_argument : Mark → TypeSpecifier → Arguments → Bool → ℕ → Stack → Reader
got_number_argument Comma t done negative n s = Expect (InArguments t (number_then done n) s)
got_number_argument CloseParen t done negative n s = close_number done t negative n s
got_number_argument Minus t done negative n s = InLeastLong s
got_number_argument _ t done negative n s = Failed

abbrev pub in_least_long : Token → Stack → Reader
in_least_long (Number negative n suffix) s = InLeastLong s
in_least_long (Fixed CloseParen) s = Got (Constant LeastLong) s
in_least_long _ s = Failed

abbrev pub after_part : Mark → List ℕ → TemplateArguments → Stack → Reader
after_part Comma w done s = ExpectType (InTemplate w done s)
after_part GreaterThan w done s = GotType (Template w (unwind_parts done NoTemplateArguments)) s
after_part _ w done s = Failed

abbrev pub expect_size : ℕ → Stack → Reader
expect_size n (InTemplate w done s) = AfterPart w (SizeArgument n done) s
expect_size n _ = Failed

abbrev pub expect_type_greater : Stack → Reader
expect_type_greater (InTemplate w done s) =
    GotType (Template w (unwind_parts done NoTemplateArguments)) s
expect_type_greater _ = Failed

abbrev pub expect_type : Token → Stack → Reader
expect_type (Word w) s = GotType (Named w) s
expect_type (Number negative n suffix) s = expect_size n s
expect_type (Fixed GreaterThan) s = expect_type_greater s
expect_type _ s = Failed

abbrev pub got_type_less : TypeSpecifier → Stack → Reader
got_type_less (Named w) s = ExpectType (InTemplate w NoTemplateArguments s)
got_type_less _ s = Failed

abbrev pub got_type_open : TypeSpecifier → Stack → Reader
got_type_open t (InCallee s) = Expect (InArguments t NoArguments s)
got_type_open t _ = Failed

abbrev pub add_parameter : List ℕ → TypeSpecifier → Stack → Stack
add_parameter w t (InParameters f done attributes s) =
    let p : Parameter = record { attributes = turned attributes []; name = w; type = t } in
    InParameters f (p ∷ done) [] s
add_parameter w t s = s

abbrev pub close_parameters : Stack → Reader
close_parameters (InParameters f done attributes s) = AfterParameters f (turned done []) s
close_parameters _ = Failed

abbrev pub after_parameter : Mark → Stack → Reader
after_parameter Comma s = ExpectParameter s
after_parameter CloseParen s = close_parameters s
after_parameter _ s = Failed

abbrev pub after_local_type : Mark → List ℕ → TypeSpecifier → Stack → Reader
after_local_type Semicolon w t s = add_local w t None s
after_local_type Equals w t s = Expect (InLocalValue w t s)
after_local_type _ w t s = Failed

abbrev pub after_override_type : Mark → List ℕ → TypeSpecifier → Stack → Reader
after_override_type Semicolon w t s = add_override w t None s
after_override_type Equals w t s = Expect (InOverride w t s)
after_override_type _ w t s = Failed

abbrev pub after_global_type : Mark → Space → List ℕ → TypeSpecifier → Stack → Reader
after_global_type Semicolon space w t s = add_global space w t None s
after_global_type Equals space w t s = Expect (InGlobal space w t s)
after_global_type _ space w t s = Failed

abbrev pub got_type_in : Mark → TypeSpecifier → Stack → Reader
got_type_in m t (InTemplate w done s) = after_part m w (TypeArgument t done) s
got_type_in m t (InLetType w s) = Expect (InTypedLet w t s)
got_type_in m t (InParameterType f done attributes w s) =
    after_parameter m (add_parameter w t (InParameters f done attributes s))
got_type_in m t (InResult f parameters attributes s) =
    Expect (InStatements NoStatements (InLocals f parameters (ResultOf (turned attributes []) t) [] s))
got_type_in m t (InLocalType w s) = after_local_type m w t s
got_type_in m t (InMemberType w s) = add_member w t s
got_type_in m t (InConstantType w s) = Expect (InConstant w t s)
got_type_in m t (InOverrideType w s) = after_override_type m w t s
got_type_in m t (InGlobalType space w s) = after_global_type m space w t s
got_type_in m t _ = Failed

abbrev pub got_type : Mark → TypeSpecifier → Stack → Reader
got_type LessThan t s = got_type_less t s
got_type OpenParen t s = got_type_open t s
got_type m t s = got_type_in m t s

-- a state that goes on at a sign alone
abbrev pub at_mark : (Mark → Reader) → Token → Reader
at_mark f (Fixed m) = f m
at_mark f _ = Failed

abbrev pub expect_member : Token → Expression → Stack → Reader
expect_member (Word w) e s = Got (Member e w) s
expect_member _ e s = Failed

abbrev pub let_name : Token → Stack → Reader
let_name (Word w) s = AfterLetName w s
let_name _ s = Failed

abbrev pub after_let_name : Mark → List ℕ → Stack → Reader
after_let_name Colon w s = ExpectType (InLetType w s)
after_let_name Equals w s = Expect (InLet w s)
after_let_name _ w s = Failed

abbrev pub expect_brace : Mark → Stack → Reader
expect_brace OpenBrace s = Expect (InStatements NoStatements s)
expect_brace _ s = Failed

abbrev pub expect_end : Mark → Statement → Stack → Reader
expect_end Semicolon st s = add_statement st s
expect_end _ st s = Failed

abbrev pub after_break : Mark → Stack → Reader
after_break Semicolon s = add_statement Break s
after_break KeywordIf s = Expect (InBreakIf s)
after_break _ s = Failed

abbrev pub at_case : Mark → Expression → Cases → Stack → Reader
at_case KeywordCase e done s = ExpectCaseValue e done [] s
at_case KeywordDefault e done s = AfterCaseValue e done [] DefaultCase s
at_case CloseBrace e done s = add_statement (Switch e (unwind_cases done NoCases)) s
at_case _ e done s = Failed

abbrev pub number_case_value : Suffix → Bool → ℕ → CaseValue
number_case_value SuffixU negative n = UnsignedCase n
number_case_value _ negative n = SignedCase negative n

abbrev pub expect_case_value : Token → Expression → Cases → List CaseValue → Stack → Reader
expect_case_value (Fixed KeywordDefault) e done case_values s = AfterCaseValue e done case_values DefaultCase s
expect_case_value (Number negative n suffix) e done case_values s =
    AfterCaseValue e done case_values (number_case_value suffix negative n) s
expect_case_value _ e done case_values s = Failed

abbrev pub after_case_value : Mark → Expression → Cases → List CaseValue → CaseValue → Stack → Reader
after_case_value Comma e done case_values l s = ExpectCaseValue e done (l ∷ case_values) s
after_case_value Colon e done case_values l s =
    ExpectBrace (InCase e done (unwind_case_values case_values (LastCaseValue l)) s)
after_case_value _ e done case_values l s = Failed

abbrev pub after_parameters : Mark → List ℕ → List Parameter → Stack → Reader
after_parameters OpenBrace f ps s = Expect (InStatements NoStatements (InLocals f ps NoResult [] s))
after_parameters Minus f ps s = AfterParameters f ps s
after_parameters GreaterThan f ps s = ExpectResult (InResult f ps [] s)
after_parameters _ f ps s = Failed

abbrev pub after_parameter_name : List ℕ → Stack → Reader
after_parameter_name w (InParameters f done attributes s) = ExpectType (InParameterType f done attributes w s)
after_parameter_name w _ = Failed

abbrev pub expect_parameter : Token → Stack → Reader
expect_parameter (Word w) s = AfterParameterName w s
expect_parameter (Fixed At) s = AttributeName s
expect_parameter (Fixed CloseParen) s = close_parameters s
expect_parameter _ s = Failed

abbrev pub expect_result : Token → Stack → Reader
expect_result (Fixed At) s = AttributeName s
expect_result t s = expect_type t s

-- the attribute of a word
abbrev pub plain_among : List PlainAttribute → List ℕ → AttributeKind → AttributeKind
plain_among [] w other = other
plain_among (a ∷ more) w other = cond (bytes_eq (plain_attribute_word a) w) (PlainKind a) (plain_among more w other)

abbrev pub numbered_among : List NumberedAttribute → List ℕ → AttributeKind → AttributeKind
numbered_among [] w other = other
numbered_among (a ∷ more) w other = cond (bytes_eq (numbered_attribute_word a) w) (NumberedKind a)
    (numbered_among more w other)

abbrev pub worded_among : List WordedAttribute → List ℕ → AttributeKind → AttributeKind
worded_among [] w other = other
worded_among (a ∷ more) w other = cond (bytes_eq (worded_attribute_word a) w) (WordedKind a) (worded_among more w other)

abbrev pub kind_of : List ℕ → AttributeKind
kind_of w =
    plain_among (Invariant ∷ PerPrimitive ∷ Coherent ∷ Volatile ∷ Vertex ∷ Fragment ∷ Compute ∷ Task
    ∷ RayGeneration ∷ AnyHit ∷ ClosestHit ∷ Miss ∷ []) w
    (numbered_among (Location ∷ BlendSource ∷ Id ∷ Group ∷ Binding ∷ Size ∷ Align ∷ []) w
    (worded_among (Builtin ∷ Interpolate ∷ Mesh ∷ Payload ∷ IncomingPayload ∷ []) w
    (cond (bytes_eq (codes "workgroup_size") w) SizeKind NoKind)))

abbrev pub attribute_named : AttributeKind → Stack → Reader
attribute_named (PlainKind a) s = add_attribute (Plain a) s
attribute_named kind s = AttributeOpen kind s

abbrev pub attribute_name : Token → Stack → Reader
attribute_name (Word w) s = attribute_named (kind_of w) s
attribute_name _ s = Failed

abbrev pub expect_attribute_part : Token → AttributeKind → List AttributePart → Stack → Reader
expect_attribute_part (Word w) kind done s = AfterAttributePart kind (WordPart w ∷ done) s
expect_attribute_part (Number negative n suffix) kind done s = AfterAttributePart kind (NumberPart n ∷ done) s
expect_attribute_part _ kind done s = Failed

abbrev pub size_of_part : AttributePart → SizePart
size_of_part (NumberPart n) = FixedSize n
size_of_part (WordPart w) = NamedSize w

-- an attribute of these parts, the newest first
abbrev pub close_attribute : AttributeKind → List AttributePart → Stack → Reader
close_attribute (NumberedKind a) (NumberPart n ∷ []) s = add_attribute (Numbered a n) s
close_attribute (WordedKind a) (WordPart w ∷ []) s = add_attribute (Worded a w) s
close_attribute (WordedKind a) (WordPart v ∷ WordPart w ∷ []) s = add_attribute (Interpolated w v) s
close_attribute SizeKind (z ∷ y ∷ x ∷ []) s =
    add_attribute (WorkgroupSize (size_of_part x) (size_of_part y) (size_of_part z)) s
close_attribute kind parts s = Failed

abbrev pub after_attribute_part : Mark → AttributeKind → List AttributePart → Stack → Reader
after_attribute_part Comma kind done s = ExpectAttributePart kind done s
after_attribute_part CloseParen kind done s = close_attribute kind done s
after_attribute_part _ kind done s = Failed

-- the word that is read next, and nothing else
abbrev pub at_word : (List ℕ → Reader) → Token → Reader
at_word f (Word w) = f w
at_word f _ = Failed

abbrev pub expect_member_name : Token → Stack → Reader
expect_member_name (Word w) s = AfterMemberName w s
expect_member_name (Fixed At) s = AttributeName s
expect_member_name (Fixed CloseBrace) s = close_struct s
expect_member_name _ s = Failed

abbrev pub after_var : Token → Stack → Reader
after_var (Word w) s = AfterGlobalName NoSpace w s
after_var (Fixed LessThan) s = ExpectSpace s
after_var _ s = Failed

abbrev pub after_space : Mark → List ℕ → Stack → Reader
after_space Comma a s = ExpectAccess a s
after_space GreaterThan a s = GlobalName (SpaceAlone a) s
after_space _ a s = Failed

-- takes_types: is this the word of a type, or of a call that takes a type?
abbrev pub step : (List ℕ → Bool) → Reader → Token → Reader
step takes_types Failed t = Failed
step takes_types (Expect s) t = expected_token t s
step takes_types (Got e s) t = at_mark (λ m. got_mark takes_types m e s) t
step takes_types (ExpectOperand op s) t = at_mark (λ m. expect_operand m op s) t
step takes_types (ExpectMember e s) t = expect_member t e s
step takes_types (GotIndex e n s) t = at_mark (λ m. got_index m e n s) t
step takes_types (GotNumberArgument c done negative n s) t = at_mark (λ m. got_number_argument m c done negative n s) t
step takes_types (AfterArgument c done s) t = at_mark (λ m. after_argument_mark m c done s) t
step takes_types (InLeastLong s) t = in_least_long t s
step takes_types (ExpectType s) t = expect_type t s
step takes_types (GotType c s) t = at_mark (λ m. got_type m c s) t
step takes_types (AfterPart w done s) t = at_mark (λ m. after_part m w done s) t
step takes_types (LetName s) t = let_name t s
step takes_types (AfterLetName w s) t = at_mark (λ m. after_let_name m w s) t
step takes_types (ExpectBrace s) t = at_mark (λ m. expect_brace m s) t
step takes_types (ExpectEnd st s) t = at_mark (λ m. expect_end m st s) t
step takes_types (AfterBreak s) t = at_mark (λ m. after_break m s) t
step takes_types (CloseTwice st s) t = CloseOnce st s
step takes_types (CloseOnce st s) t = add_statement st s
step takes_types (AtCase e done s) t = at_mark (λ m. at_case m e done s) t
step takes_types (ExpectCaseValue e done case_values s) t = expect_case_value t e done case_values s
step takes_types (AfterCaseValue e done case_values l s) t = at_mark (λ m. after_case_value m e done case_values l s) t
step takes_types (FunctionName s) t = at_word (λ w. AfterFunctionName w s) t
step takes_types (AfterFunctionName w s) t = ExpectParameter (InParameters w [] [] s)
step takes_types (ExpectParameter s) t = expect_parameter t s
step takes_types (AfterParameterName w s) t = after_parameter_name w s
step takes_types (AfterParameters f parameters s) t = at_mark (λ m. after_parameters m f parameters s) t
step takes_types (ExpectResult s) t = expect_result t s
step takes_types (LocalName s) t = at_word (λ w. AfterLocalName w s) t
step takes_types (AfterLocalName w s) t = ExpectType (InLocalType w s)
step takes_types (AttributeName s) t = attribute_name t s
step takes_types (AttributeOpen kind s) t = ExpectAttributePart kind [] s
step takes_types (ExpectAttributePart kind done s) t = expect_attribute_part t kind done s
step takes_types (AfterAttributePart kind done s) t = at_mark (λ m. after_attribute_part m kind done s) t
step takes_types (EnableName s) t = at_word (λ w. AfterEnable w s) t
step takes_types (AfterEnable w s) t = add_enable w s
step takes_types (StructName s) t = at_word (λ w. AfterStructName w s) t
step takes_types (AfterStructName w s) t = ExpectMemberName (InMembers w [] [] s)
step takes_types (ExpectMemberName s) t = expect_member_name t s
step takes_types (AfterMemberName w s) t = ExpectType (InMemberType w s)
step takes_types (ConstantName s) t = at_word (λ w. AfterConstantName w s) t
step takes_types (AfterConstantName w s) t = ExpectType (InConstantType w s)
step takes_types (OverrideName s) t = at_word (λ w. AfterOverrideName w s) t
step takes_types (AfterOverrideName w s) t = ExpectType (InOverrideType w s)
step takes_types (AfterVar s) t = after_var t s
step takes_types (ExpectSpace s) t = at_word (λ a. AfterSpace a s) t
step takes_types (AfterSpace a s) t = at_mark (λ m. after_space m a s) t
step takes_types (ExpectAccess a s) t = at_word (λ m. AfterAccess a m s) t
step takes_types (AfterAccess a m s) t = GlobalName (SpaceAndAccess a m) s
step takes_types (GlobalName space s) t = at_word (λ w. AfterGlobalName space w s) t
step takes_types (AfterGlobalName space w s) t = ExpectType (InGlobalType space w s)

abbrev pub run : (List ℕ → Bool) → List Piece → Reader → Reader
run takes_types [] state = state
run takes_types (TokenPiece t ∷ pieces) state = run takes_types pieces (step takes_types state t)
run takes_types (Blank ∷ pieces) state = run takes_types pieces state
run takes_types (LineEnd ∷ pieces) state = run takes_types pieces state
run takes_types (Indent n ∷ pieces) state = run takes_types pieces state
