-- What is promised of the form of a module: a word for each law.
--
-- Throughout, m is a module, flags say how it is written, t is a type's tree, r a type of an
-- expression, and n are the names that types are spelled with.
use Rattle.std.specs.Prelude.{◌≡◌, ◌↔◌, ℕ, ◌++◌, ◌∷◌, List, Some, None, IsTrue, true, false, Bool}
use Rattle.std.specs.Prelude.{length}
use Rattle.std.specs.List.{list_all}
use Rattle.std.specs.Option.{option_map}
use Rattle.naga_ir.specs.declared.expression.Literal.{Literal}
use Rattle.naga_ir.specs.declared.module.Function.{Function}
use Rattle.naga_ir.specs.declared.module.Module.{Module}
use Rattle.naga_ir.specs.declared.types.ArraySize.{ArraySize}
use Rattle.naga_ir.specs.declared.types.TypeInner.{TypeInner}
use Rattle.naga_ir.specs.declared.types.TypeInner.TheVariants as inners
use Rattle.naga_ir.specs.declared.types.Type_.{Type_}
use Rattle.naga_info.specs.declared.info.ExpressionInfo.{ExpressionInfo}
use Rattle.naga_info.specs.declared.info.ModuleInfo.{ModuleInfo}
use Rattle.naga_info.specs.declared.info.TypeResolution.{TypeResolution}
use Rattle.naga_info.specs.declared.info.TypeResolution.TheVariants as resolutions
use Rattle.naga_spelling.specs.Contexts.{Names, writer_context}
use Rattle.naga_spelling.specs.Segments.{Segment, IsText, known_text, lacks}
use Rattle.naga_spelling.specs.Spelling.{inner_segments, type_segments}
use Rattle.wgsl_text.specs.Types.{TypeSpecifier, IsType}
use Rattle.naga_form.specs.Functions.{function_form}
use Rattle.wgsl_text.specs.Declarations.{Program, IsProgram}
use Rattle.naga_form.specs.Declarations.{program_under}
use Rattle.wgsl_text.specs.Reading.{HasOneReading, ReadsType, printed_type}
use Rattle.wgsl_text.specs.Requests.{is_request}
use Rattle.shader_runs.specs.Form.{form_function, form_module}
use Rattle.shader_runs.specs.Points.{PointsAgreeIn}
use Rattle.shader_runs.specs.Premises.{IsTyped, SettingsFit}
use Rattle.shader_runs.specs.Results.{ResultsAreReturnedIn}
use Rattle.shader_runs.specs.Scope.{Naming}
use Rattle.shader_runs.specs.Value.{Value}
use Rattle.shader_runs.specs.World.{Meaning, Settings}
use Rattle.text_semantics.specs.Abstraction.{function_read, program_read}
use Rattle.module_semantics.specs.acceptance.Accepted.{is_accepted}
use Rattle.module_semantics.specs.AlikeTypes.{are_alike}
use Rattle.module_semantics.specs.FunctionLets.{BindsAt, BindsUnder}
use Rattle.module_semantics.specs.DeclarationForms.{DeclarationsHaveForms, IsInitialiser}
use Rattle.module_semantics.specs.DeclarationForms.{ItemsHaveForms}
use Rattle.module_semantics.specs.ExpressionForms.{global_has_form}
use Rattle.module_semantics.specs.Faithful.{HasInterfaceOf, RunsAs, RunsAt}
use Rattle.module_semantics.specs.FunctionNumbers.{callee_count, function_type}
use Rattle.module_semantics.specs.Written.{AllWrittenHaveForms, WrittenHaveForms}
use Rattle.module_semantics.specs.Written.{WrittenHaveFormsAt, WrittenHaveFormsBefore}
use Rattle.module_semantics.specs.acceptance.InfoSizes.{type_is_fit, resolution_is_fit}
use Rattle.module_semantics.specs.Interface.{global_expression_value}
use Rattle.module_semantics.specs.Layouts.{KeepsLayouts, TellsLayouts}
use Rattle.module_semantics.specs.Literals.{literal_value, with_bits}
use Rattle.module_semantics.specs.Meanings.{OperatorsAreConsistent, HasTypedMeaning, HasTypedWorld}
use Rattle.module_semantics.specs.Meanings.{IsNeverStuck, NoRunIsStuck}
use Rattle.module_semantics.specs.ExpressionLabels.{name_of_label}
use Rattle.module_semantics.specs.Names.{AreLabelNames, expression_name, item_labels, LabelNames}
use Rattle.module_semantics.specs.Names.{ItemsAreDistinguished, labels_named_in, module_names}
use Rattle.module_semantics.specs.Names.{named_apart, wgsl_names}
use Rattle.module_semantics.specs.acceptance.Ranges.{resolution_fits}
use Rattle.module_semantics.specs.Premises.{handles_are_counted, scope_holds, ScopeHoldsIn}
use Rattle.module_semantics.specs.Premises.{ScopesHold, ScopesHoldBefore}
use Rattle.module_semantics.specs.Resolution.{ResolvesAt, ResolvesUnder}
use Rattle.module_semantics.specs.ModuleShapes.{module_shape}
use Rattle.module_semantics.specs.Namings.{function_naming, namings_under, outer_names}
use Rattle.module_semantics.specs.TypeIdentity.{identity}
use Rattle.module_semantics.specs.Types.{spelled_resolution, type_names, type_of_values}
use Rattle.module_semantics.specs.OperatorTable.{Operator, TypeIsSound, asks, is_distinguished}
use Rattle.module_semantics.specs.OperatorTable.{one_word}
use Rattle.module_semantics.specs.OperatorTable.{operand_count, operator_word, run_word}
use Rattle.naga_form.specs.ConstantForms.{global_form}
use Rattle.naga_form.specs.GlobalValues.{HasValueOf}
use Rattle.naga_form.specs.Readable.{AreAlike, AreNamed, ResolutionIsWithin, handle_names}
use Rattle.naga_form.specs.Readable.{is_readable}
use Rattle.naga_form.specs.TypeTrees.{inner_tree, resolution_tree, type_tree}
use Rattle.naga_back.specs.declared.flags.WriterFlags.{WriterFlags}
use Rattle.naga_back.specs.Flags.{annotates_types}

-- of an accepted module of which all that it declares has a form, and all that is written of its
-- functions, and of what is written for it with whatever flags, under whatever names of the labels
-- that front ends gave
abbrev pub OfAccepted :
    (LabelNames → Module → ModuleInfo → WriterFlags → Program → Type 0) → Type 0
OfAccepted Holds =
    (m : Module) (info : ModuleInfo) (flags : WriterFlags) (named : LabelNames) →
    IsTrue (is_accepted m info) → DeclarationsHaveForms m →
    AllWrittenHaveForms (annotates_types flags) m info →
    Holds named m info flags (program_under named m info flags)

-- the same where the rules of scope hold and the names of labels are such as they may have
abbrev pub OfAcceptedInScope : (LabelNames → Module → ModuleInfo → Program → Type 0) → Type 0
OfAcceptedInScope Holds =
    (m : Module) (info : ModuleInfo) (flags : WriterFlags) (named : LabelNames) →
    AreLabelNames m named → IsTrue (is_accepted m info) → DeclarationsHaveForms m →
    AllWrittenHaveForms (annotates_types flags) m info → ScopesHold m info →
    Holds named m info (program_under named m info flags)

-- the names that labels have in a text of the whole module are such as they may have
abbrev pub NamesAreLabelNames : Type 0
NamesAreLabelNames = (m : Module) → AreLabelNames m (expression_name m)

-- and so they are where those of one function are named after any others, in front of which those
-- of the module's items are named
abbrev pub NamesAfterAreLabelNames : Type 0
NamesAfterAreLabelNames =
    (m : Module) (number : ℕ) (later : List (List ℕ)) →
    AreLabelNames m
    (named_apart m number
    (name_of_label (wgsl_names m) (item_labels m ++ later) (labels_named_in m number)))

-- and where those of each are named so, each after others of its own
abbrev pub NamesOfEachAreLabelNames : Type 0
NamesOfEachAreLabelNames =
    (m : Module) (later : (number : ℕ) → List (List ℕ)) →
    AreLabelNames m
    (λ number. name_of_label (wgsl_names m) (item_labels m ++ later number) (labels_named_in m number))

-- the program is one of the grammar, so that its text has one reading
abbrev pub IsAProgram : Type 0
IsAProgram =
    (m : Module) (info : ModuleInfo) (flags : WriterFlags) (named : LabelNames) →
    AreLabelNames m named → IsTrue (is_accepted m info) → DeclarationsHaveForms m →
    AllWrittenHaveForms (annotates_types flags) m info → IsTrue (handles_are_counted m) →
    IsProgram (program_under named m info flags)

-- it declares what the module declares
abbrev pub HasTheInterface : Type 0
HasTheInterface = OfAccepted (λ named m info flags. HasInterfaceOf m info flags)

-- in memory each of its structs stands as in the module, if its members' offsets are to be kept
abbrev pub KeepsTheLayouts : Type 0
KeepsTheLayouts = OfAccepted (λ named m info flags. KeepsLayouts m)

-- and what users are told of it is how it stands there
abbrev pub TellsTheLayouts : Type 0
TellsTheLayouts = OfAccepted (λ named m info flags. TellsLayouts m)

-- Each initialiser of the module that has a form has a value, under all values of overrides of
-- their types and every typed meaning of operators, so that the interface tells one.
abbrev pub InitialisersHaveValues : Type 0
InitialisersHaveValues =
    (m : Module) (info : ModuleInfo) → IsTrue (is_accepted m info) →
    let shape = module_shape m info in
    (settings : Settings) → SettingsFit shape settings →
    (meaning : Meaning) → IsTyped shape meaning →
    (handle : ℕ) → IsInitialiser m handle → IsTrue (global_has_form m handle) →
    (v : Value) × (global_expression_value m info settings meaning handle ≡ Some v)

-- There is a value of any of the module's own expressions that has a form. What is written of it
-- has that value, as an initialiser in what is written for the module, where the initialisers of
-- constants with names have forms. Nothing is asked of variables and functions.
abbrev pub GlobalsHaveTheirValues : Type 0
GlobalsHaveTheirValues =
    (m : Module) (info : ModuleInfo) (flags : WriterFlags) (named : LabelNames) →
    IsTrue (is_accepted m info) →
    (handle : ℕ) → IsTrue (global_has_form m handle) →
    HasValueOf m info handle (program_under named m info flags)
    (global_form m (type_names m) handle)

-- each of its identifiers and words stands for what it was written for
abbrev pub ResolvesAsMeant : Type 0
ResolvesAsMeant = OfAcceptedInScope ResolvesUnder

-- its `let`s are those of the emitted handles that are bound and of the results of statements, each
-- under its handle's name, and each tells its handle's type where types are to be told
abbrev pub BindsAsCounted : Type 0
BindsAsCounted = OfAccepted (λ named m info flags program.
    BindsUnder named m info (annotates_types flags) program)

-- what is written of a function, of which what is written has a form, is read as its shape is
-- written, whatever the module declares, whatever type is known of each of its expressions and of
-- the module's, and under whatever names front ends gave
abbrev pub FunctionsAreRead : Type 0
FunctionsAreRead =
    (flags : WriterFlags) (named : ℕ → List ℕ) (m : Module) (info : ModuleInfo) (g : ℕ) →
    (f : Function) (es : List ExpressionInfo) →
    length m.global_expressions ≡ length info.const_expression_types.items →
    WrittenHaveForms (annotates_types flags) m info f es →
    length f.expressions ≡ length es →
    function_read (function_form flags (module_names m) named m info g f es)
    ≡ form_function (function_naming (module_names m) named m info g f es)

-- what the program does is what the program of shapes says that is written for the module
abbrev pub IsReadAsItsShapes : Type 0
IsReadAsItsShapes = OfAccepted (λ named m info flags program.
    program_read program
    ≡ form_module (module_shape m info) (outer_names (module_names m) m)
    (namings_under named (module_names m) m info))

-- it does what the module does
abbrev pub RunsAsTheModule : Type 0
RunsAsTheModule = OfAcceptedInScope (λ named. RunsAs)

-- ---- one function
-- Of one function of an accepted module, under any names of labels: it has the module's `let`s
-- where all that is written of it has forms, whatever stands in the others.
abbrev pub OneBinds : Type 0
OneBinds =
    (m : Module) (info : ModuleInfo) (flags : WriterFlags) (named : LabelNames) →
    IsTrue (is_accepted m info) → (number : ℕ) →
    WrittenHaveFormsAt (annotates_types flags) m info number →
    BindsAt named m info (annotates_types flags) (program_under named m info flags) number

-- what holds of one function, whatever stands in the others
abbrev pub OfOne : (LabelNames → WriterFlags → Module → ModuleInfo → ℕ → Type 0) → Type 0
OfOne Holds =
    (m : Module) (info : ModuleInfo) (flags : WriterFlags) (named : LabelNames) →
    IsTrue (is_accepted m info) → AreLabelNames m named →
    (number : ℕ) → Holds named flags m info number

-- Its identifiers and words stand for what they were written for, where all that is written of it
-- has forms and the rules of scope hold in it, whatever the module declares. So do those of the
-- module's items, but that initialisers are asked for their forms: `ResolvesAt` says which.
abbrev pub OneResolves : Type 0
OneResolves = OfOne (λ named flags m info number.
    WrittenHaveFormsAt (annotates_types flags) m info number → ScopeHoldsIn m info number →
    ResolvesAt named m info (program_under named m info flags) number)

-- It does what the module does, where this is asked of it and of those that it may call, and the
-- types of variables and the initialisers of constants with names have forms. Of those that it may
-- call the types that `let`s tell may have none.
abbrev pub OneRuns : Type 0
OneRuns = OfOne (λ named flags m info number.
    let callees = callee_count m (function_type m number) in
    ItemsHaveForms m →
    WrittenHaveFormsAt (annotates_types flags) m info number → ScopeHoldsIn m info number →
    WrittenHaveFormsBefore false m info callees → ScopesHoldBefore m info callees →
    RunsAt m info (program_under named m info flags) number)

-- the check of scope decides the rules
abbrev pub ScopesAreChecked : Type 0
ScopesAreChecked =
    (m : Module) (info : ModuleInfo) → IsTrue (is_accepted m info) →
    (IsTrue (scope_holds m info) ↔ ScopesHold m info)

-- The operators of every accepted module are typed consistently, so that some meaning gives each a
-- value of its type.
abbrev pub IsConsistent : Type 0
IsConsistent =
    (m : Module) (info : ModuleInfo) → IsTrue (is_accepted m info) → OperatorsAreConsistent m info

abbrev pub HasAMeaning : Type 0
HasAMeaning =
    (m : Module) (info : ModuleInfo) → IsTrue (is_accepted m info) → HasTypedMeaning m info

-- what is spelled by a name is told by it: the names of a module tell its structs, overrides and
-- members apart
abbrev pub NamesTell : Type 0
NamesTell = (m : Module) → ItemsAreDistinguished m

-- What holds of every accepted module in which the rules of scope hold, whether a text is written
-- for it or not.
abbrev pub OfEveryInScope : (Module → ModuleInfo → Type 0) → Type 0
OfEveryInScope Holds =
    (m : Module) (info : ModuleInfo) → IsTrue (is_accepted m info) → ScopesHold m info →
    Holds m info

-- A world can be given, made of the module, the settings and the meaning, that answers by the right
-- types in every run of the module. The only modules that are left break a rule of scope. A loop
-- whose turns make no event may count them there: what a turn leaves to the next one is then more
-- than what is in scope. So with more turns of the loop a run may ask for something after the same
-- events, and no number of turns is enough to tell whether it does.
abbrev pub HasAWorld : Type 0
HasAWorld = OfEveryInScope HasTypedWorld

-- neither the module's runs nor those of its program are stuck
abbrev pub IsNotStuck : Type 0
IsNotStuck = OfAcceptedInScope (λ named. IsNeverStuck)

-- no run of the module is
abbrev pub EveryIsNotStuck : Type 0
EveryIsNotStuck = OfEveryInScope NoRunIsStuck

-- In each function and entry point, after those before it and in front of the later ones, both runs
-- pass the same points: there a handle in scope that is bound has the module's value under its
-- name, and what is written for any other handle in scope gives that value.
abbrev pub PointsAgreeThere : Type 0
PointsAgreeThere = OfAcceptedInScope (λ named m info program.
    (later : List Naming) (f : Naming) (fs : List Naming) →
    namings_under named (module_names m) m info ≡ later ++ (f ∷ fs) →
    PointsAgreeIn (module_shape m info) (outer_names (module_names m) m) later f fs)

-- where each function with a result returns a value on all paths, no call of an accepted module
-- misses a result, whatever is in scope there
abbrev pub GivesResults : Type 0
GivesResults =
    (m : Module) (info : ModuleInfo) → IsTrue (is_accepted m info) →
    ResultsAreReturnedIn (module_shape m info)

-- two types without a spelling have values of one type only where they are told by the same
abbrev pub UnspelledAreDistinguished : Type 0
UnspelledAreDistinguished =
    (m : Module) (a b : TypeResolution) →
    spelled_resolution (type_names m) a ≡ None → spelled_resolution (type_names m) b ≡ None →
    type_of_values m a ≡ type_of_values m b → identity m.types a ≡ identity m.types b

-- two types that an accepted module may know of its expressions have values of one type exactly
-- where acceptance takes them for alike
abbrev pub AlikeAreDistinguished : Type 0
AlikeAreDistinguished =
    (m : Module) (info : ModuleInfo) → IsTrue (is_accepted m info) →
    (a b : TypeResolution) → IsTrue (resolution_fits (length m.overrides) (length m.types) a) →
    IsTrue (resolution_fits (length m.overrides) (length m.types) b) →
    (type_of_values m a ≡ type_of_values m b) ↔ IsTrue (are_alike m.types a b)

-- two literals have one value exactly where they are one, with the bits that a numeral denotes in
-- its place
abbrev pub LiteralsAreDistinguished : Type 0
LiteralsAreDistinguished =
    (a b : Literal) → (literal_value a ≡ literal_value b) ↔ (with_bits a ≡ with_bits b)

-- what the runs call two operators is one word only where `one_word` sends them to one
abbrev pub WordsAreDistinguished : Type 0
WordsAreDistinguished =
    (a b : Operator) → TypeIsSound a → TypeIsSound b → run_word a ≡ run_word b →
    one_word a ≡ one_word b

-- and these do share it
abbrev pub OneWordsStay : Type 0
OneWordsStay = (a : Operator) → run_word (one_word a) ≡ run_word a

-- the number of operands tells apart those that share a word, but for a few
abbrev pub OperandsAreDistinguished : Type 0
OperandsAreDistinguished =
    (a b : Operator) → IsTrue (is_distinguished a) → IsTrue (is_distinguished b) →
    one_word a ≡ one_word b →
    operand_count a ≡ operand_count b → a ≡ b

-- the words that the run of a text takes for requests are those of the operators that ask
abbrev pub RequestsAreDistinguished : Type 0
RequestsAreDistinguished =
    (a : Operator) (word : List ℕ) → TypeIsSound a → operator_word a ≡ Some word →
    is_request word ≡ asks a

-- ---- types

-- the text of a type that has a form is its tree as printed, at a handle and by itself
abbrev pub TextOfAHandle : Type 0
TextOfAHandle =
    (n : Names) (knows : ℕ → Bool) (handle : ℕ) →
    known_text (type_segments (writer_context n knows) handle)
    ≡ option_map printed_type (type_tree n handle)

abbrev pub TextOfAnInner : Type 0
TextOfAnInner =
    (n : Names) (knows : ℕ → Bool) (it : TypeInner) →
    known_text (inner_segments (writer_context n knows) it) ≡ option_map printed_type
    (inner_tree n it)

-- what has parts of a known text has that text alone
abbrev pub TextIsKnown : Type 0
TextIsKnown =
    (parts : List Segment) (bytes text : List ℕ) → IsText parts bytes →
    known_text parts ≡ Some text →
    bytes ≡ text

-- what is refused has none
abbrev pub RefusedIsUnknown : Type 0
RefusedIsUnknown = (parts : List Segment) → lacks parts ≡ true → known_text parts ≡ None

-- of the tree of each type that has one, where structs and overrides have identifiers for names
abbrev pub OfTrees : (TypeSpecifier → Type 0) → Type 0
OfTrees Holds =
    (n : Names) (overrides : ℕ) → AreNamed n overrides →
    (r : TypeResolution) → ResolutionIsWithin overrides r →
    (t : TypeSpecifier) → resolution_tree n r ≡ Some t → Holds t

-- it is a type of the grammar
abbrev pub FormsAreTypes : Type 0
FormsAreTypes = OfTrees IsType

-- and its text is read as it, and as no other
abbrev pub FormsAreRead : Type 0
FormsAreRead = OfTrees (λ t. HasOneReading ReadsType (printed_type t) t)

-- being alike is an equivalence
abbrev pub AlikeItself : Type 0
AlikeItself = (types : List Type_) (a : TypeResolution) → AreAlike types a a

abbrev pub AlikeBack : Type 0
AlikeBack = (types : List Type_) (a b : TypeResolution) → AreAlike types a b → AreAlike types b a

abbrev pub AlikeThrough : Type 0
AlikeThrough =
    (types : List Type_) (a b c : TypeResolution) → AreAlike types a b → AreAlike types b c →
    AreAlike types a c

-- where types have a form that they may have, they are alike by their numbers exactly where they
-- are alike by what they are read as
abbrev pub AlikeByNumbers : Type 0
AlikeByNumbers =
    (types : List Type_) (a b : TypeResolution) → IsTrue (list_all type_is_fit types) →
    IsTrue (resolution_is_fit a) → IsTrue (resolution_is_fit b) →
    (IsTrue (are_alike types a b) ↔ AreAlike types a b)

abbrev pub array_type : ℕ → ArraySize → ℕ → TypeResolution
array_type base size stride = resolutions.Value (inners.Array base size stride)

-- arrays that differ in stride alone are alike
abbrev pub AlikeButStride : Type 0
AlikeButStride =
    (types : List Type_) (base : ℕ) (size : ArraySize) (one other : ℕ) →
    IsTrue (is_readable (handle_names types) (array_type base size one)) →
    AreAlike types (array_type base size one) (array_type base size other)
