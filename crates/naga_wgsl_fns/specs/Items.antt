-- What is promised of a call that writes one function of a module.
--
-- Throughout, m is the module, earlier are labels that were named before, ty says which of its
-- functions is meant and number is that of it, flags say how it is written, and explicit says
-- whether `let`s tell types.
use Rattle.std.specs.Prelude.{◌≡◌, ⊤, ℕ, ◌<◌, ◌++◌, Bool, false, List, [], ◌⊎◌, Ok, Err, IfErr}
use Rattle.std.specs.Prelude.{IsFalse, IsTrue, None, OnErr, OnOk, Result, Some, slice_get}
use Rattle.std.specs.Option.{is_some}
use Rattle.indexmap.specs.IndexMap.{values}
use Rattle.naga_ir.specs.declared.module.Constant.{Constant}
use Rattle.naga_ir.specs.declared.module.GlobalVariable.{GlobalVariable}
use Rattle.naga_ir.specs.declared.module.Module.{Module}
use Rattle.naga_info.specs.declared.info.ModuleInfo.{ModuleInfo}
use Rattle.naga_info.specs.declared.info.TypeResolution.TheVariants.{Handle}
use Rattle.naga_naming.specs.Keys.{NameMap}
use Rattle.naga_naming.specs.Naming.{HasNamed, Names}
use Rattle.module_semantics.specs.FunctionLets.{BindsAt}
use Rattle.module_semantics.specs.DeclarationForms.{DeclarationsHaveForms, HeadHasForm}
use Rattle.module_semantics.specs.DeclarationForms.{ItemsHaveForms}
use Rattle.module_semantics.specs.ExpressionLabels.{name_of_label}
use Rattle.module_semantics.specs.FunctionNumbers.{callee_count, function_number}
use Rattle.module_semantics.specs.Faithful.{HasInterfaceOf, RunsAt}
use Rattle.module_semantics.specs.Names.{AreLabelNames, LabelNames, item_labels, labels_named_in}
use Rattle.module_semantics.specs.Names.{named_apart, wgsl_names}
use Rattle.module_semantics.specs.Premises.{ScopesHoldBefore}
use Rattle.module_semantics.specs.Resolution.{ResolvesAt}
use Rattle.module_semantics.specs.Undeclared.{names_undeclared}
use Rattle.module_semantics.specs.Written.{AllWrittenHaveForms, WrittenHaveFormsBefore}
use Rattle.naga_form.specs.Declarations.{program_under}
use Rattle.wgsl_text.specs.Declarations.{Program}
use Rattle.wgsl_text.specs.Functions.{EntryPoint, Function}
use Rattle.wgsl_text.specs.Reading.{HasOneReading, ReadsEntryPoint, ReadsFunction}
use Rattle.wgsl_text.specs.Text.{tokens}
use Rattle.naga_back.specs.declared.context.FunctionType.{FunctionType}
use Rattle.naga_back.specs.declared.context.FunctionType.TheVariants as item
use Rattle.naga_back.specs.declared.flags.WriterFlags.{WriterFlags}
use Rattle.naga_scope.specs.ExpressionNames.{HasNamedSome}
use Rattle.naga_spelling.specs.Contexts.{names_context}
use Rattle.naga_spelling.specs.Segments.{HasWritten}
use Rattle.naga_spelling.specs.Sink.{IsAfter}
use Rattle.naga_spelling.specs.Spelling.{type_segments}
use Rattle.naga_refusals.specs.Errors.{IsSinkWant}
use Rattle.naga_back.specs.Flags.{annotates_types}
use Rattle.naga_wgsl_fns.specs.Functions.{text_under}
use Rattle.naga_wgsl_shared.specs.GlobalExpressions.{RefusesGlobalOnlyFor}
use Rattle.naga_wgsl_shared.specs.Refusals.{NamesHead}
use Rattle.naga_wgsl_fns.specs.PlanRefusals.{HasNamedLabels, IsReasonForNoPlan, IsWritableAt}
use Rattle.naga_refusals.specs.Errors.{TellsOfModule}
use Rattle.naga_refusals.specs.declared.error.Error.{Error}
use Rattle.naga_refusals.specs.declared.error.Error.TheVariants.{FmtError, Memory}

-- with the words and prefixes of WGSL the namer has named the labels of the module's items, and
-- others after them
pub record HasNamedItemsOf (m : Module) (namer : Names) : Type 0 where
  pub later : List (List ℕ)
  pub named : HasNamedLabels m (item_labels m ++ later) namer

-- the names that front ends gave in the function, where these labels were named before
abbrev pub named_following : Module → (earlier : List (List ℕ)) → (number label : ℕ) → List ℕ
named_following m earlier number = name_of_label (wgsl_names m) earlier (labels_named_in m number)

-- the text of the function under these names
abbrev pub text_after :
    Module → ModuleInfo → WriterFlags → (earlier : List (List ℕ)) → (number : ℕ) → List ℕ
text_after m info flags earlier number =
    text_under m info flags (named_following m earlier number) number

-- Why the function is refused, where the sink had failed so often before and has failed so often
-- now: the sink failed, memory ran out, what it takes or gives or its stage has no form, or it has
-- a fault.
abbrev pub IsFunctionRefusal : (explicit : Bool) → Module → ModuleInfo →
    (earlier : List (List ℕ)) → (number : ℕ) → (before now : ℕ) → Error → Type 0
IsFunctionRefusal explicit m info earlier number before now (FmtError e) = IsSinkWant before now e
IsFunctionRefusal explicit m info earlier number before now (Memory e) = ⊤
IsFunctionRefusal explicit m info earlier number before now error =
    NamesHead m number error ⊎ IsReasonForNoPlan explicit m info earlier number error

-- no reason stands in the function
pub record IsWritableFunction (explicit : Bool) (m : Module) (info : ModuleInfo)
    (earlier : List (List ℕ)) (number : ℕ) : Type 0 where
  pub head : HeadHasForm m number
  pub plan : IsWritableAt explicit m info earlier number

-- an error has its reason, and where there is none no reason stands in the function
abbrev pub RefusesFunctionOnlyFor : Result Unit Error → (explicit : Bool) → Module → ModuleInfo →
    (earlier : List (List ℕ)) → (number : ℕ) → (before now : ℕ) → Type 0
RefusesFunctionOnlyFor (Ok _) explicit m info earlier number before now =
    IsWritableFunction explicit m info earlier number
RefusesFunctionOnlyFor (Err error) explicit m info earlier number before now =
    IsFunctionRefusal explicit m info earlier number before now error

-- a text stands after what the sink held, and it is read as one function and as no other
pub record AppendsOneFunction (content now : List ℕ) : Type 0 where
  pub text : List ℕ
  pub appended : now ≡ content ++ text
  pub function : Function
  pub reading : HasOneReading ReadsFunction text function

-- the same of an entry point
pub record AppendsOneEntryPoint (content now : List ℕ) : Type 0 where
  pub text : List ℕ
  pub appended : now ≡ content ++ text
  pub entry_point : EntryPoint
  pub reading : HasOneReading ReadsEntryPoint text entry_point

abbrev pub AppendsOne : FunctionType → (content now : List ℕ) → Type 0
AppendsOne (item.Function handle) content now = AppendsOneFunction content now
AppendsOne (item.EntryPoint index) content now = AppendsOneEntryPoint content now

-- ---- what the function means
-- the names of labels where those of this function are named after the earlier ones
abbrev pub names_following : Module → (earlier : List (List ℕ)) → (number : ℕ) → LabelNames
names_following m earlier number = named_apart m number (named_following m earlier number)

-- Names of all labels that are such as they may have, among them those that this function's text
-- has. So one program has the texts of several functions, each of which was written by itself:
-- there are names of this kind for all of them at once (`NamesOfEachAreLabelNames`).
pub record AreNamesOfText (m : Module) (earlier : List (List ℕ)) (number : ℕ) (named : LabelNames) :
    Type 0 where
  pub are : AreLabelNames m named
  pub own : named number ≡ named_following m earlier number

-- What was appended is read as just this function, or this entry point, of the program.
abbrev pub StandsIn : FunctionType → (content now : List ℕ) → Program → Type 0
StandsIn (item.Function handle) content now program =
    (text : List ℕ) → now ≡ content ++ text → (function : Function) →
    ReadsFunction (tokens text) function → slice_get program.functions handle ≡ Some function
StandsIn (item.EntryPoint index) content now program =
    (text : List ℕ) → now ≡ content ++ text → (point : EntryPoint) →
    ReadsEntryPoint (tokens text) point → slice_get program.entry_points index ≡ Some point

-- What was appended stands in the program that is written for the module where labels have these
-- names. But for the interface, nothing is asked of the functions that it can't call, which may
-- have no text at all, and nothing of how what functions take and give is bound.
pub record IsMeantUnder (named : LabelNames) (flags : WriterFlags) (m : Module) (info : ModuleInfo)
    (ty : FunctionType) (content now : List ℕ) : Type 0 where
  pub stands : StandsIn ty content now (program_under named m info flags)
  -- The function has the module's `let`s. No item is asked for its form.
  pub lets : BindsAt named m info (annotates_types flags) (program_under named m info flags)
      (function_number m ty)
  -- Each of its identifiers and words stands for what the module means, and so does each name
  -- outside of functions. Of items only initialisers are asked for forms, for what they themselves
  -- name: those of constants with names, and by themselves those of overrides and variables.
  pub resolution : ResolvesAt named m info (program_under named m info flags)
      (function_number m ty)
  -- It does what the module does, where the types of all variables and the initialisers of all
  -- constants with names have forms, what is written of each function that it may call has forms,
  -- but for the types that `let`s tell there, and the rules of scope hold there. Answers without an
  -- error show all of this where the module has no special types. Of one that has, they don't show
  -- that the type of no variable names a struct which no text declares; that is asked beside.
  pub runs : ItemsHaveForms m →
      WrittenHaveFormsBefore false m info (callee_count m ty) →
      ScopesHoldBefore m info (callee_count m ty) →
      RunsAt m info (program_under named m info flags) (function_number m ty)
  -- The interface of the program is the module's, where all that the module declares and each
  -- function has forms.
  pub interface : DeclarationsHaveForms m → AllWrittenHaveForms (annotates_types flags) m info →
      HasInterfaceOf m info flags (program_under named m info flags)

-- What was appended is meant so under all names of labels among which its own are. There are some:
-- the names of a text of the whole module, with this function's own in their place.
pub record IsMeant (flags : WriterFlags) (m : Module) (info : ModuleInfo) (earlier : List (List ℕ))
    (ty : FunctionType) (content now : List ℕ) : Type 0 where
  pub under : (named : LabelNames) → AreNamesOfText m earlier (function_number m ty) named →
      IsMeantUnder named flags m info ty content now
  pub some : AreNamesOfText m earlier (function_number m ty)
      (names_following m earlier (function_number m ty))

-- What the meaning of a function's runs asks of those that it may call is what an answer without an
-- error shows of each: so it holds where they were written by themselves, under whatever names, and
-- with the types of their `let`s or without them.
abbrev pub AnswersShowFunctions : Type 0
AnswersShowFunctions =
    (m : Module) (info : ModuleInfo) (number : ℕ) →
    ((g : ℕ) → g < number →
    (explicit : Bool) × (earlier : List (List ℕ)) × IsWritableFunction explicit m info earlier g) →
    WrittenHaveFormsBefore false m info number × ScopesHoldBefore m info number

-- the initialiser of each constant with a name got an answer of `write_global_expression` without
-- an error
abbrev pub ConstantsWereWritten : Module → Type 0
ConstantsWereWritten m =
    (i : ℕ) (c : Constant) → slice_get m.constants i ≡ Some c → IsTrue (is_some c.name) →
    (answer : Unit {0}) × (before : ℕ) × (after : ℕ)
    × RefusesGlobalOnlyFor (Ok answer) m c.init before after

-- `TypeContext::write_type` wrote the type in a `WriterTypeContext` of the module with some names
abbrev pub TypeWasWritten : Module → (ty : ℕ) → Type 0
TypeWasWritten m ty =
    (names : NameMap) × (content : List ℕ) × (now : List ℕ)
    × HasWritten (type_segments (names_context m.types names) ty) content now

-- The module has no special types: neither structs that WGSL's own functions give, nor those of
-- external textures. So a text declares all its structs.
pub record HasNoSpecialTypes (m : Module) : Type 0 where
  pub predeclared : values m.special_types.predeclared_types ≡ []
  pub parameters : m.special_types.external_texture_params ≡ None
  pub transfer : m.special_types.external_texture_transfer_function ≡ None

-- What the meaning of a function's runs asks of items is shown by answers without an error, too,
-- but for one thing: that a type was written tells that WGSL spells it, and not whether it names a
-- struct that no text declares. So this is asked beside; the call `names_undeclared` tells it.
abbrev pub AnswersShowItems : Type 0
AnswersShowItems =
    (m : Module) → ConstantsWereWritten m →
    ((i : ℕ) (v : GlobalVariable) → slice_get m.global_variables i ≡ Some v →
    TypeWasWritten m v.ty × IsFalse (names_undeclared m (Handle v.ty))) →
    ItemsHaveForms m

-- In a module without special types such answers show all.
abbrev pub AnswersShowAllOfItems : Type 0
AnswersShowAllOfItems =
    (m : Module) → HasNoSpecialTypes m → ConstantsWereWritten m →
    ((i : ℕ) (v : GlobalVariable) → slice_get m.global_variables i ≡ Some v →
    TypeWasWritten m v.ty) →
    ItemsHaveForms m

-- A call was asked to write the function after the text that its sink held; it answered, and the
-- sink holds another text now. The sink had failed so often before, and has failed so often now.
-- The namer is that after the call.
pub record FunctionWriting (m : Module) (info : ModuleInfo) (flags : WriterFlags)
    (earlier : List (List ℕ)) (ty : FunctionType) (answer : Result Unit Error) (namer : Names)
    (content now : List ℕ) (before after : ℕ) : Type 0 where
  -- It refuses only for a reason that stands in the function, for memory or the sink; and where it
  -- does not, no reason stands there.
  pub refusals : RefusesFunctionOnlyFor answer (annotates_types flags) m info earlier
      (function_number m ty) before after
  -- Otherwise it appends the function's text, which has exactly one reading.
  pub text_ok : OnOk answer
      (now ≡ content ++ text_after m info flags earlier (function_number m ty))
  pub reading : OnOk answer (AppendsOne ty content now)
  -- Where the earlier labels begin with those of the module's items, the text is meant so: its
  -- `let`s, what its identifiers and words stand for, and its runs are the module's, whatever
  -- stands in the functions that it can't call, in any program in which its labels have the names
  -- that they got here.
  pub as_meant : OnOk answer ((later : List (List ℕ)) → earlier ≡ item_labels m ++ later →
      IsMeant flags m info earlier ty content now)
  pub failures_ok : OnOk answer (after ≡ before)
  -- A call that gives up leaves a beginning of it, and nothing where it tells of the module.
  pub text_err : OnErr answer
      (IsAfter content (text_after m info flags earlier (function_number m ty)) now)
  pub untouched : IfErr answer (λ e. TellsOfModule e → (now ≡ content) × (after ≡ before))
  -- The namer has named the labels that front ends gave in the function; where the call gives up,
  -- some first ones of them.
  pub named_ok : OnOk answer (HasNamed namer (earlier ++ labels_named_in m (function_number m ty)))
  pub named_err : OnErr answer
      (HasNamedSome namer earlier (labels_named_in m (function_number m ty)))
