-- What is promised of a call that writes one of a module's own expressions.
--
-- Throughout, m is the module, and handle is that of the expression.
use Rattle.std.specs.Prelude.{◌≡◌, ⊤, ℕ, ◌++◌, List, IfErr, IsFalse}
use Rattle.std.specs.Prelude.{IsTrue, Ok, Err, OnErr, OnOk, Result}
use Rattle.naga_ir.specs.declared.module.Module.{Module}
use Rattle.naga_info.specs.declared.info.ModuleInfo.{ModuleInfo}
use Rattle.module_semantics.specs.acceptance.Accepted.{is_accepted}
use Rattle.module_semantics.specs.ExpressionForms.{global_has_form}
use Rattle.module_semantics.specs.Names.{LabelNames}
use Rattle.naga_form.specs.Declarations.{program_under}
use Rattle.naga_form.specs.GlobalValues.{HasValueOf}
use Rattle.wgsl_text.specs.Expressions.{Expression}
use Rattle.wgsl_text.specs.Reading.{HasOneReading, ReadsExpression}
use Rattle.wgsl_text.specs.Text.{tokens}
use Rattle.naga_spelling.specs.Sink.{IsAfter}
use Rattle.naga_wgsl_shared.specs.Constants.{global_at, global_text}
use Rattle.naga_refusals.specs.Errors.{IsSinkWant}
use Rattle.naga_wgsl_shared.specs.Refusals.{NamesGlobal}
use Rattle.naga_refusals.specs.Errors.{TellsOfModule}
use Rattle.naga_refusals.specs.declared.error.Error.{Error}
use Rattle.naga_refusals.specs.declared.error.Error.TheVariants.{FmtError, Memory}
use Rattle.naga_back.specs.declared.flags.WriterFlags.{WriterFlags}

-- why it is refused, where the sink had failed so often before and has failed so often now
abbrev pub IsGlobalRefusal : Module → (handle : ℕ) → (before now : ℕ) → Error → Type 0
IsGlobalRefusal m handle before now (FmtError e) = IsSinkWant before now e
IsGlobalRefusal m handle before now (Memory e) = ⊤
IsGlobalRefusal m handle before now error =
    IsFalse (global_has_form m handle) × NamesGlobal m error handle

abbrev pub RefusesGlobalOnlyFor : Result Unit Error → Module → (handle : ℕ) → (before now : ℕ) →
    Type 0
RefusesGlobalOnlyFor (Ok _) m handle before now = IsTrue (global_has_form m handle)
RefusesGlobalOnlyFor (Err error) m handle before now = IsGlobalRefusal m handle before now error

-- However what was appended is read, it has the value of the module's own expression, where it
-- stands as an initialiser in what is written for the module. The module is accepted with what is
-- known of it; there is a value then. That the text has it asks for the forms of the initialisers
-- of all constants with names. Nothing is asked of variables, of the initialisers of overrides, of
-- functions, or of the names of their labels.
abbrev pub AppendsTheValue : Module → (handle : ℕ) → (content now : List ℕ) → Type 0
AppendsTheValue m handle content now =
    (info : ModuleInfo) → IsTrue (is_accepted m info) →
    (flags : WriterFlags) (named : LabelNames) →
    (text : List ℕ) → now ≡ content ++ text →
    (expression : Expression) → ReadsExpression (tokens text) expression →
    HasValueOf m info handle (program_under named m info flags) expression

-- A call was asked to write the expression after the text that its sink held; it answered, and the
-- sink holds another text now. The sink had failed so often before, and has failed so often now.
pub record GlobalWriting (m : Module) (handle : ℕ) (answer : Result Unit Error)
    (content now : List ℕ)
    (before after : ℕ) : Type 0 where
  -- It refuses only for a reason that stands in the expression, for memory or the sink; and where
  -- it does not, no reason stands there.
  pub refusals : RefusesGlobalOnlyFor answer m handle before after
  -- Otherwise it appends the expression's text, which has exactly one reading, its form.
  pub text_ok : OnOk answer (now ≡ content ++ global_text m handle)
  pub reading : OnOk answer
      (HasOneReading ReadsExpression (global_text m handle) (global_at m handle))
  -- It has the expression's value, the same in every world, under all values of overrides of their
  -- types and every typed meaning of operators.
  pub value : OnOk answer (AppendsTheValue m handle content now)
  pub failures_ok : OnOk answer (after ≡ before)
  -- A call that gives up leaves a beginning of it, and nothing where it tells of the module.
  pub text_err : OnErr answer (IsAfter content (global_text m handle) now)
  pub untouched : IfErr answer (λ e. TellsOfModule e → (now ≡ content) × (after ≡ before))
