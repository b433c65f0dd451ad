-- What comes from a sink or from memory, which no refusal of a construct is.
-- Serves `write_formed`, `write_global_expression` and `write_written_global`.
use Rattle.std.proofs.Common.{ℕ, None, Option, Some, subst, sym}
use Rattle.naga_refusals.specs.Constructs.{IsToldAs, IsToldOf}
use Rattle.naga_refusals.specs.Errors.{IsErrorOf, IsWant, TellsOfModule}
use Rattle.naga_refusals.specs.declared.construct.Construct.{Construct}
use Rattle.naga_refusals.specs.declared.construct.Construct.TheVariants as construct
use Rattle.naga_refusals.specs.declared.error.Error.{Error}
use Rattle.naga_refusals.specs.declared.error.Error.TheVariants.{FmtError, Memory}
use Rattle.naga_words.specs.Output.{IsReason}
use Rattle.naga_words.specs.declared.error.TypeTextError.{TypeTextError}
use Rattle.naga_words.specs.declared.error.TypeTextError.TheVariants.{Sink, NoForm}
use Rattle.naga_words.specs.declared.error.TypeTextError.TheVariants.{Memory as NoMemory}
use Rattle.naga_words.specs.declared.sink.SinkError.{SinkError}
use Rattle.naga_words.specs.declared.sink.SinkError.TheVariants.{Failed, Memory as SinkMemory}

-- ---- what a sink or memory says
-- what comes from the sink or from memory tells of no module
pub want_tells_nothing : (before after : ℕ) (error : Error) → IsWant before after error →
    TellsOfModule error → ⊥
want_tells_nothing before after (FmtError e) is tells = tells
want_tells_nothing before after (Memory e) is tells = tells
want_tells_nothing before after _ is tells = is

-- why a text was not written
pub reason_reported : (failed failures : ℕ) (want : TypeTextError) (error : Error)
    → IsReason ⊥ failed failures want → IsErrorOf want error → IsWant failed failures error
reason_reported failed failures (Sink Failed) error reason is =
    subst (IsWant failed failures) (sym is) reason
reason_reported failed failures (Sink (SinkMemory a)) error reason is =
    subst (IsWant failed failures) (sym is) tt
reason_reported failed failures (NoMemory a) error reason is =
    subst (IsWant failed failures) (sym is) tt
reason_reported failed failures NoForm error reason is = absurd reason

-- ---- refusals
-- no refusal that names a construct is the sink's
pub told_no_sink : (it : Construct) (reason : SinkError) → IsToldAs it (FmtError reason) → ⊥
told_no_sink (construct.RelationalFunction fun) reason told = absurd cc
told_no_sink (construct.MathFunction fun) reason told = told
told_no_sink (construct.ScalarType scalar) reason told = told
told_no_sink (construct.BuiltIn value) reason told = told
told_no_sink construct.FloatLiteral reason told = told
told_no_sink construct.Conversion reason told = told
told_no_sink construct.RayQuery reason told = told
told_no_sink construct.SubgroupOperation reason told = told
told_no_sink construct.FallThrough reason told = told
told_no_sink construct.ImageCompareExchange reason told = told
told_no_sink construct.SamplingMethod reason told = told
told_no_sink _ reason told = told

pub named_no_sink : (found : Option Construct) (reason : SinkError) → IsToldOf found (FmtError reason) → ⊥
named_no_sink None reason told = told
named_no_sink (Some it) reason told = told_no_sink it reason told
