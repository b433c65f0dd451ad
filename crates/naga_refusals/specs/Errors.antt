-- What the writer's errors say.
use Rattle.std.specs.Prelude.{◌≡◌, ⊤, ℕ, ◌<◌, List, codes, string_bytes}
use Rattle.naga_words.specs.declared.error.TypeTextError.{TypeTextError}
use Rattle.naga_words.specs.declared.error.TypeTextError.TheVariants.{Sink, NoForm}
use Rattle.naga_words.specs.declared.error.TypeTextError.TheVariants.{Memory as NoMemory}
use Rattle.naga_naming.specs.declared.error.NamerError.{NamerError}
use Rattle.naga_naming.specs.declared.error.NamerError.TheVariants as namer_error
use Rattle.naga_words.specs.declared.sink.SinkError.{SinkError}
use Rattle.naga_words.specs.declared.sink.SinkError.TheVariants.{Failed, Memory}
use Rattle.naga_refusals.specs.declared.error.Error.{Error}
use Rattle.naga_refusals.specs.declared.error.Error.TheVariants.{Custom as CustomError}
use Rattle.naga_refusals.specs.declared.error.Error.TheVariants.{FmtError}
use Rattle.naga_refusals.specs.declared.error.Error.TheVariants.{Memory as LacksMemory}
use Rattle.naga_refusals.specs.declared.error.Error.TheVariants.{Unimplemented}
use Rattle.naga_refusals.specs.declared.error.Error.TheVariants.{Unsupported}

-- want of memory is told as such, whoever wanted it
abbrev pub error_of_sink : SinkError → Error
error_of_sink Failed = FmtError Failed
error_of_sink (Memory e) = LacksMemory e

-- what was wanting in a text whose types all have forms
abbrev pub IsErrorOf : TypeTextError → Error → Type 0
IsErrorOf (Sink reason) error = error ≡ error_of_sink reason
IsErrorOf (NoMemory reason) error = error ≡ LacksMemory reason
IsErrorOf NoForm error = ⊥

-- why a sink failed
abbrev pub IsSinkWant : (old new : ℕ) → SinkError → Type 0
IsSinkWant old new Failed = old < new
IsSinkWant old new (Memory e) = ⊥

-- why a text was not written to a sink: memory ran out, or the sink failed once more. There is no
-- other reason
abbrev pub IsWant : (old new : ℕ) → Error → Type 0
IsWant old new (FmtError e) = IsSinkWant old new e
IsWant old new (LacksMemory e) = ⊤
IsWant old new _ = ⊥

-- the refusal of what is not written, with this text, or want of memory for it
abbrev pub IsUnimplemented : List ℕ → Error → Type 0
IsUnimplemented text (Unimplemented message) = string_bytes message ≡ text
IsUnimplemented text (LacksMemory e) = ⊤
IsUnimplemented text _ = ⊥

-- the refusal with this text, or want of memory for it
abbrev pub IsCustom : List ℕ → Error → Type 0
IsCustom text (CustomError message) = string_bytes message ≡ text
IsCustom text (LacksMemory e) = ⊤
IsCustom text _ = ⊥

-- the refusal of a value of this kind that has no word, or want of memory for it
abbrev pub IsUnsupported : (kind : List ℕ) → Error → Type 0
IsUnsupported kind (Unsupported told value) = told.now ≡ kind
IsUnsupported kind (LacksMemory e) = ⊤
IsUnsupported kind _ = ⊥

-- what is told where a `Namer` answers an error: of its memory as such, else by name
abbrev pub IsErrorOfNames : NamerError → Error → Type 0
IsErrorOfNames namer_error.Full error = IsCustom (codes "namer is full") error
IsErrorOfNames namer_error.KeyFull error = IsCustom (codes "name key out of range") error
IsErrorOfNames (namer_error.Memory e) error = error ≡ LacksMemory e

-- the error tells of the module, and not of memory or of the sink
abbrev pub TellsOfModule : Error → Type 0
TellsOfModule (FmtError e) = ⊥
TellsOfModule (LacksMemory e) = ⊥
TellsOfModule _ = ⊤
