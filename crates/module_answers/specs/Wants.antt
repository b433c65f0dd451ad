-- Want of memory in the place of an answer.
use Rattle.std.specs.Prelude.{◌≡◌, ◌⊎◌, ⊤, Err, IsErrAnd, Result, alloc_error}
use Rattle.decimal_floats.specs.Decimals.{IsDecimalThroughout}
use Rattle.naga_ir.specs.declared.module.Module.{Module}
use Rattle.naga_refusals.specs.Errors.{TellsOfModule}
use Rattle.naga_refusals.specs.declared.error.Error.{Error}
use Rattle.naga_refusals.specs.declared.error.Error.TheVariants.{Memory}

-- the answer, or where that is an error that tells of the module, that memory was wanting
abbrev pub IsAnswerOrMemory : (answer told : Result Unit Error) → Type 0
IsAnswerOrMemory answer told =
    (told ≡ answer) ⊎ (IsErrAnd answer TellsOfModule × (told ≡ Err (Memory alloc_error)))

-- so it is, unless this answer tells that memory was wanting
abbrev pub UnlessWanting : (answer : Result Unit Error) → Type 0 → Type 0
UnlessWanting (Err (Memory error)) P = ⊤
UnlessWanting _ P = P

-- each finite float of the module has a numeral, unless memory was wanting
abbrev pub IsDecimalUnlessWanting : (answer : Result Unit Error) → Module → Type 0
IsDecimalUnlessWanting answer m = UnlessWanting answer (IsDecimalThroughout m)
