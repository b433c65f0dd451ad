-- What a call that writes a text to a sink does, by what the sink held, how often it had failed,
-- and both afterwards.
use Rattle.std.specs.Prelude.{◌≡◌, ℕ, List, ◌++◌, Result, Ok, Err}
use Rattle.naga_spelling.specs.Sink.{IsAfter}
use Rattle.naga_refusals.specs.declared.error.Error.{Error}
use Rattle.naga_refusals.specs.Errors.{IsWant}

-- the text stands after what the sink held, and the sink has not failed
pub record Wrote (content : List ℕ) (failed : ℕ) (text now : List ℕ) (failures : ℕ) : Type 0 where
  pub appended : now ≡ content ++ text
  pub kept : failures ≡ failed

-- a beginning of the text stands there, for want of memory or because the sink failed
pub record StoppedWithin (content : List ℕ) (failed : ℕ) (text now : List ℕ) (failures : ℕ)
    (error : Error) : Type 0 where
  pub following : IsAfter content text now
  pub reason : IsWant failed failures error

-- one or the other, as the answer says
abbrev pub Appends : Result Unit Error → (content : List ℕ) (failed : ℕ) (text now : List ℕ)
    (failures : ℕ) → Type 0
Appends (Ok _) content failed text now failures = Wrote content failed text now failures
Appends (Err error) content failed text now failures =
    StoppedWithin content failed text now failures error
