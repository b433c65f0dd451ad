-- What a call that writes to an output does.
use Rattle.std.specs.Prelude.{◌≡◌, ⊤, ℕ, ◌<◌, Bool, List, ◌++◌, Option, Some, None}
use Rattle.naga_spelling.specs.Segments.{Segment, HasBegun, HasWritten, IsRefused}
use Rattle.naga_spelling.specs.Sink.{IsAfter}
use Rattle.naga_words.specs.declared.error.TypeTextError.{TypeTextError}
use Rattle.naga_words.specs.declared.error.TypeTextError.TheVariants.{Sink, Memory, NoForm}
use Rattle.naga_words.specs.declared.output.Output.{Output}
use Rattle.naga_words.specs.declared.sink.SinkError.TheVariants.{Failed, Memory as SinkMemory}

-- what a contract sees of an output: which sink it lends, what that holds, how often that has
-- failed, and the first want, if there was one
pub record OutputView : Type 0 where
  pub sink : ℕ
  pub content : List ℕ
  pub failures : ℕ
  pub want : Option TypeTextError

-- by what a sink shows of itself
abbrev pub output_view : {Sink : Type 0} → (text : Sink → List ℕ) (failures : Sink → ℕ)
    → Output Sink → OutputView
output_view text failures out = record {
  sink = out.sink.ghost_name;
  content = text out.sink.now;
  failures = failures out.sink.now;
  want = out.want;
}

-- the want fits: the sink is said to have failed only where a failure was counted, and a type to
-- have no form only where that may be refused
abbrev pub IsReason : (may_refuse : Type 0) (failed failures : ℕ) → TypeTextError → Type 0
IsReason may_refuse failed failures (Sink Failed) = failed < failures
IsReason may_refuse failed failures (Sink (SinkMemory error)) = ⊤
IsReason may_refuse failed failures (Memory error) = ⊤
IsReason may_refuse failed failures NoForm = may_refuse

-- with no want the text stands after what was held; with one, a beginning of it
abbrev pub HasAppended : (content : List ℕ) (failed : ℕ) (text now : List ℕ) (failures : ℕ)
    → Option TypeTextError → Type 0
HasAppended content failed text now failures None = (now ≡ content ++ text) × (failures ≡ failed)
HasAppended content failed text now failures (Some want) =
    IsAfter content text now × IsReason ⊥ failed failures want

-- after a want nothing is done
abbrev pub AppendsUnlessWanting : Option TypeTextError →
    (before : OutputView) (text : List ℕ) (after : OutputView) → Type 0
AppendsUnlessWanting None before text after =
    HasAppended before.content before.failures text after.content after.failures after.want
AppendsUnlessWanting (Some want) before text after = after ≡ before

-- What a call does that appends this text to an output: nothing after a want; else the sink holds
-- the text, or a beginning of it with a want. The sink stays the same one.
unfoldable pub AppendsText : (before : OutputView) (text : List ℕ) (after : OutputView) → Type 0
AppendsText before text after =
    AppendsUnlessWanting before.want before text after × (after.sink ≡ before.sink)

-- The same as a record, so that the prover's search takes it whole, also where a call promises it
-- of every text.
pub record Wrote (before after : OutputView) (text : List ℕ) : Type 0 where
  pub appends : AppendsText before text after

-- The text is written to an output, or a beginning of it, up to a want, by what the output's sink
-- shows of itself.
abbrev pub Writes : {Sink : Type 0} → (text : Sink → List ℕ) (failures : Sink → ℕ)
    → (before after : Output Sink) → List ℕ → Type 0
Writes text failures before after written =
    Wrote (output_view text failures before) (output_view text failures after) written

-- One text after another. By this word a search sees the segments of a row, where `++` after a
-- literal computes away.
unfoldable pub joined_texts : (first more : List ℕ) → List ℕ
joined_texts first more = first ++ more

-- ---- the same of a text in segments, of which a context that refuses may refuse one
-- with no want a text of the segments stands after what was held; with one, a beginning of one
abbrev pub HasAppendedSegments : (refuses : Bool) (segments : List Segment)
    (before after : OutputView)
    → Option TypeTextError → Type 0
HasAppendedSegments refuses segments before after None =
    HasWritten segments before.content after.content × (after.failures ≡ before.failures)
HasAppendedSegments refuses segments before after (Some want) =
    HasBegun segments before.content after.content ×
    IsReason (IsRefused refuses segments) before.failures after.failures want

-- after a want nothing is done
abbrev pub AppendsSegmentsUnlessWanting : Option TypeTextError → (refuses : Bool)
    (segments : List Segment) → (before after : OutputView) → Type 0
AppendsSegmentsUnlessWanting None refuses segments before after =
    HasAppendedSegments refuses segments before after after.want
AppendsSegmentsUnlessWanting (Some want) refuses segments before after = after ≡ before

-- and the sink is the same
unfoldable pub AppendsSegments : (refuses : Bool) (segments : List Segment)
    (before after : OutputView) → Type 0
AppendsSegments refuses segments before after =
    AppendsSegmentsUnlessWanting before.want refuses segments before after
    × (after.sink ≡ before.sink)

pub record SpelledSegments (refuses : Bool) (before after : OutputView)
    (segments : List Segment) : Type 0 where
  pub appends : AppendsSegments refuses segments before after

-- The segments are written to an output, or a beginning of them, up to a want, which is a refusal
-- only where the context refuses and a segment is missing.
abbrev pub Spells : {Sink : Type 0} → (text : Sink → List ℕ) (failures : Sink → ℕ)
    → (refuses : Bool) (before after : Output Sink) → List Segment → Type 0
Spells text failures refuses before after segments =
    SpelledSegments refuses (output_view text failures before) (output_view text failures after)
    segments
