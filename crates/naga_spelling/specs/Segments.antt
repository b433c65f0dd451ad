-- Texts in segments: words, debug texts, and what a context refuses.
use Rattle.std.specs.Prelude.{◌≡◌, ℕ, Bool, true, false, List, [], ◌∷◌, ◌++◌, Option, Some, None}
use Rattle.std.specs.Option.{option_map}
use Rattle.naga_spelling.specs.Sink.{IsAfter}

-- a segment of a spelling
pub data Segment : Type 0 where
  -- these bytes
  Word : List ℕ → Segment
  -- the debug text of what has no form
  Shown : Segment
  -- nothing, since the context refuses what has no form
  Missing : Segment

-- a debug text between two words
abbrev pub shown_between : List ℕ → List ℕ → List Segment
shown_between head tail = Word head ∷ Shown ∷ Word tail ∷ []

-- three words
abbrev pub three : List ℕ → List ℕ → List ℕ → List Segment
three first second third = Word first ∷ Word second ∷ Word third ∷ []

-- The bytes are a text of these segments. It says nothing of debug texts.
pub data IsText : List Segment → List ℕ → Type 0 where
  NoSegments : IsText [] []
  WordThen : (word : List ℕ) {segments : List Segment} {bytes : List ℕ} → IsText segments bytes
      → IsText (Word word ∷ segments) (word ++ bytes)
  ShownThen : (debug : List ℕ) {segments : List Segment} {bytes : List ℕ} → IsText segments bytes
      → IsText (Shown ∷ segments) (debug ++ bytes)

-- the text of segments that are words alone
abbrev pub known_text : List Segment → Option (List ℕ)
known_text [] = Some []
known_text (Word word ∷ segments) = option_map (λ bytes. word ++ bytes) (known_text segments)
known_text (_ ∷ segments) = None

-- Is a segment of it refused?
abbrev pub lacks : List Segment → Bool
lacks [] = false
lacks (Missing ∷ segments) = true
lacks (_ ∷ segments) = lacks segments

-- It is refused for want of a form: the context refuses such segments, and one is missing.
abbrev pub IsRefused : (refuses : Bool) → List Segment → Type 0
IsRefused refuses segments = (refuses ≡ true) × (lacks segments ≡ true)

-- the segments before the first that is refused
abbrev pub before_missing : List Segment → List Segment
before_missing [] = []
before_missing (Missing ∷ segments) = []
before_missing (segment ∷ segments) = segment ∷ before_missing segments

-- A text of the segments stands after what was held before.
pub record HasWritten (segments : List Segment) (content now : List ℕ) : Type 0 where
  pub text : List ℕ
  pub is_text : IsText segments text
  pub following : now ≡ content ++ text

-- A beginning of a text of the segments before the first that is refused stands after what was
-- held before.
pub record HasBegun (segments : List Segment) (content now : List ℕ) : Type 0 where
  pub whole : List ℕ
  pub is_text : IsText (before_missing segments) whole
  pub following : IsAfter content whole now
