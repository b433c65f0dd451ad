-- Texts in segments, written one after another to an output, and what a want then says of them.
use Rattle.std.proofs.Common.{◌≡◌, ℕ, ◌<◌, true, false, Bool, List, [], ◌∷◌, ◌++◌, Option, Some}
use Rattle.std.proofs.Common.{None, append_assoc, refl, sym, ap, subst, ◌∙◌}
use Rattle.std.specs.Option.{is_some}
use Rattle.std.proofs.lemmas.List.{append-nil}
use Rattle.naga_words.specs.Output.{AppendsUnlessWanting, AppendsText, IsReason, HasAppended}
use Rattle.naga_words.specs.Output.{AppendsSegmentsUnlessWanting, AppendsSegments}
use Rattle.naga_words.specs.Output.{HasAppendedSegments, OutputView, SpelledSegments, Wrote}
use Rattle.naga_words.proofs.Writing.{after_first, after_then}
use Rattle.naga_spelling.specs.Segments.{Segment, Word, Shown, Missing, IsRefused, lacks}
use Rattle.naga_spelling.specs.Segments.{before_missing, IsText, NoSegments, WordThen, ShownThen}
use Rattle.naga_spelling.specs.Segments.{HasWritten, HasBegun}
use Rattle.naga_words.specs.declared.error.TypeTextError.{TypeTextError}
use Rattle.naga_words.specs.declared.error.TypeTextError.TheVariants.{Sink, Memory, NoForm}
use Rattle.naga_words.specs.declared.sink.SinkError.TheVariants.{Failed, Memory as SinkMemory}

-- ---- texts of segments
text_append : {ps qs : List Segment} {s t : List ℕ} → IsText ps s → IsText qs t
    → IsText (ps ++ qs) (s ++ t)
text_append NoSegments q = q
text_append {t = t} (WordThen w {bytes = b} p) q =
    rw (append_assoc w b t) (WordThen w (text_append p q))
text_append {t = t} (ShownThen d {bytes = b} p) q =
    rw (append_assoc d b t) (ShownThen d (text_append p q))

-- what has a text lacks nothing
before_written : {ps : List Segment} {s : List ℕ} (qs : List Segment) → IsText ps s
    → before_missing (ps ++ qs) ≡ ps ++ before_missing qs
before_written qs NoSegments = refl
before_written qs (WordThen w {segments = ps} p) = ap (λ v. Word w ∷ v) (before_written qs p)
before_written qs (ShownThen d {segments = ps} p) = ap (λ v. Shown ∷ v) (before_written qs p)

-- some text of what stands before the first segment that is refused
some_text : (ps : List Segment) → (s : List ℕ) × IsText (before_missing ps) s
some_text [] = ([], NoSegments)
some_text (Word w ∷ ps) = let r = some_text ps in (w ++ r.0, WordThen w r.1)
some_text (Shown ∷ ps) = let r = some_text ps in ([] ++ r.0, ShownThen [] r.1)
some_text (Missing ∷ ps) = ([], NoSegments)

-- more segments after what was begun
begun_more_text : (ps qs : List Segment) (s : List ℕ) → IsText (before_missing ps) s
    → (t : List ℕ) × IsText (before_missing (ps ++ qs)) (s ++ t)
begun_more_text [] qs s NoSegments = some_text qs
begun_more_text (Word w ∷ ps) qs s (WordThen _ {bytes = b} p) =
    let r = begun_more_text ps qs b p in (r.0, rw (append_assoc w b r.0) (WordThen w r.1))
begun_more_text (Shown ∷ ps) qs s (ShownThen d {bytes = b} p) =
    let r = begun_more_text ps qs b p in (r.0, rw (append_assoc d b r.0) (ShownThen d r.1))
begun_more_text (Missing ∷ ps) qs s NoSegments = ([], NoSegments)

-- segments were written, and then others
segments_then : (ps qs : List Segment) (a b c : List ℕ) → HasWritten ps a b → HasWritten qs b c
    → HasWritten (ps ++ qs) a c
segments_then ps qs a b c p q = record {
  text = p.text ++ q.text;
  is_text = text_append p.is_text q.is_text;
  following = q.following ∙ (ap (λ v. v ++ q.text) p.following ∙ append_assoc a p.text q.text);
}

-- segments were written, and then a beginning of others
segments_then_fail : (ps qs : List Segment) (a b c : List ℕ) → HasWritten ps a b → HasBegun qs b c
    → HasBegun (ps ++ qs) a c
segments_then_fail ps qs a b c p q = record {
  whole = p.text ++ q.whole;
  is_text = rw (before_written qs p.is_text) (text_append p.is_text q.is_text);
  following = after_then a p.text b q.whole c p.following q.following;
}

-- a beginning of segments is one of these and more
segments_fail : (ps qs : List Segment) (a b : List ℕ) → HasBegun ps a b → HasBegun (ps ++ qs) a b
segments_fail ps qs a b p = let r = begun_more_text ps qs p.whole p.is_text in record {
  whole = p.whole ++ r.0;
  is_text = r.1;
  following = after_first a p.whole b r.0 p.following;
}

-- what is written is begun
begun_all : (ps : List Segment) (a b : List ℕ) → HasWritten ps a b → HasBegun ps a b
begun_all ps a b p = record {
  whole = p.text;
  is_text =
      rw (sym (append-nil ps)) (rw (before_written [] p.is_text) (rw (append-nil ps) p.is_text));
  following = (p.text, [], sym (append-nil p.text), p.following);
}

-- nothing is a beginning
pub begun_at_once : (ps : List Segment) (a : List ℕ) → HasBegun ps a a
begun_at_once ps a =
    let r = some_text ps in
    record { whole = r.0; is_text = r.1; following = ([], r.0, refl, sym (append-nil a)) }

-- what lacks a segment at its front, and what lacks one after
lacks_before : (ps qs : List Segment) → lacks ps ≡ true → lacks (ps ++ qs) ≡ true
lacks_before [] qs h = cc
lacks_before (Word w ∷ ps) qs h = lacks_before ps qs h
lacks_before (Shown ∷ ps) qs h = lacks_before ps qs h
lacks_before (Missing ∷ ps) qs h = refl

lacks_after : (ps qs : List Segment) → lacks qs ≡ true → lacks (ps ++ qs) ≡ true
lacks_after [] qs h = h
lacks_after (Word w ∷ ps) qs h = lacks_after ps qs h
lacks_after (Shown ∷ ps) qs h = lacks_after ps qs h
lacks_after (Missing ∷ ps) qs h = refl

-- ---- a row of segments, written to an output
-- a reason of one kind is one of another
pub reason_as : {one other : Type 0} (f : one → other) (failed failures : ℕ) (e : TypeTextError)
    → IsReason one failed failures e → IsReason other failed failures e
reason_as f failed failures (Sink Failed) reason = reason
reason_as f failed failures (Sink (SinkMemory a)) reason = reason
reason_as f failed failures (Memory a) reason = reason
reason_as f failed failures NoForm reason = f reason

module _ (refuses : Bool) (before after : OutputView) where
  module _ (middle : OutputView) (ps qs : List Segment) where
    -- the second segments, where the first stand whole
    after_whole : (want : Option TypeTextError) → HasWritten ps before.content middle.content
        → middle.failures ≡ before.failures → HasAppendedSegments refuses qs middle after want
        → HasAppendedSegments refuses (ps ++ qs) before after want
    after_whole None w kept stand =
        (segments_then ps qs before.content middle.content after.content w stand.0, stand.1 ∙ kept)
    after_whole (Some want) w kept stand = (
      segments_then_fail ps qs before.content middle.content after.content w stand.0,
      reason_as (λ r. (r.0, lacks_after ps qs r.1)) before.failures after.failures want
          (subst (λ n. IsReason (IsRefused refuses qs) n after.failures want) kept stand.1),
    )

    -- and where a beginning of the first does
    after_segment : (want : TypeTextError) → HasAppendedSegments refuses ps before middle (Some want)
        → HasAppendedSegments refuses (ps ++ qs) before middle (Some want)
    after_segment want stand = (
      segments_fail ps qs before.content middle.content stand.0,
      reason_as (λ r. (r.0, lacks_before ps qs r.1)) before.failures middle.failures want stand.1,
    )

    after_middle : (want : Option TypeTextError) → want ≡ middle.want
        → HasAppendedSegments refuses ps before middle want → AppendsSegmentsUnlessWanting want refuses qs middle after
        → HasAppendedSegments refuses (ps ++ qs) before after after.want
    after_middle None is stand follow = after_whole after.want stand.0 stand.1 follow
    after_middle (Some want) is stand follow =
        subst (λ (s : OutputView). HasAppendedSegments refuses (ps ++ qs) before s s.want) (sym follow)
        (subst (λ o. HasAppendedSegments refuses (ps ++ qs) before middle o) is (after_segment want stand))

    follow_then : (want : Option TypeTextError) → want ≡ before.want
        → AppendsSegmentsUnlessWanting want refuses ps before middle
        → AppendsSegmentsUnlessWanting middle.want refuses qs middle after
        → AppendsSegmentsUnlessWanting want refuses (ps ++ qs) before after
    follow_then None is first more = after_middle middle.want refl first more
    follow_then (Some want) is first more =
        let stays : AppendsSegmentsUnlessWanting (Some want) refuses qs middle after =
        subst (λ o. AppendsSegmentsUnlessWanting o refuses qs middle after)
        (ap (λ (s : OutputView). s.want) first ∙ sym is)
        more in
        stays ∙ first

  -- a text that is one segment
  module _ (segment : Segment) (text : List ℕ) (is_text : IsText (segment ∷ []) (text ++ []))
      (known : before_missing (segment ∷ []) ≡ segment ∷ []) where
    stands : (want : Option TypeTextError)
        → HasAppended before.content before.failures text after.content after.failures want
        → HasAppendedSegments refuses (segment ∷ []) before after want
    stands None lies = (
      record {
        text = text ++ [];
        is_text = is_text;
        following = lies.0 ∙ ap (λ t. before.content ++ t) (sym (append-nil text));
      },
      lies.1,
    )
    stands (Some want) lies = (
      record {
        whole = text ++ [];
        is_text = subst (λ ps. IsText ps (text ++ [])) (sym known) is_text;
        following = after_first before.content text after.content [] lies.0;
      },
      reason_as (λ none. absurd none) before.failures after.failures want lies.1,
    )

    follow_one : (want : Option TypeTextError) → AppendsUnlessWanting want before text after
        → AppendsSegmentsUnlessWanting want refuses (segment ∷ []) before after
    follow_one None follows = stands after.want follows
    follow_one (Some want) follows = follows

pub spells_then : {refuses : Bool} {before middle after : OutputView} {ps qs : List Segment}
    → SpelledSegments refuses before middle ps → SpelledSegments refuses middle after qs
    → SpelledSegments refuses before after (ps ++ qs)
unfolding AppendsSegments
spells_then {refuses} {before} {middle} {after} {ps} {qs} w v = record {
  appends = (
    follow_then refuses before after middle ps qs before.want refl w.appends.0 v.appends.0,
    v.appends.1 ∙ w.appends.1,
  );
}

-- what is never refused
pub spells_any : {refuses : Bool} {before after : OutputView} {segments : List Segment}
    → SpelledSegments false before after segments → SpelledSegments refuses before after segments
unfolding AppendsSegments
spells_any {refuses} {before} {after} {segments} w =
    record { appends = (by before.want w.appends.0, w.appends.1) }
  where
    on : (want : Option TypeTextError) → HasAppendedSegments false segments before after want
        → HasAppendedSegments refuses segments before after want
    on None stand = stand
    on (Some want) stand = (
      stand.0,
      reason_as (λ r. absurd (none r.0)) before.failures after.failures want stand.1,
    )
      where
        none : false ≡ true → ⊥
        none e = cc

    by : (want : Option TypeTextError) → AppendsSegmentsUnlessWanting want false segments before after
        → AppendsSegmentsUnlessWanting want refuses segments before after
    by None follow = on after.want follow
    by (Some want) follow = follow

-- a word, or a debug text
pub spells_word : {refuses : Bool} {before after : OutputView} {word : List ℕ} → Wrote before after word
    → SpelledSegments refuses before after (Word word ∷ [])
unfolding AppendsSegments AppendsText
spells_word {refuses} {before} {after} {word} w = record {
  appends = (
    follow_one refuses before after (Word word) word (WordThen word NoSegments) refl before.want
        w.appends.0,
    w.appends.1,
  );
}

pub spells_shown : {refuses : Bool} {before after : OutputView} {debug : List ℕ}
    → Wrote before after debug → SpelledSegments refuses before after (Shown ∷ [])
unfolding AppendsSegments AppendsText
spells_shown {refuses} {before} {after} {debug} w = record {
  appends = (
    follow_one refuses before after Shown debug (ShownThen debug NoSegments) refl before.want
        w.appends.0,
    w.appends.1,
  );
}

-- and then other segments
pub spells_word_then : {refuses : Bool} {before middle after : OutputView} {word : List ℕ}
    {segments : List Segment} → Wrote before middle word →
    SpelledSegments refuses middle after segments
    → SpelledSegments refuses before after (Word word ∷ segments)
spells_word_then {refuses} {before} {middle} {after} {word} w v =
    let first : SpelledSegments refuses before middle (Word word ∷ []) = spells_word w in
    spells_then first v

pub spells_shown_then : {refuses : Bool} {before middle after : OutputView} {debug : List ℕ}
    {segments : List Segment} → Wrote before middle debug →
    SpelledSegments refuses middle after segments
    → SpelledSegments refuses before after (Shown ∷ segments)
spells_shown_then {refuses} {before} {middle} {after} w v =
    let first : SpelledSegments refuses before middle (Shown ∷ []) = spells_shown w in
    spells_then first v

-- nothing is written
pub spells_nothing : {refuses : Bool} (before : OutputView) →
    SpelledSegments refuses before before []
unfolding AppendsSegments
spells_nothing {refuses} before = record { appends = (by before.want refl, refl) }
  where
    by : (want : Option TypeTextError) → want ≡ before.want
        → AppendsSegmentsUnlessWanting want refuses [] before before
    by None is = subst (λ o. HasAppendedSegments refuses [] before before o) is
        (record { text = []; is_text = NoSegments; following = sym (append-nil before.content) }, refl)
    by (Some want) is = refl

-- after a want all segments are written
pub spells_no_more : {refuses : Bool} (before : OutputView) (segments : List Segment)
    → is_some before.want ≡ true → SpelledSegments refuses before before segments
unfolding AppendsSegments
spells_no_more {refuses} before segments some = record { appends = (by before.want some, refl) }
  where
    by : (want : Option TypeTextError) → is_some want ≡ true
        → AppendsSegmentsUnlessWanting want refuses segments before before
    by None some = absurd (cc)
    by (Some want) some = refl

-- ---- a call that writes to the sink of an output without a want
stands_so : (refuses : Bool) (before after : OutputView) (segments : List Segment)
    → is_some before.want ≡ false → after.sink ≡ before.sink
    → HasAppendedSegments refuses segments before after after.want →
    SpelledSegments refuses before after segments
unfolding AppendsSegments
stands_so refuses before after segments fresh same stand =
    record { appends = (by before.want fresh, same) }
  where
    by : (want : Option TypeTextError) → is_some want ≡ false
        → AppendsSegmentsUnlessWanting want refuses segments before after
    by None none = stand
    by (Some want) none = absurd (cc)

pub spells_answered : {refuses : Bool} {before after : OutputView} {segments : List Segment}
    → is_some before.want ≡ false → after.sink ≡ before.sink
    → HasWritten segments before.content after.content → after.failures ≡ before.failures
    → after.want ≡ before.want → SpelledSegments refuses before after segments
spells_answered {refuses} {before} {after} {segments} fresh same w kept want =
    stands_so refuses before after segments fresh same
    (subst (λ o. HasAppendedSegments refuses segments before after o) (sym (want ∙ none before.want fresh))
    (w, kept))
  where
    none : (o : Option TypeTextError) → is_some o ≡ false → o ≡ None
    none None is = refl
    none (Some want) is = absurd (cc)

pub spells_wanting : {refuses : Bool} {before after : OutputView} {segments : List Segment} (e : TypeTextError)
    → is_some before.want ≡ false → after.sink ≡ before.sink → after.want ≡ Some e
    → HasBegun segments before.content after.content
    → (e ≡ NoForm → IsRefused refuses segments)
    → (e ≡ Sink Failed → before.failures < after.failures) →
    SpelledSegments refuses before after segments
spells_wanting {refuses} {before} {after} {segments} e fresh same is begun form failure =
    stands_so refuses before after segments fresh same
    (subst (λ o. HasAppendedSegments refuses segments before after o) (sym is) (begun, by e form failure))
  where
    by : (e : TypeTextError) → (e ≡ NoForm → IsRefused refuses segments)
        → (e ≡ Sink Failed → before.failures < after.failures)
        → IsReason (IsRefused refuses segments) before.failures after.failures e
    by (Sink Failed) form failure = failure refl
    by (Sink (SinkMemory a)) form failure = tt
    by (Memory a) form failure = tt
    by NoForm form failure = form refl

-- ---- an output that had no want at first
from_fresh : (refuses : Bool) (start now : OutputView) (segments : List Segment)
    → SpelledSegments refuses start now segments → start.want ≡ None → (want : Option TypeTextError)
    → now.want ≡ want
    → HasAppendedSegments refuses segments start now want
unfolding AppendsSegments
from_fresh refuses start now segments w fresh want is =
    let follow : AppendsSegmentsUnlessWanting None refuses segments start now =
    subst (λ o. AppendsSegmentsUnlessWanting o refuses segments start now) fresh w.appends.0 in
    subst (λ o. HasAppendedSegments refuses segments start now o) is follow

module _ {refuses : Bool} {start now : OutputView} {segments : List Segment} where
  pub spelled_whole : SpelledSegments refuses start now segments → start.want ≡ None →
      now.want ≡ None
      → HasWritten segments start.content now.content
  spelled_whole w fresh none = (from_fresh refuses start now segments w fresh None none).0

  pub spelled_segment : SpelledSegments refuses start now segments → start.want ≡ None
      → HasBegun segments start.content now.content
  spelled_segment w fresh =
      by now.want (from_fresh refuses start now segments w fresh now.want refl)
    where
      by : (want : Option TypeTextError) → HasAppendedSegments refuses segments start now want
          → HasBegun segments start.content now.content
      by None stand = begun_all segments start.content now.content stand.0
      by (Some want) stand = stand.0

  pub spelled_kept : SpelledSegments refuses start now segments → start.want ≡ None →
      now.want ≡ None
      → now.failures ≡ start.failures
  spelled_kept w fresh none = (from_fresh refuses start now segments w fresh None none).1

  pub spelled_refused : SpelledSegments refuses start now segments → start.want ≡ None
      → now.want ≡ Some NoForm → IsRefused refuses segments
  spelled_refused w fresh some =
      (from_fresh refuses start now segments w fresh (Some NoForm) some).1

  pub spelled_failed : SpelledSegments refuses start now segments → start.want ≡ None
      → now.want ≡ Some (Sink Failed) → start.failures < now.failures
  spelled_failed w fresh some =
      (from_fresh refuses start now segments w fresh (Some (Sink Failed)) some).1

  pub spelled_sink : SpelledSegments refuses start now segments → now.sink ≡ start.sink
  unfolding AppendsSegments
  spelled_sink w = w.appends.1

pub ruleset rows =
    (spells_then, spells_word_then, spells_shown_then, spells_word, spells_shown, spells_any)

pub ruleset lent = (spells_no_more, spells_answered, spells_wanting)

pub ruleset outcomes =
    (spelled_whole, spelled_segment, spelled_kept, spelled_refused, spelled_failed, spelled_sink)
