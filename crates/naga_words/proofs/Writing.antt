-- Texts written one after another are written together, in rows and in loops, and what a want then
-- says.
use Rattle.std.proofs.Common.{◌≡◌, ℕ, true, List, [], ◌++◌, append_assoc, Option, Some, None}
use Rattle.std.proofs.Common.{refl, sym, ap, ◌∙◌, subst}
use Rattle.std.specs.Option.{is_some}
use Rattle.std.proofs.lemmas.List.{append-nil}
use Rattle.naga_spelling.specs.Sink.{IsAfter}
use Rattle.naga_words.specs.declared.error.TypeTextError.{TypeTextError}
use Rattle.naga_words.specs.declared.error.TypeTextError.TheVariants.{NoForm}
use Rattle.naga_words.specs.Output.{OutputView, IsReason, HasAppended, AppendsUnlessWanting, AppendsText}
use Rattle.naga_words.specs.Output.{Wrote, joined_texts}

-- ---- rows
-- a beginning of the first text is a beginning of both
pub after_first : (content text now more : List ℕ) → IsAfter content text now → IsAfter content (text ++ more) now
after_first content text now more (taken, rest, whole, is) =
    (taken, rest ++ more, ap (λ t. t ++ more) whole ∙ append_assoc taken rest more, is)

-- after the first text, a beginning of the second
pub after_then : (content text middle more now : List ℕ) → middle ≡ content ++ text → IsAfter middle more now →
    IsAfter content (text ++ more) now
after_then content text middle more now at (taken, rest, whole, is) = (
  text ++ taken,
  rest,
  ap (λ t. text ++ t) whole ∙ sym (append_assoc text taken rest),
  is ∙ ap (λ t. t ++ taken) at ∙ append_assoc content text taken,
)

-- the second text, where the first stands whole
after_whole : (content : List ℕ) (failed : ℕ) (text middle more now : List ℕ) (among failures : ℕ)
    (want : Option TypeTextError) → middle ≡ content ++ text → among ≡ failed
    → HasAppended middle among more now failures want →
    HasAppended content failed (text ++ more) now failures want
after_whole content failed text middle more now among failures None at kept lies =
    (lies.0 ∙ ap (λ t. t ++ more) at ∙ append_assoc content text more, lies.1 ∙ kept)
after_whole content failed text middle more now among failures (Some want) at kept lies =
    (after_then content text middle more now at lies.0, subst (λ n. IsReason ⊥ n failures want) kept lies.1)

-- and where a beginning of the first does
after_beginning : (content : List ℕ) (failed : ℕ) (text more : List ℕ) (middle after : OutputView)
    (want : TypeTextError) → HasAppended content failed text middle.content middle.failures (Some want) →
    middle.want ≡ Some want → after ≡ middle
    → HasAppended content failed (text ++ more) after.content after.failures after.want
after_beginning content failed text more middle after want lies is same =
    subst (λ (s : OutputView). HasAppended content failed (text ++ more) s.content s.failures s.want)
    (sym same)
    (subst (λ w. HasAppended content failed (text ++ more) middle.content middle.failures w) (sym is)
    (after_first content text middle.content more lies.0, lies.1))

pub writes_then : {before middle after : OutputView} {first more : List ℕ} → Wrote before middle first →
    Wrote middle after more → Wrote before after (joined_texts first more)
unfolding joined_texts AppendsText
writes_then {before} {middle} {after} {first} {more} w v =
    record { appends = (by before.want refl w.appends.0, v.appends.1 ∙ w.appends.1) }
  where
    on : (want : Option TypeTextError) → want ≡ middle.want →
        HasAppended before.content before.failures first middle.content middle.failures want →
        AppendsUnlessWanting want middle more after
        → HasAppended before.content before.failures (first ++ more) after.content after.failures
        after.want
    on None is lies follows =
        after_whole before.content before.failures first middle.content more after.content middle.failures
        after.failures after.want lies.0 lies.1 follows
    on (Some want) is lies follows = after_beginning before.content before.failures first more middle after want
        lies (sym is) follows

    by : (want : Option TypeTextError) → want ≡ before.want → AppendsUnlessWanting want before first middle →
        AppendsUnlessWanting want before (first ++ more) after
    by None is follows = on middle.want refl follows v.appends.0
    by (Some want) is follows =
        let stays : AppendsUnlessWanting (Some want) middle more after =
        subst (λ o. AppendsUnlessWanting o middle more after) (ap (λ (s : OutputView). s.want) follows ∙ sym is)
        v.appends.0 in
        stays ∙ follows

-- nothing is written
pub writes_nothing : (before : OutputView) → Wrote before before []
unfolding AppendsText
writes_nothing before = record { appends = (by before.want refl, refl) }
  where
    by : (want : Option TypeTextError) → want ≡ before.want → AppendsUnlessWanting want before [] before
    by None is = subst (λ o. HasAppended before.content before.failures [] before.content before.failures o) is
        (sym (append-nil before.content), refl)
    by (Some want) is = refl

-- after a want every text is written
pub writes_no_more : (before : OutputView) (text : List ℕ) → is_some before.want ≡ true → Wrote before before text
unfolding AppendsText
writes_no_more before text some = record { appends = (by before.want some, refl) }
  where
    by : (want : Option TypeTextError) → is_some want ≡ true → AppendsUnlessWanting want before text before
    by None some = absurd (cc)
    by (Some want) some = refl

-- the same text said in another way
pub writes_as : {before after : OutputView} {text same : List ℕ} → text ≡ same → Wrote before after text →
    Wrote before after same
writes_as {before} {after} is w = subst (λ t. Wrote before after t) is w

-- ---- loops: of the whole text, what is left is still to be written
pub record Leaves (start now : OutputView) (whole left : List ℕ) : Type 0 where
  pub with : (after : OutputView) → Wrote now after left → Wrote start after whole

pub leaves_start : (start : OutputView) (whole : List ℕ) → Leaves start start whole whole
leaves_start start whole = record { with = λ after w. w }

-- what is left, said in another way
pub leaves_as : {start now : OutputView} {whole left same : List ℕ} → left ≡ same →
    Leaves start now whole left → Leaves start now whole same
leaves_as {start} {now} {whole} is leaves = subst (λ t. Leaves start now whole t) is leaves

pub leaves_more : (start now next : OutputView) (whole left first more : List ℕ) → Leaves start now whole left →
    left ≡ joined_texts first more → Wrote now next first → Leaves start next whole more
leaves_more start now next whole left first more leaves is w =
    record { with = λ after v. leaves.with after (subst (λ t. Wrote now after t) (sym is) (writes_then w v)) }

-- what is left is written by the last call
pub leaves_last : (start now after : OutputView) (whole left : List ℕ) → Leaves start now whole left →
    Wrote now after left → Wrote start after whole
leaves_last start now after whole left leaves w = leaves.with after w

pub leaves_none : (start now : OutputView) (whole left : List ℕ) → Leaves start now whole left → left ≡ [] →
    Wrote start now whole
leaves_none start now whole left leaves none =
    leaves.with now (subst (λ t. Wrote now now t) (sym none) (writes_nothing now))

-- after a want nothing is left to be done
pub leaves_wanting : (start now : OutputView) (whole left : List ℕ) → Leaves start now whole left →
    is_some now.want ≡ true → Wrote start now whole
leaves_wanting start now whole left leaves some = leaves.with now (writes_no_more now left some)

pub ruleset loop_writes = (leaves_start, leaves_more, leaves_none, leaves_wanting)

-- ---- an output that had no want at first
from_fresh : (start now : OutputView) (text : List ℕ) → Wrote start now text → start.want ≡ None →
    (want : Option TypeTextError) → now.want ≡ want
    → HasAppended start.content start.failures text now.content now.failures want
unfolding AppendsText
from_fresh start now text w fresh want is =
    let follows : AppendsUnlessWanting None start text now =
    subst (λ o. AppendsUnlessWanting o start text now) fresh w.appends.0 in
    subst (λ o. HasAppended start.content start.failures text now.content now.failures o) is follows

pub same_sink : (start now : OutputView) (text : List ℕ) → Wrote start now text → now.sink ≡ start.sink
unfolding AppendsText
same_sink start now text w = w.appends.1

pub content_whole : (start now : OutputView) (text : List ℕ) → Wrote start now text → start.want ≡ None →
    now.want ≡ None → now.content ≡ start.content ++ text
content_whole start now text w fresh none = (from_fresh start now text w fresh None none).0

pub never_failed : (start now : OutputView) (text : List ℕ) → Wrote start now text → start.want ≡ None →
    now.want ≡ None → now.failures ≡ start.failures
never_failed start now text w fresh none = (from_fresh start now text w fresh None none).1

pub content_begun : (start now : OutputView) (text : List ℕ) (want : TypeTextError) → Wrote start now text →
    start.want ≡ None → now.want ≡ Some want → IsAfter start.content text now.content
content_begun start now text want w fresh some =
    (from_fresh start now text w fresh (Some want) some).0

pub reason_known : (start now : OutputView) (text : List ℕ) (want : TypeTextError) → Wrote start now text →
    start.want ≡ None → now.want ≡ Some want → IsReason ⊥ start.failures now.failures want
reason_known start now text want w fresh some = (from_fresh start now text w fresh (Some want) some).1

-- and no text lacks a form
pub never_unsupported : (start now : OutputView) (text : List ℕ) → Wrote start now text → start.want ≡ None
    → now.want ≡ Some NoForm → ⊥
never_unsupported start now text w fresh some = (from_fresh start now text w fresh (Some NoForm) some).1

-- the same by what the sink shows before the output is made, and once the output is done with
pub content_whole_as : (start now : OutputView) (text before after : List ℕ) →
    start.content ≡ before → now.content ≡ after → Wrote start now text → start.want ≡ None →
    now.want ≡ None → after ≡ before ++ text
content_whole_as start now text before after first last w fresh none =
    sym last ∙ content_whole start now text w fresh none ∙ ap (λ h. h ++ text) first

pub content_begun_as : (start now : OutputView) (text before after : List ℕ)
    (want : TypeTextError) → start.content ≡ before → now.content ≡ after → Wrote start now text →
    start.want ≡ None → now.want ≡ Some want → IsAfter before text after
content_begun_as start now text before after want first last w fresh some =
    subst (λ h. IsAfter h text after) first
    (subst (λ h. IsAfter start.content text h) last (content_begun start now text want w fresh some))

pub ruleset fresh_output = (same_sink, content_whole, never_failed)
