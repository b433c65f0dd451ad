-- How calls that write texts one after another write the texts together.
-- Serves `naga_wgsl_out`.
use Rattle.std.proofs.Common.{◌≡◌, ℕ, List, [], ◌++◌, append_assoc, Result, Ok, Err, refl, sym, ap}
use Rattle.std.proofs.Common.{◌∙◌, subst}
use Rattle.std.proofs.lemmas.List.{append-nil}
use Rattle.std.specs.Result.{IsErrAnd}
use Rattle.naga_words.proofs.Writing.{after_first, after_then}
use Rattle.naga_refusals.specs.declared.error.Error.{Error}
use Rattle.naga_refusals.specs.Errors.{IsWant}
use Rattle.naga_wgsl_shared.specs.Appends.{Wrote, StoppedWithin, Appends}

pub wrote_nothing : (content : List ℕ) (failed : ℕ) → Wrote content failed [] content failed
wrote_nothing content failed = record { appended = sym (append-nil content); kept = refl }

pub wrote_then : {content text middle more now : List ℕ} {failed among failures : ℕ} →
    Wrote content failed text middle among → Wrote middle among more now failures →
    Wrote content failed (text ++ more) now failures
wrote_then {content} {text} {middle} {more} a b =
    record {
      appended = b.appended ∙ ap (λ t. t ++ more) a.appended ∙ append_assoc content text more;
      kept = b.kept ∙ a.kept;
    }

pub stopped_first : {content text now : List ℕ} {failed failures : ℕ} {error : Error}
    (more : List ℕ) → StoppedWithin content failed text now failures error →
    StoppedWithin content failed (text ++ more) now failures error
stopped_first {content} {text} {now} more s =
    record { following = after_first content text now more s.following; reason = s.reason }

pub stopped_then : {content text middle more now : List ℕ} {failed among failures : ℕ}
    {error : Error} → Wrote content failed text middle among →
    StoppedWithin middle among more now failures error →
    StoppedWithin content failed (text ++ more) now failures error
stopped_then {content} {text} {middle} {more} {now} {failures = failures} {error = error} w s =
    record {
      following = after_then content text middle more now w.appended s.following;
      reason = subst (λ n. IsWant n failures error) w.kept s.reason;
    }

-- the answer of a call that writes after a text that was written
pub appends_then : (r : Result Unit Error) {content text middle : List ℕ} {failed among : ℕ} (more now : List ℕ)
    (failures : ℕ)
    → Wrote content failed text middle among → Appends r middle among more now failures →
    Appends r content failed (text ++ more) now failures
appends_then (Ok x) more now failures w a = wrote_then w a
appends_then (Err e) more now failures w s = stopped_then w s

-- the answer, where a call stopped
pub appends_stopped : (r : Result Unit Error) {content text now : List ℕ} {failed failures : ℕ}
    {error : Error} → IsErrAnd r (λ e. e ≡ error) →
    StoppedWithin content failed text now failures error →
    Appends r content failed text now failures
appends_stopped (Ok x) is s = absurd is
appends_stopped (Err e) {content} {text} {now} {failed} {failures} is s =
    subst (λ e. StoppedWithin content failed text now failures e) (sym is) s
