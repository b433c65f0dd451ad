-- What is so of the writer's answer is so of want of memory in its place.
use Rattle.std.proofs.Common.{◌≡◌, ◌∙◌, ℕ, List, [], append-nil, inl, inr, refl, subst, sym}
use Rattle.std.specs.Prelude.{Err, IfErr, IfSome, IsErrAnd, MatchOption, None, Ok, OnOk, Option}
use Rattle.std.specs.Prelude.{Result, Bool, Some, alloc_error}
use Rattle.naga_back.specs.Flags.{annotates_types}
use Rattle.naga_back.specs.declared.flags.WriterFlags.{WriterFlags}
use Rattle.naga_info.specs.declared.info.ModuleInfo.{ModuleInfo}
use Rattle.naga_ir.specs.declared.module.Module.{Module}
use Rattle.naga_refusals.specs.Errors.{TellsOfModule}
use Rattle.naga_refusals.specs.declared.error.Error.{Error}
use Rattle.naga_refusals.specs.declared.error.Error.TheVariants.{Memory}
use Rattle.naga_spelling.specs.Sink.{IsAfter}
use Rattle.std.specs.declared.alloc.AllocError.{AllocError}
use Rattle.naga_wgsl_out.proofs.Faithful.{function_tells_of_module, refused}
use Rattle.naga_wgsl_out.proofs.FirstRefusals.{one_position}
use Rattle.naga_wgsl_out.proofs.ModuleScopes.{no_refusal}
use Rattle.naga_wgsl_out.specs.Headline.{EachReading, FaithfulWriting, MatchesModule}
use Rattle.naga_wgsl_out.specs.Leaving.{EndsInFront, Leaves}
use Rattle.naga_wgsl_out.specs.ModuleRefusals.{NeverBegins, NothingIsRefused, RefusesOnlyFor}
use Rattle.naga_wgsl_out.specs.Unwritable.{IsFirst, StandsAt, StandsIn, TellsFirst}
use Rattle.naga_wgsl_out.specs.Writing.{AppendsItsText, written_text}
use Rattle.naga_wgsl_out.specs.declared.unwritable.Refusal.{Refusal}
use Rattle.naga_refusals.specs.declared.error.Error.TheVariants as error
use Rattle.naga_wgsl_out.specs.Within.{unfailed}
use Rattle.module_answers.specs.Counts.{IsReady}
use Rattle.module_answers.specs.Wants.{IsAnswerOrMemory, UnlessWanting}
use Rattle.module_answers.specs.WriteOutcomes.{AnswersWriting, TellsBeside}

-- ---- what is so unless memory was wanting
pub anyway : (answer : Result Unit Error) (P : Type 0) → P → UnlessWanting answer P
anyway (Ok x) P holds = holds
anyway (Err (error.Memory e)) P holds = tt
anyway (Err (error.FmtError e)) P holds = holds
anyway (Err (error.Custom e)) P holds = holds
anyway (Err (error.Unimplemented e)) P holds = holds
anyway (Err (error.UnsupportedRelationalFunction e)) P holds = holds
anyway (Err (error.Unsupported kind value)) P holds = holds

-- nothing is written where memory was refused before
pub unless_before : (ready : Result Unit AllocError) (answer : Result Unit Error) (P : Type 0) → OnOk ready P →
    IfErr ready (λ e. answer ≡ Err (Memory e)) → UnlessWanting answer P
unless_before (Ok x) answer P holds is = anyway answer P holds
unless_before (Err e) answer P holds is = subst (λ a. UnlessWanting a P) (sym is) tt

-- a sink that has not failed tells no other want
pub unfailed_unless : (answer : Result Unit Error) (P : Type 0) → UnlessWanting answer P →
    UnlessWanting (unfailed answer) P
unfailed_unless (Ok x) P holds = holds
unfailed_unless (Err (error.Memory e)) P holds = tt
unfailed_unless (Err (error.FmtError e)) P holds = tt
unfailed_unless (Err (error.Custom e)) P holds = holds
unfailed_unless (Err (error.Unimplemented e)) P holds = holds
unfailed_unless (Err (error.UnsupportedRelationalFunction e)) P holds = holds
unfailed_unless (Err (error.Unsupported kind value)) P holds = holds

pub ready_unfailed : (flags : WriterFlags) (answer : Result Unit Error) (m : Module) (old new : ModuleInfo) →
    IsReady flags answer m old new → IsReady flags (unfailed answer) m old new
ready_unfailed flags answer m old new ready =
    record { raised = ready.raised; counted = unfailed_unless answer _ ready.counted }

-- ---- what is told beside an answer
-- what is found is told beside an error that tells of the module, of which something is the reason
pub found_beside : (explicit : Bool) (m : Module) (info : ModuleInfo) (answer : Result Unit Error)
    (found : Option Refusal) →
    IsErrAnd answer TellsOfModule →
    (before after : ℕ) × RefusesOnlyFor answer explicit m info before after →
    MatchOption found (NothingIsRefused explicit m info) (StandsIn explicit m info) →
    IfSome found (λ refusal. IsFirst explicit m info refusal.position) →
    IfErr answer (λ e. TellsOfModule e → TellsFirst explicit m info e) →
    TellsBeside explicit m info answer found
found_beside explicit m info (Ok x) found tells reason stands first told = absurd tells
found_beside explicit m info (Err e) None tells reason nothing first told =
    absurd (no_refusal explicit m info nothing reason.0 reason.1 e tells reason.2)
found_beside explicit m info (Err e) (Some refusal) tells reason stands first told = record {
  tells = tells;
  stands = stands;
  first = first;
  named =
      let own = told tells in (
        own.refusal.construct,
        subst (λ at. StandsAt explicit m info at own.refusal.construct)
            (one_position explicit m info own.refusal.position refusal.position own.refusal.construct
            refusal.construct own.stands own.first stands first) own.stands,
        own.told,
      );
}

-- what an error names, by what the writer leaves after it
pub leaves_told : (own flags : WriterFlags) (m : Module) (info : ModuleInfo) (answer : Result Unit Error)
    (content now : List ℕ) (before after : ℕ) → own ≡ flags → Leaves own m info answer content now before after →
    IfErr answer (λ e. TellsOfModule e → TellsFirst (annotates_types flags) m info e)
leaves_told own flags m info (Ok x) content now before after same leaves = tt
leaves_told own flags m info (Err e) content now before after same leaves =
    λ of. subst (λ flags. TellsFirst (annotates_types flags) m info e) same (leaves.told of)

module _ (flags : WriterFlags) (m : Module) (info : ModuleInfo) (content now : List ℕ) (before after : ℕ) where
  -- ---- want of memory
  -- what is left of a text, whatever the answer is
  abbrev IsLeft : Type 0
  IsLeft = IsAfter content (written_text m info flags) now × EndsInFront flags m info content now ×
      (NeverBegins m → now ≡ content)

  want_leaves : (e : AllocError) → IsLeft → Leaves flags m info (Err (Memory e)) content now before after
  want_leaves e left = record {
    following = left.0;
    in_front = left.1;
    unbegun = left.2;
    untouched = λ first. absurd first.0;
    keys = λ of. absurd of;
    written_before = λ of. absurd (function_tells_of_module m (Memory e) of);
    unfailed = λ of. absurd of;
    told = λ of. absurd of;
  }

  -- nothing is
  pub want : (e : AllocError) → now ≡ content →
      AnswersWriting flags m info (Err (Memory e)) None content now before after
  want e nothing = record {
    faithful = refused flags m info (Memory e) content now before after tt;
    matches = tt;
    text = tt;
    leaves = want_leaves e (none (written_text m info flags), λ handle fails. none _, λ never. nothing);
    refusal = λ of. of;
  }
    where
      none : (text : List ℕ) → IsAfter content text now
      none text = ([], text, refl, nothing ∙ sym (append-nil content))

  left_by : (answer : Result Unit Error) → IsErrAnd answer TellsOfModule →
      Leaves flags m info answer content now before after → IsLeft
  left_by (Ok x) tells leaves = absurd tells
  left_by (Err e) tells leaves = (leaves.following, leaves.in_front, leaves.unbegun)

  -- ---- the writer's answer, or want of memory in its place
  pub answer_or_memory : (answer told : Result Unit Error) (found : Option Refusal) → IsAnswerOrMemory answer told →
      FaithfulWriting flags m info answer content now before after →
      OnOk answer (EachReading content now (MatchesModule (annotates_types flags) m info)) →
      AppendsItsText m info flags answer content now → Leaves flags m info answer content now before after →
      TellsBeside (annotates_types flags) m info told found →
      AnswersWriting flags m info told found content now before after
  answer_or_memory answer told found (inl same) faithful matches text leaves beside =
      let back = sym same in
      record {
        faithful = subst (λ r. FaithfulWriting flags m info r content now before after) back faithful;
        matches = subst (λ r. OnOk r (EachReading content now (MatchesModule (annotates_types flags) m info)))
            back matches;
        text = subst (λ r. AppendsItsText m info flags r content now) back text;
        leaves = subst (λ r. Leaves flags m info r content now before after) back leaves;
        refusal = beside;
      }
  answer_or_memory answer told found (inr wanted) faithful matches text leaves beside =
      let back = sym wanted.1 in
      let left = left_by answer wanted.0 leaves in
      record {
        faithful = subst (λ r. FaithfulWriting flags m info r content now before after) back
            (refused flags m info (Memory alloc_error) content now before after tt);
        matches = subst (λ r. OnOk r (EachReading content now (MatchesModule (annotates_types flags) m info))) back tt;
        text = subst (λ r. AppendsItsText m info flags r content now) back tt;
        leaves = subst (λ r. Leaves flags m info r content now before after) back (want_leaves alloc_error left);
        refusal = beside;
      }
