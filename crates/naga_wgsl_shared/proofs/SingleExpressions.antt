-- One of a module's own expressions, written by itself.
-- Serves `write_global_expression`.
use Rattle.std.proofs.Common.{◌≡◌, ◌∙◌, ◌++◌, ℕ, List, [], append-nil, refl, subst, sym}
use Rattle.std.proofs.lemmas.List.{append_cancel_left}
use Rattle.std.specs.Prelude.{Err, IfErr, IsErrAnd, IsFalse, IsTrue, Ok, OnErr, OnOk, Result}
use Rattle.naga_ir.specs.declared.module.Module.{Module}
use Rattle.naga_info.specs.declared.info.ModuleInfo.{ModuleInfo}
use Rattle.module_semantics.specs.acceptance.Accepted.{is_accepted}
use Rattle.module_semantics.specs.ExpressionForms.{global_has_form}
use Rattle.module_semantics.specs.Types.{type_names}
use Rattle.naga_form.proofs.declarations.DeclaredPrograms.{formed_global}
use Rattle.naga_form.proofs.declarations.GlobalValues.{has_value_of}
use Rattle.naga_form.specs.ConstantForms.{global_form}
use Rattle.naga_form.specs.Declarations.{program_under}
use Rattle.naga_form.specs.GlobalValues.{HasValueOf}
use Rattle.naga_spelling.specs.Sink.{IsAfter}
use Rattle.wgsl_text.specs.Reading.{HasOneReading, ReadsExpression}
use Rattle.wgsl_text.specs.Text.{tokens}
use Rattle.wgsl_text.proofs.Reading.{expression_has_one_reading}
use Rattle.naga_wgsl_shared.specs.Constants.{global_text}
use Rattle.naga_refusals.specs.Errors.{IsWant}
use Rattle.naga_wgsl_shared.specs.GlobalExpressions.{AppendsTheValue, GlobalWriting}
use Rattle.naga_wgsl_shared.specs.GlobalExpressions.{IsGlobalRefusal}
use Rattle.naga_tables.specs.Refusals.{global_refusal}
use Rattle.naga_wgsl_shared.specs.Refusals.{NamesGlobal}
use Rattle.naga_refusals.specs.declared.error.Error.{Error}
use Rattle.naga_refusals.specs.declared.error.Error.TheVariants.{FmtError, Memory}
use Rattle.naga_wgsl_shared.proofs.Wants.{want_tells_nothing}
use Rattle.naga_wgsl_shared.proofs.Wants.{named_no_sink}

module _ (m : Module) (handle : ℕ) where
  module _ (content : List ℕ) (before : ℕ) where
    pub global_refused : (r : Result Unit Error) (error : Error) → IsErrAnd r (λ e. e ≡ error) →
        IsGlobalRefusal m handle before before error →
        GlobalWriting m handle r content content before before
    global_refused (Ok _) error reported refusal = absurd reported
    global_refused (Err e) error reported refusal = record {
      refusals = subst (IsGlobalRefusal m handle before before) (sym reported) refusal;
      text_ok = tt;
      reading = tt;
      value = tt;
      failures_ok = tt;
      text_err = ([], global_text m handle, refl, sym (append-nil content));
      untouched = λ tells. (refl, refl);
    }

    pub global_for_form : (error : Error) → IsFalse (global_has_form m handle) →
        NamesGlobal m error handle → IsGlobalRefusal m handle before before error
    global_for_form (FmtError e) unsupported named = absurd (named_no_sink (global_refusal m handle) e named)
    global_for_form (Memory e) unsupported named = tt
    global_for_form _ unsupported named = (unsupported, named)

  global_for_want : (before after : ℕ) (error : Error) → IsWant before after error →
      IsGlobalRefusal m handle before after error
  global_for_want before after (FmtError e) is = is
  global_for_want before after (Memory e) is = tt
  global_for_want before after _ is = absurd is

  module _ (info : ModuleInfo) (accepted : IsTrue (is_accepted m info))
      (formed : IsTrue (global_has_form m handle)) where
    one_expression :
        HasOneReading ReadsExpression (global_text m handle) (global_form m (type_names m) handle)
    unfolding global_text
    one_expression =
        expression_has_one_reading (global_form m (type_names m) handle)
        (formed_global m info accepted handle formed)

    -- and that has the value
    has_the_value : (content now : List ℕ) → now ≡ content ++ global_text m handle →
        AppendsTheValue m handle content now
    has_the_value content now appended known is flags named text following expression reads =
        let same =
        append_cancel_left content text (global_text m handle) (sym following ∙ appended) in
        let only =
        one_expression.only expression
        (subst (λ t. ReadsExpression (tokens t) expression) same reads) in
        subst (HasValueOf m known handle (program_under named m known flags)) (sym only)
        (has_value_of m known is flags named handle formed)

    pub global_writes : (r : Result Unit Error) (content now : List ℕ) (before after : ℕ) →
        OnOk r (now ≡ content ++ global_text m handle) →
        OnErr r (IsAfter content (global_text m handle) now) →
        OnOk r (after ≡ before) → IfErr r (IsWant before after) →
        GlobalWriting m handle r content now before after
    global_writes (Ok _) content now before after text_ok text_err kept reason = record {
      refusals = formed;
      text_ok = text_ok;
      reading = one_expression;
      value = has_the_value content now text_ok;
      failures_ok = kept;
      text_err = tt;
      untouched = tt;
    }
    global_writes (Err e) content now before after text_ok text_err kept reason = record {
      refusals = global_for_want before after e reason;
      text_ok = tt;
      reading = tt;
      value = tt;
      failures_ok = tt;
      text_err = text_err;
      untouched = λ tells. absurd (want_tells_nothing before after e reason tells);
    }
