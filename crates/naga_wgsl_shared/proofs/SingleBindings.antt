-- A binding, written by itself.
-- Serves `write_binding`.
use Rattle.std.proofs.Common.{◌≡◌, ◌++◌, ℕ, List, [], append-nil, inl, inr, refl, sym}
use Rattle.std.specs.Prelude.{Err, IfErr, IsFalse, IsTrue, Ok, OnErr, OnOk, Result, Some}
use Rattle.naga_ir.specs.declared.binding.Binding.{Binding}
use Rattle.naga_ir.specs.declared.binding.Binding.TheVariants.{BuiltIn, Location}
use Rattle.text_semantics.specs.Attributes.{stage_binding_read}
use Rattle.module_semantics.specs.DeclarationForms.{binding_has_form}
use Rattle.module_semantics.specs.StageBindings.{binding_meant}
use Rattle.naga_form.proofs.declarations.Attributes.{passing_read}
use Rattle.naga_form.specs.Attributes.{binding_attributes}
use Rattle.naga_spelling.specs.Sink.{IsAfter}
use Rattle.naga_wgsl_shared.specs.Attributes.{binding_text}
use Rattle.naga_wgsl_shared.specs.Bindings.{BindingWriting}
use Rattle.naga_wgsl_shared.specs.Refusals.{NamesBuiltin}
use Rattle.naga_refusals.specs.Errors.{IsWant}
use Rattle.naga_refusals.specs.declared.error.Error.{Error}

-- the attributes of a binding that has a form say how it is bound
binding_means : (b : Binding) → IsTrue (binding_has_form b) →
    stage_binding_read (binding_attributes b) ≡ binding_meant b
binding_means (BuiltIn value) formed = passing_read (Some (BuiltIn value)) formed
binding_means (Location location i s source per_primitive) formed =
    passing_read (Some (Location location i s source per_primitive)) refl

module _ (b : Binding) (content : List ℕ) (before : ℕ) where
  pub binding_writes : (now : List ℕ) (after : ℕ) (r : Result Unit Error) →
      IsTrue (binding_has_form b) → OnOk r (now ≡ content ++ binding_text b) →
      OnErr r (IsAfter content (binding_text b) now) → OnOk r (after ≡ before) →
      IfErr r (IsWant before after) → BindingWriting b r content now before after
  binding_writes now after (Ok _) formed text_ok text_err kept reason = record {
    formed = formed;
    text_ok = text_ok;
    as_meant = binding_means b formed;
    failures_ok = kept;
    text_err = tt;
    reason = tt;
  }
  binding_writes now after (Err e) formed text_ok text_err kept reason = record {
    formed = tt;
    text_ok = tt;
    as_meant = tt;
    failures_ok = tt;
    text_err = text_err;
    reason = inl reason;
  }

  pub binding_refused : (e : Error) → IsFalse (binding_has_form b) → NamesBuiltin e →
      BindingWriting b (Err e) content content before before
  binding_refused e unsupported named = record {
    formed = tt;
    text_ok = tt;
    as_meant = tt;
    failures_ok = tt;
    text_err = ([], binding_text b, refl, sym (append-nil content));
    reason = inr (record {
      unsupported = unsupported;
      named = named;
      untouched = refl;
      kept = refl;
    });
  }
