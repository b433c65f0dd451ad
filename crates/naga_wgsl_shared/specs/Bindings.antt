-- What is promised of a call that writes a binding.
--
-- Throughout, b is a binding.
use Rattle.std.specs.Prelude.{◌≡◌, ◌⊎◌, ℕ, Bool, true, List, ◌++◌, IfErr, IsFalse, IsTrue}
use Rattle.std.specs.Prelude.{OnErr, OnOk, Option, Result}
use Rattle.std.specs.Option.{option_map_or}
use Rattle.naga_ir.specs.declared.binding.Binding.{Binding}
use Rattle.text_semantics.specs.Attributes.{stage_binding_read}
use Rattle.module_semantics.specs.DeclarationForms.{binding_has_form}
use Rattle.module_semantics.specs.StageBindings.{binding_meant}
use Rattle.naga_form.specs.Attributes.{binding_attributes}
use Rattle.naga_spelling.specs.Sink.{IsAfter}
use Rattle.naga_wgsl_shared.specs.Attributes.{binding_text}
use Rattle.naga_wgsl_shared.specs.Refusals.{NamesBuiltin}
use Rattle.naga_refusals.specs.Errors.{IsWant}
use Rattle.naga_refusals.specs.declared.error.Error.{Error}

-- what passes in or out has a form where its binding has one, if it has a binding
abbrev pub passing_has_form : Option Binding → Bool
passing_has_form b = option_map_or binding_has_form b true

-- It is refused by name, and the sink is as it was.
pub record RefusesBinding (b : Binding) (content now : List ℕ) (before after : ℕ) (error : Error) :
    Type 0 where
  pub unsupported : IsFalse (binding_has_form b)
  pub named : NamesBuiltin error
  pub untouched : now ≡ content
  pub kept : after ≡ before

-- A call was asked to write the binding after the text that its sink held; it answered, and the
-- sink holds another text now. The sink had failed so often before, and has failed so often now.
pub record BindingWriting (b : Binding) (answer : Result Unit Error) (content now : List ℕ)
    (before after : ℕ) : Type 0 where
  -- It appends the attributes of the binding, which has a form then, and they say how it is bound.
  pub formed : OnOk answer (IsTrue (binding_has_form b))
  pub text_ok : OnOk answer (now ≡ content ++ binding_text b)
  pub as_meant : OnOk answer (stage_binding_read (binding_attributes b) ≡ binding_meant b)
  pub failures_ok : OnOk answer (after ≡ before)
  -- A call that gives up leaves a beginning of them. It gives up for want of memory, because the
  -- sink failed, or where the binding has no form.
  pub text_err : OnErr answer (IsAfter content (binding_text b) now)
  pub reason : IfErr answer
      (λ e. IsWant before after e ⊎ RefusesBinding b content now before after e)
