-- The texts of variables of the module, as values and as references.
-- Serves 32 contracts, `write_global_address` among them.
use Rattle.std.proofs.Common.{◌≡◌, ℕ, true, false, List, codes, sym, ap, ◌∙◌}
use Rattle.std.specs.Prelude.{if◌then◌else◌}
use Rattle.naga_form.specs.Expressions.{is_handle_variable}
use Rattle.naga_scope.specs.declared.points.Availability.{Availability}
use Rattle.naga_words.specs.Output.{joined_texts}
use Rattle.naga_wgsl_fns.specs.Expressions.{global_address_text, global_reference_text}
use Rattle.naga_wgsl_fns.specs.Expressions.{global_value_text, pointed_text}
use Rattle.naga_wgsl_fns.specs.Names.{name_of_global}
use Rattle.naga_wgsl_fns.specs.declared.functions.FunctionText.{FunctionText}
use Rattle.wgsl_text.proofs.Expressions.{address_text as address_row_text, name_text}
use Rattle.wgsl_text.specs.Expressions.{Name}

pub global_address_row : (f : FunctionText) (variable : ℕ) →
    global_address_text f variable ≡
    joined_texts (codes "(&") (joined_texts (name_of_global f variable) (codes ")"))
unfolding global_address_text name_of_global joined_texts
global_address_row f variable =
    address_row_text (Name (name_of_global f variable))
    ∙ ap (λ w. joined_texts (codes "(&") (joined_texts w (codes ")")))
    (name_text (name_of_global f variable))

-- one that is held is a value, and any other a reference
pub handle_variable_value : (f : FunctionText) (variable : ℕ) →
    is_handle_variable f.known.shader.now variable ≡ true →
    name_of_global f variable ≡ global_value_text f variable
unfolding global_value_text
handle_variable_value f variable is =
    sym (ap (λ b. if b then name_of_global f variable else global_address_text f variable) is)

pub memory_variable_value : (f : FunctionText) (variable : ℕ) →
    is_handle_variable f.known.shader.now variable ≡ false →
    global_address_text f variable ≡ global_value_text f variable
unfolding global_value_text
memory_variable_value f variable is =
    sym (ap (λ b. if b then name_of_global f variable else global_address_text f variable) is)

module _ (f : FunctionText) (table : List Availability) (handle variable : ℕ) where
  pub handle_variable_reference : is_handle_variable f.known.shader.now variable ≡ true →
      pointed_text f table handle ≡ global_reference_text f table handle variable
  unfolding global_reference_text
  handle_variable_reference is =
      sym (ap (λ b. if b then pointed_text f table handle else name_of_global f variable) is)

  pub memory_variable_reference : is_handle_variable f.known.shader.now variable ≡ false →
      name_of_global f variable ≡ global_reference_text f table handle variable
  unfolding global_reference_text
  memory_variable_reference is =
      sym (ap (λ b. if b then pointed_text f table handle else name_of_global f variable) is)
