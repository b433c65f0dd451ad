-- A part at an index, by what it is taken of and by what stands after that.
-- Serves 30 contracts, `write_address` among them.
use Rattle.std.proofs.Common.{◌≡◌, ℕ, Bool, true, false, ◌++◌, List, [], ◌∷◌, Option, Some, None}
use Rattle.std.proofs.Common.{refl, sym, ap, ◌∙◌, subst}
use Rattle.std.specs.Prelude.{if◌then◌else◌, slice_get}
use Rattle.std.specs.Option.{option_map_or}
use Rattle.std.proofs.lemmas.Option.{same_Some}
use Rattle.naga_ir.specs.declared.expression.Expression as ir
use Rattle.naga_ir.specs.declared.expression.Expression.TheVariants as expression
use Rattle.module_semantics.specs.OperatorTable.{WithoutForm, PartAt}
use Rattle.module_semantics.specs.ExpressionForms.{expression_has_own_form}
use Rattle.naga_form.proofs.operators.AllowedParts.{selected}
use Rattle.naga_form.specs.Expressions.{PlainForm, as_value, as_reference, applied_plain, no_form}
use Rattle.naga_form.specs.Expressions.{own_if, part_plain, is_pointer, selected_part}
use Rattle.naga_scope.specs.declared.points.Availability.{Availability}
use Rattle.naga_wgsl_fns.specs.Expressions.{accessed_base, form_at, index_text, is_signed, number_text}
use Rattle.naga_wgsl_fns.specs.Expressions.{part_end, plain_tree, selector_end, selector_text}
use Rattle.naga_wgsl_fns.specs.Expressions.{value_text, word_text}
use Rattle.naga_wgsl_fns.proofs.Preconditions.{expression_formed}
use Rattle.naga_wgsl_fns.specs.FunctionText.{CanWrite, IsInText, context, expressions, naming}
use Rattle.naga_wgsl_fns.specs.FunctionText.{source}
use Rattle.naga_wgsl_fns.specs.declared.functions.FunctionText.{FunctionText}
use Rattle.shader_runs.specs.Value.{Selector, MemberNamed, ElementAt}
use Rattle.wgsl_text.proofs.Expressions.{index_text as index_row_text, index_at_text, member_text}
use Rattle.wgsl_text.specs.Expressions as tree
use Rattle.wgsl_text.specs.Reading.{printed_expression}
use Rattle.wgsl_text.specs.Text.{text}

-- a part of this base: a part of its form, written as the base and what stands after it
pub record PartForm (f : FunctionText) (table : List Availability) (e : Option ir.Expression)
    (base : ℕ) : Type 0 where
  pub part : tree.Expression → tree.Expression
  pub is : own_if (naming f) (source f) (form_at f table) e ≡
      part_plain (is_pointer (context f) base) part (form_at f table base)
  pub ends : (b : tree.Expression) →
      printed_expression (part b) ≡
      text (tree.base_pieces b (tree.expression_pieces b)) ++ part_end f table e
  pub unsigned : (b : tree.Expression) → is_signed (part b) ≡ false

selected_ends : (x : Selector) (b : tree.Expression) →
    printed_expression (selected_part x b) ≡
    text (tree.base_pieces b (tree.expression_pieces b)) ++ selector_end x
unfolding word_text number_text
selected_ends (MemberNamed word) b = member_text b word
selected_ends (ElementAt index) b = index_at_text b index

pub selected_unsigned : (x : Selector) (b : tree.Expression) → is_signed (selected_part x b) ≡ false
selected_unsigned (MemberNamed word) b = refl
selected_unsigned (ElementAt index) b = refl

module _ (f : FunctionText) (table : List Availability) (can : CanWrite f) where
  element_form : (base index : ℕ) → PartForm f table (Some (expression.Access base index)) base
  unfolding index_text value_text
  element_form base index = record {
    part = λ e. tree.Index e (as_value (form_at f table index));
    is = refl;
    ends = λ b. index_row_text b (as_value (form_at f table index));
    unsigned = λ b. refl;
  }

  selected_form : (base index : ℕ) →
      expression_has_own_form f.known.shader.now f.info.now (expression.AccessIndex base index) ≡ true →
      PartForm f table (Some (expression.AccessIndex base index)) base
  unfolding selector_text
  selected_form base index may =
      let x = selected f.known.shader.now f.known.info.now f.info.now base index may in
      record {
        part = selected_part x.0;
        is = ap
            (λ o. option_map_or
            (λ x. part_plain (is_pointer (context f) base) (selected_part x) (form_at f table base)) o
            (applied_plain no_form None (form_at f table) (base ∷ []) (Some (WithoutForm (PartAt index)))))
            x.1;
        ends = λ b. selected_ends x.0 b
            ∙ ap
            (λ o. text (tree.base_pieces b (tree.expression_pieces b)) ++ option_map_or selector_end o [])
            (sym x.1);
        unsigned = selected_unsigned x.0;
      }

  pub part_form : (handle : ℕ) → IsInText f handle → (e : Option ir.Expression) →
      slice_get (expressions f) handle ≡ e → (base : ℕ) → accessed_base e ≡ Some base →
      PartForm f table e base
  part_form handle within (Some (expression.Access b index)) at base is =
      subst (PartForm f table (Some (expression.Access b index))) (same_Some b base is)
      (element_form b index)
  part_form handle within (Some (expression.AccessIndex b index)) at base is =
      subst (PartForm f table (Some (expression.AccessIndex b index))) (same_Some b base is)
      (selected_form b index
      (expression_formed f can handle (expression.AccessIndex b index) at within))
  part_form handle within (Some _) at base is = absurd cc
  part_form handle within None at base is = absurd cc

-- a part as a value and as a reference
pub valued_part : (pointer : Bool) (part : tree.Expression → tree.Expression) (base p : PlainForm) →
    p ≡ part_plain pointer part base →
    printed_expression (as_value p) ≡
    (if pointer then printed_expression (tree.AddressOf (plain_tree p))
    else printed_expression (plain_tree p))
valued_part true part base p is =
    ap (λ q. printed_expression (as_value q)) is
    ∙ ap (λ q. printed_expression (tree.AddressOf (plain_tree q))) (sym is)
valued_part false part base p is =
    ap (λ q. printed_expression (as_value q)) is
    ∙ ap (λ q. printed_expression (plain_tree q)) (sym is)

pub referred_part : (pointer : Bool) (part : tree.Expression → tree.Expression)
    (base p : PlainForm) → p ≡ part_plain pointer part base →
    printed_expression (as_reference p) ≡
    (if pointer then printed_expression (plain_tree p)
    else printed_expression (tree.Dereference (as_value p)))
referred_part true part base p is =
    ap (λ q. printed_expression (as_reference q)) is
    ∙ ap (λ q. printed_expression (plain_tree q)) (sym is)
referred_part false part base p is =
    ap (λ q. printed_expression (as_reference q)) is
    ∙ ap (λ q. printed_expression (tree.Dereference (as_value q))) (sym is)

-- neither starts with a sign
pub part_unsigned : (pointer : Bool) (part : tree.Expression → tree.Expression)
    (base p : PlainForm) → ((b : tree.Expression) → is_signed (part b) ≡ false) →
    p ≡ part_plain pointer part base →
    (is_signed (as_value p) ≡ false) × (is_signed (as_reference p) ≡ false)
part_unsigned true part base p none is = (
  ap (λ q. is_signed (as_value q)) is,
  ap (λ q. is_signed (as_reference q)) is ∙ none (as_reference base),
)
part_unsigned false part base p none is = (
  ap (λ q. is_signed (as_value q)) is ∙ none (as_value base),
  ap (λ q. is_signed (as_reference q)) is,
)

-- the tree of a part
pub tree_of_part : (pointer : Bool) (part : tree.Expression → tree.Expression)
    (base : PlainForm) →
    plain_tree (part_plain pointer part base) ≡
    part (if pointer then as_reference base else as_value base)
tree_of_part true part base = refl
tree_of_part false part base = refl
