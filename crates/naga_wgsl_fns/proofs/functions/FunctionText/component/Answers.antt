use Rattle.std.proofs.Common.{Option, None, ap, sym, ◌∙◌}
use Rattle.std.specs.Prelude.{Bool, List, ℕ, if◌then◌else◌, slice_get}
use Rattle.module_semantics.specs.ExpressionShapes.{component_letters}
use Rattle.naga_wgsl_fns.proofs.Preconditions.{component_is}
use Rattle.naga_wgsl_fns.proofs.functions.FunctionText.component.Goals as goal

abbrev letter_if : (index : ℕ) → Bool → Option (List ℕ)
letter_if index b = if b then slice_get component_letters index else None

pub returns-then-has_components : goal.returns-then-has_components
returns-then-has_components c =
    component_is c.args.self.now c.requires.can c.args.base c.args.index c.requires.has_form
    c.requires.no_member _
    (c.component_letter.ensures
    ∙ sym (ap (letter_if c.args.index) (sym c.has_components.ensures ∙ c.if-has_components.true)))

pub returns-else-has_components : goal.returns-else-has_components
returns-else-has_components c =
    component_is c.args.self.now c.requires.can c.args.base c.args.index c.requires.has_form
    c.requires.no_member None
    (sym (ap (letter_if c.args.index) (sym c.has_components.ensures ∙ c.if-has_components.false)))
