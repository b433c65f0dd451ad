use Rattle.std.proofs.Common.{◌∙◌, ap, sym}
use Rattle.module_semantics.specs.Enables.{is_enabled}
use Rattle.naga_wgsl_out.specs.Enables.{either, enables_of, in_each_text}
use Rattle.naga_wgsl_out.proofs.enables.enabled.Goals as goal

pub returns-then-is_portable : goal.returns-then-is_portable
returns-then-is_portable c =
    c.or.ensures
    ∙ ((λ i. either (c.of-needed.ensures i) (c.asked.ensures i))
    ∙ ap (λ portable. enables_of (is_enabled portable c.args.«module».now c.args.info.now))
    (sym (sym c.is_portable.ensures ∙ c.if-is_portable.true)))

pub returns-else-is_portable : goal.returns-else-is_portable
returns-else-is_portable c =
    c.in_each_text.ensures
    ∙ (ap in_each_text c.of-needed.ensures
    ∙ ap (λ portable. enables_of (is_enabled portable c.args.«module».now c.args.info.now))
    (sym (sym c.is_portable.ensures ∙ c.if-is_portable.false)))
