use Rattle.std.proofs.Common.{ap, sym, ◌∙◌}
use Rattle.std.specs.Option.{option_map}
use Rattle.naga_words.proofs.Writing.{writes_as}
use Rattle.naga_wgsl_fns.specs.Expressions.{selector_end, selector_of}
use Rattle.naga_wgsl_fns.proofs.PartRows.{selector_row}
use Rattle.naga_wgsl_fns.proofs.functions.FunctionText.write_component.Goals as goal

pub returns-in-Some : goal.returns-in-Some
returns-in-Some g c =
    writes_as
    (ap (λ o. selector_end (selector_of (option_map (λ word. word.now) o) c.args.index))
    (sym c.in-Some.is)
    ∙ selector_row c.args.self.now c.args.base c.args.index _ c.component.ensures)
    c.write_word.ensures

pub returns-in-None : goal.returns-in-None
returns-in-None g c =
    writes_as
    (ap (λ o. selector_end (selector_of (option_map (λ word. word.now) o) c.args.index))
    (sym c.in-None.is)
    ∙ selector_row c.args.self.now c.args.base c.args.index _ c.component.ensures)
    c.write_number.ensures
