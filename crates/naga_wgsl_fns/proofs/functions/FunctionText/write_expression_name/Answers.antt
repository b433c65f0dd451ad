use Rattle.std.proofs.Common.{[], ap, length, string_bytes, sym}
use Rattle.std.proofs.lemmas.Bool.{ltb-false}
use Rattle.std.specs.Option.{option_map_or}
use Rattle.std.proofs.lemmas.Option.{slice_get_past}
use Rattle.naga_words.proofs.Writing.{writes_as, writes_nothing}
use Rattle.naga_wgsl_fns.proofs.functions.FunctionText.write_expression_name.Goals as goal

pub returns-in-None : goal.returns-in-None
returns-in-None g c =
    let self = c.args.self.now in
    let past = ltb-false c.args.number (length self.named.now) (sym c.in-None.ensures.lookup.0) in
    let none = slice_get_past self.named.now c.args.number past in
    writes_as
    (sym (ap (λ o. option_map_or string_bytes o []) none))
    (writes_nothing _)
