use Rattle.std.proofs.Common.{sym, ◌∙◌}
use Rattle.naga_words.proofs.Writing.{writes_as, writes_nothing}
use Rattle.naga_wgsl_fns.proofs.Preconditions.{unannotated_row}
use Rattle.naga_wgsl_fns.proofs.functions.FunctionText.write_let_annotation.Goals as goal

pub returns-else-annotates_types : goal.returns-else-annotates_types
returns-else-annotates_types g c =
    writes_as (sym (unannotated_row c.args.self.now c.requires.can c.args.handle
    (sym c.annotates_types.ensures ∙ c.if-annotates_types.false))) (writes_nothing _)
