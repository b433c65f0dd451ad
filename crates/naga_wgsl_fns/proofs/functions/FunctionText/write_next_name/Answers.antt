use Rattle.std.proofs.Common.{ap, ◌∙◌}
use Rattle.naga_words.proofs.Writing.{writes_as}
use Rattle.naga_wgsl_fns.specs.Names.{bound_text}
use Rattle.naga_wgsl_fns.proofs.Preconditions.{next_row}
use Rattle.naga_wgsl_fns.proofs.functions.FunctionText.write_next_name.Goals as goal

pub returns : goal.returns
returns g c =
    writes_as (ap (bound_text c.args.self.now c.args.handle) c.next_name-name.ensures
    ∙ next_row c.args.self.now c.requires c.args.scope.now.named c.args.handle)
    c.write_bound_name.ensures
