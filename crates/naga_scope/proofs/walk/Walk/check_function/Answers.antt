use Rattle.std.specs.Option.{option_or}
use Rattle.naga_scope.proofs.Logs.{extends_refl}
use Rattle.naga_scope.proofs.Walking.{handed_on}
use Rattle.naga_scope.specs.FirstLack.{block_lack, locals_lack, shape_of, signature_lack}
use Rattle.naga_scope.specs.Walked.{walked}
use Rattle.shader_runs.specs.Scope.{at_start}
use Rattle.naga_scope.proofs.walk.Walk.check_function.Goals as goal

pub returns-in-Err-clause-lack : goal.returns-in-Err-clause-lack
returns-in-Err-clause-lack c =
    let w = walked c.args.self.now in
    handed_on tt tt (signature_lack w.shader w.function)
    (option_or (locals_lack w 0 w.function.local_variables)
    (block_lack w 0 0 w.function.body (at_start (shape_of w)))) c.in-Err.lack c.in-Err.ensures

pub returns-in-Err-clause-kept : goal.returns-in-Err-clause-kept
returns-in-Err-clause-kept c = extends_refl _

pub returns-in-Err-check_locals-clause-kept : goal.returns-in-Err-check_locals-clause-kept
returns-in-Err-check_locals-clause-kept c = extends_refl _
