use Rattle.std.proofs.Common.{IfOk, IfSome, MatchOption, subst}
use Rattle.naga_back.specs.Flags.{annotates_types}
use Rattle.naga_wgsl_out.specs.ModuleRefusals.{NothingIsRefused}
use Rattle.naga_wgsl_out.specs.Unwritable.{IsFirst, StandsIn}
use Rattle.module_answers.proofs.Wants.{found_beside}
use Rattle.module_answers.proofs.writing.with_refusal.Goals as goal

-- what is found is told, and something is
pub returns-in-Ok-clause-beside : goal.returns-in-Ok-clause-beside
returns-in-Ok-clause-beside c =
    let explicit = annotates_types c.args.flags in
    let m = c.args.«module».now in
    let info = c.args.info.now in
    found_beside explicit m info c.args.answer c.in-Ok.found
    (c.tells_of_module.ensures.tells c.if-tells_of_module.true) c.requires.reason
    (subst (λ r. IfOk r (λ found. MatchOption found (NothingIsRefused explicit m info) (StandsIn explicit m info)))
    c.in-Ok.is c.unwritable.ensures.stands)
    (subst (λ r. IfOk r (λ found. IfSome found (λ refusal. IsFirst explicit m info refusal.position)))
    c.in-Ok.is c.unwritable.ensures.first)
    c.requires.told
