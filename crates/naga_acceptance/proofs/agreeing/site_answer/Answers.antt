use Rattle.std.proofs.Common.{sym, ◌∙◌}
use Rattle.module_semantics.specs.acceptance.AgreeingOperators.{groups_of}
use Rattle.naga_acceptance.specs.Uses.{operation}
use Rattle.naga_acceptance.proofs.Remembering.{other_site}
use Rattle.naga_acceptance.proofs.agreeing.site_answer.Goals as goal

pub returns-then-site-hash : goal.returns-then-site-hash
returns-then-site-hash c =
    let types = c.args.module.now.types
    in let gs = groups_of c.args.module.now c.args.info.now
    in let v = operation types c.args.used.now
    in sym (other_site types gs c.args.site v c.requires.site (λ e. c.if-site-hash.true (e ∙ sym c.requires.hash)))
