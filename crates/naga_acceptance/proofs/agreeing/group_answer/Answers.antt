use Rattle.std.proofs.Common.{ap, ◌∙◌, []}
use Rattle.std.specs.Option.{option_map_or}
use Rattle.module_semantics.specs.acceptance.AgreeingOperators.{uses_of}
use Rattle.naga_acceptance.specs.Uses.{first_answer, first_uses, group_of, operation}
use Rattle.naga_acceptance.proofs.Groups.{all_uses}
use Rattle.naga_acceptance.proofs.agreeing.group_answer.Goals as goal

pub returns-in-Some : goal.returns-in-Some
returns-in-Some c =
    let types = c.args.module.now.types
    in let v = operation types c.args.used.now
    in let g = group_of c.in-Some.group
    in c.first_answer.ensures
    ∙ ap (λ n. first_answer (first_uses types g n) v) c.len.ensures
    ∙ ap (λ os. first_answer os v) (all_uses types g)
    ∙ ap (λ o. first_answer (option_map_or (uses_of types) o []) v) c.in-Some.ensures.group
