use Rattle.std.proofs.Common.{rules, arith, refl}
use Rattle.std.proofs.lemmas.Option.{slice_get_within}
use Rattle.naga_spelling.specs.Contexts.{arena_context, global_context, names_context}
use Rattle.naga_spelling.proofs.Orders.{one_more, all_known, so_many_known}
use Rattle.naga_words.proofs.types.order.types_in_order.Goals as goal

pub loop-index-preserved : goal.loop-index-preserved
loop-index-preserved c = one_more c.args.types.now c.loop-index.index c.args.overrides c.index.result.now
    (search rules) (search rules) c.loop-index.invariant

pub returns-clause-arena : goal.returns-clause-arena
returns-clause-arena c whole =
    all_known (arena_context c.args.types.now) (λ h. refl) c.args.overrides
    (λ handle t lt is. c.loop-index.invariant handle (omega arith) t is)
    (λ handle t is. slice_get_within c.args.types.now handle t is)

pub returns-clause-global : goal.returns-clause-global
returns-clause-global c whole os count =
    so_many_known (global_context c.args.types.now os) c.args.overrides (λ h. rw count refl)
    (λ handle t lt is. c.loop-index.invariant handle (omega arith) t is)
    (λ handle t is. slice_get_within c.args.types.now handle t is)

pub returns-clause-names : goal.returns-clause-names
returns-clause-names c whole names =
    all_known (names_context c.args.types.now names) (λ h. refl) c.args.overrides
    (λ handle t lt is. c.loop-index.invariant handle (omega arith) t is)
    (λ handle t is. slice_get_within c.args.types.now handle t is)
