use Rattle.std.proofs.Common.{rules, arith, refl, sym, ◌∙◌, ◌≡◌, false, Some, slice_get, length}
use Rattle.std.proofs.Common.{true≢false, subst}
use Rattle.std.proofs.lemmas.Option.{slice_get_within}
use Rattle.naga_spelling.specs.Contexts.{global_context}
use Rattle.naga_spelling.specs.Spelling.{StandsAfter}
use Rattle.naga_spelling.proofs.Orders.{one_more, so_many_known}
use Rattle.fault_details.proofs.Fitting.{after_in_order}
use Rattle.fault_details.proofs.order.is_in_order.Goals as goal

pub loop-index-preserved : goal.loop-index-preserved
loop-index-preserved c =
    one_more c.args.«module».now.types c.loop-index.index (length c.args.«module».now.overrides)
    c.index.result.now (search rules) (search rules) c.loop-index.invariant

pub returns-then-not-stands_following : goal.returns-then-not-stands_following
returns-then-not-stands_following c = (
  λ e. absurd (true≢false (sym e)),
  λ order.
      let m = c.args.«module».now in
      let at : slice_get m.types c.loop-index.index ≡ Some c.index.result.now = search rules in
      let no : c.stands_following.result ≡ false = search rules in
      let stands = subst (λ n. StandsAfter c.loop-index.index n c.index.result.now.inner) (sym c.len.ensures)
      (after_in_order m.types m.overrides order c.loop-index.index c.index.result.now at) in
      absurd (true≢false (sym (c.stands_following.ensures.1 stands) ∙ no)),
)

pub returns : goal.returns
returns c = (
  λ _. so_many_known (global_context c.args.«module».now.types c.args.«module».now.overrides)
      (length c.args.«module».now.overrides) (λ h. refl)
      (λ handle t lt is. c.loop-index.invariant handle (omega arith) t is)
      (λ handle t is. slice_get_within c.args.«module».now.types handle t is),
  λ _. refl,
)
