use Rattle.std.proofs.Common.{rules, ◌+◌, ◌<◌, length, ◌-◌, ◌/◌, refl, sym, ap, ◌∙◌, arith, Less}
use Rattle.std.proofs.Common.{Greater}
use Rattle.naga_keywords.specs.SortedWords.{keys_of, comparison_key}
use Rattle.naga_keywords.proofs.Halving.{HasProbesLeft, at_first, equal_at, everywhere, goes_before}
use Rattle.naga_keywords.proofs.Halving.{goes_after, keys_length, left_before, left_after}
use Rattle.naga_keywords.proofs.Halving.{middle_below, nowhere, one_probe, counted, order_at}
use Rattle.naga_keywords.proofs.Halving.{some_left, within_digits}
use Rattle.naga_keywords.proofs.sorted.search.Goals as goal

pub loop-low-init : goal.loop-low-init
loop-low-init c =
    let case = c.args.counter.now.case in
    let w = comparison_key case c.args.counter.now.wanted.now in
    let members = c.args.members.now in
    let n = length members in (
      everywhere (keys_of case members) w n (sym (keys_length case members)),
      at_first c.args.counter.now.comparisons n c.requires.fresh,
      search rules,
      refl,
      refl,
    )

pub compare-requires : goal.compare-requires
compare-requires c =
    let i = c.loop-low.invariant in
    let few = within_digits _ _ _ i.1 64 i.2 in omega (arith, few)

pub loop-low-preserved-in-Less : goal.loop-low-preserved-in-Less
loop-low-preserved-in-Less c =
    let i = c.loop-low.invariant in
    let low = c.loop-low.low in
    let high = c.loop-low.high in
    let middle = low + (high - low) / 2 in
    let members = c.args.members.now in
    let lt = c.loop-low-test.true in
    let below = middle_below low high lt in
    let length_is = keys_length c.args.counter.now.case members in
    let within : middle < length members = omega (arith, below, i.0.within, length_is) in
    let within_keys : middle < length (keys_of c.args.counter.now.case members) = omega (arith, within, length_is) in
    let told = c.in-Less.ensures in
    let probes : HasProbesLeft c.compare.new.self.comparisons (high - (middle + 1)) (length members) =
    counted _ _ (sym told.counted) (one_probe _ _ _ _ (some_left low high lt) (left_after low high lt) i.1) in (
      goes_after _ _ c.requires.sorted middle within_keys low high below i.0
          (order_at members middle _ Less within i.3 i.4 told.order),
      probes,
      i.2,
      told.case ∙ i.3,
      ap (λ w. w.now) told.wanted ∙ i.4,
    )

pub returns-in-Equal-clause-found : goal.returns-in-Equal-clause-found
returns-in-Equal-clause-found c =
    let i = c.loop-low.invariant in
    let low = c.loop-low.low in
    let high = c.loop-low.high in
    let middle = low + (high - low) / 2 in
    let members = c.args.members.now in
    let below = middle_below low high c.loop-low-test.true in
    let length_is = keys_length c.args.counter.now.case members in
    let within : middle < length members = omega (arith, below, i.0.within, length_is) in
    equal_at members middle _ within i.3 i.4 c.in-Equal.ensures.order

pub loop-low-preserved : goal.loop-low-preserved
loop-low-preserved c =
    let i = c.loop-low.invariant in
    let low = c.loop-low.low in
    let high = c.loop-low.high in
    let middle = low + (high - low) / 2 in
    let members = c.args.members.now in
    let lt = c.loop-low-test.true in
    let below = middle_below low high lt in
    let length_is = keys_length c.args.counter.now.case members in
    let within : middle < length members = omega (arith, below, i.0.within, length_is) in
    let within_keys : middle < length (keys_of c.args.counter.now.case members) = omega (arith, within, length_is) in
    let told = c.in-Greater.ensures in
    let probes : HasProbesLeft c.compare.new.self.comparisons (middle - low) (length members) =
    counted _ _ (sym told.counted) (one_probe _ _ _ _ (some_left low high lt) (left_before low high lt) i.1) in (
      goes_before _ _ c.requires.sorted middle within_keys low high (omega arith) i.0
          (order_at members middle _ Greater within i.3 i.4 told.order),
      probes,
      i.2,
      told.case ∙ i.3,
      ap (λ w. w.now) told.wanted ∙ i.4,
    )

pub returns-clause-found : goal.returns-clause-found
returns-clause-found c =
    let i = c.loop-low.invariant in
    nowhere _ _ c.loop-low.low c.loop-low.high (omega (arith, c.loop-low-test.false)) i.0

pub returns-clause-probes : goal.returns-clause-probes
returns-clause-probes c = within_digits _ _ _ c.loop-low.invariant.1

pub returns-in-Equal-clause-probes : goal.returns-in-Equal-clause-probes
returns-in-Equal-clause-probes c =
    let i = c.loop-low.invariant in
    let lt = c.loop-low-test.true in
    let half = left_before c.loop-low.low c.loop-low.high lt in
    within_digits _ _ _ (counted _ _ (sym c.in-Equal.ensures.counted)
    (one_probe _ _ _ _ (some_left c.loop-low.low c.loop-low.high lt) half i.1))
