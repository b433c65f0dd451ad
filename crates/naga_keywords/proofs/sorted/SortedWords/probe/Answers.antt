use Rattle.std.proofs.Common.{◌∙◌, ap, arith, length}
use Rattle.std.specs.Cow.{cow_slice_items}
use Rattle.std.specs.FinSet as set
use Rattle.naga_keywords.specs.SortedWords.{keys_of, comparison_key}
use Rattle.naga_keywords.proofs.Halving.{keys_length}
use Rattle.naga_keywords.proofs.SortedSets.{found_here, is_contained, len_is_length}
use Rattle.naga_keywords.proofs.sorted.SortedWords.probe.Goals as goal

pub returns-clause-contains : goal.returns-clause-contains
returns-clause-contains c =
    let case = c.self.inside.case in
    let members = cow_slice_items c.self.inside.members in
    let new = c.new-counter.ensures in
    let found = c.search-found.result in
    let at = found_here found new.case c.as_slice.ensures.value new.wanted c.search-found.ensures.found in
    c.is_ok.ensures.value
    ∙ is_contained case members (comparison_key case c.args.word.now) found at
    ∙ ap (λ s. set.contains s.words (comparison_key s.case c.args.word.now)) c.self.view_is

pub returns-clause-probes : goal.returns-clause-probes
returns-clause-probes c k below =
    let case = c.self.inside.case in
    let members = cow_slice_items c.self.inside.members in
    let seen = ap (λ s. set.len s.words) c.self.view_is in
    let len = len_is_length (keys_of case members) c.self.invariant in
    let shown = ap (λ ms. length ms) c.as_slice.ensures.value in
    c.search-found.ensures.probes k (omega (arith, below, seen, len, shown, keys_length case members))
