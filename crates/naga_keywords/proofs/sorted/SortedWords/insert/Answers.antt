use Rattle.std.proofs.Common.{ℕ, subst}
use Rattle.std.specs.Cow.{cow_slice_items}
use Rattle.naga_keywords.specs.SortedWords.{IsIndexOf, StandsAt, keys_of, comparison_key}
use Rattle.naga_keywords.proofs.SortedSets.{contained_already, one_more, stays_sorted}
use Rattle.naga_keywords.proofs.sorted.SortedWords.insert.Goals as goal

pub invariant_of-self : goal.invariant_of-self
invariant_of-self c =
    let case = c.self.inside.case in
    let word = comparison_key case c.args.word.now in
    let found = subst (λ ms. IsIndexOf (keys_of case ms) word c.in-Some.index) c.as_slice.ensures.value
    c.in-Some.ensures in
    stays_sorted case (cow_slice_items c.self.inside.members) _ c.args.word c.in-Some.index _ c.self.invariant found
    c.put_among.ensures

pub returns-in_ok-put_among-clause-ok : goal.returns-in_ok-put_among-clause-ok
returns-in_ok-put_among-clause-ok c =
    one_more c.self.inside.case (cow_slice_items c.self.inside.members) _ c.args.word c.in-Some.index
    c.in_ok-put_among.ensures c.args.self.now c.self.view_is

pub returns-in_default-clause-ok : goal.returns-in_default-clause-ok
returns-in_default-clause-ok c =
    let case = c.self.inside.case in
    let word = comparison_key case c.args.word.now in
    let had = subst (λ ms. (i : ℕ) × StandsAt (keys_of case ms) word i) c.as_slice.ensures.value c.in_default.ensures in
    contained_already case (cow_slice_items c.self.inside.members) c.args.word had c.args.self.now c.self.view_is
