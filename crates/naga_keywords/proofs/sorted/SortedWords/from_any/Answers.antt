use Rattle.std.proofs.Common.{[], ap, ◌∙◌, get_or}
use Rattle.std.specs.FinSet as set
use Rattle.naga_keywords.specs.SortedWords.{comparison_key}
use Rattle.naga_keywords.proofs.SortedSets.{none_sorted}
use Rattle.naga_keywords.proofs.SetLemmas.{texts_of-take}
use Rattle.naga_keywords.proofs.sorted.SortedWords.from_any.Goals as goal

pub invariant_of-sorted : goal.invariant_of-sorted
invariant_of-sorted c = none_sorted c.args.case _ c.in_ok-with_capacity.ensures.items

pub loop-word-preserved : goal.loop-word-preserved
loop-word-preserved c =
    let before = c.loop-word.sorted in
    let words = c.args.words.now in
    let i = c.loop-word.word-index in
    let word = get_or words i (record { ref_ptr = (0, 0); now = [] }) in
    let is = c.in_ok-insert.ensures.ok ∙ ap (λ k. set.insert before.words (comparison_key k word.now))
    c.loop-word.invariant.1 in (
      texts_of-take (λ w. comparison_key c.args.case w.now) before.words c.insert.new.self.words words i
          (record { ref_ptr = (0, 0); now = [] }) c.loop-word-test.true c.loop-word.invariant.0 is,
      c.in_ok-insert.ensures.case ∙ c.loop-word.invariant.1,
    )
