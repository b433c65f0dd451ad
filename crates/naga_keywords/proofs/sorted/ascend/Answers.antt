use Rattle.std.proofs.Common.{◌-◌, ◌<◌, List, [], ℕ, length, get_or, ap, ◌∙◌, Less, arith, Bor}
use Rattle.naga_keywords.specs.SortedWords.{keys_of, word_cmp}
use Rattle.naga_keywords.proofs.Halving.{all_ascend, ascends_more, first_ascends, key_at}
use Rattle.naga_keywords.proofs.Halving.{keys_length, order_at}
use Rattle.naga_keywords.proofs.sorted.ascend.Goals as goal

pub loop-index-init : goal.loop-index-init
loop-index-init c = (first_ascends (keys_of c.args.case c.args.words.now) 1 (omega arith), omega arith)

pub loop-index-preserved : goal.loop-index-preserved
loop-index-preserved c =
    let case = c.args.case in
    let words = c.args.words.now in
    let i = c.loop-index.index in
    let x : Bor (List ℕ) = record { ref_ptr = (0, 0); now = [] } in
    let here = c.loop-index-test.true in
    let some = c.loop-index.invariant.1 in
    let before : i - 1 < length words = omega (arith, here) in
    let new = c.new.ensures in (
      ascends_more (keys_of case words) i (omega (arith, some)) c.loop-index.invariant.0 (λ d.
          ap (λ key. word_cmp (get_or (keys_of case words) (i - 1) d) key) (key_at case words i x here d)
          ∙ order_at words (i - 1) x Less before new.case new.wanted c.in-Less.ensures.order d),
      omega (arith, some),
    )

pub returns : goal.returns
returns c holds =
    let case = c.args.case in
    let words = c.args.words.now in
    all_ascend (keys_of case words) c.loop-index.index
    (omega (arith, keys_length case words, c.loop-index-test.false)) c.loop-index.invariant.0
