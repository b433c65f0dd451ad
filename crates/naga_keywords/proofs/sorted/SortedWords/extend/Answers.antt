use Rattle.std.proofs.Common.{[], refl, ap, ◌∙◌}
use Rattle.std.specs.FinSet as set
use Rattle.naga_keywords.specs.SortedWords.{comparison_key}
use Rattle.naga_keywords.proofs.SetLemmas.{union-empty, union-push}
use Rattle.naga_keywords.proofs.SortedSets.{where_refused}
use Rattle.naga_keywords.proofs.sorted.SortedWords.extend.Goals as goal

pub returns-in_err-reserve-clause-err : goal.returns-in_err-reserve-clause-err
returns-in_err-reserve-clause-err g c =
    let same = ap (λ s. s.words) c.reserve.ensures in
    where_refused c.from_residual.result ([], c.args.words, refl, same ∙ union-empty c.args.self.now.words)

pub loop-word-init : goal.loop-word-init
loop-word-init g c = (union-empty c.reserve.new.self.words, refl)

pub loop-word-preserved : goal.loop-word-preserved
loop-word-preserved g c =
    let before = c.loop-word.self in
    let word = c.in-Some.word in
    let case = c.reserve.new.self.case in
    let is = c.in_ok-insert.ensures.ok ∙ ap (λ k. set.insert before.words (comparison_key k word.now))
    c.loop-word.invariant.1 in (
      union-push (λ w. comparison_key case w.now) c.reserve.new.self.words before.words c.insert.new.self.words
          c.loop-word.yielded word c.loop-word.invariant.0 is,
      c.in_ok-insert.ensures.case ∙ c.loop-word.invariant.1,
    )
