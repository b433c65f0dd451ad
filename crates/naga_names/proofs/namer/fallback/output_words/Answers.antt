use Rattle.std.proofs.Common.{sym, ap, subst, ◌∙◌, Some, nat_eq}
use Rattle.std.specs.Option.{option_map}
use Rattle.std.specs.HashMap as hash
use Rattle.naga_naming.specs.Outputs.{words_in}
use Rattle.naga_naming.proofs.Outputs.{returns_nothing, has_no_word, has_word}
use Rattle.naga_names.proofs.namer.fallback.output_words.Goals.{in-Some-output_word+in_ok-insert}
use Rattle.naga_names.proofs.namer.fallback.output_words.Goals.{in_default-output_word}
use Rattle.naga_names.proofs.namer.fallback.output_words.Goals as goal

pub loop-entry_point-preserved-in_default : goal.loop-entry_point-preserved-in_default
loop-entry_point-preserved-in_default c = λ t.
    c.loop-entry_point.invariant t
    ∙ sym (returns_nothing t c.args.entry_points.now c.loop-entry_point.entry_point-index
    c.entry_point-item.result c.loop-entry_point-test.true c.entry_point-item.is c.in_default.is)

pub loop-entry_point-preserved : goal.loop-entry_point-preserved
loop-entry_point-preserved c = λ t.
    let i = c.loop-entry_point.entry_point-index in
    elim c.match-output_word.branch [
      | in-Some-output_word+in_ok-insert w ↦ ap (λ words. words_in words t) w.words-is
          ∙ has_word t c.args.entry_points.now i c.entry_point-item.result
          c.loop-entry_point-test.true c.entry_point-item.is c.loop-entry_point.words
          w.insert.new.self c.in-Some.result w.in-Some-output_word.word c.in-Some.is
          (sym c.output_word.ensures ∙ ap (option_map (λ word. word.now)) w.in-Some-output_word.is)
          (subst (λ k. hash.Updates nat_eq c.loop-entry_point.words w.insert.new.self k
          (Some w.in-Some-output_word.word)) w.index.ensures w.in_ok-insert.ensures.updates)
          (c.loop-entry_point.invariant t)
      | in_default-output_word w ↦ ap (λ words. words_in words t) w.words-is ∙ c.loop-entry_point.invariant t
          ∙ sym (has_no_word t c.args.entry_points.now i c.entry_point-item.result
          c.loop-entry_point-test.true c.entry_point-item.is c.in-Some.result c.in-Some.is
          (sym c.output_word.ensures
          ∙ ap (option_map (λ word. word.now)) w.in_default-output_word.is))
    ]
