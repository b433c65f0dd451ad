use Rattle.std.proofs.Common.{ap, ◌∙◌, cond, Some}
use Rattle.naga_naming.specs.Keys.{same_key, names_in}
use Rattle.naga_naming.proofs.Reset.{used_words, names_in-insert}
use Rattle.naga_names.proofs.namer.Namer.put_name.Goals as goal

pub returns-in_err-insert-clause-words : goal.returns-in_err-insert-clause-words
returns-in_err-insert-clause-words c =
    used_words c.args.self.now c.call.new.self c.args.label.now c.in_ok-name.ensures.used

pub returns-clause-words : goal.returns-clause-words
returns-clause-words c = used_words c.args.self.now c.call.new.self c.args.label.now c.in_ok-name.ensures.used

pub returns-clause-ok : goal.returns-clause-ok
returns-clause-ok c = record {
  used = c.in_ok-name.ensures.used;
  history = c.in_ok-name.ensures.more_history;
  put = λ q.
      names_in-insert c.args.output.now c.insert.new.self c.args.key c.in_ok-name.name c.in_ok-insert.ensures.updates q
      ∙ ap (λ name. cond (same_key c.args.key q) (Some name) (names_in c.args.output.now q)) c.in_ok-name.ensures.name;
}
