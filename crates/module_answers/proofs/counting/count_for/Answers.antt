use Rattle.std.proofs.Common.{◌∙◌, subst, sym}
use Rattle.std.proofs.lemmas.Result.{on_ok_weaker}
use Rattle.naga_back.specs.Flags.{annotates_types}
use Rattle.module_answers.specs.Counts.{CountsIf, RaisedIf}
use Rattle.module_answers.proofs.counting.count_for.Goals as goal

-- the text is to have what standard compilers ask for
pub returns-then-is_portable-clause-counted : goal.returns-then-is_portable-clause-counted
returns-then-is_portable-clause-counted c =
    on_ok_weaker c.count_and_raise.result
    (λ counts. subst (λ b. CountsIf b (annotates_types c.args.flags) c.args.«module».now c.args.info.now
    c.count_and_raise.new.info) (sym (sym c.is_portable.ensures ∙ c.if-is_portable.true)) counts)
    c.count_and_raise.ensures.counted

pub returns-then-is_portable-clause-raised : goal.returns-then-is_portable-clause-raised
returns-then-is_portable-clause-raised c =
    subst (λ b. RaisedIf b c.args.«module».now c.args.info.now c.count_and_raise.new.info)
    (sym (sym c.is_portable.ensures ∙ c.if-is_portable.true)) c.count_and_raise.ensures.raised
