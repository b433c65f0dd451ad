use Rattle.std.proofs.Common.{subst, sym}
use Rattle.naga_back.specs.Flags.{annotates_types}
use Rattle.module_answers.specs.WriteOutcomes.{AnswersWriting, TellsBeside}
use Rattle.module_answers.proofs.Wants.{answer_or_memory, leaves_told}
use Rattle.module_answers.proofs.writing.write_accepted.Goals as goal

-- what its error names is told by what it leaves
pub with_refusal-answer-requires-clause-told : goal.with_refusal-answer-requires-clause-told
with_refusal-answer-requires-clause-told g c =
    leaves_told c.new-writer.result.flags c.args.flags c.args.«module».now c.args.info.now c.write-answer.result _ _ _ _
    c.new-writer.ensures.flags c.write-answer.ensures.leaves

-- The writer has these flags and this sink, and ends with its sink.
pub returns : goal.returns
returns g c =
    let m = c.args.«module».now in
    let info = c.args.info.now in
    let told = c.with_refusal-answer.result in
    let text = g.W.TextSink.text in
    let failures = g.W.TextSink.failures in
    let wrote = c.write-answer.ensures in
    subst
    (λ flags. AnswersWriting flags m info told.0 told.1 (text c.args.sink) (text c.finish-sink.result)
    (failures c.args.sink) (failures c.finish-sink.result))
    c.new-writer.ensures.flags
    (subst
    (λ old. AnswersWriting c.new-writer.result.flags m info told.0 told.1 (text old)
    (text c.finish-sink.result) (failures old) (failures c.finish-sink.result))
    c.new-writer.ensures.sink
    (subst
    (λ now. AnswersWriting c.new-writer.result.flags m info told.0 told.1
    (text c.new-writer.result.sink) (text now) (failures c.new-writer.result.sink) (failures now))
    (sym c.finish-sink.ensures)
    (answer_or_memory c.new-writer.result.flags m info _ _ _ _ c.write-answer.result told.0 told.1
    c.with_refusal-answer.ensures.answer wrote.faithful wrote.matches wrote.text wrote.leaves
    (subst (λ flags. TellsBeside (annotates_types flags) m info told.0 told.1)
    (sym c.new-writer.ensures.flags) c.with_refusal-answer.ensures.beside))))
