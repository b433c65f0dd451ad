use Rattle.std.proofs.Common.{[], arith}
use Rattle.std.proofs.lemmas.Grind.{common_steps}
use Rattle.naga_words.proofs.io_sink.IoSinkTextSink.write_str.Goals as goal

-- the whole chunk counts as handed over
pub returns-in-Err-clause-text_err : goal.returns-in-Err-clause-text_err
returns-in-Err-clause-text_err g c =
    (c.args.chunk.now, [], grind (arith, common_steps), grind (arith, common_steps))
