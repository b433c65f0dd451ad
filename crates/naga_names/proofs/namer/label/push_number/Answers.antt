use Rattle.std.proofs.Common.{string_bytes}
use Rattle.naga_naming.proofs.Label.{number_written}
use Rattle.naga_names.proofs.namer.label.push_number.Goals as goal

pub returns : goal.returns
returns c = number_written c.write.result (string_bytes c.args.text.now)
    (string_bytes c.write.new.self) c.args.c c.in_radix.result c.laid_out.result c.in_radix.ensures
    c.laid_out.ensures c.write.ensures.bytes
