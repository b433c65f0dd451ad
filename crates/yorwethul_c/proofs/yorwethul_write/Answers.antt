use Rattle.std.proofs.Common.{string_bytes}
use Rattle.yorwethul_c.proofs.yorwethul_write.Goals as goal

pub returns : goal.returns
returns c =
    record {
      told = c.written.result.status;
      text = string_bytes c.written.result.text;
      tells = c.written.ensures;
      number_is = c.hand_out.ensures.status;
      needed_is = c.hand_out.ensures.needed;
      memory = c.hand_out.ensures.out;
    }
