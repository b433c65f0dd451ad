use Rattle.std.proofs.Common.{string_bytes}
use Rattle.yorwethul_c.proofs.yorwethul_layout.Goals as goal

pub returns : goal.returns
returns c =
    record {
      told = c.laid_out.result.status;
      text = string_bytes c.laid_out.result.text;
      tells = c.laid_out.ensures;
      number_is = c.hand_out.ensures.status;
      needed_is = c.hand_out.ensures.needed;
      memory = c.hand_out.ensures.out;
    }
