use Rattle.std.proofs.Common.{string_bytes}
use Rattle.yorwethul_c.proofs.yorwethul_check.Goals as goal

pub returns : goal.returns
returns c =
    record {
      told = c.checked.result.status;
      text = string_bytes c.checked.result.text;
      tells = c.checked.ensures;
      number_is = c.hand_out.ensures.status;
      needed_is = c.hand_out.ensures.needed;
      memory = c.hand_out.ensures.out;
    }
