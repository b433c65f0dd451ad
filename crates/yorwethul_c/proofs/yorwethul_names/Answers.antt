use Rattle.std.proofs.Common.{string_bytes}
use Rattle.yorwethul_c.proofs.yorwethul_names.Goals as goal

pub returns : goal.returns
returns c =
    record {
      told = c.named.result.status;
      text = string_bytes c.named.result.text;
      tells = c.named.ensures;
      number_is = c.hand_out.ensures.status;
      needed_is = c.hand_out.ensures.needed;
      memory = c.hand_out.ensures.out;
    }
