use Rattle.std.proofs.Common.{refl}
use Rattle.naga_names.proofs.Progress.{gives_up_memory}
use Rattle.naga_names.proofs.namer.items.Naming.name_part.Goals as goal

pub returns-in-Err : goal.returns-in-Err
returns-in-Err c = gives_up_memory _ _ _ refl c.refuse.ensures.refusal
