use Rattle.yorwethul_c.proofs.NamedAnswers.{says_refused}
use Rattle.yorwethul_c.proofs.named.unnamed.Goals as goal

pub returns-in_default : goal.returns-in_default
returns-in_default c = says_refused c.args.error _ _ c.in_default.not-Memory c.told.ensures
