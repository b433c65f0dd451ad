use Rattle.wgsl_text.proofs.Spelling.{begins, alone}
use Rattle.wgsl_text.proofs.longest_token.Goals as goal

pub returns-clause-front : goal.returns-clause-front
returns-clause-front c = begins

pub returns-clause-alone : goal.returns-clause-alone
returns-clause-alone c = alone
