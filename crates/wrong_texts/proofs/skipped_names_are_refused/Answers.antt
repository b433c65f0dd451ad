use Rattle.wrong_texts.proofs.SkippedNames.{refused}
use Rattle.wrong_texts.proofs.skipped_names_are_refused.Goals as goal

pub returns : goal.returns
returns c = refused
